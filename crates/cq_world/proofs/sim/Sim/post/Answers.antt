-- What is drawn from the outbox is pushed onto the link.
use Rattle.std.proofs.Common.{◌∙◌, ap, sym, subst, length}
use Rattle.cq_events.specs.Events.{first_of, refusal_of_put}
use Rattle.cq_world.specs.within.Kept.{after_popping, after_posting}
use Rattle.cq_world.specs.Stands.{StandsFor}
use Rattle.cq_world.specs.declared.sim.Sim.{Sim}
use Rattle.cq_world.proofs.OfSim.Meanings.{put-filled, put-first}
use Rattle.cq_world.proofs.OfSim.Refused.{next-put, given-put, put-posted, put-gives}
use Rattle.cq_world.proofs.OfSim.Stands.{holds, stands, reserved-stands, posted-stands}
use Rattle.cq_world.proofs.OfSim.Calls.{err-none}
use Rattle.cq_world.proofs.sim.Sim.post.Goals as goal

pub returns-in_err-reserve-clause-err : goal.returns-in_err-reserve-clause-err
returns-in_err-reserve-clause-err c = λ w h.
    let from = c.args.pair.now.from in
    let to = c.args.pair.now.to in
    let old = c.args.self.now in
    let made : Sim = record { alloc = old.alloc; servers = old.servers; links = c.reserve.new.self; master = old.master } in
    err-none (refusal_of_put (w.outbox from to)) c.from_residual.result c.from_residual.ensures.1 (put-filled (w.outbox from to) (λ none. c.if-outbox_count-eq0.false (c.outbox_count.ensures w h ∙ none)))
    (stands made w (reserved-stands old c.reserve.new.self w c.in_err-reserve.ensures.messages (holds old w h)))

pub returns-in-Some-clause-ok : goal.returns-in-Some-clause-ok
returns-in-Some-clause-ok c = λ w h.
    let from = c.args.pair.now.from in
    let to = c.args.pair.now.to in
    let old = c.args.self.now in
    let made : Sim = record { alloc = old.alloc; servers = old.servers; links = c.reserve.new.self; master = old.master } in
    let drawn = c.pop.new.self in
    let new : Sim = record { alloc = drawn.alloc; servers = drawn.servers; links = c.push.new.self; master = drawn.master } in
    let h2 = stands made w (reserved-stands old c.reserve.new.self w c.in_ok-reserve.ensures.messages (holds old w h)) in
    let first = c.in-Some.ensures.first w h2 in
    let gone = holds drawn (after_popping w from to) (c.in-Some.ensures.drawn w h2) in (
      put-first c.in-Some.message (w.outbox from to) first,
      sym (put-gives to (first_of (w.outbox from to)) c.requires) ∙ sym (given-put w from to),
      subst (λ v. StandsFor new v) (sym (next-put w from to ∙ put-posted w from to c.requires))
          (stands new (after_posting w from to) (posted-stands drawn c.push.new.self w from to c.in-Some.message c.push.ensures first gone)),
    )

pub returns-in-None-clause-err : goal.returns-in-None-clause-err
returns-in-None-clause-err c = λ w h.
    let from = c.args.pair.now.from in
    let to = c.args.pair.now.to in
    let old = c.args.self.now in
    let made : Sim = record { alloc = old.alloc; servers = old.servers; links = c.reserve.new.self; master = old.master } in
    let h2 = stands made w (reserved-stands old c.reserve.new.self w c.in_ok-reserve.ensures.messages (holds old w h)) in
    absurd (c.if-outbox_count-eq0.false (c.outbox_count.ensures w h ∙ ap (λ ms. length ms) (c.in-None.ensures.first w h2)))
