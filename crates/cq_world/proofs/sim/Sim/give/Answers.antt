-- What is drawn from the outbox is given.
use Rattle.std.proofs.Common.{◌∙◌, ap, sym, subst}
use Rattle.cq_events.specs.Events.{refusal_of_put}
use Rattle.cq_world.specs.Stands.{StandsFor}
use Rattle.cq_world.proofs.OfSim.Meanings.{put-first}
use Rattle.cq_world.proofs.OfSim.Refused.{next-put, given-put, put-drawn, put-given}
use Rattle.cq_world.proofs.OfSim.Stands.{drawn-nothing}
use Rattle.cq_world.proofs.sim.Sim.give.Goals as goal

pub returns-in-Some-clause-ok : goal.returns-in-Some-clause-ok
returns-in-Some-clause-ok c = λ w h.
    let from = c.args.pair.now.from in
    let to = c.args.pair.now.to in
    let first = c.in-Some.ensures.first w h in (
      put-first c.in-Some.message (w.outbox from to) first,
      put-given to c.in-Some.message (w.outbox from to) c.answer_in.result c.requires first c.answer_in.ensures ∙ sym (given-put w from to),
      subst (λ v. StandsFor c.pop.new.self v) (sym (next-put w from to ∙ put-drawn w from to c.requires)) (c.in-Some.ensures.drawn w h),
    )

pub returns-in-None-clause-err : goal.returns-in-None-clause-err
returns-in-None-clause-err c = λ w h.
    let from = c.args.pair.now.from in
    let to = c.args.pair.now.to in
    let none = c.in-None.ensures.first w h in
    (ap refusal_of_put none, subst (λ v. StandsFor c.pop.new.self v) (drawn-nothing w from to none) (c.in-None.ensures.drawn w h))
