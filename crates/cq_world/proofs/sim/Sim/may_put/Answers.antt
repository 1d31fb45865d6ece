-- By whether both ends are known, whether the sender lives, and whether something waits.
use Rattle.std.proofs.Common.{◌∙◌, ◌==◌, ap, sym, is_none, not}
use Rattle.cq_events.specs.Events.{has_party}
use Rattle.cq_events.proofs.Parties.{both}
use Rattle.cq_world.proofs.OfSim.Refused.{put-known, put-dead, put-unknown, put-waits}
use Rattle.cq_world.proofs.sim.Sim.may_put.Goals as goal

pub returns-then-not-has_parties : goal.returns-then-not-has_parties
returns-then-not-has_parties c = λ w h. sym (ap is_none (put-unknown w c.args.pair.now.from c.args.pair.now.to (sym (c.has_parties.ensures w h) ∙ c.if-not-has_parties.true)))

pub returns-then-sender_is_down : goal.returns-then-sender_is_down
returns-then-sender_is_down c = λ w h.
    let from = c.args.pair.now.from in
    let to = c.args.pair.now.to in
    let there = sym (c.has_parties.ensures w h) ∙ c.if-not-has_parties.false in
    sym (ap is_none (put-dead w from to there (sym (c.is_down-sender_is_down.ensures w h (both (has_party w from) (has_party w to) there).0) ∙ c.if-sender_is_down.true)))

pub returns : goal.returns
returns c = λ w h.
    let from = c.args.pair.now.from in
    let to = c.args.pair.now.to in
    let there = sym (c.has_parties.ensures w h) ∙ c.if-not-has_parties.false in
    ap (λ n. not (n == 0)) (c.outbox_count.ensures w h) ∙ put-waits (w.outbox from to)
    ∙ sym (ap is_none (put-known w from to there (sym (c.is_down-sender_is_down.ensures w h (both (has_party w from) (has_party w to) there).0) ∙ c.if-sender_is_down.false)))
