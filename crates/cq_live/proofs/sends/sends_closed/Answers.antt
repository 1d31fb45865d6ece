-- Nothing is left of the one or of the other.
use Rattle.std.proofs.Common.{◌≡◌, length}
use Rattle.cq_live.specs.Lives.{sends_closed}
use Rattle.cq_live.proofs.Counting.{all_counted, one_ended}
use Rattle.cq_live.proofs.sends.sends_closed.Goals as goal

pub returns : goal.returns
returns c =
    let asks = c.loop-ask.ask-iterator.a.rest.now in
    let answers = c.loop-ask.ask-iterator.b.rest.now in
    all_counted c.loop-ask.sends (sends_closed c.args.asks.now c.args.answers.now) asks answers c.loop-ask.invariant.0
    (one_ended (λ x. x ≡ c.loop-ask.ask-iterator.a) (λ y. y ≡ c.loop-ask.ask-iterator.b) (length asks) (length answers) c.in-None.ensures.steps)
