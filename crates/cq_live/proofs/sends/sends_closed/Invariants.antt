-- The sends so far and those of what is left are all; there are at most as many as asks.
use Rattle.std.proofs.Common.{◌≡◌, ◌+◌, ◌≤◌, length}
use Rattle.cq_live.specs.Lives.{sends_closed}
use Rattle.cq_live.proofs.sends.sends_closed.Given as goal

abbrev pub invariant-loop-ask : goal.invariant-loop-ask
invariant-loop-ask l = (l.sends + sends_closed l.ask-iterator.a.rest.now l.ask-iterator.b.rest.now ≡ sends_closed l.asks l.answers) × (l.sends + length l.ask-iterator.a.rest.now ≤ length l.asks)
