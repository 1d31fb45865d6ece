-- So far the traces before this one were followed.
use Rattle.std.proofs.Common.{◌≡◌}
use Rattle.cq_trace.proofs.OfAudit.Rounds.{Rounded}
use Rattle.cq_trace.proofs.rounds.round.Given as goal

abbrev pub invariant-loop-k : goal.invariant-loop-k
invariant-loop-k l = Rounded l.traces l.fn.places l.places l.order l.k l.moved × (l.order.size ≡ l.fn.order.size)
