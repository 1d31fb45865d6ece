-- The order is along the traces, and each round leaves fewer events.
use Rattle.std.proofs.Common.{◌≡◌}
use Rattle.cq_trace.specs.within.Along.{IsAlong, left_count}
use Rattle.cq_trace.proofs.rounds.follow_all.Given as goal

abbrev pub invariant-loop : goal.invariant-loop
invariant-loop l = IsAlong l.traces l.places l.order × (l.order.size ≡ l.fn.order.size)

abbrev pub decreases-loop : goal.decreases-loop
decreases-loop l = left_count l.traces l.places
