-- The parties so far, and those of the traces that are left.
use Rattle.std.proofs.Common.{◌≡◌, ◌++◌, drop}
use Rattle.cq_trace.specs.within.Along.{unfinished}
use Rattle.cq_trace.proofs.rounds.parties_left.Given as goal

abbrev pub invariant-loop-k : goal.invariant-loop-k
invariant-loop-k l = l.parties.items ++ unfinished (drop l.k l.traces) (drop l.k l.places) ≡ unfinished l.traces l.places
