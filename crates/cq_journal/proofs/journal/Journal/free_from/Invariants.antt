use Rattle.std.proofs.Common.{◌≤◌, ◌-◌}
use Rattle.cq_journal.proofs.journal.Journal.free_from.Given as goal

abbrev pub invariant-loop-start : goal.invariant-loop-start
invariant-loop-start g l = l.start ≤ l.place

abbrev pub decreases-loop-start : goal.decreases-loop-start
decreases-loop-start g l = l.whole - l.place
