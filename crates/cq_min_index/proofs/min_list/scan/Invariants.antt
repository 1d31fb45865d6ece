-- No number that the loop has passed is at most the limit.
use Rattle.std.proofs.Common.{◌≤◌, ◌-◌}
use Rattle.cq_min_index.specs.Firsts.{AreAbove}
use Rattle.cq_min_index.proofs.min_list.scan.Given as goal

abbrev pub invariant-loop-i : goal.invariant-loop-i
invariant-loop-i l = record {
  after : l.from ≤ l.i;
  within : l.i ≤ l.end;
  before : AreAbove l.numbers l.limit l.from l.i;
}

abbrev pub decreases-loop-i : goal.decreases-loop-i
decreases-loop-i l = l.end - l.i
