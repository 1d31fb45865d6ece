-- Counted are those at the positions that the loop has passed.
use Rattle.std.proofs.Common.{◌≡◌, ◌+◌, ◌≤◌}
use Rattle.std.specs.List.{count_by}
use Rattle.cq_min_index.specs.Packing.{is_counted, upto}
use Rattle.cq_min_index.proofs.packed.count_between.Given as goal

abbrev pub invariant-loop-i : goal.invariant-loop-i
invariant-loop-i l = record {
  few : l.count + l.from ≤ l.i;
  counted : count_by (is_counted l.numbers l.places l.limit l.end) (upto l.i) ≡ count_by (is_counted l.numbers l.places l.limit l.end) (upto l.from) + l.count;
}
