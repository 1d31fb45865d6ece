-- Counted are those at the positions that the loop has passed.
use Rattle.std.proofs.Common.{◌≡◌, ◌≤◌, ◌-◌, length}
use Rattle.std.specs.List.{count_by}
use Rattle.cq_min_index.specs.Packing.{is_counted, upto}
use Rattle.cq_min_index.proofs.packed.Packed.count_at_most.Given as goal

abbrev pub invariant-loop-from : goal.invariant-loop-from
invariant-loop-from l = record {
  within : l.from ≤ length l.self-inside.numbers;
  few : l.count ≤ l.from;
  counted : l.count ≡ count_by (is_counted l.self-inside.numbers l.self-inside.places.items l.limit l.end) (upto l.from);
}

abbrev pub decreases-loop-from : goal.decreases-loop-from
decreases-loop-from l = length l.self-inside.numbers - l.from
