-- Counted are those at the positions that the loop has passed.
use Rattle.std.proofs.Common.{◌≡◌, ◌+◌, ◌≤◌, get_or, nat_le}
use Rattle.std.specs.List.{count_by}
use Rattle.cq_min_index.specs.Packing.{upto}
use Rattle.cq_min_index.proofs.packed.count_small_between.Given as goal

abbrev pub invariant-loop-i : goal.invariant-loop-i
invariant-loop-i l = record {
  few : l.count + l.from ≤ l.i;
  counted : count_by (λ j. nat_le (get_or l.numbers j 0) l.limit) (upto l.i) ≡ count_by (λ j. nat_le (get_or l.numbers j 0) l.limit) (upto l.from) + l.count;
}
