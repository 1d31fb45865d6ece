-- No byte before the place is an escape.
use Rattle.std.proofs.Common.{◌≡◌, ◌-◌, ◌≤◌, false, length, take}
use Rattle.cq_kept_base.specs.Stuffing.{has_escape}
use Rattle.cq_kept_base.proofs.stuffing.unescaped_in_short.Given as goal

abbrev pub invariant-loop-place : goal.invariant-loop-place
invariant-loop-place l = record {
  within : l.place ≤ length l.bytes;
  unescaped : has_escape (take l.place l.bytes) ≡ false;
}

abbrev pub decreases-loop-place : goal.decreases-loop-place
decreases-loop-place l = length l.bytes - l.place
