use Rattle.std.proofs.Common.{◌≡◌, ◌≤◌, ◌-◌, length, take}
use Rattle.std.specs.Prelude.{replicate}
use Rattle.cq_kept_base.specs.declared.stuffing.TheConstants.{ZEROS_LIMIT}
use Rattle.cq_kept_base.proofs.stuffing.zeros_in_front.Given as goal

abbrev pub invariant-loop-count : goal.invariant-loop-count
invariant-loop-count l = (l.count ≤ length l.bytes) × (l.count ≤ ZEROS_LIMIT) × (take l.count l.bytes ≡ replicate l.count 0)

abbrev pub decreases-loop-count : goal.decreases-loop-count
decreases-loop-count l = length l.bytes - l.count
