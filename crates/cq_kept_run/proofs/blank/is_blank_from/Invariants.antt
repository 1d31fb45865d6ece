use Rattle.std.proofs.Common.{◌≡◌, ◌-◌, ◌≤◌, length, take, drop, true}
use Rattle.std.specs.Prelude.{IsTrue}
use Rattle.cq_records.specs.Frames.{are_zeros}
use Rattle.cq_kept_run.proofs.blank.is_blank_from.Given as goal

-- what was read is zeros
abbrev pub invariant-loop-done : goal.invariant-loop-done
invariant-loop-done g l =
    (g.D.Device.seen l.device ≡ g.D.Device.seen l.initial.device) × (IsTrue (g.D.Device.is_honest l.device) → IsTrue (g.D.Device.is_honest l.initial.device))
    × (IsTrue (g.D.Device.is_honest l.device) → are_zeros (take (l.done - l.from) (drop l.from (g.D.Device.seen l.initial.device))) ≡ true)
    × (l.from ≤ l.done)

abbrev pub decreases-loop-done : goal.decreases-loop-done
decreases-loop-done g l = l.len - l.done
