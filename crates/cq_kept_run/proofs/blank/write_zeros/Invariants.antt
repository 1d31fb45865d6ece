use Rattle.std.proofs.Common.{◌≡◌, ◌-◌, length}
use Rattle.std.specs.Prelude.{IsTrue}
use Rattle.cq_kept_run.proofs.blank.write_zeros.Given as goal

abbrev pub invariant-loop-done : goal.invariant-loop-done
invariant-loop-done g l =
    (length (g.D.Device.seen l.device) ≡ length (g.D.Device.seen l.initial.device)) × (IsTrue (g.D.Device.is_honest l.device) → IsTrue (g.D.Device.is_honest l.initial.device))

abbrev pub decreases-loop-done : goal.decreases-loop-done
decreases-loop-done g l = l.len - l.done
