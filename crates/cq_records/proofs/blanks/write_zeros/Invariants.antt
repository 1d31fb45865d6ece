use Rattle.std.proofs.Common.{◌≡◌, ◌≢◌, ◌-◌, ◌≤◌, ◌++◌, List, ℕ, [], length, take}
use Rattle.std.specs.Prelude.{replicate, slice_index}
use Rattle.cq_disk.specs.Device.{LeavesOnly}
use Rattle.cq_records.specs.Frames.{frames}
use Rattle.cq_records.proofs.blanks.write_zeros.Given as goal

abbrev pub invariant-loop-done : goal.invariant-loop-done
invariant-loop-done g l = record {
  some : 1 ≤ l.done;
  within : l.done ≤ l.len;
  len : l.len ≡ length (g.D.Device.seen l.device);
  same : length (g.D.Device.seen l.device) ≡ length (g.D.Device.seen l.fn.device);
  zeros : take l.done (g.D.Device.seen l.device) ≡ take 1 (g.D.Device.seen l.fn.device) ++ replicate (l.done - 1) 0;
  first : (c : List ℕ) → g.D.Device.may_leave l.device c → slice_index c 0 ≡ slice_index (g.D.Device.seen l.fn.device) 0;
  moments : slice_index (g.D.Device.seen l.fn.device) 0 ≢ 2 → LeavesOnly g.D.Device.moment g.D.Device.left_since l.fn.device l.device (λ c. frames c ≡ []);
  honest : g.D.Device.is_honest l.device ≡ g.D.Device.is_honest l.fn.device;
  keeps : g.D.Device.keeps l.fn.device l.device;
  faults : g.D.Device.faults l.fn.device ≤ g.D.Device.faults l.device;
}

abbrev pub decreases-loop-done : goal.decreases-loop-done
decreases-loop-done g l = l.len - l.done
