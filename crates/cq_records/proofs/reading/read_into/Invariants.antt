-- The records before the place have been added.
use Rattle.std.proofs.Common.{◌≡◌, ◌+◌, ◌-◌, ◌≤◌, ◌++◌, List, ℕ, length, drop}
use Rattle.std.specs.Prelude.{IsTrue, false}
use Rattle.cq_disk.specs.Device.{LeavesOnly}
use Rattle.cq_records.specs.Frames.{frames, frames_end, records, all_sound}
use Rattle.cq_records.proofs.reading.read_into.Given as goal

abbrev pub invariant-loop-found : goal.invariant-loop-found
invariant-loop-found g l = record {
  within : l.at ≤ length (g.D.Device.seen l.device);
  long : length l.batch.bytes.items ≡ length l.fn.batch.bytes.items + l.at;
  seen : g.D.Device.seen l.device ≡ g.D.Device.seen l.fn.device;
  read : IsTrue (g.D.Device.is_honest l.device) → records l.batch.bytes.items ++ records (drop l.at (g.D.Device.seen l.fn.device)) ≡ records l.fn.batch.bytes.items ++ records (g.D.Device.seen l.fn.device);
  end : IsTrue (g.D.Device.is_honest l.device) → l.at + frames_end (drop l.at (g.D.Device.seen l.fn.device)) ≡ frames_end (g.D.Device.seen l.fn.device);
  damaged : IsTrue (g.D.Device.is_honest l.device) → all_sound (frames (drop l.at (g.D.Device.seen l.fn.device))) ≡ false → all_sound (frames (g.D.Device.seen l.fn.device)) ≡ false;
  crash : (c : List ℕ) → g.D.Device.may_leave l.device c → g.D.Device.may_leave l.fn.device c;
  moments : LeavesOnly g.D.Device.moment g.D.Device.left_since l.fn.device l.device (g.D.Device.may_leave l.fn.device);
  honest : IsTrue (g.D.Device.is_honest l.device) → IsTrue (g.D.Device.is_honest l.fn.device);
  keeps : g.D.Device.keeps l.fn.device l.device;
  faults : g.D.Device.faults l.fn.device ≤ g.D.Device.faults l.device;
}

abbrev pub decreases-loop-found : goal.decreases-loop-found
decreases-loop-found g l = length (g.D.Device.seen l.device) - l.at
