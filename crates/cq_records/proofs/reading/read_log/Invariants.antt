-- The texts of the records before the place have been added.
use Rattle.std.proofs.Common.{◌≡◌, ◌+◌, ◌-◌, ◌≤◌, ◌++◌, List, ℕ, length, drop}
use Rattle.std.specs.Prelude.{IsTrue, false}
use Rattle.cq_disk.specs.Device.{LeavesOnly}
use Rattle.cq_records.specs.Frames.{frames, frames_end, records, joined, all_sound}
use Rattle.cq_records.proofs.reading.read_log.Given as goal

abbrev pub invariant-loop-found : goal.invariant-loop-found
invariant-loop-found g l = record {
  within : l.at ≤ length (g.D.Device.seen l.device);
  seen : g.D.Device.seen l.device ≡ g.D.Device.seen l.fn.device;
  read : IsTrue (g.D.Device.is_honest l.device) → l.text.items ++ joined (records (drop l.at (g.D.Device.seen l.fn.device))) ≡ l.fn.text.items ++ joined (records (g.D.Device.seen l.fn.device));
  few : l.count ≤ l.at;
  end : IsTrue (g.D.Device.is_honest l.device) → l.at + frames_end (drop l.at (g.D.Device.seen l.fn.device)) ≡ frames_end (g.D.Device.seen l.fn.device);
  count : IsTrue (g.D.Device.is_honest l.device) → l.count + length (records (drop l.at (g.D.Device.seen l.fn.device))) ≡ length (records (g.D.Device.seen l.fn.device));
  damaged : IsTrue (g.D.Device.is_honest l.device) → all_sound (frames (drop l.at (g.D.Device.seen l.fn.device))) ≡ false → all_sound (frames (g.D.Device.seen l.fn.device)) ≡ false;
  crash : (c : List ℕ) → g.D.Device.may_leave l.device c → g.D.Device.may_leave l.fn.device c;
  moments : LeavesOnly g.D.Device.moment g.D.Device.left_since l.fn.device l.device (g.D.Device.may_leave l.fn.device);
  honest : IsTrue (g.D.Device.is_honest l.device) → IsTrue (g.D.Device.is_honest l.fn.device);
  keeps : g.D.Device.keeps l.fn.device l.device;
  faults : g.D.Device.faults l.fn.device ≤ g.D.Device.faults l.device;
}

abbrev pub decreases-loop-found : goal.decreases-loop-found
decreases-loop-found g l = length (g.D.Device.seen l.device) - l.at
