-- A journal that stays as it is while its device is called.
use Rattle.std.specs.Prelude.{◌≡◌, ◌≤◌, IsTrue}
use Rattle.cq_disk.specs.Device.{LeavesOnly}
use Rattle.cq_disk.specs.declared.device.Device.{Ghosts}
use Rattle.cq_journal.specs.declared.journal.Journal.{Journal}
use Rattle.cq_journal.specs.Intact.{LeavesIntact, StaysIntact}
use Rattle.cq_journal.specs.Journal.{journal_device, journal_half, journal_records, region_len}
use Rattle.cq_journal.specs.Regions.{HasRecords}

module _ {D : Type 0} {g : Ghosts D} where
  -- New comes from old by calls, has the same records, and a crash at each moment between the two leaves just these. Its bytes stay intact.
  pub record Rests (old new : Journal D g) : Type 0 where
    pub half : journal_half new ≡ journal_half old
    pub len : region_len new ≡ region_len old
    pub records : journal_records new ≡ journal_records old
    pub honest : IsTrue (g.is_honest (journal_device new)) → IsTrue (g.is_honest (journal_device old))
    pub moments : IsTrue (g.is_honest (journal_device new)) → LeavesOnly g.moment g.left_since (journal_device old) (journal_device new) (HasRecords (journal_half old) (region_len old) (journal_records old))
    pub intact : LeavesIntact old new
    pub stays : StaysIntact old new
    pub later : g.faults (journal_device old) ≤ g.faults (journal_device new)
