-- Room for a record.
use Rattle.std.specs.Prelude.{ℕ, ◌+◌, ◌≤◌, length}
use Rattle.cq_disk.specs.declared.device.Device.{Ghosts}
use Rattle.cq_journal.specs.Journal.{journal_end, region_len}
use Rattle.cq_kept_entries.specs.declared.class.EntryClass.{EntryClass}
use Rattle.cq_kept_entries.specs.declared.kept.KeptEntries.{KeptEntries}
use Rattle.cq_kept_entries.specs.Classes.{reserve_of}

-- the region that grows has room for the frame of what was added and of so many bytes, and keeps what entries of this class have to leave
abbrev pub FitsHere : {D : Type 0} {g : Ghosts D} → KeptEntries D g → EntryClass → ℕ → Type 0
FitsHere k class len = journal_end k.journal + (length k.text.items + len + (9 + reserve_of class (region_len k.journal))) ≤ region_len k.journal
