-- Room for a record.
use Rattle.std.specs.Prelude.{ℕ, ◌+◌, ◌≤◌}
use Rattle.cq_disk.specs.declared.device.Device.{Ghosts}
use Rattle.cq_journal.specs.Journal.{journal_end, region_len}
use Rattle.cq_kept_session.specs.declared.class.LineClass.{LineClass}
use Rattle.cq_kept_session.specs.declared.kept.KeptSession.{KeptSession}
use Rattle.cq_kept_session.specs.Classes.{reserve_of}

-- the region that grows has room for the frame of so many bytes, and keeps what lines of this class have to leave
abbrev pub FitsHere : {D : Type 0} {g : Ghosts D} → KeptSession D g → LineClass → ℕ → Type 0
FitsHere k class len = journal_end k.journal + (len + (9 + reserve_of class (region_len k.journal))) ≤ region_len k.journal
