-- A session that has run what its journal had as it was opened.
use Rattle.std.specs.Prelude.{◌≡◌, Bool, true, false, [], IsTrue}
use Rattle.cq_disk.specs.declared.device.Device.{Ghosts}
use Rattle.cq_journal.specs.Journal.{IsJournal}
use Rattle.cq_script.specs.Resumed.{HasRun}
use Rattle.cq_kept_session.specs.declared.kept.KeptSession.{KeptSession}
use Rattle.cq_kept_session.specs.Kept.{IsKept, kept_bytes, session_device}

module _ {D : Type 0} {g : Ghosts D} where
  -- its journal has no byte, and nothing was run
  pub record IsFresh (k : KeptSession D g) : Type 0 where
    pub journal : IsJournal k.journal
    pub none : IsTrue (g.is_honest (session_device k)) → kept_bytes k ≡ []
    pub run : IsTrue (g.is_honest (session_device k)) → HasRun k.size [] k.session
    pub ended : IsTrue (g.is_honest (session_device k)) → k.ended ≡ true

  -- it is so, or all that its journal has was run
  abbrev pub HasBegun : KeptSession D g → Bool → Type 0
  HasBegun k true = IsFresh k
  HasBegun k false = IsKept k
