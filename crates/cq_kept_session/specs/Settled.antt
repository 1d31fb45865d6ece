-- A chunk that is kept and wasn't run yet.
use Rattle.std.specs.Prelude.{◌≡◌, ℕ, List, [], ◌∷◌, ◌++◌, IsTrue}
use Rattle.cq_disk.specs.declared.device.Device.{Ghosts}
use Rattle.cq_records.specs.Frames.{joined}
use Rattle.cq_journal.specs.Journal.{IsJournal}
use Rattle.cq_script.specs.Resumed.{HasRun}
use Rattle.cq_kept_session.specs.Bases.{AreOf}
use Rattle.cq_kept_session.specs.declared.kept.KeptSession.{KeptSession}
use Rattle.cq_kept_session.specs.Kept.{kept_records, session_device}

-- The journal, which has its records on the medium, has the chunk behind all that was run.
pub record IsSettled {D : Type 0} {g : Ghosts D} (k : KeptSession D g) (chunk : List ℕ) : Type 0 where
  pub journal : IsJournal k.journal
  pub before : List (List ℕ)
  pub records : kept_records k ≡ before ++ chunk ∷ []
  pub run : IsTrue (g.is_honest (session_device k)) → (bytes : List ℕ) → AreOf k.size (joined before) bytes → HasRun k.size bytes k.session
