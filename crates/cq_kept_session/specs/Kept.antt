-- A session and the lines that its journal has.
use Rattle.std.specs.Prelude.{◌≡◌, ℕ, Bool, List, [], ◌∷◌, true, IsTrue, if◌then◌else◌}
use Rattle.cq_disk.specs.declared.device.Device.{Ghosts}
use Rattle.cq_records.specs.Frames.{joined}
use Rattle.cq_journal.specs.declared.journal.Journal.{Journal}
use Rattle.cq_journal.specs.Journal.{IsJournal, journal_device, journal_records}
use Rattle.cq_lines.specs.Lines.{ended_part}
use Rattle.cq_script.specs.Resumed.{HasRun, lines_ended}
use Rattle.cq_script.specs.declared.resumed.ResumedSession.{ResumedSession}
use Rattle.cq_script.specs.Sessions.{session_text}
use Rattle.cq_kept_session.specs.Bases.{AreOf, fresh, is_of, read}
use Rattle.cq_kept_session.specs.Texts.{is_ended}
use Rattle.cq_kept_session.specs.declared.kept.KeptSession.{KeptSession}

module _ {D : Type 0} {g : Ghosts D} where
  abbrev pub session_journal : KeptSession D g → Journal D g
  session_journal k = k.journal

  abbrev pub session_device : KeptSession D g → D
  session_device k = journal_device k.journal

  -- what has run its lines
  abbrev pub run_session : KeptSession D g → ResumedSession
  run_session k = k.session

  -- whether its last line has ended
  abbrev pub ended_now : KeptSession D g → Bool
  ended_now k = k.ended

  -- how many lines have ended
  abbrev pub session_lines : KeptSession D g → ℕ
  session_lines k = lines_ended k.session

  -- on so many servers
  abbrev pub session_size : KeptSession D g → ℕ
  session_size k = k.size

  -- the records that it has kept, in order
  abbrev pub kept_records : KeptSession D g → List (List ℕ)
  kept_records k = journal_records k.journal

  -- their bytes, one record behind the other
  abbrev pub kept_bytes : KeptSession D g → List ℕ
  kept_bytes k = joined (kept_records k)

  -- they stand for these bytes, the lines of the session from the first one on
  abbrev pub StandsFor : KeptSession D g → List ℕ → Type 0
  StandsFor k bytes = AreOf k.size (kept_bytes k) bytes

  -- what one session writes on these lines
  abbrev pub told_text : KeptSession D g → List ℕ → List ℕ
  told_text k bytes = session_text k.size (ended_part bytes)

  -- the line feed that its last line lacks
  abbrev pub missing_end : KeptSession D g → List ℕ
  missing_end k = if is_ended (kept_bytes k) then [] else 10 ∷ []

  -- All that it has run is in its journal, and all of that was run, whatever bytes it stands for. A journal has its records on the medium.
  -- What the journal begins with is of a session on so many servers, and its base, if there is one, is whole. It knows whether the last line
  -- has ended.
  pub record IsKept (k : KeptSession D g) : Type 0 where
    pub journal : IsJournal k.journal
    pub fits : IsTrue (g.is_honest (session_device k)) → is_of k.size (read fresh (kept_bytes k)) ≡ true
    pub run : IsTrue (g.is_honest (session_device k)) → (bytes : List ℕ) → StandsFor k bytes → HasRun k.size bytes k.session
    pub ended : IsTrue (g.is_honest (session_device k)) → k.ended ≡ is_ended (kept_bytes k)
