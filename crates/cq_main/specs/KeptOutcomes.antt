-- What the program has done when a session or a server with a journal ends it.
use Rattle.std.specs.Prelude.{◌≡◌, ◌⊎◌, ℕ, Bool, false, List, Option}
use Rattle.std.specs.Io.KnownBytes.{Appends}
use Rattle.cq_frame_loop.specs.declared.fault.LoopFault.{LoopFault}
use Rattle.cq_kept_run.specs.declared.fault.JournalFault.{JournalFault}
use Rattle.cq_lines.specs.declared.fault.ScriptFault.{ScriptFault}
use Rattle.cq_main.specs.KeptStatuses.{journal_fault_text}
use Rattle.cq_main.specs.Outcomes.{EndsAt}
use Rattle.cq_main.specs.ProcessOutcomes.{EndsAtProcess}

-- a fault of the journal ended the program: its status, and its line on the writer of errors
abbrev pub EndsAtJournal : JournalFault → ℕ → Bool → Option (List ℕ) → Option (List ℕ) → Type 0
EndsAtJournal fault status failed old new = (status ≡ 4) × (failed ≡ false → Appends old new (journal_fault_text fault))

-- It came to its end, or a fault ended it, of the session or of the journal.
abbrev pub RunsKept : ℕ → Bool → Option (List ℕ) → Option (List ℕ) → Type 0
RunsKept status failed old new = ((status ≡ 0) × (new ≡ old))
    ⊎ (((fault : ScriptFault) × EndsAt fault status failed old new) ⊎ ((fault : JournalFault) × EndsAtJournal fault status failed old new))

-- So it is with a server, whose frames have faults of their own.
abbrev pub RunsKeptServer : ℕ → Bool → Option (List ℕ) → Option (List ℕ) → Type 0
RunsKeptServer status failed old new = ((status ≡ 0) × (new ≡ old))
    ⊎ (((fault : LoopFault) × EndsAtProcess fault status failed old new) ⊎ ((fault : JournalFault) × EndsAtJournal fault status failed old new))
