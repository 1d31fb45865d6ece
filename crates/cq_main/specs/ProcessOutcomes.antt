-- What the program has done when it kept a server of a chain, or its master.
use Rattle.std.specs.Prelude.{◌≡◌, ℕ, Bool, false, List, Option, Result, Ok, Err}
use Rattle.std.specs.Io.KnownBytes.{Appends, Consumes}
use Rattle.cq_frame_loop.specs.declared.fault.LoopFault.{LoopFault}
use Rattle.cq_frame_loop.specs.Loops.{LeavesReader, LeavesWriter}
use Rattle.cq_main.specs.ProcessStatuses.{not_loaded_text, process_fault_text}
use Rattle.cq_processes.specs.declared.keep.LoadEnd.{LoadEnd}
use Rattle.cq_processes.specs.declared.keep.LoadEnd.TheVariants as ends
use Rattle.cq_processes.specs.Keeping.{AnswersLoading, LeavesLoader, LeavesLoading}

-- a fault ended the program: its line was written, unless the writer failed
abbrev pub EndsAtProcess : LoopFault → ℕ → Bool → Option (List ℕ) → Option (List ℕ) → Type 0
EndsAtProcess fault status failed old new = (status ≡ 3) × (failed ≡ false → Appends old new (process_fault_text fault))

-- the end of the input ended the program, or a fault did
abbrev pub EndsProcess : Result (Unit {0}) LoopFault → ℕ → Bool → Option (List ℕ) → Option (List ℕ) → Type 0
EndsProcess (Ok _) status failed old new = (status ≡ 0) × (new ≡ old)
EndsProcess (Err fault) status failed old new = EndsAtProcess fault status failed old new

-- or what came first was no store, which has a status of its own
abbrev pub EndsLoaded : Result (Unit {0}) LoadEnd → ℕ → Bool → Option (List ℕ) → Option (List ℕ) → Type 0
EndsLoaded (Ok _) status failed old new = (status ≡ 0) × (new ≡ old)
EndsLoaded (Err (ends.Loop fault)) status failed old new = EndsAtProcess fault status failed old new
EndsLoaded (Err ends.NotLoaded) status failed old new = (status ≡ 5) × (failed ≡ false → Appends old new not_loaded_text)

-- Frames were answered, to the end of the program: `keeps` says what that has read and written, by its answer.
pub record RunsProcess (keeps : Result (Unit {0}) LoopFault → List ℕ → Option (List ℕ) → List ℕ → Type 0)
    (status : ℕ) (unread left : Option (List ℕ)) (reader_failed : Bool) (written output : Option (List ℕ)) (writer_failed writer_flushed : Bool) (failed : Bool) (old new : Option (List ℕ)) : Type 0 where
  pub answer : Result (Unit {0}) LoopFault
  pub input : List ℕ
  pub text : List ℕ
  pub consumed : Consumes unread left input
  pub appended : Appends written output text
  pub kept : keeps answer input left text
  pub writer : LeavesWriter answer input writer_failed writer_flushed
  pub reader : LeavesReader answer reader_failed
  pub ended : EndsProcess answer status failed old new

-- The same of a process that begins with a store.
pub record RunsLoaded (status : ℕ) (unread left : Option (List ℕ)) (reader_failed : Bool) (written output : Option (List ℕ)) (writer_failed writer_flushed : Bool) (failed : Bool) (old new : Option (List ℕ)) : Type 0 where
  pub answer : Result (Unit {0}) LoadEnd
  pub input : List ℕ
  pub text : List ℕ
  pub consumed : Consumes unread left input
  pub appended : Appends written output text
  pub kept : AnswersLoading answer input left text
  pub writer : LeavesLoading answer input writer_failed writer_flushed
  pub reader : LeavesLoader answer reader_failed
  pub ended : EndsLoaded answer status failed old new
