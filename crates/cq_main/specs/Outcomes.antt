-- What the program has done when it ends. A reader or a writer is seen by the bytes that are known of it, before and
-- after.
use Rattle.std.specs.Prelude.{◌≡◌, ◌≤◌, ◌⊎◌, ℕ, Bool, true, false, List, [], ◌∷◌, ◌++◌, codes, Option, Result, Ok, Err, OnOk}
use Rattle.std.specs.Io.KnownBytes.{Appends, Consumes}
use Rattle.cq_lines.specs.declared.fault.ScriptFault.{ScriptFault}
use Rattle.cq_lines.specs.declared.fault.ScriptFault.TheVariants.{ReadFailed, WriteFailed}
use Rattle.cq_script.specs.Runs.{OnWritten}
use Rattle.cq_main.specs.Statuses.{fault_text, status_of}

-- the line of a fault was written, unless the writer failed
abbrev pub Tells : ScriptFault → Bool → Option (List ℕ) → Option (List ℕ) → Type 0
Tells fault failed old new = failed ≡ false → Appends old new (fault_text fault)

-- a fault ended the program: its status, and its line on the writer of errors
abbrev pub EndsAt : ScriptFault → ℕ → Bool → Option (List ℕ) → Option (List ℕ) → Type 0
EndsAt fault status failed old new = (status ≡ status_of fault) × Tells fault failed old new

-- the answer of a replay or a session ended the program
abbrev pub Ends : Result (Unit {0}) ScriptFault → ℕ → Bool → Option (List ℕ) → Option (List ℕ) → Type 0
Ends (Ok _) status failed old new = (status ≡ 0) × (new ≡ old)
Ends (Err fault) status failed old new = EndsAt fault status failed old new

-- How an answer goes with what is known of the reader and the writer afterwards.
pub record IsFaithful (answer : Result (Unit {0}) ScriptFault) (reader_failed writer_failed writer_flushed : Bool) : Type 0 where
  -- ReadFailed is answered only where the reader has failed, and WriteFailed only where the writer has
  pub by_reader : answer ≡ Err ReadFailed → reader_failed ≡ true
  pub by_writer : answer ≡ Err WriteFailed → writer_failed ≡ true
  -- where all was run, the reader hasn't failed
  pub reader_sound : OnOk answer (reader_failed ≡ false)
  -- where the writing wasn't cut short, the writer hasn't failed and was flushed
  pub writer_sound : OnWritten answer (writer_failed ≡ false)
  pub flushed : OnWritten answer (writer_flushed ≡ true)

-- Lines were run, to the end of the program: `carries` says what that has read and written, by its answer, and `heads`
-- that the headline holds of what was written.
pub record RunsBy (carries : Result (Unit {0}) ScriptFault → List ℕ → Option (List ℕ) → List ℕ → Type 0) (heads : List ℕ → Option (List ℕ) → List ℕ → Type 0)
    (status : ℕ) (unread left : Option (List ℕ)) (reader_failed : Bool) (written output : Option (List ℕ)) (writer_failed writer_flushed : Bool) (failed : Bool) (old new : Option (List ℕ)) : Type 0 where
  pub answer : Result (Unit {0}) ScriptFault
  pub carried : (input : List ℕ) × (text : List ℕ) × Consumes unread left input × Appends written output text × carries answer input left text
  pub headed : (input : List ℕ) × (text : List ℕ) × Consumes unread left input × Appends written output text × heads input left text
  pub faithful : IsFaithful answer reader_failed writer_failed writer_flushed
  pub ended : Ends answer status failed old new

-- help was written, with the guide at its end; or the writer failed, which is a fault
abbrev pub Helps : List ℕ → ℕ → Bool → Option (List ℕ) → Option (List ℕ) → Bool → Option (List ℕ) → Option (List ℕ) → Type 0
Helps guide status output_failed written output failed old new =
    ((output_failed ≡ false) × (status ≡ 0) × (new ≡ old) × ((text : List ℕ) × Appends written output (text ++ 10 ∷ (guide ++ 10 ∷ []))))
    ⊎ ((output_failed ≡ true) × EndsAt WriteFailed status failed old new)

-- the line that names a version
abbrev pub version_text : List ℕ → List ℕ
version_text version = codes "cq " ++ (version ++ 10 ∷ [])

-- that line was written; or the writer failed, which is a fault
abbrev pub TellsVersion : List ℕ → ℕ → Bool → Option (List ℕ) → Option (List ℕ) → Bool → Option (List ℕ) → Option (List ℕ) → Type 0
TellsVersion version status output_failed written output failed old new =
    ((output_failed ≡ false) × (status ≡ 0) × (new ≡ old) × Appends written output (version_text version))
    ⊎ ((output_failed ≡ true) × EndsAt WriteFailed status failed old new)

-- the arguments were refused: a text says why, unless the writer failed
abbrev pub Refuses : ℕ → Bool → Option (List ℕ) → Option (List ℕ) → Type 0
Refuses status failed old new = (status ≡ 2) × ((text : List ℕ) × (failed ≡ false → Appends old new text))

-- what is told where the arguments of the command line are no text
abbrev pub unread_text : List ℕ
unread_text = codes "error: a word of the command line is not UTF-8" ++ 10 ∷ []
