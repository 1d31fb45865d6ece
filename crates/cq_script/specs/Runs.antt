-- What a run of lines has written.
use Rattle.std.specs.Prelude.{◌≡◌, ℕ, List, Option, Result, Ok, Err, Bool, true, false}
use Rattle.std.specs.Io.KnownBytes.{Appends}
use Rattle.cq_base.specs.Relations.{IsPrefix}
use Rattle.cq_lines.specs.declared.fault.ScriptFault.{ScriptFault}
use Rattle.cq_lines.specs.declared.fault.ScriptFault.TheVariants.{BadLine, LineTooLong, TooManyLines, ReadFailed, WriteFailed, NoMemory}

-- all of the text was written, or a prefix of it where the writing failed or memory ran out
abbrev pub WritesPrefix : Result (Unit {0}) ScriptFault → List ℕ → List ℕ → Type 0
WritesPrefix (Ok _) text output = output ≡ text
WritesPrefix (Err (BadLine n)) text output = ⊥
WritesPrefix (Err (LineTooLong n)) text output = ⊥
WritesPrefix (Err TooManyLines) text output = ⊥
WritesPrefix (Err ReadFailed) text output = ⊥
WritesPrefix (Err WriteFailed) text output = IsPrefix output text
WritesPrefix (Err NoMemory) text output = IsPrefix output text

-- a writer took all of the text, or a prefix of it
abbrev pub Takes : Result (Unit {0}) ScriptFault → List ℕ → Option (List ℕ) → Option (List ℕ) → Type 0
Takes result text old new = (output : List ℕ) × Appends old new output × WritesPrefix result text output

-- whether the writing was cut short
abbrev pub is_cut_short : Result (Unit {0}) ScriptFault → Bool
is_cut_short (Ok _) = false
is_cut_short (Err (BadLine n)) = false
is_cut_short (Err (LineTooLong n)) = false
is_cut_short (Err TooManyLines) = false
is_cut_short (Err ReadFailed) = false
is_cut_short (Err WriteFailed) = true
is_cut_short (Err NoMemory) = true

-- the writer has not failed where all was written, and has where the answer says so
abbrev pub EndsWriting : Result (Unit {0}) ScriptFault → Bool → Type 0
EndsWriting (Ok _) failed = failed ≡ false
EndsWriting (Err (BadLine n)) failed = ⊥
EndsWriting (Err (LineTooLong n)) failed = ⊥
EndsWriting (Err TooManyLines) failed = ⊥
EndsWriting (Err ReadFailed) failed = ⊥
EndsWriting (Err WriteFailed) failed = failed ≡ true
EndsWriting (Err NoMemory) failed = Unit {0}

-- an outcome, unless the answer is that the writing was cut short
abbrev pub OnWritten : Result (Unit {0}) ScriptFault → Type 0 → Type 0
OnWritten (Ok _) P = P
OnWritten (Err (BadLine n)) P = P
OnWritten (Err (LineTooLong n)) P = P
OnWritten (Err TooManyLines) P = P
OnWritten (Err ReadFailed) P = P
OnWritten (Err WriteFailed) P = Unit {0}
OnWritten (Err NoMemory) P = Unit {0}
