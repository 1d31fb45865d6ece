-- What of a text is written, and how a fault leaves a reader or a writer.
use Rattle.std.specs.Prelude.{◌≡◌, ℕ, Bool, true, List, ◌++◌, Option, Result, Ok, Err}
use Rattle.std.specs.Io.KnownBytes.{Appends}
use Rattle.cq_base.specs.Relations.{IsPrefix}
use Rattle.cq_frame_loop.specs.declared.fault.LoopFault.{LoopFault}
use Rattle.cq_frame_loop.specs.declared.fault.LoopFault.TheVariants.{NoMemory, ReadFailed, WriteFailed, Unanswered, Interrupted, TooManyBytes}

-- the fault of a read, by whether the reader has failed
abbrev pub IsReadFault : LoopFault → Bool → Type 0
IsReadFault NoMemory failed = ⊥
IsReadFault ReadFailed failed = failed ≡ true
IsReadFault WriteFailed failed = ⊥
IsReadFault Unanswered failed = ⊥
IsReadFault Interrupted failed = Unit {0}
IsReadFault TooManyBytes failed = ⊥

-- the fault of a write
abbrev pub IsWriteFault : LoopFault → Type 0
IsWriteFault NoMemory = ⊥
IsWriteFault ReadFailed = ⊥
IsWriteFault WriteFailed = Unit {0}
IsWriteFault Unanswered = ⊥
IsWriteFault Interrupted = Unit {0}
IsWriteFault TooManyBytes = ⊥

-- how a fault leaves the writer: it has failed, or it was made to pass on all that was written
abbrev pub LeavesAt : LoopFault → Bool → Bool → Type 0
LeavesAt NoMemory failed flushed = Unit {0}
LeavesAt ReadFailed failed flushed = Unit {0}
LeavesAt WriteFailed failed flushed = failed ≡ true
LeavesAt Unanswered failed flushed = flushed ≡ true
LeavesAt Interrupted failed flushed = Unit {0}
LeavesAt TooManyBytes failed flushed = Unit {0}

-- the answer of a call that only writes
abbrev pub IsWriting : Result (Unit {0}) LoopFault → Type 0
IsWriting (Ok _) = Unit {0}
IsWriting (Err fault) = IsWriteFault fault

-- of the text this output was written, and all but this rest of it; a prefix of it where a write failed
abbrev pub Passes : Result (Unit {0}) LoopFault → List ℕ → List ℕ → List ℕ → Type 0
Passes (Ok _) text output rest = text ≡ output ++ rest
Passes (Err fault) text output rest = IsWriteFault fault × IsPrefix output text

-- a writer took of the text all but this rest
abbrev pub Takes : Result (Unit {0}) LoopFault → List ℕ → List ℕ → Option (List ℕ) → Option (List ℕ) → Type 0
Takes result text rest old new = (output : List ℕ) × Appends old new output × Passes result text output rest

-- how the text is written before a frame that can't be answered
abbrev pub BreaksOffAt : LoopFault → List ℕ → List ℕ → Type 0
BreaksOffAt NoMemory text output = ⊥
BreaksOffAt ReadFailed text output = ⊥
BreaksOffAt WriteFailed text output = IsPrefix output text
BreaksOffAt Unanswered text output = output ≡ text
BreaksOffAt Interrupted text output = IsPrefix output text
BreaksOffAt TooManyBytes text output = ⊥
