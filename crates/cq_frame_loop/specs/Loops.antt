-- What answering the frames of an input does, by its answer.
use Rattle.std.specs.Prelude.{◌≡◌, ℕ, ◌≤◌, ◌⊎◌, Bool, true, false, List, [], length, Option, Result, Ok, Err}
use Rattle.std.specs.Io.KnownBytes.{IsAtEnd}
use Rattle.cq_frame_loop.specs.Cutting.{frames_of}
use Rattle.cq_frame_loop.specs.Chains.{Relation, Breaks, AnswersAll, AnswersFront, BreaksOff}
use Rattle.cq_frame_loop.specs.declared.fault.LoopFault.{LoopFault}
use Rattle.cq_frame_loop.specs.declared.fault.LoopFault.TheVariants.{NoMemory, ReadFailed, WriteFailed, Unanswered, Interrupted, TooManyBytes}
use Rattle.cq_lines.specs.declared.text.TheConstants.{BYTES_LIMIT}

-- The input was read, and the reader has these bytes left, if that is known. The output was written, and the handler came from the first
-- state to the last. Memory is wanting only before the first read.
abbrev pub AnswersInput : {S : Type 0} → Relation S → Breaks S → Result (Unit {0}) LoopFault → S → S → List ℕ → Option (List ℕ) → List ℕ → Type 0
AnswersInput answers breaks (Ok _) first last input left output = IsAtEnd left × AnswersAll answers first (frames_of input) output last
AnswersInput answers breaks (Err NoMemory) first last input left output = (input ≡ []) × ((output ≡ []) × (first ≡ last))
AnswersInput answers breaks (Err ReadFailed) first last input left output = AnswersAll answers first (frames_of input) output last
AnswersInput answers breaks (Err WriteFailed) first last input left output = AnswersFront answers first (frames_of input) output
AnswersInput answers breaks (Err Unanswered) first last input left output = (off : BreaksOff answers first (frames_of input) output) × breaks off.last off.unanswered last
AnswersInput answers breaks (Err Interrupted) first last input left output = AnswersFront answers first (frames_of input) output
AnswersInput answers breaks (Err TooManyBytes) first last input left output = (BYTES_LIMIT ≤ length input) × AnswersAll answers first (frames_of input) output last

-- How the reader is left: whether it has failed.
abbrev pub LeavesReader : Result (Unit {0}) LoopFault → Bool → Type 0
LeavesReader (Ok _) failed = failed ≡ false
LeavesReader (Err NoMemory) failed = Unit {0}
LeavesReader (Err ReadFailed) failed = failed ≡ true
LeavesReader (Err WriteFailed) failed = Unit {0}
LeavesReader (Err Unanswered) failed = Unit {0}
LeavesReader (Err Interrupted) failed = Unit {0}
LeavesReader (Err TooManyBytes) failed = Unit {0}

-- How the writer is left: whether it has failed, and whether it was made to pass on all that was written. That it is behind each read,
-- before the next one; a first read that fails finds nothing written.
abbrev pub LeavesWriter : Result (Unit {0}) LoopFault → List ℕ → Bool → Bool → Type 0
LeavesWriter (Ok _) input failed flushed = (failed ≡ false) × (flushed ≡ true)
LeavesWriter (Err NoMemory) input failed flushed = Unit {0}
LeavesWriter (Err ReadFailed) input failed flushed = (input ≡ []) ⊎ (flushed ≡ true)
LeavesWriter (Err WriteFailed) input failed flushed = failed ≡ true
LeavesWriter (Err Unanswered) input failed flushed = flushed ≡ true
LeavesWriter (Err Interrupted) input failed flushed = Unit {0}
LeavesWriter (Err TooManyBytes) input failed flushed = (input ≡ []) ⊎ (flushed ≡ true)
