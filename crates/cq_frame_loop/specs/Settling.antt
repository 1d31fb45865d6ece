-- What answering the frames of an input does where answers are settled before they are told, by its answer.
use Rattle.std.specs.Prelude.{◌≡◌, ℕ, ◌≤◌, ◌⊎◌, Bool, true, false, List, [], ◌++◌, length, Option, Result, Ok, Err}
use Rattle.std.specs.Io.KnownBytes.{IsAtEnd}
use Rattle.cq_base.specs.Relations.{IsPrefix}
use Rattle.cq_frame_loop.specs.Cutting.{frames_of}
use Rattle.cq_frame_loop.specs.Chains.{AnswersAll, IsChain, Relation, Step, frames_in, text_in}
use Rattle.cq_frame_loop.specs.declared.fault.LoopFault.TheVariants.{NoMemory, ReadFailed, WriteFailed, Unanswered, Interrupted, TooManyBytes}
use Rattle.cq_frame_loop.specs.declared.settling.SettledFault.{SettledFault}
use Rattle.cq_frame_loop.specs.declared.settling.SettledFault.TheVariants.{Loop, Unsettled}
use Rattle.cq_lines.specs.declared.text.TheConstants.{BYTES_LIMIT}

-- What is told stands in the answers that led to this state.
pub record IsAnswered {S : Type 0} (answers : Relation S) (told : List ℕ) (state : S) : Type 0 where
  pub first : S
  pub steps : List (Step S)
  pub chain : IsChain answers first steps state
  pub before : List ℕ
  pub behind : List ℕ
  pub among : text_in steps ≡ before ++ (told ++ behind)

-- What a fault makes of a state.
abbrev pub Stops : Type 0 → Type 1
Stops S = S → S → Type 0

-- The first ones of these frames were answered, and all of that was settled. The output is a prefix of what was told of these. More were
-- answered then, of which nothing is told, up to some state, and a fault left that one of it.
pub record StopsFront {S : Type 0} (answers : Relation S) (stops : Stops S) (is_settled : S → Type 0) (first : S) (frames : List (Option (List ℕ))) (output : List ℕ) (left : S) : Type 0 where
  pub steps : List (Step S)
  pub mid : S
  pub chain : IsChain answers first steps mid
  pub settled : is_settled mid
  pub prefix : IsPrefix output (text_in steps)
  pub later : List (Step S)
  pub last : S
  pub went_on : IsChain answers mid later last
  pub front : IsPrefix (frames_in steps ++ frames_in later) frames
  pub stopped : stops last left

-- The input was read, and the reader has these bytes left, if that is known. The output was written, and the handler came from the first
-- state to the last, in which all is settled unless a fault has come. Memory is wanting only before the first read.
abbrev pub SettlesInput : {S : Type 0} → Relation S → Stops S → (S → Type 0) → Result (Unit {0}) SettledFault → S → S → List ℕ → Option (List ℕ) → List ℕ → Type 0
SettlesInput answers stops is_settled (Ok _) first last input left output = IsAtEnd left × (AnswersAll answers first (frames_of input) output last × is_settled last)
SettlesInput answers stops is_settled (Err (Loop NoMemory)) first last input left output = (input ≡ []) × ((output ≡ []) × (first ≡ last))
SettlesInput answers stops is_settled (Err (Loop ReadFailed)) first last input left output = AnswersAll answers first (frames_of input) output last × is_settled last
SettlesInput answers stops is_settled (Err (Loop WriteFailed)) first last input left output = StopsFront answers stops is_settled first (frames_of input) output last
SettlesInput answers stops is_settled (Err (Loop Unanswered)) first last input left output = StopsFront answers stops is_settled first (frames_of input) output last
SettlesInput answers stops is_settled (Err (Loop Interrupted)) first last input left output = StopsFront answers stops is_settled first (frames_of input) output last
SettlesInput answers stops is_settled (Err (Loop TooManyBytes)) first last input left output = (BYTES_LIMIT ≤ length input) × (AnswersAll answers first (frames_of input) output last × is_settled last)
SettlesInput answers stops is_settled (Err Unsettled) first last input left output = StopsFront answers stops is_settled first (frames_of input) output last

-- How the reader is left: whether it has failed.
abbrev pub LeavesSettledReader : Result (Unit {0}) SettledFault → Bool → Type 0
LeavesSettledReader (Ok _) failed = failed ≡ false
LeavesSettledReader (Err (Loop NoMemory)) failed = Unit {0}
LeavesSettledReader (Err (Loop ReadFailed)) failed = failed ≡ true
LeavesSettledReader (Err (Loop WriteFailed)) failed = Unit {0}
LeavesSettledReader (Err (Loop Unanswered)) failed = Unit {0}
LeavesSettledReader (Err (Loop Interrupted)) failed = Unit {0}
LeavesSettledReader (Err (Loop TooManyBytes)) failed = Unit {0}
LeavesSettledReader (Err Unsettled) failed = Unit {0}

-- How the writer is left: whether it has failed, and whether it was made to pass on all that was written. That it is behind each read,
-- before the next one; a first read that fails finds nothing written.
abbrev pub LeavesSettledWriter : Result (Unit {0}) SettledFault → List ℕ → Bool → Bool → Type 0
LeavesSettledWriter (Ok _) input failed flushed = (failed ≡ false) × (flushed ≡ true)
LeavesSettledWriter (Err (Loop NoMemory)) input failed flushed = Unit {0}
LeavesSettledWriter (Err (Loop ReadFailed)) input failed flushed = (input ≡ []) ⊎ (flushed ≡ true)
LeavesSettledWriter (Err (Loop WriteFailed)) input failed flushed = failed ≡ true
LeavesSettledWriter (Err (Loop Unanswered)) input failed flushed = Unit {0}
LeavesSettledWriter (Err (Loop Interrupted)) input failed flushed = Unit {0}
LeavesSettledWriter (Err (Loop TooManyBytes)) input failed flushed = (input ≡ []) ⊎ (flushed ≡ true)
LeavesSettledWriter (Err Unsettled) input failed flushed = Unit {0}
