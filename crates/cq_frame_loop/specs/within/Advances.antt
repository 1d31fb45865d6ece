-- How answering frames goes on over the bytes that were read.
use Rattle.std.specs.Prelude.{◌≡◌, ℕ, ◌+◌, ◌-◌, ◌≤◌, ◌<◌, List, [], ◌∷◌, ◌++◌, drop, length, Option}
use Rattle.cq_base.specs.Relations.{IsPrefix}
use Rattle.cq_frames.specs.declared.frame.TheConstants.{FRAME_LIMIT}
use Rattle.cq_frame_loop.specs.Cutting.{frames_behind}
use Rattle.cq_frame_loop.specs.Chains.{Relation, Breaks, Step, IsChain, AnswersFront, BreaksOff, frames_in, text_in}
use Rattle.cq_frame_loop.specs.declared.fault.LoopFault.{LoopFault}
use Rattle.cq_frame_loop.specs.declared.fault.LoopFault.TheVariants.{NoMemory, ReadFailed, WriteFailed, Unanswered, Interrupted, TooManyBytes}

-- behind so many bytes these have this frame first, whatever comes behind them, and it takes so many bytes
abbrev pub BeginsWith : List ℕ → Option (List ℕ) → ℕ → Type 0
BeginsWith bytes frame count = (more : List ℕ) → frames_behind 0 (bytes ++ more) ≡ frame ∷ frames_behind count (bytes ++ more)

-- whatever comes behind them, the bytes have these frames, and then those of the rest
abbrev pub Cuts : ℕ → List ℕ → List (Option (List ℕ)) → ℕ → List ℕ → Type 0
Cuts count bytes frames later rest = (more : List ℕ) → frames_behind count (bytes ++ more) ≡ frames ++ frames_behind later (rest ++ more)

-- The frames of these bytes were answered up to the rest, from one state to another, and this was told of them.
pub record Advances {S : Type 0} (answers : Relation S) (first : S) (count : ℕ) (bytes : List ℕ) (told : List ℕ) (last : S) (later : ℕ) (rest : List ℕ) : Type 0 where
  pub steps : List (Step S)
  pub chain : IsChain answers first steps last
  pub cut : Cuts count bytes (frames_in steps) later rest
  pub whole : told ≡ text_in steps

-- A write fails at a frame. Of what was told before it and isn't written yet, and of the frame's own text, if it was answered at all, a
-- prefix is written.
abbrev pub StopsAt : {S : Type 0} → Relation S → S → Option (List ℕ) → List ℕ → List ℕ → Type 0
StopsAt {S} answers first frame told output =
    (steps : List (Step S)) × (last : S) × IsChain answers first steps last × IsPrefix (frames_in steps) (frame ∷ []) × IsPrefix output (told ++ text_in steps)

-- how a frame comes to a fault, and what becomes of the state where it can't be answered
abbrev pub FailsAt : {S : Type 0} → Relation S → Breaks S → LoopFault → S → Option (List ℕ) → List ℕ → List ℕ → S → Type 0
FailsAt answers breaks NoMemory first frame told output last = ⊥
FailsAt answers breaks ReadFailed first frame told output last = ⊥
FailsAt answers breaks WriteFailed first frame told output last = StopsAt answers first frame told output
FailsAt answers breaks Unanswered first frame told output last = (output ≡ told) × breaks first frame last
FailsAt answers breaks Interrupted first frame told output last = StopsAt answers first frame told output
FailsAt answers breaks TooManyBytes first frame told output last = ⊥

-- how frames come to a fault
abbrev pub FailsIn : {S : Type 0} → Relation S → Breaks S → LoopFault → S → List (Option (List ℕ)) → List ℕ → S → Type 0
FailsIn answers breaks NoMemory first frames output last = ⊥
FailsIn answers breaks ReadFailed first frames output last = ⊥
FailsIn answers breaks WriteFailed first frames output last = AnswersFront answers first frames output
FailsIn answers breaks Unanswered first frames output last = (off : BreaksOff answers first frames output) × breaks off.last off.unanswered last
FailsIn answers breaks Interrupted first frames output last = AnswersFront answers first frames output
FailsIn answers breaks TooManyBytes first frames output last = ⊥

-- The frames of these bytes were answered up to the last so many of them, which are an unfinished frame.
pub record AdvancesTo {S : Type 0} (answers : Relation S) (first : S) (count : ℕ) (bytes : List ℕ) (told : List ℕ) (last : S) (later : ℕ) (left : ℕ) : Type 0 where
  pub within : left ≤ length bytes
  pub advances : Advances answers first count bytes told last later (drop (length bytes - left) bytes)
  pub unfinished : frames_behind later (drop (length bytes - left) bytes) ≡ []
  pub short : left < FRAME_LIMIT + 4
