-- How frames whose answers are settled come to a fault.
use Rattle.std.specs.Prelude.{◌≡◌, ℕ, Bool, true, List, [], ◌++◌, Option, ◌⊎◌}
use Rattle.std.specs.Io.KnownBytes.{Appends}
use Rattle.cq_base.specs.Relations.{IsPrefix}
use Rattle.cq_frame_loop.specs.Chains.{IsChain, Relation, Step, frames_in, text_in}
use Rattle.cq_frame_loop.specs.Settling.{Stops}
use Rattle.cq_frame_loop.specs.within.Advances.{Cuts}
use Rattle.cq_frame_loop.specs.declared.fault.LoopFault.TheVariants.{NoMemory, ReadFailed, WriteFailed, Unanswered, Interrupted, TooManyBytes}
use Rattle.cq_frame_loop.specs.declared.settling.SettledFault.{SettledFault}
use Rattle.cq_frame_loop.specs.declared.settling.SettledFault.TheVariants.{Loop, Unsettled}

-- All that some answers told, which led to this state, waits to be written.
pub record Waits {S : Type 0} (answers : Relation S) (told : List ℕ) (state : S) : Type 0 where
  pub first : S
  pub steps : List (Step S)
  pub chain : IsChain answers first steps state
  pub whole : text_in steps ≡ told

-- nothing was settled, or something was
abbrev pub Rested : {S : Type 0} → (S → S → Type 0) → S → S → Type 0
Rested rests old new = (new ≡ old) ⊎ rests old new

-- a fault at a frame, which leaves the writer so
abbrev pub IsStop : SettledFault → Bool → Type 0
IsStop (Loop NoMemory) failed = ⊥
IsStop (Loop ReadFailed) failed = ⊥
IsStop (Loop WriteFailed) failed = failed ≡ true
IsStop (Loop Unanswered) failed = Unit {0}
IsStop (Loop Interrupted) failed = Unit {0}
IsStop (Loop TooManyBytes) failed = ⊥
IsStop Unsettled failed = Unit {0}

-- Some of these frames were answered, behind what was told before and isn't written, and a fault left that of the last state. Where
-- something was written, all was settled.
pub record StopsBehind {S : Type 0} (answers : Relation S) (stops : Stops S) (is_settled : S → Type 0) (first : S) (frames : List (Option (List ℕ))) (told output : List ℕ) (left : S) : Type 0 where
  pub steps : List (Step S)
  pub last : S
  pub chain : IsChain answers first steps last
  pub front : IsPrefix (frames_in steps) frames
  pub prefix : IsPrefix output (told ++ text_in steps)
  pub settled : (output ≡ []) ⊎ is_settled last
  pub stopped : stops last left

-- A fault came as something was settled and written.
pub record StopsWriting {S : Type 0} (rests : S → S → Type 0) (stops : Stops S) (is_settled : S → Type 0) (first : S) (told output : List ℕ) (left : S) : Type 0 where
  pub mid : S
  pub rested : Rested rests first mid
  pub settled : (output ≡ []) ⊎ is_settled mid
  pub stopped : stops mid left
  pub prefix : IsPrefix output told

-- all that was told waits, or all is settled and written
abbrev pub WaitsOrSettles : Option (List ℕ) → Option (List ℕ) → List ℕ → List ℕ → Type 0 → Type 0
WaitsOrSettles old new told out settled = (Appends old new [] × (out ≡ told)) ⊎ (Appends old new told × ((out ≡ []) × settled))

-- The frames of these bytes were answered up to the rest, from one state to another. Behind some of them all was settled, and what was told
-- of these is written. What was told of the others waits.
pub record Proceeds {S : Type 0} (answers : Relation S) (is_settled : S → Type 0) (first : S) (count : ℕ) (bytes output unsaid : List ℕ) (last : S) (later : ℕ) (rest : List ℕ) : Type 0 where
  pub steps : List (Step S)
  pub mid : S
  pub chain : IsChain answers first steps mid
  pub settled : is_settled mid
  pub written : output ≡ text_in steps
  pub waiting : List (Step S)
  pub went_on : IsChain answers mid waiting last
  pub told : unsaid ≡ text_in waiting
  pub cut : Cuts count bytes (frames_in steps ++ frames_in waiting) later rest
