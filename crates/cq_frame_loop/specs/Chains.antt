-- Frames that are answered one after another.
use Rattle.std.specs.Prelude.{◌≡◌, ℕ, List, [], ◌∷◌, ◌++◌, map, Option, ⊤}
use Rattle.std.specs.List.{flat_map}
use Rattle.cq_base.specs.Relations.{IsPrefix}

-- What may be told of a frame, and the states before and after it. Of a frame that is too long there is none.
abbrev pub Relation : Type 0 → Type 1
Relation S = S → Option (List ℕ) → List ℕ → S → Type 0

-- What a frame that can't be answered makes of a state.
abbrev pub Breaks : Type 0 → Type 1
Breaks S = S → Option (List ℕ) → S → Type 0

-- anything
abbrev pub any_break : {S : Type 0} → Breaks S
any_break before frame after = ⊤

-- a frame that was answered, what was told of it, and the state after it
pub record Step (S : Type 0) : Type 0 where
  pub frame : Option (List ℕ)
  pub text : List ℕ
  pub after : S

-- the frames that were answered
abbrev pub frames_in : {S : Type 0} → List (Step S) → List (Option (List ℕ))
frames_in {S} steps = map (λ (step : Step S). step.frame) steps

-- all that was told of them, one behind the other
abbrev pub text_in : {S : Type 0} → List (Step S) → List ℕ
text_in {S} steps = flat_map (λ (step : Step S). step.text) steps

-- each step leads on from the state that the one before it left, and the last one to the last state
abbrev pub IsChain : {S : Type 0} → Relation S → S → List (Step S) → S → Type 0
IsChain answers first [] last = first ≡ last
IsChain answers first (step ∷ steps) last = answers first step.frame step.text step.after × IsChain answers step.after steps last

-- Each of these frames was answered, from the first state to the last one, and all that was told is the output.
pub record AnswersAll {S : Type 0} (answers : Relation S) (first : S) (frames : List (Option (List ℕ))) (output : List ℕ) (last : S) : Type 0 where
  pub steps : List (Step S)
  pub chain : IsChain answers first steps last
  pub all : frames ≡ frames_in steps
  pub whole : output ≡ text_in steps

-- The first ones of these frames were answered, up to some state, and a prefix of what was told is the output.
pub record AnswersFront {S : Type 0} (answers : Relation S) (first : S) (frames : List (Option (List ℕ))) (output : List ℕ) : Type 0 where
  pub steps : List (Step S)
  pub last : S
  pub chain : IsChain answers first steps last
  pub front : IsPrefix (frames_in steps) frames
  pub prefix : IsPrefix output (text_in steps)

-- The first ones of these frames were answered, up to some state, and the next one couldn't be. All that was told is the output.
pub record BreaksOff {S : Type 0} (answers : Relation S) (first : S) (frames : List (Option (List ℕ))) (output : List ℕ) : Type 0 where
  pub steps : List (Step S)
  pub last : S
  pub chain : IsChain answers first steps last
  pub unanswered : Option (List ℕ)
  pub later : List (Option (List ℕ))
  pub front : frames ≡ frames_in steps ++ unanswered ∷ later
  pub whole : output ≡ text_in steps
