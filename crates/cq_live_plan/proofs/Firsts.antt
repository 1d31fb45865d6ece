-- The first step that can't be done, by the step that comes next.
use Rattle.std.proofs.Common.{◌≡◌, ◌≤◌, ◌<◌, ℕ, zero, suc, ◌+◌, ◌∙◌, ap, sym, refl, subst, cond, List, [], ◌∷◌, ◌++◌, length, take, drop, slice_get, append-nil, append_assoc, Bool, true, false, Option, Some, None, arith}
use Rattle.std.proofs.lemmas.List.{drop_all, length-take-le}
use Rattle.std.proofs.lemmas.Option.{slice_get_within, same_Some, none-some}
use Rattle.cq_live_plan.specs.Steps.{is_bad, first_bad}
use Rattle.cq_live_plan.specs.declared.step.LiveStep.{LiveStep}

-- by the first of the steps
first_step : (size : ℕ) (before : List LiveStep) (s : LiveStep) (ss : List LiveStep) → first_bad size before (s ∷ ss) ≡ cond (is_bad size before s) (Some (length before + 1)) (first_bad size (before ++ s ∷ []) ss)
unfolding first_bad
first_step size before s ss = refl

no_step : (size : ℕ) (before : List LiveStep) → first_bad size before [] ≡ None
unfolding first_bad
no_step size before = refl

-- the steps from a place on, and those up to it
from_place : (steps : List LiveStep) (i : ℕ) (s : LiveStep) → slice_get steps i ≡ Some s → drop i steps ≡ s ∷ drop (suc i) steps
from_place [] i s here = absurd (none-some s here)
from_place (x ∷ xs) zero s here = ap (λ y. y ∷ xs) (same_Some x s here)
from_place (x ∷ xs) (suc i) s here = from_place xs i s here

pub to_place : (steps : List LiveStep) (i : ℕ) (s : LiveStep) → slice_get steps i ≡ Some s → take (suc i) steps ≡ take i steps ++ s ∷ []
to_place [] i s here = absurd (none-some s here)
to_place (x ∷ xs) zero s here = ap (λ y. y ∷ []) (same_Some x s here)
to_place (x ∷ xs) (suc i) s here = ap (λ us. x ∷ us) (to_place xs i s here)

module _ (size : ℕ) (steps : List LiveStep) (i : ℕ) (s : LiveStep) (here : slice_get steps i ≡ Some s) where
  at_place : first_bad size (take i steps) (drop i steps) ≡ cond (is_bad size (take i steps) s) (Some (i + 1)) (first_bad size (take (suc i) steps) (drop (suc i) steps))
  at_place = ap (first_bad size (take i steps)) (from_place steps i s here) ∙ first_step size (take i steps) s (drop (suc i) steps)
      ∙ ap (λ n. cond (is_bad size (take i steps) s) (Some (n + 1)) (first_bad size (take i steps ++ s ∷ []) (drop (suc i) steps))) (length-take-le i steps (omega (arith, slice_get_within steps i s here)))
      ∙ ap (λ us. cond (is_bad size (take i steps) s) (Some (i + 1)) (first_bad size us (drop (suc i) steps))) (sym (to_place steps i s here))

  next : (n : ℕ) → suc n ≡ n + 1
  next n = omega (arith)

  -- the step at that place can't be done
  pub bad_here : is_bad size (take i steps) s ≡ true → first_bad size (take i steps) (drop i steps) ≡ Some (i + 1)
  bad_here is = at_place ∙ ap (λ t. cond t (Some (i + 1)) (first_bad size (take (suc i) steps) (drop (suc i) steps))) is

  -- it can
  pub good_here : is_bad size (take i steps) s ≡ false → first_bad size (take (i + 1) steps) (drop (i + 1) steps) ≡ first_bad size (take i steps) (drop i steps)
  good_here is = subst (λ n. first_bad size (take n steps) (drop n steps) ≡ first_bad size (take i steps) (drop i steps)) (next i) (sym (at_place ∙ ap (λ t. cond t (Some (i + 1)) (first_bad size (take (suc i) steps) (drop (suc i) steps))) is))

-- there is no such place
pub all_good : (size : ℕ) (steps : List LiveStep) (i : ℕ) → length steps ≤ i → first_bad size (take i steps) (drop i steps) ≡ None
all_good size steps i end = ap (first_bad size (take i steps)) (drop_all i steps end) ∙ no_step size (take i steps)
