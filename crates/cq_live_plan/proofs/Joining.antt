-- What steps one after another ask for.
use Rattle.std.proofs.Common.{◌≡◌, ℕ, suc, ◌+◌, ◌∙◌, ap, subst, List, [], ◌∷◌, ◌++◌, take, slice_get, Some, zero, refl, arith}
use Rattle.std.proofs.lemmas.Option.{same_Some, none-some}
use Rattle.cq_live_plan.specs.Steps.{to_join, joins_of}
use Rattle.cq_live_plan.specs.declared.step.LiveStep.{LiveStep}
use Rattle.cq_live_plan.specs.declared.step.LiveStep.TheVariants.{Client, Crash, Join}

-- of two lists joined
joins_append : (xs ys : List LiveStep) → joins_of (xs ++ ys) ≡ joins_of xs ++ joins_of ys
joins_append [] ys = refl
joins_append (Client client ask ∷ xs) ys = joins_append xs ys
joins_append (Crash server after ∷ xs) ys = joins_append xs ys
joins_append (Join server after ∷ xs) ys = ap (λ us. to_join server after ∷ us) (joins_append xs ys)

-- the steps up to one are those before it, and it
to_place : (steps : List LiveStep) (i : ℕ) (s : LiveStep) → slice_get steps i ≡ Some s → take (suc i) steps ≡ take i steps ++ s ∷ []
to_place [] i s here = absurd (none-some s here)
to_place (x ∷ xs) zero s here = ap (λ y. y ∷ []) (same_Some x s here)
to_place (x ∷ xs) (suc i) s here = ap (λ us. x ∷ us) (to_place xs i s here)

-- with one step more
pub joins_more : (steps : List LiveStep) (i : ℕ) (s : LiveStep) → slice_get steps i ≡ Some s → joins_of (take (i + 1) steps) ≡ joins_of (take i steps) ++ joins_of (s ∷ [])
joins_more steps i s here = subst (λ n. joins_of (take n steps) ≡ joins_of (take i steps) ++ joins_of (s ∷ [])) (next i) (ap joins_of (to_place steps i s here) ∙ joins_append (take i steps) (s ∷ [])) where
  next : (n : ℕ) → suc n ≡ n + 1
  next n = omega (arith)
