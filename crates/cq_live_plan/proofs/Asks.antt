-- What a client asks by steps one after another.
use Rattle.std.proofs.Common.{◌≡◌, ℕ, suc, ◌+◌, ◌==◌, ◌∙◌, ap, sym, refl, subst, cond, List, [], ◌∷◌, ◌++◌, take, slice_get, Bool, true, false, Some, arith}
use Rattle.cq_base.specs.declared.ask.Ask.{Ask}
use Rattle.cq_live_plan.proofs.Firsts.{to_place}
use Rattle.cq_live_plan.specs.Steps.{asks_of}
use Rattle.cq_live_plan.specs.declared.step.LiveStep.{LiveStep}
use Rattle.cq_live_plan.specs.declared.step.LiveStep.TheVariants.{Client, Crash, Join}

-- of two lists joined
asks_append : (c : ℕ) (xs ys : List LiveStep) → asks_of c (xs ++ ys) ≡ asks_of c xs ++ asks_of c ys
asks_append c [] ys = refl
asks_append c (Client client ask ∷ xs) ys = go (client == c) (asks_append c xs ys) where
  go : (t : Bool) → asks_of c (xs ++ ys) ≡ asks_of c xs ++ asks_of c ys → cond t (ask ∷ asks_of c (xs ++ ys)) (asks_of c (xs ++ ys)) ≡ cond t (ask ∷ asks_of c xs) (asks_of c xs) ++ asks_of c ys
  go true h = ap (λ us. ask ∷ us) h
  go false h = h
asks_append c (Crash server after ∷ xs) ys = asks_append c xs ys
asks_append c (Join server after ∷ xs) ys = asks_append c xs ys

-- with one step more
pub asks_more : (c : ℕ) (steps : List LiveStep) (i : ℕ) (s : LiveStep) → slice_get steps i ≡ Some s → asks_of c (take (i + 1) steps) ≡ asks_of c (take i steps) ++ asks_of c (s ∷ [])
asks_more c steps i s here = subst (λ n. asks_of c (take n steps) ≡ asks_of c (take i steps) ++ asks_of c (s ∷ [])) (next i) (ap (asks_of c) (to_place steps i s here) ∙ asks_append c (take i steps) (s ∷ [])) where
  next : (n : ℕ) → suc n ≡ n + 1
  next n = omega (arith)
