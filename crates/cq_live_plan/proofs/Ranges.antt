-- The first servers, one after another.
use Rattle.std.proofs.Common.{◌≡◌, ◌==◌, ◌<◌, ◌+◌, ◌&&◌, ◌||◌, ℕ, zero, suc, ◌∙◌, ap, sym, refl, subst, List, Bool, true, false, arith}
use Rattle.std.proofs.lemmas.Bool.{eqb-true, eqb-false}
use Rattle.cq_live_plan.specs.Steps.{is_crashed, are_crashed}
use Rattle.cq_live_plan.specs.declared.step.LiveStep.{LiveStep}

abbrev pub gone : List LiveStep → ℕ → ℕ → Bool
gone steps id number = number == id || is_crashed steps number

next : (n : ℕ) → suc n ≡ n + 1
next n = omega (arith)

-- with one server more
pub one_more : (steps : List LiveStep) (id n : ℕ) → are_crashed steps id n ≡ true → gone steps id (n + 1) ≡ true → are_crashed steps id (n + 1) ≡ true
one_more steps id n all own = subst (λ m. are_crashed steps id m ≡ true) (next n) (ap (λ t. t && gone steps id (n + 1)) all ∙ own)

-- one that lives is enough
pub one_lives : (steps : List LiveStep) (id n size : ℕ) → n < size → gone steps id (n + 1) ≡ false → are_crashed steps id size ≡ false
one_lives steps id n zero below own = absurd (omega (arith, below))
one_lives steps id n (suc size) below own = go (n == size) refl (λ under. one_lives steps id n size under own) where
  last : (t : Bool) → gone steps id (size + 1) ≡ false → (t && gone steps id (size + 1)) ≡ false
  last true h = h
  last false h = refl

  under : (n == size) ≡ false → n < size
  under e = omega (arith, below, eqb-false n size e)

  go : (t : Bool) → (n == size) ≡ t → (n < size → are_crashed steps id size ≡ false) → (are_crashed steps id size && gone steps id (size + 1)) ≡ false
  go true e rest = last (are_crashed steps id size) (subst (λ m. gone steps id (m + 1) ≡ false) (eqb-true n size e) own)
  go false e rest = ap (λ t. t && gone steps id (size + 1)) (rest (under e))
