-- Filters and tests of a list with one more at its end.
use Rattle.std.proofs.Common.{◌≡◌, ◌∙◌, ◌&&◌, ◌||◌, ap, List, [], ◌∷◌, ◌++◌, Bool, true, false, cond, append-nil, refl}
use Rattle.std.specs.List.{filter, list_all, list_any}
use Rattle.std.proofs.lemmas.Bool.{or_right}
use Rattle.std.proofs.lemmas.List.Elements.{filter-append}
use Rattle.std.proofs.lemmas.List.Folds.{list_all-append, list_any-append}

-- one more that passes stands at the end of what passed
pub filter-passes : {X : Type 0} (p : X → Bool) (xs : List X) (x : X) → p x ≡ true → filter p (xs ++ x ∷ []) ≡ filter p xs ++ x ∷ []
filter-passes p xs x h = filter-append p xs (x ∷ []) ∙ ap (λ b. filter p xs ++ cond b (x ∷ []) []) h

-- one more that fails changes nothing
pub filter-fails : {X : Type 0} (p : X → Bool) (xs : List X) (x : X) → p x ≡ false → filter p (xs ++ x ∷ []) ≡ filter p xs
filter-fails p xs x h = filter-append p xs (x ∷ []) ∙ ap (λ b. filter p xs ++ cond b (x ∷ []) []) h ∙ append-nil (filter p xs)

-- a test and one that passes
and_true : (b : Bool) → (b && true) ≡ b
and_true true = refl
and_true false = refl

-- a test or one that fails
or_false : (b : Bool) → (b || false) ≡ b
or_false true = refl
or_false false = refl

-- one more that passes doesn't change whether all pass
pub all-passes : {X : Type 0} (p : X → Bool) (xs : List X) (x : X) → p x ≡ true → list_all p (xs ++ x ∷ []) ≡ list_all p xs
all-passes p xs x h = list_all-append p xs (x ∷ []) ∙ ap (λ b. list_all p xs && (b && true)) h ∙ and_true (list_all p xs)

-- one more that fails doesn't change whether any passes
pub any-fails : {X : Type 0} (p : X → Bool) (xs : List X) (x : X) → p x ≡ false → list_any p (xs ++ x ∷ []) ≡ list_any p xs
any-fails p xs x h = list_any-append p xs (x ∷ []) ∙ ap (λ b. list_any p xs || (b || false)) h ∙ or_false (list_any p xs)

-- with one more that passes, one passes
pub any-passes : {X : Type 0} (p : X → Bool) (xs : List X) (x : X) → p x ≡ true → list_any p (xs ++ x ∷ []) ≡ true
any-passes p xs x h = list_any-append p xs (x ∷ []) ∙ or_right (list_any p xs) (p x || false) (ap (λ b. b || false) h)
