-- The first that passes a test, by the filter with it.
use Rattle.std.proofs.Common.{◌≡◌, ◌∙◌, ap, List, [], ◌∷◌, Option, Some, None, Bool, true, false, cond, refl}
use Rattle.std.specs.List.{filter, find}

-- the first of a list
abbrev first_of : {X : Type 0} → List X → Option X
first_of [] = None
first_of (x ∷ xs) = Some x

-- a step of the next lemma, by whether the first element passes
chosen_first : {X : Type 0} (b : Bool) (x : X) (found : Option X) (xs : List X) → found ≡ first_of xs → cond b (Some x) found ≡ first_of (cond b (x ∷ xs) xs)
chosen_first true x found xs h = refl
chosen_first false x found xs h = h

-- what is found is the first of what passes
find-filter : {X : Type 0} (p : X → Bool) (xs : List X) → find p xs ≡ first_of (filter p xs)
find-filter p [] = refl
find-filter p (x ∷ xs) = chosen_first (p x) x (find p xs) (filter p xs) (find-filter p xs)

-- where one alone passes, it is found
pub find-one : {X : Type 0} (p : X → Bool) (xs : List X) (x : X) → filter p xs ≡ x ∷ [] → find p xs ≡ Some x
find-one p xs x h = find-filter p xs ∙ ap (λ ys. first_of ys) h

-- where none passes, none is found
pub find-none : {X : Type 0} (p : X → Bool) (xs : List X) → filter p xs ≡ [] → find p xs ≡ None
find-none p xs h = find-filter p xs ∙ ap (λ ys. first_of ys) h
