-- Lists of which each element is related to each later one.
use Rattle.std.proofs.Common.{List, [], ◌∷◌, ◌++◌, map, Bool, true, false, cond, sym, inl, inr, subst, refl}
use Rattle.std.specs.List.{filter}
use Rattle.cq_base.specs.Relations.{Among, Pairwise}
use Rattle.cq_base.proofs.Among.{among-append, among-right, among-filter, among-map}

-- with one more that each is related to, a list stays related in pairs
pub pairwise-push : {X : Type 0} (R : X → X → Type 0) (xs : List X) (y : X) → Pairwise R xs → ((x : X) → Among x xs → R x y) → Pairwise R (xs ++ y ∷ [])
pairwise-push R [] y h last = ((λ z none. absurd none), tt)
pairwise-push R (x ∷ xs) y h last = ((λ z m. elim (among-append z xs (y ∷ []) m) [ inl l ↦ h.0 z l | inr r ↦ elim r [ inl e ↦ subst (λ w. R x w) (sym e) (last x (inl refl)) | inr none ↦ absurd none ] ]), pairwise-push R xs y h.1 (λ z m. last z (inr m)))

-- of two lists joined, each of the first is related to each of the second
pub pairwise-apart : {X : Type 0} (R : X → X → Type 0) (xs ys : List X) (x y : X) → Pairwise R (xs ++ ys) → Among x xs → Among y ys → R x y
pairwise-apart R [] ys x y h left right = absurd left
pairwise-apart R (z ∷ zs) ys x y h (inl e) right = subst (λ w. R w y) (sym e) (h.0 y (among-right y zs ys right))
pairwise-apart R (z ∷ zs) ys x y h (inr left) right = pairwise-apart R zs ys x y h.1 left right

-- a step of the next lemma, by whether the first element passes
pairwise_chosen : {X : Type 0} (b : Bool) (R : X → X → Type 0) (p : X → Bool) (x : X) (xs : List X) → ((y : X) → Among y xs → R x y) → Pairwise R (filter p xs) → Pairwise R (cond b (x ∷ filter p xs) (filter p xs))
pairwise_chosen true R p x xs first rest = ((λ y m. first y (among-filter p y xs m).0), rest)
pairwise_chosen false R p x xs first rest = rest

-- what passes a filter stays related in pairs
pub pairwise-filter : {X : Type 0} (R : X → X → Type 0) (p : X → Bool) (xs : List X) → Pairwise R xs → Pairwise R (filter p xs)
pairwise-filter R p [] h = tt
pairwise-filter R p (x ∷ xs) h = pairwise_chosen (p x) R p x xs h.0 (pairwise-filter R p xs h.1)

-- a relation that follows for elements of the list holds of its pairs
pub pairwise-follows : {X : Type 0} (R Q : X → X → Type 0) (xs : List X) → ((x y : X) → Among x xs → Among y xs → R x y → Q x y) → Pairwise R xs → Pairwise Q xs
pairwise-follows R Q [] follows h = tt
pairwise-follows R Q (x ∷ xs) follows h = ((λ y m. follows x y (inl refl) (inr m) (h.0 y m)), pairwise-follows R Q xs (λ y z m o. follows y z (inr m) (inr o)) h.1)

-- the images of a list's elements are related as these are
pub pairwise-map : {X Y : Type 0} (R : Y → Y → Type 0) (f : X → Y) (xs : List X) → Pairwise (λ x y. R (f x) (f y)) xs → Pairwise R (map f xs)
pairwise-map R f [] h = tt
pairwise-map R f (x ∷ xs) h = ((λ y m. let r = among-map f y xs m in subst (λ w. R (f x) w) (sym r.2) (h.0 r.0 r.1)), pairwise-map R f xs h.1)
