-- What is among the elements of a list that was made from others.
use Rattle.std.proofs.Common.{◌≡◌, ℕ, ◌∙◌, ◌⊎◌, ap, sym, List, [], ◌∷◌, ◌++◌, map, take, drop, Bool, true, false, cond, inl, inr, subst, refl}
use Rattle.std.specs.List.{filter, flat_map, list_any, find}
use Rattle.std.specs.Prelude.{Option, Some, None}
use Rattle.std.proofs.lemmas.Bool.{or_parts, both_ways}
use Rattle.std.proofs.lemmas.List.{take-append-drop}
use Rattle.cq_base.specs.Relations.{Among}

-- in one of two lists joined
pub among-append : {X : Type 0} (x : X) (xs ys : List X) → Among x (xs ++ ys) → Among x xs ⊎ Among x ys
among-append x [] ys h = inr h
among-append x (z ∷ xs) ys (inl e) = inl (inl e)
among-append x (z ∷ xs) ys (inr h) = elim (among-append x xs ys h) [ inl l ↦ inl (inr l) | inr r ↦ inr r ]

-- in the first of two lists joined
pub among-left : {X : Type 0} (x : X) (xs ys : List X) → Among x xs → Among x (xs ++ ys)
among-left x [] ys h = absurd h
among-left x (z ∷ xs) ys (inl e) = inl e
among-left x (z ∷ xs) ys (inr h) = inr (among-left x xs ys h)

-- in the second
pub among-right : {X : Type 0} (x : X) (xs ys : List X) → Among x ys → Among x (xs ++ ys)
among-right x [] ys h = h
among-right x (z ∷ xs) ys h = inr (among-right x xs ys h)

-- a step of the next lemma, by whether the first element passes
among_chosen : {X : Type 0} (b : Bool) (p : X → Bool) (x y : X) (ys zs : List X) → p y ≡ b → (Among x zs → Among x ys × (p x ≡ true)) → Among x (cond b (y ∷ zs) zs) → Among x (y ∷ ys) × (p x ≡ true)
among_chosen true p x y ys zs passes rest (inl e) = (inl e, ap p e ∙ passes)
among_chosen true p x y ys zs passes rest (inr h) = (inr (rest h).0, (rest h).1)
among_chosen false p x y ys zs fails rest h = (inr (rest h).0, (rest h).1)

-- what passed a filter is of the list, and passes
pub among-filter : {X : Type 0} (p : X → Bool) (x : X) (xs : List X) → Among x (filter p xs) → Among x xs × (p x ≡ true)
among-filter p x [] h = absurd h
among-filter p x (y ∷ ys) h = among_chosen (p y) p x y ys (filter p ys) refl (λ r. among-filter p x ys r) h

-- a step of the next lemma, by whether the first element passes
among_kept : {X : Type 0} (b : Bool) (p : X → Bool) (x y : X) (ys zs : List X) → p y ≡ b → p x ≡ true → (Among x ys → Among x zs) → Among x (y ∷ ys) → Among x (cond b (y ∷ zs) zs)
among_kept true p x y ys zs passes own rest (inl e) = inl e
among_kept true p x y ys zs passes own rest (inr h) = inr (rest h)
among_kept false p x y ys zs fails own rest (inl e) = absurd (both_ways (p y) fails (ap p (sym e) ∙ own))
among_kept false p x y ys zs fails own rest (inr h) = rest h

-- what is of the list and passes is in the filter
pub among-kept : {X : Type 0} (p : X → Bool) (x : X) (xs : List X) → p x ≡ true → Among x xs → Among x (filter p xs)
among-kept p x [] own h = absurd h
among-kept p x (y ∷ ys) own h = among_kept (p y) p x y ys (filter p ys) refl own (λ r. among-kept p x ys own r) h

-- in a map, as the image of one
pub among-map : {X Y : Type 0} (f : X → Y) (y : Y) (xs : List X) → Among y (map f xs) → (x : X) × Among x xs × (y ≡ f x)
among-map f y [] h = absurd h
among-map f y (x ∷ xs) (inl e) = (x, inl refl, e)
among-map f y (x ∷ xs) (inr h) = let r = among-map f y xs h in (r.0, inr r.1, r.2)

-- the image of one is in the map
pub among-image : {X Y : Type 0} (f : X → Y) (x : X) (xs : List X) → Among x xs → Among (f x) (map f xs)
among-image f x [] h = absurd h
among-image f x (y ∷ ys) (inl e) = inl (ap f e)
among-image f x (y ∷ ys) (inr h) = inr (among-image f x ys h)

-- in one of the lists that a flat map joins
pub among-flat_map : {X Y : Type 0} (f : X → List Y) (y : Y) (xs : List X) → Among y (flat_map f xs) → (x : X) × Among x xs × Among y (f x)
among-flat_map f y [] h = absurd h
among-flat_map f y (x ∷ xs) h = elim (among-append y (f x) (flat_map f xs) h) [ inl l ↦ (x, inl refl, l) | inr r ↦ let s = among-flat_map f y xs r in (s.0, inr s.1, s.2) ]

-- what is among the first of a list is of the list
pub among-take : {X : Type 0} (n : ℕ) (x : X) (xs : List X) → Among x (take n xs) → Among x xs
among-take n x xs h = subst (λ ys. Among x ys) (take-append-drop n xs) (among-left x (take n xs) (drop n xs) h)

-- where none passes, each fails
pub none-any : {X : Type 0} (p : X → Bool) (x : X) (xs : List X) → list_any p xs ≡ false → Among x xs → p x ≡ false
none-any p x [] none h = absurd h
none-any p x (y ∷ ys) none (inl e) = ap p e ∙ (or_parts (p y) (list_any p ys) none).0
none-any p x (y ∷ ys) none (inr h) = none-any p x ys (or_parts (p y) (list_any p ys) none).1 h

-- equal somethings are of equal things
some_injective : {X : Type 0} (x y : X) → Some x ≡ Some y → x ≡ y
some_injective x y h = cc

-- something isn't nothing
some_none : {X : Type 0} (x : X) → Some x ≡ None → ⊥
some_none x h = cc

-- none is found only where the first fails, and none of the rest is found
found_none : {X : Type 0} (b : Bool) (x : X) (found : Option X) → cond b (Some x) found ≡ None → (b ≡ false) × (found ≡ None)
found_none true x found h = absurd (some_none x h)
found_none false x found h = (refl, h)

-- where none is found, each fails
pub none-find : {X : Type 0} (p : X → Bool) (x : X) (xs : List X) → find p xs ≡ None → Among x xs → p x ≡ false
none-find p x [] none h = absurd h
none-find p x (y ∷ ys) none (inl e) = ap p e ∙ (found_none (p y) y (find p ys) none).0
none-find p x (y ∷ ys) none (inr h) = none-find p x ys (found_none (p y) y (find p ys) none).1 h

-- a step of the next lemma, by whether the first element passes
found_chosen : {X : Type 0} (b : Bool) (p : X → Bool) (x y : X) (ys : List X) (found : Option X) → p y ≡ b → (found ≡ Some x → Among x ys × (p x ≡ true)) → cond b (Some y) found ≡ Some x → Among x (y ∷ ys) × (p x ≡ true)
found_chosen true p x y ys found passes rest h = let e : y ≡ x = some_injective y x h in (inl (sym e), ap p (sym e) ∙ passes)
found_chosen false p x y ys found fails rest h = let r = rest h in (inr r.0, r.1)

-- what is found is of the list, and passes
pub found-among : {X : Type 0} (p : X → Bool) (x : X) (xs : List X) → find p xs ≡ Some x → Among x xs × (p x ≡ true)
found-among p x [] h = absurd (some_none x (sym h))
found-among p x (y ∷ ys) h = found_chosen (p y) p x y ys (find p ys) refl (λ r. found-among p x ys r) h
