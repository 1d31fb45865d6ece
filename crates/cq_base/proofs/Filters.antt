-- What passes a test of a list, and of what is made from lists.
use Rattle.std.proofs.Common.{◌≡◌, ◌∙◌, ◌&&◌, ap, sym, List, [], ◌∷◌, ◌++◌, map, Bool, true, false, cond, inl, inr, refl}
use Rattle.std.specs.List.{filter, flat_map}
use Rattle.std.proofs.lemmas.List.Elements.{filter-append, filter_agree}
use Rattle.cq_base.specs.Relations.{Among}

both_cons : {X : Type 0} (a : Bool) (p q : X → Bool) (x : X) (xs : List X) → p x ≡ a → filter q (filter p xs) ≡ filter (λ y. p y && q y) xs → filter q (cond a (x ∷ filter p xs) (filter p xs)) ≡ cond (a && q x) (x ∷ filter (λ y. p y && q y) xs) (filter (λ y. p y && q y) xs)
both_cons true p q x xs e h = ap (λ r. cond (q x) (x ∷ r) r) h
both_cons false p q x xs e h = h

-- what passes q of what passes p is what passes both
pub filter-filter : {X : Type 0} (p q : X → Bool) (xs : List X) → filter q (filter p xs) ≡ filter (λ y. p y && q y) xs
filter-filter p q [] = refl
filter-filter p q (x ∷ xs) = both_cons (p x) p q x xs refl (filter-filter p q xs)

-- where each fails, nothing passes
pub filter-none : {X : Type 0} (p : X → Bool) (xs : List X) → ((x : X) → Among x xs → p x ≡ false) → filter p xs ≡ []
filter-none p [] fails = refl
filter-none p (x ∷ xs) fails = let first = fails x (inl refl) in rw first (filter-none p xs (λ y m. fails y (inr m)))

-- where each passes, all are kept
pub filter-all : {X : Type 0} (p : X → Bool) (xs : List X) → ((x : X) → Among x xs → p x ≡ true) → filter p xs ≡ xs
filter-all p [] passes = refl
filter-all p (x ∷ xs) passes = ap (λ b. cond b (x ∷ filter p xs) (filter p xs)) (passes x (inl refl)) ∙ ap (λ ys. x ∷ ys) (filter-all p xs (λ y m. passes y (inr m)))

-- two tests that agree on the list's elements keep the same of it
pub filter-agrees : {X : Type 0} (p q : X → Bool) (xs : List X) → ((x : X) → Among x xs → p x ≡ q x) → filter p xs ≡ filter q xs
filter-agrees p q [] agree = refl
filter-agrees p q (x ∷ xs) agree = ap (λ b. cond b (x ∷ filter p xs) (filter p xs)) (agree x (inl refl)) ∙ ap (λ ys. cond (q x) (x ∷ ys) ys) (filter-agrees p q xs (λ y m. agree y (inr m)))

-- a step of the next lemma, by whether the first element passes
chosen_map : {X Y : Type 0} (b : Bool) (f : X → Y) (x : X) (xs : List X) → cond b (f x ∷ map f xs) (map f xs) ≡ map f (cond b (x ∷ xs) xs)
chosen_map true f x xs = refl
chosen_map false f x xs = refl

-- what passes of an image is the image of what passes there
pub filter-map : {X Y : Type 0} (p : Y → Bool) (f : X → Y) (xs : List X) → filter p (map f xs) ≡ map f (filter (λ x. p (f x)) xs)
filter-map p f [] = refl
filter-map p f (x ∷ xs) = ap (λ ys. cond (p (f x)) (f x ∷ ys) ys) (filter-map p f xs) ∙ chosen_map (p (f x)) f x (filter (λ y. p (f y)) xs)

-- what passes of lists joined is joined of what passes of each
pub filter-flat_map : {X Y : Type 0} (p : Y → Bool) (f : X → List Y) (xs : List X) → filter p (flat_map f xs) ≡ flat_map (λ x. filter p (f x)) xs
filter-flat_map p f [] = refl
filter-flat_map p f (x ∷ xs) = filter-append p (f x) (flat_map f xs) ∙ ap (λ ys. filter p (f x) ++ ys) (filter-flat_map p f xs)

-- a test and itself
and_twice : (b : Bool) → (b && b) ≡ b
and_twice true = refl
and_twice false = refl

-- a filter twice is the filter once
pub filter-twice : {X : Type 0} (p : X → Bool) (xs : List X) → filter p (filter p xs) ≡ filter p xs
filter-twice p xs = filter-filter p p xs ∙ filter_agree (λ x. p x && p x) p (λ x. and_twice (p x)) xs

-- two tests in either order
and_swapped : (a b : Bool) → (a && b) ≡ (b && a)
and_swapped true true = refl
and_swapped true false = refl
and_swapped false true = refl
and_swapped false false = refl

-- two filters may change places
pub filter-swapped : {X : Type 0} (p q : X → Bool) (xs : List X) → filter q (filter p xs) ≡ filter p (filter q xs)
filter-swapped p q xs = filter-filter p q xs ∙ filter_agree (λ x. p x && q x) (λ x. q x && p x) (λ x. and_swapped (p x) (q x)) xs ∙ sym (filter-filter q p xs)
