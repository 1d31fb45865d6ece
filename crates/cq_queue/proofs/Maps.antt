-- Maps, filters and finds that come to the same.
use Rattle.std.proofs.Common.{◌≡◌, ◌∙◌, ap, List, [], ◌∷◌, ◌++◌, map, Bool, true, false, cond, Option, Some, None, append-nil, refl}
use Rattle.std.specs.List.{filter, find, last_or}
use Rattle.std.specs.Option.{option_map, option_or}
use Rattle.std.proofs.lemmas.List.Elements.{filter-append}

-- two functions that agree make the same list
pub map-agrees : {X Y : Type 0} (f g : X → Y) (xs : List X) → ((x : X) → f x ≡ g x) → map f xs ≡ map g xs
map-agrees f g [] agree = refl
map-agrees f g (x ∷ xs) agree = ap (λ y. y ∷ map f xs) (agree x) ∙ ap (λ ys. g x ∷ ys) (map-agrees f g xs agree)

-- a function that changes none makes the same list
pub map-same : {X : Type 0} (f : X → X) (xs : List X) → ((x : X) → f x ≡ x) → map f xs ≡ xs
map-same f [] same = refl
map-same f (x ∷ xs) same = ap (λ y. y ∷ map f xs) (same x) ∙ ap (λ ys. x ∷ ys) (map-same f xs same)

-- a test that all pass keeps the list
pub filter-same : {X : Type 0} (p : X → Bool) (xs : List X) → ((x : X) → p x ≡ true) → filter p xs ≡ xs
filter-same p [] passes = refl
filter-same p (x ∷ xs) passes = ap (λ b. cond b (x ∷ filter p xs) (filter p xs)) (passes x) ∙ ap (λ ys. x ∷ ys) (filter-same p xs passes)

chosen_last : {X : Type 0} (b : Bool) (xs : List X) (x : X) → xs ++ cond b (x ∷ []) [] ≡ cond b (xs ++ x ∷ []) xs
chosen_last true xs x = refl
chosen_last false xs x = append-nil xs

-- one more of the list
pub filter-more : {X : Type 0} (p : X → Bool) (xs : List X) (x : X) → filter p (xs ++ x ∷ []) ≡ cond (p x) (filter p xs ++ x ∷ []) (filter p xs)
filter-more p xs x = filter-append p xs (x ∷ []) ∙ chosen_last (p x) (filter p xs) x

-- the last of a list with one more at its end is that one
pub last_or-more : {X : Type 0} (o : Option X) (xs : List X) (x : X) → last_or o (xs ++ x ∷ []) ≡ Some x
last_or-more o [] x = refl
last_or-more o (y ∷ xs) x = last_or-more (Some y) xs x

-- the image of the first of two
pub option_map-or : {X Y : Type 0} (f : X → Y) (a b : Option X) → option_map f (option_or a b) ≡ option_or (option_map f a) (option_map f b)
option_map-or f None b = refl
option_map-or f (Some x) b = refl

found_kept : {X : Type 0} (a b : Bool) (p : X → Bool) (x : X) (ys : List X) (found : Option X) → p x ≡ b → (b ≡ true → a ≡ true) → find p ys ≡ found → find p (cond a (x ∷ ys) ys) ≡ cond b (Some x) found
found_kept true b p x ys found e follows h = ap (λ c. cond c (Some x) (find p ys)) e ∙ ap (λ o. cond b (Some x) o) h
found_kept false true p x ys found e follows h = absurd (let wrong : false ≡ true = follows refl in cc)
found_kept false false p x ys found e follows h = h

-- where all that pass p pass q, the first of those that pass both is the first that passes p
pub find-kept : {X : Type 0} (p q : X → Bool) (xs : List X) → ((x : X) → p x ≡ true → q x ≡ true) → find p (filter q xs) ≡ find p xs
find-kept p q [] follows = refl
find-kept p q (x ∷ xs) follows = found_kept (q x) (p x) p x (filter q xs) (find p xs) refl (follows x) (find-kept p q xs follows)

-- a step of the next lemma, by whether the first element passes both
filtered_kept : {X : Type 0} (a b : Bool) (p : X → Bool) (x : X) (ys zs : List X) → p x ≡ b → (b ≡ true → a ≡ true) → filter p ys ≡ zs → filter p (cond a (x ∷ ys) ys) ≡ cond b (x ∷ zs) zs
filtered_kept true b p x ys zs e follows h = ap (λ c. cond c (x ∷ filter p ys) (filter p ys)) e ∙ ap (λ rest. cond b (x ∷ rest) rest) h
filtered_kept false true p x ys zs e follows h = absurd (let wrong : false ≡ true = follows refl in cc)
filtered_kept false false p x ys zs e follows h = h

-- where all that pass p pass q, what passes both is what passes p
pub filter-kept : {X : Type 0} (p q : X → Bool) (xs : List X) → ((x : X) → p x ≡ true → q x ≡ true) → filter p (filter q xs) ≡ filter p xs
filter-kept p q [] follows = refl
filter-kept p q (x ∷ xs) follows = filtered_kept (q x) (p x) p x (filter q xs) (filter p xs) refl (follows x) (filter-kept p q xs follows)
