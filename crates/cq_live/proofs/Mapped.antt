-- Lists that are mapped to the same.
use Rattle.std.proofs.Common.{◌≡◌, ℕ, zero, suc, arith, ◌∙◌, ap, refl, sym, List, [], ◌∷◌, length, map, slice_get, Some}
use Rattle.std.proofs.lemmas.List.{length-map}
use Rattle.std.proofs.lemmas.Option.{same_Some, none-some}

-- ---- heads and tails

abbrev rest_of : {X : Type 0} → List X → List X
rest_of [] = []
rest_of (x ∷ xs) = xs

same_first : {X : Type 0} (x y : X) (xs ys : List X) → x ∷ xs ≡ y ∷ ys → x ≡ y
same_first x y xs ys e = same_Some x y (ap (λ zs. slice_get zs 0) e)

same_rest : {X : Type 0} (x y : X) (xs ys : List X) → x ∷ xs ≡ y ∷ ys → xs ≡ ys
same_rest x y xs ys e = ap rest_of e

-- ---- maps

pub fused : {X Y Z : Type 0} (g : Y → Z) (f : X → Y) (xs : List X) → map g (map f xs) ≡ map (λ x. g (f x)) xs
fused g f [] = refl
fused g f (x ∷ xs) = ap (λ zs. g (f x) ∷ zs) (fused g f xs)

-- what is mapped to the same, mapped further
pub through : {X Y Z W : Type 0} (f : X → Z) (g : Y → Z) (h : Z → W) (xs : List X) (ys : List Y) → map f xs ≡ map g ys → map (λ x. h (f x)) xs ≡ map (λ y. h (g y)) ys
through f g h xs ys same = sym (fused h f xs) ∙ ap (map h) same ∙ fused h g ys

-- two maps together
pub together : {X A B C : Type 0} (h : A → B → C) (f : X → A) (g : X → B) (k : C → A) (l : C → B) (whole : (c : C) → h (k c) (l c) ≡ c) (xs : List X) (cs : List C) → map f xs ≡ map k cs → map g xs ≡ map l cs → map (λ x. h (f x) (g x)) xs ≡ cs
together h f g k l whole [] [] one two = refl
together h f g k l whole [] (c ∷ cs) one two = absurd (none-some (k c) (ap (λ zs. slice_get zs 0) one))
together h f g k l whole (x ∷ xs) [] one two = absurd (none-some (f x) (ap (λ zs. slice_get zs 0) (sym one)))
together h f g k l whole (x ∷ xs) (c ∷ cs) one two =
    ap (λ y. y ∷ map (λ z. h (f z) (g z)) xs) (ap (λ a. h a (g x)) (same_first (f x) (k c) (map f xs) (map k cs) one) ∙ ap (h (k c)) (same_first (g x) (l c) (map g xs) (map l cs) two) ∙ whole c)
    ∙ ap (λ ys. c ∷ ys) (together h f g k l whole xs cs (same_rest (f x) (k c) (map f xs) (map k cs) one) (same_rest (g x) (l c) (map g xs) (map l cs) two))

-- the same at each place
pub same_map : {X Y : Type 0} (f : X → Y) (old new : List X) → length new ≡ length old → ((i : ℕ) (a b : X) → slice_get old i ≡ Some a → slice_get new i ≡ Some b → f b ≡ f a) → map f new ≡ map f old
same_map f [] [] long each = refl
same_map f [] (y ∷ ys) long each = absurd (omega (arith, long))
same_map f (x ∷ xs) [] long each = absurd (omega (arith, long))
same_map f (x ∷ xs) (y ∷ ys) long each = ap (λ z. z ∷ map f ys) (each zero x y refl refl) ∙ ap (λ zs. f x ∷ zs) (same_map f xs ys (omega (arith, long)) (λ i a b. each (suc i) a b))

-- ---- lengths

pub same_length : {X Y Z : Type 0} (f : X → Z) (g : Y → Z) (xs : List X) (ys : List Y) → map f xs ≡ map g ys → length xs ≡ length ys
same_length f g xs ys same = sym (length-map xs f) ∙ ap length same ∙ length-map ys g
