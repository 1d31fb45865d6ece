-- What stands at a place of a list, and of a list that it is mapped to.
use Rattle.std.proofs.Common.{◌≡◌, ◌⊎◌, ◌<◌, ℕ, zero, suc, arith, ◌∙◌, ap, refl, subst, inl, inr, List, [], ◌∷◌, ◌++◌, length, map, drop, slice_get, slice_index_or, Some}
use Rattle.std.specs.List.{All}
use Rattle.std.proofs.lemmas.List.Elements.{All-head, All-tail}
use Rattle.std.proofs.lemmas.Option.{same_Some, none-some}

-- an image at a place is that of what stands there
pub image_at : {X Y : Type 0} (f : X → Y) (xs : List X) (i : ℕ) (y : Y) → slice_get (map f xs) i ≡ Some y → (x : X) × (slice_get xs i ≡ Some x) × (f x ≡ y)
image_at f [] i y is = absurd (none-some y is)
image_at f (x ∷ xs) zero y is = (x, refl, same_Some (f x) y is)
image_at f (x ∷ xs) (suc i) y is = image_at f xs i y is

-- what stands at a place has its image there
pub mapped_at : {X Y : Type 0} (f : X → Y) (xs : List X) (i : ℕ) (x : X) → slice_get xs i ≡ Some x → slice_get (map f xs) i ≡ Some (f x)
mapped_at f [] i x is = absurd (none-some x is)
mapped_at f (y ∷ xs) zero x is = ap (λ z. Some (f z)) (same_Some y x is)
mapped_at f (y ∷ xs) (suc i) x is = mapped_at f xs i x is

-- a list that is as long has something at the same place
pub beside : {X Y : Type 0} (xs : List X) (ys : List Y) → length ys ≡ length xs → (i : ℕ) (y : Y) → slice_get ys i ≡ Some y → (x : X) × (slice_get xs i ≡ Some x)
beside xs [] long i y is = absurd (none-some y is)
beside [] (z ∷ ys) long i y is = absurd (omega (arith, long))
beside (x ∷ xs) (z ∷ ys) long zero y is = (x, refl)
beside (x ∷ xs) (z ∷ ys) long (suc i) y is = beside xs ys (omega (arith, long)) i y is

-- where both lists are mapped to the same, what stands at a place has a counterpart
pub counterpart : {X Y Z : Type 0} (f : X → Z) (g : Y → Z) (xs : List X) (ys : List Y) → map f xs ≡ map g ys → (i : ℕ) (y : Y) → slice_get ys i ≡ Some y → (x : X) × (slice_get xs i ≡ Some x) × (f x ≡ g y)
counterpart f g xs ys same i y is = image_at f xs i (g y) (ap (λ zs. slice_get zs i) same ∙ mapped_at g ys i y is)

-- what holds of each of a list holds of what stands at a place
pub all_at : {X : Type 0} (P : X → Type 0) (xs : List X) (i : ℕ) (x : X) → All P xs → slice_get xs i ≡ Some x → P x
all_at P [] i x all is = absurd (none-some x is)
all_at P (y ∷ xs) zero x all is = subst P (same_Some y x is) (All-head P y xs all)
all_at P (y ∷ xs) (suc i) x all is = all_at P xs i x (All-tail P y xs all) is

-- of a list with one more behind it, what stands at a place stood there before, or is the one more
pub pushed_at : {X : Type 0} (xs : List X) (x : X) (i : ℕ) (y : X) → slice_get (xs ++ x ∷ []) i ≡ Some y → (slice_get xs i ≡ Some y) ⊎ ((i ≡ length xs) × (x ≡ y))
pushed_at [] x zero y is = inr (refl, same_Some x y is)
pushed_at [] x (suc i) y is = absurd (none-some y is)
pushed_at (z ∷ xs) x zero y is = inl is
pushed_at (z ∷ xs) x (suc i) y is = go (pushed_at xs x i y is) where
  go : (slice_get xs i ≡ Some y) ⊎ ((i ≡ length xs) × (x ≡ y)) → (slice_get xs i ≡ Some y) ⊎ ((suc i ≡ suc (length xs)) × (x ≡ y))
  go (inl there) = inl there
  go (inr last) = inr (ap (λ n. suc n) last.0, last.1)

-- the first of a list that was taken out, and the others
pub first_out : {X : Type 0} (xs : List X) (x : X) (ys : List X) → 0 < length xs → x ≡ slice_index_or xs 0 x → ys ≡ drop 1 xs → x ∷ ys ≡ xs
first_out [] x ys some is rest = absurd (omega (arith, some))
first_out (z ∷ xs) x ys some is rest = ap (λ y. y ∷ ys) is ∙ ap (λ zs. z ∷ zs) rest
