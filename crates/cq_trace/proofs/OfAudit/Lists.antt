-- Lists with one element set, their first elements, and tests that none of them passes.
use Rattle.std.proofs.Common.{◌≡◌, ◌≢◌, ◌≤◌, ◌<◌, ℕ, zero, suc, ◌+◌, ◌∙◌, ap, sym, refl, subst, List, [], ◌∷◌, ◌++◌, length, take, drop, slice_get, Bool, true, false, ◌||◌, ◌⊎◌, Some, None, inl, inr, arith}
use Rattle.std.specs.List.{list_any}
use Rattle.std.proofs.Math.ListN.{set}
use Rattle.std.proofs.lemmas.Bool.{false≢true}
use Rattle.cq_world.proofs.Eaches.{cons_nil}

-- nothing isn't something
pub none_some : {A : Type 0} {x : A} → None ≡ Some x → ⊥
none_some h = cc

-- equal somethings are of equal things
pub some_same : {A : Type 0} {x y : A} → Some x ≡ Some y → x ≡ y
some_same h = cc

-- neither of two tests passes
pub or_none : (a b : Bool) → (a || b) ≡ false → (a ≡ false) × (b ≡ false)
or_none false b h = (refl, h)
or_none true b h = absurd (false≢true (sym h))

-- none passes a test, so no one does
pub no_any_at : {A : Type 0} (p : A → Bool) (xs : List A) (i : ℕ) (x : A) → list_any p xs ≡ false → slice_get xs i ≡ Some x → p x ≡ false
no_any_at p [] i x none at = absurd (none_some at)
no_any_at p (y ∷ ys) zero x none at = subst (λ z. p z ≡ false) (some_same at) (or_none (p y) (list_any p ys) none).0
no_any_at p (y ∷ ys) (suc i) x none at = no_any_at p ys i x (or_none (p y) (list_any p ys) none).1 at

-- none of two passes where neither does
none_or : (a b : Bool) → a ≡ false → b ≡ false → (a || b) ≡ false
none_or a b h k = ap (λ t. t || b) h ∙ k

-- nor does one of the first of them
pub no_any_take : {A : Type 0} (p : A → Bool) (n : ℕ) (xs : List A) → list_any p xs ≡ false → list_any p (take n xs) ≡ false
no_any_take p zero xs none = refl
no_any_take p (suc n) [] none = refl
no_any_take p (suc n) (x ∷ xs) none = let h = or_none (p x) (list_any p xs) none in none_or (p x) (list_any p (take n xs)) h.0 (no_any_take p n xs h.1)

-- nor does one of those behind these
pub no_any_drop : {A : Type 0} (p : A → Bool) (n : ℕ) (xs : List A) → list_any p xs ≡ false → list_any p (drop n xs) ≡ false
no_any_drop p zero xs none = none
no_any_drop p (suc n) [] none = refl
no_any_drop p (suc n) (x ∷ xs) none = no_any_drop p n xs (or_none (p x) (list_any p xs) none).1

-- what stands at a place of the first of a list
pub take_at : {A : Type 0} (n i : ℕ) (xs : List A) → i < n → slice_get (take n xs) i ≡ slice_get xs i
take_at zero i xs h = absurd (omega (arith, h))
take_at (suc n) i [] h = refl
take_at (suc n) zero (x ∷ xs) h = refl
take_at (suc n) (suc i) (x ∷ xs) h = take_at n i xs (omega (arith, h))

-- what stands from one place to another, behind what stands before it
pub take_more : {A : Type 0} (m n : ℕ) (xs : List A) → m ≤ n → take m xs ++ drop m (take n xs) ≡ take n xs
take_more zero n xs h = refl
take_more (suc m) zero xs h = absurd (omega (arith, h))
take_more (suc m) (suc n) [] h = refl
take_more (suc m) (suc n) (x ∷ xs) h = ap (λ us. x ∷ us) (take_more m n xs (omega (arith, h)))

-- nothing stands behind all
pub drop_taken : {A : Type 0} (n : ℕ) (xs : List A) → drop n (take n xs) ≡ []
drop_taken zero xs = refl
drop_taken (suc n) [] = refl
drop_taken (suc n) (x ∷ xs) = drop_taken n xs

-- something is left behind a place within
pub drop_some : {A : Type 0} (n : ℕ) (xs : List A) → n < length xs → drop n xs ≢ []
drop_some n [] h e = absurd (omega (arith, h))
drop_some zero (x ∷ xs) h e = cons_nil x xs e
drop_some (suc n) (x ∷ xs) h e = drop_some n xs (omega (arith, h)) e

-- the first that is left stands at that place
pub drop_first : {A : Type 0} (n : ℕ) (xs ys : List A) (y : A) → drop n xs ≡ y ∷ ys → slice_get xs n ≡ Some y
drop_first zero [] ys y e = absurd (cons_nil y ys (sym e))
drop_first zero (x ∷ xs) ys y e = first e where
  first : x ∷ xs ≡ y ∷ ys → Some x ≡ Some y
  first h = cc
drop_first (suc n) [] ys y e = absurd (cons_nil y ys (sym e))
drop_first (suc n) (x ∷ xs) ys y e = drop_first n xs ys y e

-- what stands at a place after one was set
pub set_cases : {A : Type 0} (xs : List A) (k : ℕ) (v : A) (j : ℕ) (n : A) → slice_get (set xs k v) j ≡ Some n → ((j ≡ k) × (n ≡ v)) ⊎ ((j ≡ k → ⊥) × (slice_get xs j ≡ Some n))
set_cases [] k v j n h = absurd (none_some h)
set_cases (x ∷ xs) zero v zero n h = inl (refl, sym (some_same h))
set_cases (x ∷ xs) zero v (suc j) n h = inr (λ e. omega (arith, e), h)
set_cases (x ∷ xs) (suc k) v zero n h = inr (λ e. omega (arith, e), h)
set_cases (x ∷ xs) (suc k) v (suc j) n h = go (set_cases xs k v j n h) where
  go : ((j ≡ k) × (n ≡ v)) ⊎ ((j ≡ k → ⊥) × (slice_get xs j ≡ Some n)) → ((suc j ≡ suc k) × (n ≡ v)) ⊎ ((suc j ≡ suc k → ⊥) × (slice_get xs j ≡ Some n))
  go (inl e) = inl (ap suc e.0, e.1)
  go (inr e) = inr (λ same. e.0 (omega (arith, same)), e.1)

-- at one place stands one thing
pub one_of : {A : Type 0} (xs : List A) (k : ℕ) (x y : A) → slice_get xs k ≡ Some x → slice_get xs k ≡ Some y → x ≡ y
one_of xs k x y h i = some_same (sym h ∙ i)

-- what is left from a place on, by the first of it
drop_suc : {A : Type 0} (xs : List A) (i : ℕ) (x : A) → slice_get xs i ≡ Some x → drop i xs ≡ x ∷ drop (suc i) xs
drop_suc [] i x h = absurd (none_some h)
drop_suc (y ∷ ys) zero x h = ap (λ z. z ∷ ys) (some_same h)
drop_suc (y ∷ ys) (suc i) x h = drop_suc ys i x h

-- one more of the first
pub take_suc : {A : Type 0} (xs : List A) (i : ℕ) (x : A) → slice_get xs i ≡ Some x → take (suc i) xs ≡ take i xs ++ x ∷ []
take_suc [] i x h = absurd (none_some h)
take_suc (y ∷ ys) zero x h = ap (λ z. z ∷ []) (some_same h)
take_suc (y ∷ ys) (suc i) x h = ap (λ us. y ∷ us) (take_suc ys i x h)

-- one more, as loops count
plus_suc : (i : ℕ) → i + 1 ≡ suc i
plus_suc i = omega arith

-- the two above, as loops count
pub drop_at : {A : Type 0} (xs : List A) (i : ℕ) (x : A) → slice_get xs i ≡ Some x → drop i xs ≡ x ∷ drop (i + 1) xs
drop_at xs i x at = drop_suc xs i x at ∙ ap (λ n. x ∷ drop n xs) (sym (plus_suc i))

pub take_at_end : {A : Type 0} (xs : List A) (i : ℕ) (x : A) → slice_get xs i ≡ Some x → take (i + 1) xs ≡ take i xs ++ x ∷ []
take_at_end xs i x at = ap (λ n. take n xs) (plus_suc i) ∙ take_suc xs i x at

-- what is set to what stood there stays
pub set_same : {A : Type 0} (xs : List A) (k : ℕ) (v : A) → slice_get xs k ≡ Some v → set xs k v ≡ xs
set_same [] k v h = absurd (none_some h)
set_same (x ∷ xs) zero v h = ap (λ z. z ∷ xs) (sym (some_same h))
set_same (x ∷ xs) (suc k) v h = ap (λ us. x ∷ us) (set_same xs k v h)
