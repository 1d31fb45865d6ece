-- Lists in a strict order: how they come from others, and how many of their elements come before one.
use Rattle.std.proofs.Common.{◌≡◌, ℕ, zero, suc, ◌+◌, ◌<◌, ◌≤◌, ◌∙◌, ap, sym, List, [], ◌∷◌, ◌++◌, length, take, ◌||◌, Bool, true, false, cond, length-append, arith, inl, inr, subst, refl}
use Rattle.std.specs.List.{filter, flat_map, list_any}
use Rattle.std.proofs.lemmas.Bool.{both_ways, false_from_ne_true}
use Rattle.cq_base.specs.Relations.{Among, Pairwise}
use Rattle.cq_base.proofs.Among.{among-append, among-left, among-right, among-filter, among-kept, among-flat_map, among-take}
use Rattle.cq_base.proofs.Filters.{filter-none}
use Rattle.cq_base.proofs.Pairs.{pairwise-filter, pairwise-follows}

-- two lists that are related in pairs, and across, are so when they are joined
pairwise-join : {X : Type 0} (R : X → X → Type 0) (xs ys : List X) → Pairwise R xs → Pairwise R ys → ((x y : X) → Among x xs → Among y ys → R x y) → Pairwise R (xs ++ ys)
pairwise-join R [] ys left right across = right
pairwise-join R (x ∷ xs) ys left right across = ((λ z m. elim (among-append z xs ys m) [ inl l ↦ left.0 z l | inr r ↦ across x z (inl refl) r ]), pairwise-join R xs ys left.1 right (λ y z m o. across y z (inr m) o))

-- and so are the lists that a flat map joins
pub pairwise-flat_map : {X Y : Type 0} (R : Y → Y → Type 0) (f : X → List Y) (xs : List X) → ((x : X) → Among x xs → Pairwise R (f x)) → Pairwise (λ a b. (y z : Y) → Among y (f a) → Among z (f b) → R y z) xs → Pairwise R (flat_map f xs)
pairwise-flat_map R f [] each across = tt
pairwise-flat_map R f (x ∷ xs) each across = pairwise-join R (f x) (flat_map f xs) (each x (inl refl)) (pairwise-flat_map R f xs (λ y m. each y (inr m)) across.1)
    (λ y z m o. let found = among-flat_map f z xs o in across.0 found.0 found.1 y z m found.2)

-- the first elements of a list that is related in pairs are so
pub pairwise-take : {X : Type 0} (R : X → X → Type 0) (n : ℕ) (xs : List X) → Pairwise R xs → Pairwise R (take n xs)
pairwise-take R zero xs h = tt
pairwise-take R (suc n) [] h = tt
pairwise-take R (suc n) (x ∷ xs) h = ((λ y m. h.0 y (among-take n y xs m)), pairwise-take R n xs h.1)

-- what is in the list that one of the elements gives is in what a flat map joins
pub among-joined : {X Y : Type 0} (f : X → List Y) (x : X) (y : Y) (xs : List X) → Among x xs → Among y (f x) → Among y (flat_map f xs)
among-joined f x y [] at own = absurd at
among-joined f x y (z ∷ zs) (inl e) own = among-left y (f z) (flat_map f zs) (subst (λ w. Among y (f w)) e own)
among-joined f x y (z ∷ zs) (inr at) own = among-right y (f z) (flat_map f zs) (among-joined f x y zs at own)

-- where each fails, none passes
pub any-none : {X : Type 0} (p : X → Bool) (xs : List X) → ((x : X) → Among x xs → p x ≡ false) → list_any p xs ≡ false
any-none p [] fails = refl
any-none p (x ∷ xs) fails = ap (λ b. b || list_any p xs) (fails x (inl refl)) ∙ any-none p xs (λ y m. fails y (inr m))

-- a list around one of its elements
around : {X : Type 0} (x : X) (ys : List X) → Among x ys → (left : List X) × (right : List X) × (ys ≡ left ++ x ∷ right)
around x [] at = absurd at
around x (y ∷ ys) (inl e) = ([], ys, ap (λ z. z ∷ ys) (sym e))
around x (y ∷ ys) (inr at) = let r = around x ys at in (y ∷ r.0, r.1, ap (λ zs. y ∷ zs) r.2)

-- another element is still there without that one
among-others : {X : Type 0} (x z : X) (left right : List X) → (x ≡ z → ⊥) → Among z (left ++ x ∷ right) → Among z (left ++ right)
among-others x z left right apart at = elim (among-append z left (x ∷ right) at) [
  | inl l ↦ among-left z left right l
  | inr r ↦ elim r [ inl e ↦ absurd (apart (sym e)) | inr m ↦ among-right z left right m ]
]

-- a list of different elements is no longer than one that has them all
length-within : {X : Type 0} (xs ys : List X) → Pairwise (λ a b. a ≡ b → ⊥) xs → ((x : X) → Among x xs → Among x ys) → length xs ≤ length ys
length-within [] ys apart has = omega arith
length-within (x ∷ xs) ys apart has = let r = around x ys (has x (inl refl)) in
    let fewer = length-within xs (r.0 ++ r.1) apart.1 (λ z m. among-others x z r.0 r.1 (apart.0 z m) (subst (λ us. Among z us) r.2 (has z (inr m)))) in
    omega (arith, fewer, ap (λ us. length us) r.2, length-append r.0 (x ∷ r.1), length-append r.0 r.1)

-- and no more of it pass a test
pub count-within : {X : Type 0} (p : X → Bool) (xs ys : List X) → Pairwise (λ a b. a ≡ b → ⊥) xs → ((x : X) → Among x xs → Among x ys) → length (filter p xs) ≤ length (filter p ys)
count-within p xs ys apart has = length-within (filter p xs) (filter p ys) (pairwise-filter (λ a b. a ≡ b → ⊥) p xs apart)
    (λ x m. let own = among-filter p x xs m in among-kept p x ys own.1 (has x own.0))

-- of two elements at most one comes before the other
abbrev pub IsStrict : {X : Type 0} → (X → X → Bool) → Type 0
IsStrict {X} before = (x y : X) → before x y ≡ true → before y x ≡ false

-- what comes before another is another
pub strict-apart : {X : Type 0} (before : X → X → Bool) → IsStrict before → (x y : X) → before x y ≡ true → x ≡ y → ⊥
strict-apart before strict x y h e = let own : before x x ≡ true = ap (λ z. before x z) e ∙ h in both_ways (before x x) (strict x x own) own

-- the elements of a list in order are different
pub sorted-apart : {X : Type 0} (before : X → X → Bool) → IsStrict before → (xs : List X) → Pairwise (λ x y. before x y ≡ true) xs → Pairwise (λ x y. x ≡ y → ⊥) xs
sorted-apart before strict xs sorted = pairwise-follows (λ x y. before x y ≡ true) (λ x y. x ≡ y → ⊥) xs (λ x y _ _ h. strict-apart before strict x y h) sorted

-- none comes before the first of a list in order
none_before : {X : Type 0} (before : X → X → Bool) → IsStrict before → (x : X) (xs : List X) → ((y : X) → Among y xs → before x y ≡ true) → (z : X) → Among z (x ∷ xs) → before z x ≡ false
none_before before strict x xs first z (inl e) = false_from_ne_true (before z x) (λ h. strict-apart before strict z x h e)
none_before before strict x xs first z (inr m) = strict x z (first z m)

-- one that comes before x is one more before it
one_more : {X : Type 0} (before : X → X → Bool) (x y : X) (ys : List X) → before y x ≡ true → length (filter (λ z. before z x) (y ∷ ys)) ≡ length (filter (λ z. before z x) ys) + 1
one_more before x y ys h = let n = ap (λ b. length (cond b (y ∷ filter (λ z. before z x) ys) (filter (λ z. before z x) ys))) h in omega (arith, n)

-- each of the first n of a list in order has fewer than n before it
pub first-few : {X : Type 0} (before : X → X → Bool) → IsStrict before → (n : ℕ) (x : X) (xs : List X) → Pairwise (λ a b. before a b ≡ true) xs → Among x (take n xs) → length (filter (λ y. before y x) xs) < n
first-few before strict zero x xs sorted at = absurd at
first-few before strict (suc n) x [] sorted at = absurd at
first-few before strict (suc n) x (y ∷ ys) sorted (inl e) =
    let none = filter-none (λ z. before z x) (y ∷ ys) (λ z m. ap (λ w. before z w) e ∙ none_before before strict y ys sorted.0 z m) in
    omega (arith, ap (λ us. length us) none)
first-few before strict (suc n) x (y ∷ ys) sorted (inr at) =
    omega (arith, first-few before strict n x ys sorted.1 at, one_more before x y ys (sorted.0 x (among-take n x ys at)))

-- and there are no others that have
pub few-first : {X : Type 0} (before : X → X → Bool) (n : ℕ) (x : X) (xs : List X) → Pairwise (λ a b. before a b ≡ true) xs → Among x xs → length (filter (λ y. before y x) xs) < n → Among x (take n xs)
few-first before n x [] sorted at few = absurd at
few-first before zero x (y ∷ ys) sorted at few = absurd (omega (arith, few))
few-first before (suc n) x (y ∷ ys) sorted (inl e) few = inl e
few-first before (suc n) x (y ∷ ys) sorted (inr at) few = inr (few-first before n x ys sorted.1 at (omega (arith, few, one_more before x y ys (sorted.0 x at))))

-- two lists in order with the same elements begin with the same one
same_head : {X : Type 0} (before : X → X → Bool) → IsStrict before → (x y : X) (xs ys : List X) → ((z : X) → Among z xs → before x z ≡ true) → ((z : X) → Among z ys → before y z ≡ true) → Among x (y ∷ ys) → Among y (x ∷ xs) → x ≡ y
same_head before strict x y xs ys left right (inl e) back = e
same_head before strict x y xs ys left right (inr there) (inl e) = sym e
same_head before strict x y xs ys left right (inr there) (inr back) = absurd (both_ways (before y x) (strict x y (left y back)) (right x there))

-- what stands after the first isn't the first of the other
in_rest : {X : Type 0} (before : X → X → Bool) → IsStrict before → (x y z : X) (ys : List X) → x ≡ y → before x z ≡ true → Among z (y ∷ ys) → Among z ys
in_rest before strict x y z ys same h (inl e) = absurd (strict-apart before strict x z h (same ∙ sym e))
in_rest before strict x y z ys same h (inr at) = at

-- two lists in order with the same elements are equal
pub one_order : {X : Type 0} (before : X → X → Bool) → IsStrict before → (xs ys : List X) → Pairwise (λ a b. before a b ≡ true) xs → Pairwise (λ a b. before a b ≡ true) ys → ((x : X) → Among x xs → Among x ys) → ((y : X) → Among y ys → Among y xs) → xs ≡ ys
one_order before strict [] [] left right there back = refl
one_order before strict [] (y ∷ ys) left right there back = absurd (back y (inl refl))
one_order before strict (x ∷ xs) [] left right there back = absurd (there x (inl refl))
one_order before strict (x ∷ xs) (y ∷ ys) left right there back =
    let same = same_head before strict x y xs ys left.0 right.0 (there x (inl refl)) (back y (inl refl)) in
    let rest = one_order before strict xs ys left.1 right.1
    (λ z m. in_rest before strict x y z ys same (left.0 z m) (there z (inr m)))
    (λ z m. in_rest before strict y x z xs (sym same) (right.0 z m) (back z (inr m))) in
    ap (λ z. z ∷ xs) same ∙ ap (λ zs. y ∷ zs) rest
