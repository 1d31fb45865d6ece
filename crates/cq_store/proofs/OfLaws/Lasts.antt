-- The last of those that pass a test, as a pass over the list finds it.
use Rattle.std.proofs.Common.{◌≡◌, ℕ, suc, ◌+◌, ◌-◌, ◌<◌, slice_get, arith, ◌∙◌, ap, sym, List, [], ◌∷◌, ◌++◌, length, take, get_or, Option, Some, None, Bool, true, false, cond, refl, append-nil}
use Rattle.std.specs.List.{filter, last_or}
use Rattle.std.proofs.lemmas.List.Elements.{filter_more}

-- the last of a list with one more at its end is that one
pub last_or-more : {X : Type 0} (o : Option X) (xs : List X) (x : X) → last_or o (xs ++ x ∷ []) ≡ Some x
last_or-more o [] x = refl
last_or-more o (y ∷ xs) x = last_or-more (Some y) xs x

chosen : {X : Type 0} (b : Bool) (o : Option X) (xs : List X) (x : X) → last_or o (xs ++ cond b (x ∷ []) []) ≡ cond b (Some x) (last_or o xs)
chosen true o xs x = last_or-more o xs x
chosen false o xs x = ap (λ ys. last_or o ys) (append-nil xs)

-- one more of the list
pub last-more : {X : Type 0} (p : X → Bool) (xs : List X) (i : ℕ) (d : X) → i < length xs → last_or None (filter p (take (i + 1) xs)) ≡ cond (p (get_or xs i d)) (Some (get_or xs i d)) (last_or None (filter p (take i xs)))
last-more p xs i d h = ap (λ ys. last_or None ys) (filter_more p xs i d h) ∙ chosen (p (get_or xs i d)) None (filter p (take i xs)) (get_or xs i d)

-- the same where the one more is known, and passes
pub last-passes : {X : Type 0} (p : X → Bool) (xs : List X) (i : ℕ) (x : X) → i < length xs → x ≡ get_or xs i x → p x ≡ true → Some x ≡ last_or None (filter p (take (i + 1) xs))
last-passes p xs i x h at_i passes = sym (last-more p xs i x h ∙ ap (λ y. cond (p y) (Some y) (last_or None (filter p (take i xs)))) (sym at_i) ∙ ap (λ b. cond b (Some x) (last_or None (filter p (take i xs)))) passes)

-- and where it doesn't
pub last-fails : {X : Type 0} (p : X → Bool) (xs : List X) (i : ℕ) (x : X) (o : Option X) → i < length xs → x ≡ get_or xs i x → p x ≡ false → o ≡ last_or None (filter p (take i xs)) → o ≡ last_or None (filter p (take (i + 1) xs))
last-fails p xs i x o h at_i fails so_far = so_far ∙ sym (last-more p xs i x h ∙ ap (λ y. cond (p y) (Some y) (last_or None (filter p (take i xs)))) (sym at_i) ∙ ap (λ b. cond b (Some x) (last_or None (filter p (take i xs)))) fails)

nth-last : {X : Type 0} (x : X) (xs : List X) → slice_get (x ∷ xs) (length xs) ≡ last_or (Some x) xs
nth-last x [] = refl
nth-last x (y ∷ xs) = nth-last y xs

-- the last one by its index
pub last-get : {X : Type 0} (xs : List X) → slice_get xs (length xs - 1) ≡ last_or None xs
last-get [] = refl
last-get (x ∷ xs) = let e : suc (length xs) - 1 ≡ length xs = omega arith in rw e (nth-last x xs)
