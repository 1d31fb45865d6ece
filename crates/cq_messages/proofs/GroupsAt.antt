-- What is kept of groups, after one of them changed.
use Rattle.std.proofs.Common.{◌≡◌, ℕ, ◌<◌, ◌≤◌, ◌∙◌, ap, sym, subst, List, [], ◌∷◌, ◌++◌, length, Bool, true, false, cond, Some, None, refl, arith, ◌==◌}
use Rattle.std.specs.Str.{bytes_eq}
use Rattle.std.proofs.lemmas.Slice.Eq.{bytes_eq-Decides}
use Rattle.cq_messages.specs.within.Groups.{GroupKept, group_at, numbers_or, handed_or, numbers_at, handed_at, without}

pub at_same : (groups : List (List ℕ × GroupKept)) (a b : List ℕ) → bytes_eq a b ≡ true → group_at groups a ≡ group_at groups b
at_same groups a b e = ap (group_at groups) ((bytes_eq-Decides a b).0 e)

pub numbers-written : (old new : List (List ℕ × GroupKept)) (group g : List ℕ) (kept kept' : GroupKept) (f : List ℕ → List ℕ) → group_at old group ≡ Some kept → kept'.numbers ≡ f kept.numbers
    → group_at new g ≡ cond (bytes_eq group g) (Some kept') (group_at old g) → numbers_at new g ≡ cond (bytes_eq group g) (f (numbers_at old g)) (numbers_at old g)
numbers-written old new group g kept kept' f was is h = both (bytes_eq group g) refl h
  where
    both : (b : Bool) → bytes_eq group g ≡ b → group_at new g ≡ cond b (Some kept') (group_at old g) → numbers_at new g ≡ cond b (f (numbers_at old g)) (numbers_at old g)
    both true e h' = ap numbers_or h' ∙ is ∙ ap (λ o. f (numbers_or o)) (sym was ∙ at_same old group g e)
    both false e h' = ap numbers_or h'

pub handed-written : (old new : List (List ℕ × GroupKept)) (group g : List ℕ) (kept kept' : GroupKept) → group_at old group ≡ Some kept → kept'.handed ≡ kept.handed
    → group_at new g ≡ cond (bytes_eq group g) (Some kept') (group_at old g) → handed_at new g ≡ handed_at old g
handed-written old new group g kept kept' was is h = both (bytes_eq group g) refl h
  where
    both : (b : Bool) → bytes_eq group g ≡ b → group_at new g ≡ cond b (Some kept') (group_at old g) → handed_at new g ≡ handed_at old g
    both true e h' = ap handed_or h' ∙ is ∙ ap handed_or (sym was ∙ at_same old group g e)
    both false e h' = ap handed_or h'

pub raised-written : (old new : List (List ℕ × GroupKept)) (group g : List ℕ) (kept kept' : GroupKept) → group_at old group ≡ Some kept → kept.handed ≤ kept'.handed
    → group_at new g ≡ cond (bytes_eq group g) (Some kept') (group_at old g) → handed_at old g ≤ handed_at new g
raised-written old new group g kept kept' was is h = both (bytes_eq group g) refl h
  where
    both : (b : Bool) → bytes_eq group g ≡ b → group_at new g ≡ cond b (Some kept') (group_at old g) → handed_at old g ≤ handed_at new g
    both true e h' = subst (λ o. handed_or o ≤ handed_at new g) (sym was ∙ at_same old group g e) (subst (λ o. kept.handed ≤ handed_or o) (sym h') is)
    both false e h' = subst (λ o. handed_at old g ≤ handed_or o) (sym h') (omega arith)

-- a group that wasn't there has one message
pub numbers-first : (old new : List (List ℕ × GroupKept)) (group g : List ℕ) (n : ℕ) (kept : GroupKept) → group_at old group ≡ None → kept.numbers ≡ n ∷ []
    → group_at new g ≡ cond (bytes_eq group g) (Some kept) (group_at old g) → numbers_at new g ≡ cond (bytes_eq group g) (numbers_at old g ++ n ∷ []) (numbers_at old g)
numbers-first old new group g n kept was is h = both (bytes_eq group g) refl h
  where
    both : (b : Bool) → bytes_eq group g ≡ b → group_at new g ≡ cond b (Some kept) (group_at old g) → numbers_at new g ≡ cond b (numbers_at old g ++ n ∷ []) (numbers_at old g)
    both true e h' = ap numbers_or h' ∙ is ∙ ap (λ o. numbers_or o ++ n ∷ []) (sym was ∙ at_same old group g e)
    both false e h' = ap numbers_or h'

pub handed-first : (old new : List (List ℕ × GroupKept)) (group g : List ℕ) (kept : GroupKept) → group_at old group ≡ None → kept.handed ≡ 0
    → group_at new g ≡ cond (bytes_eq group g) (Some kept) (group_at old g) → handed_at new g ≡ handed_at old g
handed-first old new group g kept was is h = both (bytes_eq group g) refl h
  where
    both : (b : Bool) → bytes_eq group g ≡ b → group_at new g ≡ cond b (Some kept) (group_at old g) → handed_at new g ≡ handed_at old g
    both true e h' = ap handed_or h' ∙ is ∙ ap handed_or (sym was ∙ at_same old group g e)
    both false e h' = ap handed_or h'

-- a group that was left without messages is taken out
pub numbers-gone : (old new : List (List ℕ × GroupKept)) (group g : List ℕ) → numbers_at old group ≡ [] → group_at new g ≡ cond (bytes_eq group g) None (group_at old g) → numbers_at new g ≡ numbers_at old g
numbers-gone old new group g empty h = both (bytes_eq group g) refl h
  where
    both : (b : Bool) → bytes_eq group g ≡ b → group_at new g ≡ cond b None (group_at old g) → numbers_at new g ≡ numbers_at old g
    both true e h' = ap numbers_or h' ∙ sym (sym (ap numbers_or (at_same old group g e)) ∙ empty)
    both false e h' = ap numbers_or h'

pub handed-gone : (old new : List (List ℕ × GroupKept)) (group g : List ℕ) → group_at new g ≡ cond (bytes_eq group g) None (group_at old g) → 0 < length (numbers_at new g) → handed_at new g ≡ handed_at old g
handed-gone old new group g h some = both (bytes_eq group g) refl h
  where
    both : (b : Bool) → bytes_eq group g ≡ b → group_at new g ≡ cond b None (group_at old g) → handed_at new g ≡ handed_at old g
    both true e h' = absurd (let none : length (numbers_at new g) ≡ 0 = ap (λ o. length (numbers_or o)) h' in omega arith)
    both false e h' = ap handed_or h'

-- the first that is n is taken out
pub without-at : (n : ℕ) (xs : List ℕ) (i : ℕ) (y : ℕ) → y ≡ n → without n (y ∷ xs) ≡ xs
without-at n xs i y e = ap (λ b. cond b xs (y ∷ without n xs)) (is_same (y == n) refl)
  where
    is_same : (b : Bool) → (y == n) ≡ b → b ≡ true
    is_same true d = refl
    is_same false d = grind arith

pub either_same : {X : Type 0} (b : Bool) (x y : X) → x ≡ cond b y y → x ≡ y
either_same true x y h = h
either_same false x y h = h

-- a group without messages has none to take out
pub numbers-missing : (old : List (List ℕ × GroupKept)) (group g : List ℕ) (n : ℕ) → group_at old group ≡ None → numbers_at old g ≡ cond (bytes_eq group g) (without n (numbers_at old g)) (numbers_at old g)
numbers-missing old group g n was = both (bytes_eq group g) refl
  where
    both : (b : Bool) → bytes_eq group g ≡ b → numbers_at old g ≡ cond b (without n (numbers_at old g)) (numbers_at old g)
    both true e = let none : numbers_at old g ≡ [] = ap numbers_or (sym (at_same old group g e) ∙ was) in none ∙ ap (without n) (sym none)
    both false e = refl

pub group-written : (old new : List (List ℕ × GroupKept)) (group g : List ℕ) (kept kept' : GroupKept) → group_at old group ≡ Some kept → kept' ≡ kept
    → group_at new g ≡ cond (bytes_eq group g) (Some kept') (group_at old g) → group_at new g ≡ group_at old g
group-written old new group g kept kept' was is h = both (bytes_eq group g) refl h
  where
    both : (b : Bool) → bytes_eq group g ≡ b → group_at new g ≡ cond b (Some kept') (group_at old g) → group_at new g ≡ group_at old g
    both true e h' = h' ∙ ap (λ k. Some k) is ∙ sym was ∙ at_same old group g e
    both false e h' = h'

-- the number found is the first
pub without-skip : (n : ℕ) (xs : List ℕ) → xs ≡ xs
without-skip n xs = refl
