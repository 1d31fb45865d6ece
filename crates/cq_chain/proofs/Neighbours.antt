-- Who stands where in a chain, by places.
use Rattle.std.proofs.Common.{◌≡◌, ℕ, zero, suc, ◌+◌, ◌-◌, ◌<◌, ◌≤◌, ◌∙◌, ap, sym, subst, refl, List, [], ◌∷◌, ◌++◌, length, drop, get_or, Some, None, Bool, true, false, ◌==◌, ◌&&◌, ◌||◌, arith, eq-eqb}
use Rattle.std.specs.Prelude.{slice_get}
use Rattle.std.specs.List.{list_any}
use Rattle.std.proofs.lemmas.Bool.{ne_eqb}
use Rattle.std.proofs.lemmas.List.{drop_more}
use Rattle.cq_base.specs.declared.party.Party.TheVariants as parties
use Rattle.cq_chain.specs.declared.message.Message.TheVariants as stored
use Rattle.cq_chain.specs.Masters.{numbers_from, is_in, is_last, stands_before, closing, said_of_loss, said_of_join, to_last}
use Rattle.cq_chain.specs.Messages.{Report, Feed}
use Rattle.cq_chain.specs.within.Waiting.{IsSaid}
use Rattle.cq_chain.proofs.Mailing.{eqb-turned}

none_some : {X : Type 0} (x : X) → Some x ≡ None → ⊥
none_some x h = cc

some_same : {X : Type 0} (x y : X) → Some x ≡ Some y → x ≡ y
some_same x y h = cc

empty_not : {X : Type 0} (x : X) (xs : List X) → [] ≡ x ∷ xs → ⊥
empty_not x xs h = cc

-- ---- places

-- the one at a place, where the rest begins with it
pub head-dropped : (xs : List ℕ) (i a d : ℕ) (rest : List ℕ) → drop i xs ≡ a ∷ rest → get_or xs i d ≡ a
head-dropped [] zero a d rest h = absurd (empty_not a rest h)
head-dropped [] (suc i) a d rest h = absurd (empty_not a rest h)
head-dropped (x ∷ xs) zero a d rest h = cc
head-dropped (x ∷ xs) (suc i) a d rest h = head-dropped xs i a d rest h

-- and the rest after it
pub tail-dropped : (xs : List ℕ) (i a : ℕ) (rest : List ℕ) → drop i xs ≡ a ∷ rest → drop (suc i) xs ≡ rest
tail-dropped [] zero a rest h = absurd (empty_not a rest h)
tail-dropped [] (suc i) a rest h = absurd (empty_not a rest h)
tail-dropped (x ∷ xs) zero a rest h = cc
tail-dropped (x ∷ xs) (suc i) a rest h = tail-dropped xs i a rest h

-- how long the rest is
pub length-dropped : (xs : List ℕ) (i a : ℕ) (rest : List ℕ) → drop i xs ≡ a ∷ rest → length xs ≡ i + 1 + length rest
length-dropped [] zero a rest h = absurd (empty_not a rest h)
length-dropped [] (suc i) a rest h = absurd (empty_not a rest h)
length-dropped (x ∷ xs) zero a rest h = let e : xs ≡ rest = cc in omega (arith, ap (λ ys. length ys) e)
length-dropped (x ∷ xs) (suc i) a rest h = omega (arith, length-dropped xs i a rest h)

-- two of them, where there are two
pub two-dropped : (xs : List ℕ) (i : ℕ) → i + 1 < length xs → drop i xs ≡ get_or xs i 0 ∷ get_or xs (i + 1) 0 ∷ drop (i + 1 + 1) xs
two-dropped xs i h = let h0 : i < length xs = omega arith in drop_more xs i 0 h0 ∙ ap (λ ys. get_or xs i 0 ∷ ys) (drop_more xs (i + 1) 0 h)

-- no two are left
pub few-dropped : (xs : List ℕ) (i a b : ℕ) (rest : List ℕ) → length xs ≤ i + 1 → drop i xs ≡ a ∷ b ∷ rest → ⊥
few-dropped [] zero a b rest h k = empty_not a (b ∷ rest) k
few-dropped [] (suc i) a b rest h k = empty_not a (b ∷ rest) k
few-dropped (x ∷ []) zero a b rest h k = let e : [] ≡ b ∷ rest = cc in empty_not b rest e
few-dropped (x ∷ y ∷ xs) zero a b rest h k = omega arith
few-dropped (x ∷ xs) (suc i) a b rest h k = let h0 : length xs ≤ i + 1 = omega arith in few-dropped xs i a b rest h0 k

-- ---- the last one

pub last-is : (xs : List ℕ) (x id : ℕ) → Some x ≡ slice_get xs (length xs - 1) → (x == id) ≡ is_last xs id
last-is [] x id h = absurd (none_some x h)
last-is (a ∷ []) x id h = ap (λ y. y == id) (some_same x a h)
last-is (a ∷ b ∷ rest) x id h =
    let e : length (a ∷ b ∷ rest) - 1 ≡ suc (length (b ∷ rest) - 1) = omega arith in
    last-is (b ∷ rest) x id (h ∙ ap (λ n. slice_get (a ∷ b ∷ rest) n) e)

pub last-none : (xs : List ℕ) (id : ℕ) → None ≡ slice_get xs (length xs - 1) → is_last xs id ≡ false
last-none [] id h = refl
last-none (a ∷ []) id h = absurd (none_some a (sym h))
last-none (a ∷ b ∷ rest) id h =
    let e : length (a ∷ b ∷ rest) - 1 ≡ suc (length (b ∷ rest) - 1) = omega arith in
    last-none (b ∷ rest) id (h ∙ ap (λ n. slice_get (a ∷ b ∷ rest) n) e)

pub join-said : (xs : List ℕ) (x id : ℕ) → Some x ≡ slice_get xs (length xs - 1) → IsSaid (Some (id, stored.Report x)) (said_of_join id xs)
join-said [] x id h = absurd (none_some x h)
join-said (a ∷ []) x id h = (refl, (ap (λ y. Report y) (sym (some_same x a h)), tt))
join-said (a ∷ b ∷ rest) x id h =
    let e : length (a ∷ b ∷ rest) - 1 ≡ suc (length (b ∷ rest) - 1) = omega arith in
    join-said (b ∷ rest) x id (h ∙ ap (λ n. slice_get (a ∷ b ∷ rest) n) e)

pub join-silent : (xs : List ℕ) (id : ℕ) → None ≡ slice_get xs (length xs - 1) → said_of_join id xs ≡ []
join-silent [] id h = refl
join-silent (a ∷ []) id h = absurd (none_some a (sym h))
join-silent (a ∷ b ∷ rest) id h =
    let e : length (a ∷ b ∷ rest) - 1 ≡ suc (length (b ∷ rest) - 1) = omega arith in
    join-silent (b ∷ rest) id (h ∙ ap (λ n. slice_get (a ∷ b ∷ rest) n) e)

pub drop-said : (xs : List ℕ) (x : ℕ) → Some x ≡ slice_get xs (length xs - 1) → IsSaid (Some (x, stored.Feed None)) (to_last (Feed None) xs)
drop-said [] x h = absurd (none_some x h)
drop-said (a ∷ []) x h = (ap (λ y. parties.Server y) (sym (some_same x a h)), (refl, tt))
drop-said (a ∷ b ∷ rest) x h =
    let e : length (a ∷ b ∷ rest) - 1 ≡ suc (length (b ∷ rest) - 1) = omega arith in
    drop-said (b ∷ rest) x (h ∙ ap (λ n. slice_get (a ∷ b ∷ rest) n) e)

pub drop-silent : (xs : List ℕ) → None ≡ slice_get xs (length xs - 1) → to_last (Feed None) xs ≡ []
drop-silent [] h = refl
drop-silent (a ∷ []) h = absurd (none_some a (sym h))
drop-silent (a ∷ b ∷ rest) h =
    let e : length (a ∷ b ∷ rest) - 1 ≡ suc (length (b ∷ rest) - 1) = omega arith in
    drop-silent (b ∷ rest) (h ∙ ap (λ n. slice_get (a ∷ b ∷ rest) n) e)

-- ---- neighbours

-- two neighbours at a place are those, or it is about the next ones
pub before-step : (p s : ℕ) (xs : List ℕ) (i : ℕ) → i + 1 < length xs → stands_before p s (drop i xs) ≡ ((get_or xs i 0 == p && get_or xs (i + 1) 0 == s) || stands_before p s (drop (i + 1) xs))
before-step p s xs i h = ap (λ ys. stands_before p s ys) (two-dropped xs i h)
    ∙ ap (λ ys. (get_or xs i 0 == p && get_or xs (i + 1) 0 == s) || stands_before p s ys) (sym (drop_more xs (i + 1) 0 h))

before-short : (p s : ℕ) (ys : List ℕ) → ((a b : ℕ) (rest : List ℕ) → ys ≡ a ∷ b ∷ rest → ⊥) → stands_before p s ys ≡ false
before-short p s [] none = refl
before-short p s (a ∷ []) none = refl
before-short p s (a ∷ b ∷ rest) none = absurd (none a b rest refl)

pub before-none : (p s : ℕ) (xs : List ℕ) (i : ℕ) → length xs ≤ i + 1 → stands_before p s (drop i xs) ≡ false
before-none p s xs i h = before-short p s (drop i xs) (λ a b rest k. few-dropped xs i a b rest h k)

same-self : (a : ℕ) → (a == a) ≡ true
same-self a = eq-eqb a a refl

-- what is said of the one that is gone
pub said-report : (p b c : ℕ) (rest : List ℕ) → IsSaid (Some (c, stored.Report p)) (closing p b (b ∷ c ∷ rest))
said-report p b c rest = rw (same-self b) (refl, (refl, tt))

pub said-be_tail : (p b : ℕ) → IsSaid (Some (p, stored.BeTail 0)) (closing p b (b ∷ []))
said-be_tail p b = rw (same-self b) (refl, (refl, tt))

-- another one is about the next ones
pub closing-step : (p b id : ℕ) (rest : List ℕ) → (b == id) ≡ false → closing p id (b ∷ rest) ≡ closing b id rest
closing-step p b id [] h = rw h
closing-step p b id (c ∷ rest) h = rw h

pub loss-first : (id a b : ℕ) (rest : List ℕ) → (a == id) ≡ true → IsSaid (Some (b, stored.BeHead)) (said_of_loss id (a ∷ b ∷ rest))
loss-first id a b rest h = rw h (refl, (refl, tt))

pub loss-later : (id a b : ℕ) (rest : List ℕ) → (a == id) ≡ false → said_of_loss id (a ∷ b ∷ rest) ≡ closing a id (b ∷ rest)
loss-later id a b rest h = rw h

pub loss-short : (id : ℕ) (xs : List ℕ) → length xs ≤ 1 → said_of_loss id xs ≡ []
loss-short id [] h = refl
loss-short id (a ∷ []) h = refl
loss-short id (a ∷ b ∷ rest) h = absurd (omega arith)

-- ---- the first chain

pub numbers-more : (k n : ℕ) → numbers_from k (n + 1) ≡ numbers_from k n ++ (k + n) ∷ []
unfolding numbers_from
numbers-more k zero = ap (λ m. m ∷ []) (omega arith)
numbers-more k (suc n) =
    let e : k + 1 + n ≡ k + suc n = omega arith in
    let f : suc n + 1 ≡ suc (n + 1) = omega arith in
    ap (λ m. numbers_from k m) f ∙ ap (λ ms. k ∷ ms) (numbers-more (k + 1) n ∙ ap (λ m. numbers_from (k + 1) n ++ m ∷ []) e)

pub numbers-none : (k : ℕ) → numbers_from k 0 ≡ []
unfolding numbers_from
numbers-none k = refl

-- a number above all of these isn't one of them
pub numbers-below : (test : ℕ → Bool) (k n id : ℕ) → ((x : ℕ) → x < id → test x ≡ false) → k + n ≤ id → list_any test (numbers_from k n) ≡ false
unfolding numbers_from
numbers-below test k zero id none h = refl
numbers-below test k (suc n) id none h = let e : test k ≡ false = none k (omega arith) in rw e (numbers-below test (k + 1) n id none (omega arith))

pub less-differs : (x id : ℕ) → x < id → (id == x) ≡ false
less-differs x id h = ne_eqb id x (λ e. omega arith)

-- whether it is one of them, as it is found
pub any-turned : (id : ℕ) (xs : List ℕ) → list_any (λ x. id == x) xs ≡ is_in xs id
any-turned id [] = refl
any-turned id (x ∷ xs) = ap (λ b. b || list_any (λ y. id == y) xs) (eqb-turned id x) ∙ ap (λ b. (x == id) || b) (any-turned id xs)

-- ---- places, once more

pub place-is : (xs : List ℕ) (i d : ℕ) → i < length xs → get_or xs i d ≡ get_or xs i 0
place-is xs i d h = head-dropped xs i (get_or xs i 0) d (drop (i + 1) xs) (drop_more xs i 0 h)

none-after : (xs : List ℕ) (i p b : ℕ) (rest : List ℕ) → length xs ≤ i + 2 → drop i xs ≡ p ∷ b ∷ rest → rest ≡ []
none-after xs i p b [] few h = refl
none-after xs i p b (c ∷ rest) few h = let k : length xs ≤ suc i + 1 = omega arith in absurd (few-dropped xs (suc i) b c rest k (tail-dropped xs i p (b ∷ c ∷ rest) h))

pub closing-at_end : (xs : List ℕ) (i q p b : ℕ) (rest : List ℕ) → length xs ≤ i + 2 → q ≡ get_or xs i q → drop i xs ≡ p ∷ b ∷ rest → IsSaid (Some (q, stored.BeTail 0)) (closing p b (b ∷ rest))
closing-at_end xs i q p b rest few is h = subst (λ x. IsSaid (Some (x, stored.BeTail 0)) (closing p b (b ∷ rest))) (sym (is ∙ head-dropped xs i p q (b ∷ rest) h))
    (subst (λ ys. IsSaid (Some (p, stored.BeTail 0)) (closing p b (b ∷ ys))) (sym (none-after xs i p b rest few h)) (said-be_tail p b))

third-is : (xs : List ℕ) (i p b c : ℕ) (rest : List ℕ) (d : ℕ) → drop i xs ≡ p ∷ b ∷ c ∷ rest → get_or xs (suc (suc i)) d ≡ c
third-is xs i p b c rest d h = head-dropped xs (suc (suc i)) c d rest (tail-dropped xs (suc i) b (c ∷ rest) (tail-dropped xs i p (b ∷ c ∷ rest) h))

pub closing-in_middle : (xs : List ℕ) (i q r p b : ℕ) (rest : List ℕ) → i + 2 < length xs → q ≡ get_or xs i q → r ≡ get_or xs (i + 2) r → drop i xs ≡ p ∷ b ∷ rest → IsSaid (Some (r, stored.Report q)) (closing p b (b ∷ rest))
closing-in_middle xs i q r p b [] more is_q is_r h = absurd (omega (arith, length-dropped xs i p (b ∷ []) h))
closing-in_middle xs i q r p b (c ∷ rest) more is_q is_r h =
    let e : i + 2 ≡ suc (suc i) = omega arith in
    let r_is : r ≡ c = is_r ∙ ap (λ n. get_or xs n r) e ∙ third-is xs i p b c rest r h in
    let q_is : q ≡ p = is_q ∙ head-dropped xs i p q (b ∷ c ∷ rest) h in
    subst (λ x. IsSaid (Some (x, stored.Report q)) (closing p b (b ∷ c ∷ rest))) (sym r_is) (subst (λ x. IsSaid (Some (c, stored.Report x)) (closing p b (b ∷ c ∷ rest))) (sym q_is) (said-report p b c rest))

-- the same rest
pub closing-of : (id b q : ℕ) (xs more : List ℕ) → b ∷ xs ≡ q ∷ more → closing b id xs ≡ closing q id more
closing-of id b q xs more h = let e : b ≡ q = cc in let k : xs ≡ more = cc in ap (λ x. closing x id xs) e ∙ ap (λ ys. closing q id ys) k
