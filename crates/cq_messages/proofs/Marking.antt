-- Messages that are handed out one after another.
use Rattle.std.proofs.Common.{◌≡◌, ℕ, ◌==◌, ◌∙◌, ◌||◌, ap, sym, List, [], ◌∷◌, ◌++◌, map, Bool, true, false, cond, arith, refl}
use Rattle.std.specs.List.{list_any}
use Rattle.cq_base.specs.queue.Messages.{Message}
use Rattle.cq_base.specs.Relations.{Among}
use Rattle.cq_base.proofs.Among.{among-map}
use Rattle.cq_messages.specs.Changes.{marked, handed_at_until, is_numbered_in}

any_more : (k : ℕ) (ns : List ℕ) (n : ℕ) → list_any (λ x. x == k) (ns ++ n ∷ []) ≡ (list_any (λ x. x == k) ns || (n == k))
any_more k [] n = or_false (n == k)
  where
    or_false : (b : Bool) → (b || false) ≡ (false || b)
    or_false true = refl
    or_false false = refl
any_more k (x ∷ ns) n = ap (λ b. (x == k) || b) (any_more k ns n) ∙ assoc (x == k) (list_any (λ y. y == k) ns) (n == k)
  where
    assoc : (a b c : Bool) → (a || (b || c)) ≡ ((a || b) || c)
    assoc true b c = refl
    assoc false b c = refl

one_more : (t end : ℕ) (ns : List ℕ) (n : ℕ) (m : Message) → list_any (λ x. x == n) ns ≡ false → marked t end (n ∷ []) (marked t end ns m) ≡ marked t end (ns ++ n ∷ []) m
one_more t end ns n m new = by (list_any (λ x. x == m.sequence) ns) (n == m.sequence) refl refl ∙ ap (λ b. cond b (handed_at_until t end m) m) (sym (any_more m.sequence ns n))
  where
    by : (b c : Bool) → list_any (λ x. x == m.sequence) ns ≡ b → (n == m.sequence) ≡ c → marked t end (n ∷ []) (marked t end ns m) ≡ cond (list_any (λ x. x == m.sequence) ns || (n == m.sequence)) (handed_at_until t end m) m
    by true true e d = absurd (let same : n ≡ m.sequence = grind arith in let found : list_any (λ x. x == n) ns ≡ true = ap (λ k. list_any (λ x. x == k) ns) same ∙ e in cc)
    by true false e d = ap (λ b. marked t end (n ∷ []) (cond b (handed_at_until t end m) m)) e ∙ ap (λ b. cond (b || false) (handed_at_until t end (handed_at_until t end m)) (handed_at_until t end m)) d ∙ sym (ap (λ b. cond (b || (n == m.sequence)) (handed_at_until t end m) m) e)
    by false c e d = ap (λ b. marked t end (n ∷ []) (cond b (handed_at_until t end m) m)) e ∙ last (n == m.sequence) ∙ sym (ap (λ b. cond (b || (n == m.sequence)) (handed_at_until t end m) m) e)
      where
        last : (b : Bool) → cond (b || false) (handed_at_until t end m) m ≡ cond (false || b) (handed_at_until t end m) m
        last true = refl
        last false = refl

again : (t end : ℕ) (ns : List ℕ) (n : ℕ) (m : Message) → list_any (λ x. x == n) ns ≡ true → marked t end ns m ≡ marked t end (ns ++ n ∷ []) m
again t end ns n m old = ap (λ b. cond b (handed_at_until t end m) m) (by (list_any (λ x. x == m.sequence) ns) (n == m.sequence) refl refl ∙ sym (any_more m.sequence ns n))
  where
    by : (b c : Bool) → list_any (λ x. x == m.sequence) ns ≡ b → (n == m.sequence) ≡ c → list_any (λ x. x == m.sequence) ns ≡ (list_any (λ x. x == m.sequence) ns || (n == m.sequence))
    by true c e d = e ∙ sym (ap (λ b. b || (n == m.sequence)) e)
    by false true e d = absurd (let same : n ≡ m.sequence = grind arith in let found : list_any (λ x. x == m.sequence) ns ≡ true = ap (λ k. list_any (λ x. x == k) ns) (sym same) ∙ old in cc)
    by false false e d = e ∙ sym (ap (λ b. b || (n == m.sequence)) e ∙ d)

pub map-marked : (t end : ℕ) (ns : List ℕ) (n : ℕ) (ms : List Message) → list_any (λ x. x == n) ns ≡ false → map (marked t end (n ∷ [])) (map (marked t end ns) ms) ≡ map (marked t end (ns ++ n ∷ [])) ms
map-marked t end ns n [] new = refl
map-marked t end ns n (m ∷ ms) new = ap (λ x. x ∷ map (marked t end (n ∷ [])) (map (marked t end ns) ms)) (one_more t end ns n m new) ∙ ap (λ xs. marked t end (ns ++ n ∷ []) m ∷ xs) (map-marked t end ns n ms new)

pub map-again : (t end : ℕ) (ns : List ℕ) (n : ℕ) (ms : List Message) → list_any (λ x. x == n) ns ≡ true → map (marked t end ns) ms ≡ map (marked t end (ns ++ n ∷ [])) ms
map-again t end ns n [] old = refl
map-again t end ns n (m ∷ ms) old = ap (λ x. x ∷ map (marked t end ns) ms) (again t end ns n m old) ∙ ap (λ xs. marked t end (ns ++ n ∷ []) m ∷ xs) (map-again t end ns n ms old)

kept_number : (t end : ℕ) (ns : List ℕ) (m : Message) → (marked t end ns m).sequence ≡ m.sequence
kept_number t end ns m = by (is_numbered_in ns m)
  where
    by : (b : Bool) → (cond b (handed_at_until t end m) m).sequence ≡ m.sequence
    by true = refl
    by false = refl

-- a message that is still to be handed out is as it was
pub still-few : (t end : ℕ) (ns : List ℕ) (n : ℕ) (ms : List Message) (x : Message) → list_any (λ k. k == n) ns ≡ false → Among x (map (marked t end ns) ms) → x.sequence ≡ n → (y : Message) × (Among y ms × (x ≡ y))
still-few t end ns n ms x new a e =
    let r = among-map (marked t end ns) x ms a in
    let number : r.0.sequence ≡ n = sym (kept_number t end ns r.0) ∙ sym (ap (λ y. y.sequence) r.2) ∙ e in
    (r.0, (r.1, r.2 ∙ ap (λ b. cond b (handed_at_until t end r.0) r.0) (ap (λ k. list_any (λ j. j == k) ns) number ∙ new)))

pub map-unmarked : (t end : ℕ) (ms : List Message) → ms ≡ map (marked t end []) ms
map-unmarked t end [] = refl
map-unmarked t end (m ∷ ms) = ap (λ xs. m ∷ xs) (map-unmarked t end ms)
