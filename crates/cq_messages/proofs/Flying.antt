-- Which messages are in flight, by what stands beside them.
use Rattle.std.proofs.Common.{◌≡◌, ℕ, ◌-◌, ◌<◌, ◌≤◌, ◌∙◌, ◌⊎◌, ap, sym, subst, refl, List, [], ◌∷◌, length, get_or, take, Bool, true, false, cond, nat_lt, nat_le, Option, Some, None, inl, inr, arith, suc, zero, add-one}
use Rattle.std.specs.List.{filter}
use Rattle.std.proofs.lemmas.Bool.{cases_lt}
use Rattle.std.proofs.lemmas.List.{length-append, take_all}
use Rattle.std.proofs.lemmas.List.Elements.{filter_more}
use Rattle.cq_base.specs.queue.Messages.{Message}
use Rattle.cq_base.specs.queue.Receiving.{is_in_flight}
use Rattle.cq_messages.specs.declared.slot.Slot.{Slot}
use Rattle.cq_messages.specs.declared.slot.TheConstants.{NEVER}
use Rattle.cq_messages.specs.within.Indexed.{AreFlights}
use Rattle.cq_messages.specs.within.Passing.{passing_upto}
use Rattle.cq_messages.specs.Slots.{live, kept_before, gone, passes, flight_of}
use Rattle.cq_messages.proofs.Passing.{passing-more}

flies : (t u : ℕ) → t < NEVER → nat_lt t u ≡ nat_le (NEVER - u) (NEVER - 1 - t)
flies t u small = by (cases_lt t u)
  where
    by : (t < u) ⊎ (u ≤ t) → nat_lt t u ≡ nat_le (NEVER - u) (NEVER - 1 - t)
    by (inl l) =
        let low : NEVER - u ≤ NEVER - 1 - t = omega arith in
        let a : nat_lt t u ≡ true = grind arith in
        let b : nat_le (NEVER - u) (NEVER - 1 - t) ≡ true = grind arith in
        a ∙ sym b
    by (inr l) =
        let high : NEVER - 1 - t < NEVER - u = omega arith in
        let a : nat_lt t u ≡ false = grind arith in
        let b : nat_le (NEVER - u) (NEVER - 1 - t) ≡ false = grind arith in
        a ∙ sym b

-- whether the message of a slot is in flight
flies-at : (t : ℕ) (o : Option Message) → t < NEVER → passes (is_in_flight t) o ≡ nat_le (flight_of o) (NEVER - 1 - t)
flies-at t None small = let past : nat_le NEVER (NEVER - 1 - t) ≡ false = grind arith in sym past
flies-at t (Some m) small = flies t m.until small

-- where two answer alike, one of each is left, or none
alike : {X Y : Type 0} (b c : Bool) (x : X) (y : Y) → b ≡ c → length (cond b (x ∷ []) []) ≡ length (cond c (y ∷ []) [])
alike true true x y e = refl
alike false false x y e = refl
alike true false x y e = absurd cc
alike false true x y e = absurd cc

-- the message of a slot is in flight where what stands beside it is small
one : (t x : ℕ) (o : Option Message) → t < NEVER → x ≡ flight_of o → length (cond (nat_le x (NEVER - 1 - t)) (x ∷ []) []) ≡ length (filter (is_in_flight t) (kept_before o []))
one t x None small e = ap length (ap (λ n. cond (nat_le n (NEVER - 1 - t)) (x ∷ []) []) e ∙ ap (λ b. cond b (x ∷ []) []) (sym (flies-at t None small)))
one t x (Some m) small e = alike (nat_le x (NEVER - 1 - t)) (is_in_flight t m) x m (ap (λ n. nat_le n (NEVER - 1 - t)) e ∙ sym (flies-at t (Some m) small))

flying_upto : (ss : List Slot) (flight_ends : List ℕ) (t k : ℕ) → AreFlights ss flight_ends → t < NEVER → k ≤ length ss → length (filter (λ n. nat_le n (NEVER - 1 - t)) (take k flight_ends)) ≡ length (passing_upto (is_in_flight t) ss k)
flying_upto ss flight_ends t zero are small l = refl
flying_upto ss flight_ends t (suc k) are small l =
    let inside : k < length ss = omega arith in
    let beside : k < length flight_ends = let long = are.long in omega arith in
    let p : ℕ → Bool = λ n. nat_le n (NEVER - 1 - t) in
    let x = get_or flight_ends k 0 in
    let m = (get_or ss k gone).message in
    let last = one t x m small (are.is k inside) in
    let before = flying_upto ss flight_ends t k are small (omega arith) in
    let a = ap length (filter_more p flight_ends k 0 beside) ∙ length-append (filter p (take k flight_ends)) (cond (p x) (x ∷ []) []) in
    let b = ap length (passing-more (is_in_flight t) ss k inside) ∙ length-append (passing_upto (is_in_flight t) ss k) (filter (is_in_flight t) (kept_before m [])) in
    subst (λ n. length (filter p (take n flight_ends)) ≡ length (passing_upto (is_in_flight t) ss n)) (add-one k) (omega (arith, a, b, before, last))

-- as many messages are in flight as small numbers stand beside the slots
pub flying-count : (ss : List Slot) (flight_ends : List ℕ) (t : ℕ) → AreFlights ss flight_ends → t < NEVER → length (filter (λ n. nat_le n (NEVER - 1 - t)) (take (length ss) flight_ends)) ≡ length (filter (is_in_flight t) (live ss))
flying-count ss flight_ends t are small = flying_upto ss flight_ends t (length ss) are small (omega arith) ∙ ap (λ xs. length (filter (is_in_flight t) (live xs))) (take_all (length ss) ss (omega arith))
