-- Slots with one more message at the end.
use Rattle.std.proofs.Common.{◌≡◌, ◌≢◌, ℕ, ◌+◌, ◌-◌, ◌<◌, ◌≤◌, ◌==◌, ◌∙◌, ◌⊎◌, ap, sym, subst, List, [], ◌∷◌, ◌++◌, length, get_or, take, max, Bool, true, false, cond, Option, Some, None, inl, inr, arith, suc, zero, refl}
use Rattle.std.specs.Str.{bytes_eq}
use Rattle.std.specs.Option.{is_some}
use Rattle.std.proofs.lemmas.Bool.{cases_lt}
use Rattle.std.proofs.lemmas.List.{length_push, length-take, length-take-le, get_or_append_left, get_or_push, get_or-take, append-nil, map-append}
use Rattle.std.proofs.lemmas.List.Elements.{filter-append}
use Rattle.cq_base.specs.queue.Messages.{Message}
use Rattle.cq_base.specs.Relations.{Among}
use Rattle.cq_base.proofs.Among.{among-append, among-kept, among-filter}
use Rattle.cq_messages.specs.declared.slot.Slot.{Slot}
use Rattle.cq_messages.specs.within.Groups.{GroupKept, group_at, numbers_or, handed_or, numbers_at, handed_at}
use Rattle.cq_messages.specs.within.Indexed.{AreWaits, AreFlights, AreNumbers, AreHanded, IsIndexed}
use Rattle.cq_messages.specs.Changes.{numbers_of}
use Rattle.cq_messages.specs.declared.slot.TheConstants.{NEVER}
use Rattle.cq_messages.specs.Slots.{live, kept_before, gone, IsOwn, IsAscending, in_group, busy, wait_in, wait_for, flight_of}
use Rattle.cq_messages.proofs.Emptying.{flipped}
use Rattle.cq_messages.proofs.Passing.{live-append, live-more}
use Rattle.cq_messages.proofs.Rising.{live-among, own-number}
use Rattle.cq_messages.proofs.Remaining.{live-place}
use Rattle.cq_messages.proofs.Ascending.{ascending-upto}
use Rattle.cq_messages.proofs.Touching.{same_self}

-- without a slot of no message at the end
pub trimmed-more : (ss : List Slot) (k : ℕ) → k < length ss → (get_or ss k gone).message ≡ None → live (take (k + 1) ss) ≡ live ss → live (take k ss) ≡ live ss
trimmed-more ss k l e h = sym (live-more ss k l ∙ ap (λ o. live (take k ss) ++ kept_before o []) e ∙ append-nil (live (take k ss))) ∙ h

ascending_prefix : (b : ℕ) (ss : List Slot) (k : ℕ) → IsAscending b ss → IsAscending b (take k ss)
ascending_prefix b ss zero h = tt
ascending_prefix b [] (suc k) h = tt
ascending_prefix b (s ∷ ss) (suc k) h = (h.0, (h.1.0, ascending_prefix s.sequence ss k h.1.1))

pub indexed-trimmed : (ss : List Slot) (k : ℕ) (lead_times flight_ends : List ℕ) (groups : List (List ℕ × GroupKept)) → k ≤ length ss → live (take k ss) ≡ live ss → IsIndexed ss lead_times flight_ends groups → IsIndexed (take k ss) lead_times flight_ends groups
indexed-trimmed ss k lead_times flight_ends groups l same is = record {
  ascending = ascending_prefix 0 ss k is.ascending;
  are_waits = record {
    long = let a = is.are_waits.long in omega (arith, length-take-le k ss l);
    is = λ j inside. let near : j < k = omega (arith, length-take-le k ss l) in
        is.are_waits.is j (omega arith) ∙ ap (λ s. wait_for (live ss) s.message) (sym (get_or-take k ss j gone near)) ∙ ap (λ ms. wait_for ms (get_or (take k ss) j gone).message) (sym same);
  };
  are_flights = record {
    long = let a = is.are_flights.long in omega (arith, length-take-le k ss l);
    is = λ j inside. let near : j < k = omega (arith, length-take-le k ss l) in
        is.are_flights.is j (omega arith) ∙ ap (λ s. flight_of s.message) (sym (get_or-take k ss j gone near));
  };
  are_numbers = λ g. is.are_numbers g ∙ ap (λ ms. numbers_of (in_group g ms)) (sym same);
  are_handed = λ m a. is.are_handed m (subst (Among m) same a);
}

pub ascending-pushed : (b : ℕ) (ss : List Slot) (s' : Slot) → IsAscending b ss → b < s'.sequence → ((k : ℕ) → k < length ss → (get_or ss k gone).sequence < s'.sequence) → IsOwn s'.sequence s'.message → IsAscending b (ss ++ s' ∷ [])
ascending-pushed b [] s' h l above own = (l, (own, tt))
ascending-pushed b (s ∷ ss) s' h l above own = (h.0, (h.1.0, ascending-pushed s.sequence ss s' h.1.1 (above 0 (omega arith)) (λ k i. above (suc k) (omega arith)) own))

busy_push : (gs : List Message) (m : Message) → m.until ≡ 0 → busy (gs ++ m ∷ []) ≡ busy gs
busy_push [] m e = omega arith
busy_push (x ∷ gs) m e = ap (max x.until) (busy_push gs m e)

-- a message that was there waits as before
wait_push : (gs : List Message) (m : Message) (y : Message) → m.until ≡ 0 → Among y gs → wait_in gs y.sequence ≡ wait_in (gs ++ m ∷ []) y.sequence
wait_push [] m y e a = absurd a
wait_push (x ∷ gs) m y e a = ap (λ k. cond (x.sequence == y.sequence) k NEVER) (sym (busy_push (x ∷ gs) m e))

-- the new one waits for none, or for ever where another is older
pub wait_new : (gs : List Message) (m : Message) → m.until ≡ 0 → ((x : Message) → Among x gs → x.sequence ≢ m.sequence) → wait_in (gs ++ m ∷ []) m.sequence ≡ cond (length gs == 0) 0 NEVER
wait_new [] m e apart = ap (λ b. cond b (max m.until 0) NEVER) (let is : (m.sequence == m.sequence) ≡ true = grind arith in is) ∙ (let u : max m.until 0 ≡ 0 = omega arith in u)
wait_new (x ∷ gs) m e apart = ap (λ b. cond b (busy (x ∷ gs ++ m ∷ [])) NEVER) (let other = apart x (inl refl) in let is : (x.sequence == m.sequence) ≡ false = grind arith in is) ∙ sym (ap (λ b. cond b 0 NEVER) (let some : (length (x ∷ gs) == 0) ≡ false = grind arith in some))

group_push : (g : List ℕ) (ms : List Message) (m : Message) → in_group g (ms ++ m ∷ []) ≡ in_group g ms ++ cond (bytes_eq g m.group) (m ∷ []) []
group_push g ms m = filter-append (λ y. bytes_eq g y.group) ms (m ∷ [])

wait_kept : (ms : List Message) (m y : Message) → m.until ≡ 0 → Among y ms → wait_for ms (Some y) ≡ wait_for (ms ++ m ∷ []) (Some y)
wait_kept ms m y e a = by (bytes_eq y.group m.group) (group_push y.group ms m)
  where
    by : (b : Bool) → in_group y.group (ms ++ m ∷ []) ≡ in_group y.group ms ++ cond b (m ∷ []) [] → wait_in (in_group y.group ms) y.sequence ≡ wait_in (in_group y.group (ms ++ m ∷ [])) y.sequence
    by true h = wait_push (in_group y.group ms) m y e (among-kept (λ z. bytes_eq y.group z.group) y ms (same_self y.group) a) ∙ ap (λ gs. wait_in gs y.sequence) (sym h)
    by false h = ap (λ gs. wait_in gs y.sequence) (sym (h ∙ append-nil (in_group y.group ms)))

pub numbers-pushed : (ss : List Slot) (s' : Slot) (m : Message) (groups groups' : List (List ℕ × GroupKept)) → s'.message ≡ Some m → AreNumbers ss groups
    → ((g : List ℕ) → numbers_at groups' g ≡ cond (bytes_eq m.group g) (numbers_at groups g ++ m.sequence ∷ []) (numbers_at groups g)) → AreNumbers (ss ++ s' ∷ []) groups'
numbers-pushed ss s' m groups groups' e are added g = by (bytes_eq m.group g) refl (added g)
  where
    all : live (ss ++ s' ∷ []) ≡ live ss ++ m ∷ []
    all = live-append ss (s' ∷ []) ∙ ap (λ o. live ss ++ kept_before o []) e

    by : (b : Bool) → bytes_eq m.group g ≡ b → numbers_at groups' g ≡ cond b (numbers_at groups g ++ m.sequence ∷ []) (numbers_at groups g) → numbers_at groups' g ≡ numbers_of (in_group g (live (ss ++ s' ∷ [])))
    by true d h = h ∙ ap (λ ns. ns ++ m.sequence ∷ []) (are g) ∙ sym (map-append (λ x. x.sequence) (in_group g (live ss)) (m ∷ []))
        ∙ ap (λ b. numbers_of (in_group g (live ss) ++ cond b (m ∷ []) [])) (sym (flipped m.group g true d)) ∙ ap numbers_of (sym (group_push g (live ss) m)) ∙ ap (λ ms. numbers_of (in_group g ms)) (sym all)
    by false d h = h ∙ are g ∙ ap numbers_of (sym (append-nil (in_group g (live ss))))
        ∙ ap (λ b. numbers_of (in_group g (live ss) ++ cond b (m ∷ []) [])) (sym (flipped m.group g false d)) ∙ ap numbers_of (sym (group_push g (live ss) m)) ∙ ap (λ ms. numbers_of (in_group g ms)) (sym all)

pub handed-pushed : (ss : List Slot) (s' : Slot) (m : Message) (groups groups' : List (List ℕ × GroupKept)) → s'.message ≡ Some m → m.until ≡ 0 → AreHanded ss groups → ((g : List ℕ) → handed_at groups' g ≡ handed_at groups g) → AreHanded (ss ++ s' ∷ []) groups'
handed-pushed ss s' m groups groups' e fresh old same x a upto = by (among-append x (live ss) (m ∷ []) (subst (Among x) (live-append ss (s' ∷ []) ∙ ap (λ o. live ss ++ kept_before o []) e) a))
  where
    by : Among x (live ss) ⊎ Among x (m ∷ []) → x.sequence ≤ handed_at groups' x.group
    by (inl before) = subst (λ n. x.sequence ≤ n) (sym (same x.group)) (old x before upto)
    by (inr (inl is)) = absurd (let u : x.until ≡ m.until = ap (λ y. y.until) is in omega arith)
    by (inr (inr nothing)) = absurd nothing

-- what stands beside the slots, for one more
pub lead_times-pushed : (ss : List Slot) (s' : Slot) (m : Message) (lead_times waits' : List ℕ) → s'.message ≡ Some m → m.until ≡ 0 → AreWaits ss lead_times → ((x : Message) → Among x (live ss) → x.sequence ≢ m.sequence)
    → length ss < length waits' → ((k : ℕ) → k < length ss → get_or waits' k 0 ≡ get_or lead_times k 0) → get_or waits' (length ss) 0 ≡ cond (length (in_group m.group (live ss)) == 0) 0 NEVER → AreWaits (ss ++ s' ∷ []) waits'
lead_times-pushed ss s' m lead_times waits' e fresh are apart long same new = record {
  long = omega (arith, length_push ss s');
  is = λ k inside. by k (cases_lt k (length ss)) inside;
}
  where
    all : live (ss ++ s' ∷ []) ≡ live ss ++ m ∷ []
    all = live-append ss (s' ∷ []) ∙ ap (λ o. live ss ++ kept_before o []) e

    old : (k : ℕ) → k < length ss → (o : Option Message) → (get_or ss k gone).message ≡ o → wait_for (live ss) o ≡ wait_for (live ss ++ m ∷ []) o
    old k l None at = refl
    old k l (Some y) at = wait_kept (live ss) m y fresh (live-among ss k y l at)

    last : wait_for (live ss ++ m ∷ []) (Some m) ≡ cond (length (in_group m.group (live ss)) == 0) 0 NEVER
    last = ap (λ gs. wait_in gs m.sequence) (group_push m.group (live ss) m ∙ ap (λ b. in_group m.group (live ss) ++ cond b (m ∷ []) []) (same_self m.group))
        ∙ wait_new (in_group m.group (live ss)) m fresh (λ x a. apart x (among-filter (λ y. bytes_eq m.group y.group) x (live ss) a).0)

    by : (k : ℕ) → (k < length ss) ⊎ (length ss ≤ k) → k < length (ss ++ s' ∷ []) → get_or waits' k 0 ≡ wait_for (live (ss ++ s' ∷ [])) (get_or (ss ++ s' ∷ []) k gone).message
    by k (inl l) inside = same k l ∙ are.is k l ∙ old k l (get_or ss k gone).message refl ∙ ap (λ s. wait_for (live ss ++ m ∷ []) s.message) (sym (get_or_append_left ss (s' ∷ []) gone k l)) ∙ ap (λ ms. wait_for ms (get_or (ss ++ s' ∷ []) k gone).message) (sym all)
    by k (inr l) inside =
        let is : k ≡ length ss = omega (arith, length_push ss s') in
        ap (λ j. get_or waits' j 0) is ∙ new ∙ sym last ∙ ap (wait_for (live ss ++ m ∷ [])) (sym e)
        ∙ ap (λ s. wait_for (live ss ++ m ∷ []) s.message) (sym (get_or_push ss s' gone k (sym is))) ∙ ap (λ ms. wait_for ms (get_or (ss ++ s' ∷ []) k gone).message) (sym all)

pub flight_ends-pushed : (ss : List Slot) (s' : Slot) (m : Message) (flight_ends flights' : List ℕ) → s'.message ≡ Some m → m.until ≡ 0 → AreFlights ss flight_ends
    → length ss < length flights' → ((k : ℕ) → k < length ss → get_or flights' k 0 ≡ get_or flight_ends k 0) → get_or flights' (length ss) 0 ≡ NEVER → AreFlights (ss ++ s' ∷ []) flights'
flight_ends-pushed ss s' m flight_ends flights' e fresh are long same new = record {
  long = omega (arith, length_push ss s');
  is = λ k inside. by k (cases_lt k (length ss)) inside;
}
  where
    by : (k : ℕ) → (k < length ss) ⊎ (length ss ≤ k) → k < length (ss ++ s' ∷ []) → get_or flights' k 0 ≡ flight_of (get_or (ss ++ s' ∷ []) k gone).message
    by k (inl l) inside = same k l ∙ are.is k l ∙ ap (λ s. flight_of s.message) (sym (get_or_append_left ss (s' ∷ []) gone k l))
    by k (inr l) inside =
        let is : k ≡ length ss = omega (arith, length_push ss s') in
        ap (λ j. get_or flights' j 0) is ∙ new ∙ (let u : NEVER ≡ NEVER - m.until = omega arith in u) ∙ ap flight_of (sym e) ∙ ap (λ s. flight_of s.message) (sym (get_or_push ss s' gone k (sym is)))

-- all that is kept beside the slots, for one more message
pub indexed-pushed : (ss : List Slot) (s' : Slot) (m : Message) (lead_times waits' flight_ends flights' : List ℕ) (groups groups' : List (List ℕ × GroupKept)) → IsIndexed ss lead_times flight_ends groups → s'.message ≡ Some m → s'.sequence ≡ m.sequence → m.until ≡ 0 → 0 < m.sequence
    → ((k : ℕ) → k < length ss → (get_or ss k gone).sequence < m.sequence)
    → length ss < length waits' → ((k : ℕ) → k < length ss → get_or waits' k 0 ≡ get_or lead_times k 0) → get_or waits' (length ss) 0 ≡ cond (length (in_group m.group (live ss)) == 0) 0 NEVER
    → length ss < length flights' → ((k : ℕ) → k < length ss → get_or flights' k 0 ≡ get_or flight_ends k 0) → get_or flights' (length ss) 0 ≡ NEVER
    → ((g : List ℕ) → numbers_at groups' g ≡ cond (bytes_eq m.group g) (numbers_at groups g ++ m.sequence ∷ []) (numbers_at groups g)) → ((g : List ℕ) → handed_at groups' g ≡ handed_at groups g)
    → IsIndexed (ss ++ s' ∷ []) waits' flights' groups'
indexed-pushed ss s' m lead_times waits' flight_ends flights' groups groups' is e number fresh positive above wl ws wn fl fs fn added handed = record {
  ascending = ascending-pushed 0 ss s' is.ascending (subst (λ n. 0 < n) (sym number) positive) (λ k l. subst (λ n. (get_or ss k gone).sequence < n) (sym number) (above k l)) (own s'.message e);
  are_waits = lead_times-pushed ss s' m lead_times waits' e fresh is.are_waits (λ x a eq. let r = live-place ss x a in let low = above r.0 r.1.within in let at = own-number 0 ss r.0 x is.ascending r.1.within r.1.message in omega arith) wl ws wn;
  are_flights = flight_ends-pushed ss s' m flight_ends flights' e fresh is.are_flights fl fs fn;
  are_numbers = numbers-pushed ss s' m groups groups' e is.are_numbers added;
  are_handed = handed-pushed ss s' m groups groups' e fresh is.are_handed handed;
}
  where
    own : (o : Option Message) → o ≡ Some m → IsOwn s'.sequence o
    own None h = absurd cc
    own (Some x) h = (let same : x ≡ m = cc in ap (λ y. y.sequence) same) ∙ sym number

-- more room beside the slots
pub indexed-grown : (ss : List Slot) (lead_times waits' flight_ends flights' : List ℕ) (groups : List (List ℕ × GroupKept)) → IsIndexed ss lead_times flight_ends groups → length ss ≤ length waits' → ((k : ℕ) → k < length ss → get_or waits' k 0 ≡ get_or lead_times k 0)
    → length ss ≤ length flights' → ((k : ℕ) → k < length ss → get_or flights' k 0 ≡ get_or flight_ends k 0) → IsIndexed ss waits' flights' groups
indexed-grown ss lead_times waits' flight_ends flights' groups is wl ws fl fs = record {
  ascending = is.ascending;
  are_waits = record { long = wl; is = λ k l. ws k l ∙ is.are_waits.is k l };
  are_flights = record { long = fl; is = λ k l. fs k l ∙ is.are_flights.is k l };
  are_numbers = is.are_numbers;
  are_handed = is.are_handed;
}

-- groups that have the same
pub indexed-regrouped : (ss : List Slot) (lead_times flight_ends : List ℕ) (groups groups' : List (List ℕ × GroupKept)) → IsIndexed ss lead_times flight_ends groups → ((g : List ℕ) → group_at groups' g ≡ group_at groups g) → IsIndexed ss lead_times flight_ends groups'
indexed-regrouped ss lead_times flight_ends groups groups' is same = record {
  ascending = is.ascending;
  are_waits = is.are_waits;
  are_flights = is.are_flights;
  are_numbers = λ g. ap numbers_or (same g) ∙ is.are_numbers g;
  are_handed = λ m a upto. subst (λ o. m.sequence ≤ handed_or o) (sym (same m.group)) (is.are_handed m a upto);
}

-- the messages of a prefix, in their order
pub prefix-indexed : (ss new : List Slot) (lead_times flight_ends : List ℕ) (groups : List (List ℕ × GroupKept)) → new ≡ take (length new) ss → live new ≡ live ss → IsIndexed ss lead_times flight_ends groups → IsIndexed new lead_times flight_ends groups
prefix-indexed ss new lead_times flight_ends groups prefix same is =
    let l : length new ≤ length ss = let e = ap length prefix in omega (arith, e, length-take (length new) ss) in
    subst (λ xs. IsIndexed xs lead_times flight_ends groups) (sym prefix) (indexed-trimmed ss (length new) lead_times flight_ends groups l (ap live (sym prefix) ∙ same) is)

-- the same of a list that has room for one more than the prefix
pub reserved-indexed : (ss new left : List Slot) (lead_times flight_ends : List ℕ) (groups : List (List ℕ × GroupKept)) → left ≡ new → new ≡ take (length new) ss → live new ≡ live ss → IsIndexed ss lead_times flight_ends groups → IsIndexed left lead_times flight_ends groups
reserved-indexed ss new left lead_times flight_ends groups all prefix same is = subst (λ xs. IsIndexed xs lead_times flight_ends groups) (sym all) (prefix-indexed ss new lead_times flight_ends groups prefix same is)

-- after its last message a slot's number is above all
pub last-above : (ss : List Slot) (n : ℕ) → IsAscending 0 ss → ((k : ℕ) → k + 1 ≡ length ss → (get_or ss k gone).message ≢ None) → ((m : Message) → Among m (live ss) → m.sequence < n) → (k : ℕ) → k < length ss → (get_or ss k gone).sequence < n
last-above ss n h last below k l = by (get_or ss (length ss - 1) gone).message refl
  where
    by : (o : Option Message) → (get_or ss (length ss - 1) gone).message ≡ o → (get_or ss k gone).sequence < n
    by None e = absurd (last (length ss - 1) (omega arith) e)
    by (Some m) e =
        let there : length ss - 1 < length ss = omega arith in
        let low = below m (live-among ss (length ss - 1) m there e) in
        let at = own-number 0 ss (length ss - 1) m h there e in
        let order = ascending-upto 0 ss k (length ss - 1) h (omega arith) there in
        omega arith

pub no_some : (o : Option Message) → is_some o ≡ false → o ≡ None
no_some None e = refl
no_some (Some m) e = absurd cc
