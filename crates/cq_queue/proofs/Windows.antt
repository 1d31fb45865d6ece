-- The accepted sends of a window, as one more comes and the first goes.
use Rattle.std.proofs.Common.{◌≡◌, ℕ, ◌+◌, ◌<◌, ◌≤◌, ◌∙◌, ◌&&◌, ap, sym, subst, List, [], ◌∷◌, ◌++◌, length, get_or, Option, Some, None, Bool, true, false, cond, arith, refl}
use Rattle.std.specs.Prelude.{nat_lt}
use Rattle.std.specs.List.{filter, find, All}
use Rattle.std.specs.Option.{option_map, option_or}
use Rattle.std.specs.Str.{bytes_eq}
use Rattle.std.proofs.lemmas.Bool.Decides.{nat_tests}
use Rattle.std.proofs.lemmas.List.Elements.{All-head, All-tail}
use Rattle.std.proofs.lemmas.List.Folds.{find-append}
use Rattle.std.proofs.lemmas.Slice.Eq.{bytes_eq-Decides}
use Rattle.cq_base.specs.declared.limits.TheConstants.{DEDUPLICATION_WINDOW}
use Rattle.cq_base.specs.queue.Incarnations.{Accepted, is_recent, counts_for, repeated}
use Rattle.cq_queue.specs.declared.accepted.Known.{Known}
use Rattle.cq_queue.specs.within.Windows.{has_id, IsBy, IsRising, AreDistinct, known_of, known_at, answered, IsWindow}

-- a lower bound serves too
rising-lower : (a b : ℕ) (xs : List Accepted) → a ≤ b → IsRising b xs → IsRising a xs
rising-lower a b [] l h = tt
rising-lower a b (x ∷ xs) l h = (let first = h.0 in omega arith, h.1)

-- one more that came no earlier than any
rising-more : (b : ℕ) (xs : List Accepted) (one : Accepted) → b ≤ one.moment → All (IsBy one.moment) xs → IsRising b xs → IsRising b (xs ++ one ∷ [])
rising-more b [] one l by h = (l, tt)
rising-more b (x ∷ xs) one l by h = (h.0, rising-more x.moment xs one (All-head (IsBy one.moment) x xs by) (All-tail (IsBy one.moment) x xs by) h.1)

-- where the lower bound is recent, so are all
recent_above : (moment b : ℕ) (xs : List Accepted) → nat_lt moment (b + DEDUPLICATION_WINDOW) ≡ true → IsRising b xs → filter (is_recent moment) xs ≡ xs
recent_above moment b [] recent h = refl
recent_above moment b (x ∷ xs) recent h =
    let above = h.0 in
    let first = later moment b x.moment above recent in
    ap (λ c. cond c (x ∷ filter (is_recent moment) xs) (filter (is_recent moment) xs)) first ∙ ap (λ ys. x ∷ ys) (recent_above moment x.moment xs first h.1)
  where
    later : (moment b m : ℕ) → b ≤ m → nat_lt moment (b + DEDUPLICATION_WINDOW) ≡ true → nat_lt moment (m + DEDUPLICATION_WINDOW) ≡ true
    later moment b m above recent = grind (arith, nat_tests)

-- where the first is recent, all are
pub recent-all : (moment : ℕ) (xs : List Accepted) (d : Accepted) → 0 < length xs → is_recent moment (get_or xs 0 d) ≡ true → IsRising 0 xs → filter (is_recent moment) xs ≡ xs
recent-all moment [] d some recent h = absurd (omega arith)
recent-all moment (x ∷ xs) d some recent h = ap (λ c. cond c (x ∷ filter (is_recent moment) xs) (filter (is_recent moment) xs)) recent ∙ ap (λ ys. x ∷ ys) (recent_above moment x.moment xs recent h.1)

-- equal ids are one
same_id : (a b : List ℕ) → bytes_eq a b ≡ true → a ≡ b
same_id a b e = (bytes_eq-Decides a b).0 e

-- two ids are equal either way round
swapped_id : (a b : List ℕ) → bytes_eq a b ≡ false → bytes_eq b a ≡ false
swapped_id a b e = other (bytes_eq b a) refl
  where
    other : (c : Bool) → bytes_eq b a ≡ c → c ≡ false
    other false h = refl
    other true h = absurd (let same : b ≡ a = same_id b a h in let wrong : true ≡ false = sym h ∙ ap (λ x. bytes_eq x a) same ∙ ap (bytes_eq a) (sym same) ∙ e in cc)

-- none is found in a list only where the first fails
none_first : (b : Bool) (x : Accepted) (found : Option Accepted) → cond b (Some x) found ≡ None → (b ≡ false) × (found ≡ None)
none_first true x found h = absurd (cc)
none_first false x found h = (refl, h)

-- one more with a new id
distinct-more : (xs : List Accepted) (one : Accepted) → find (has_id one.dedup) xs ≡ None → AreDistinct xs → AreDistinct (xs ++ one ∷ [])
distinct-more [] one new h = (refl, tt)
distinct-more (x ∷ xs) one new h =
    let parts = none_first (bytes_eq x.dedup one.dedup) x (find (has_id one.dedup) xs) new in (
      find-append (has_id x.dedup) xs (one ∷ []) ∙ ap (λ o. option_or o (cond (bytes_eq one.dedup x.dedup) (Some one) None)) h.0 ∙ ap (λ b. cond b (Some one) None) (swapped_id x.dedup one.dedup parts.0),
      distinct-more xs one parts.1 h.1,
    )

-- what is known of an id after the first went, and its id with it
found_rest : (id : List ℕ) (x : Accepted) (xs : List Accepted) (old new : Option Known) → find (has_id x.dedup) xs ≡ None → old ≡ option_map known_of (find (has_id id) (x ∷ xs)) → new ≡ cond (bytes_eq x.dedup id) None old → new ≡ option_map known_of (find (has_id id) xs)
found_rest id x xs old new alone was h = either (bytes_eq x.dedup id) refl was h
  where
    either : (b : Bool) → bytes_eq x.dedup id ≡ b → old ≡ option_map known_of (cond b (Some x) (find (has_id id) xs)) → new ≡ cond b None old → new ≡ option_map known_of (find (has_id id) xs)
    either true e was' h' = h' ∙ ap (option_map known_of) (sym (ap (λ i. find (has_id i) xs) (sym (same_id x.dedup id e)) ∙ alone))
    either false e was' h' = h' ∙ was'

-- a window without its first
pub window-rest : (x : Accepted) (xs ys : List Accepted) (old new : List (List ℕ × Known)) → ys ≡ x ∷ xs → IsWindow ys old → ((id : List ℕ) → known_at new id ≡ cond (bytes_eq x.dedup id) None (known_at old id)) → IsWindow xs new
window-rest x xs ys old new is window h =
    let own : IsWindow (x ∷ xs) old = subst (λ zs. IsWindow zs old) is window in
    record {
      rising = rising-lower 0 x.moment xs (omega arith) own.rising.1;
      distinct = own.distinct.1;
      found = λ id. found_rest id x xs (known_at old id) (known_at new id) own.distinct.0 (own.found id) (h id);
    }

-- something or nothing
or_none : {X : Type 0} (o : Option X) → option_or o None ≡ o
or_none None = refl
or_none (Some x) = refl

-- what is known of an id with one more
found_more : (id : List ℕ) (xs : List Accepted) (one : Accepted) (old new : Option Known) → find (has_id one.dedup) xs ≡ None → old ≡ option_map known_of (find (has_id id) xs) → new ≡ cond (bytes_eq one.dedup id) (Some (known_of one)) old → new ≡ option_map known_of (find (has_id id) (xs ++ one ∷ []))
found_more id xs one old new alone was h = either (bytes_eq one.dedup id) refl h ∙ ap (option_map known_of) (sym (find-append (has_id id) xs (one ∷ [])))
  where
    either : (b : Bool) → bytes_eq one.dedup id ≡ b → new ≡ cond b (Some (known_of one)) old → new ≡ option_map known_of (option_or (find (has_id id) xs) (cond (bytes_eq one.dedup id) (Some one) None))
    either true e h' = h' ∙ sym (ap (λ c. option_map known_of (option_or (find (has_id id) xs) (cond c (Some one) None))) e ∙ ap (λ o. option_map known_of (option_or o (Some one))) (ap (λ i. find (has_id i) xs) (sym (same_id one.dedup id e)) ∙ alone))
    either false e h' = h' ∙ was ∙ sym (ap (λ c. option_map known_of (option_or (find (has_id id) xs) (cond c (Some one) None))) e ∙ ap (option_map known_of) (or_none (find (has_id id) xs)))

-- a window with one more
pub window-more : (xs : List Accepted) (one : Accepted) (old new : List (List ℕ × Known)) → find (has_id one.dedup) xs ≡ None → All (IsBy one.moment) xs → IsWindow xs old
    → ((id : List ℕ) → known_at new id ≡ cond (bytes_eq one.dedup id) (Some (known_of one)) (known_at old id)) → IsWindow (xs ++ one ∷ []) new
window-more xs one old new alone by window h = record {
  rising = rising-more 0 xs one (omega arith) by window.rising;
  distinct = distinct-more xs one alone window.distinct;
  found = λ id. found_more id xs one (known_at old id) (known_at new id) alone (window.found id) (h id);
}

-- the same window, where the same is known of each id
pub window-known : (xs : List Accepted) (old new : List (List ℕ × Known)) → IsWindow xs old → ((id : List ℕ) → known_at new id ≡ known_at old id) → IsWindow xs new
window-known xs old new window same = record { rising = window.rising; distinct = window.distinct; found = λ id. same id ∙ window.found id }

-- where no one has the id, none counts
none_counts : (id : List ℕ) (moment : ℕ) (xs : List Accepted) → find (has_id id) xs ≡ None → find (counts_for id moment) xs ≡ None
none_counts id moment [] none = refl
none_counts id moment (x ∷ xs) none =
    let parts = none_first (bytes_eq x.dedup id) x (find (has_id id) xs) none in
    ap (λ b. cond (b && is_recent moment x) (Some x) (find (counts_for id moment) xs)) parts.0 ∙ none_counts id moment xs parts.1

-- what is known of an id answers a send that has it
repeated_found : (id : List ℕ) (moment : ℕ) (xs : List Accepted) → AreDistinct xs → repeated id moment xs ≡ answered moment (option_map known_of (find (has_id id) xs))
repeated_found id moment [] distinct = refl
repeated_found id moment (x ∷ xs) distinct = either (bytes_eq x.dedup id) refl (repeated_found id moment xs distinct.1)
  where
    recent_or : (b : Bool) → option_map (λ a. a.sequence) (cond b (Some x) None) ≡ cond b (Some x.sequence) None
    recent_or true = refl
    recent_or false = refl

    either : (b : Bool) → bytes_eq x.dedup id ≡ b → repeated id moment xs ≡ answered moment (option_map known_of (find (has_id id) xs)) → option_map (λ a. a.sequence) (cond (b && is_recent moment x) (Some x) (find (counts_for id moment) xs)) ≡ answered moment (option_map known_of (cond b (Some x) (find (has_id id) xs)))
    either true e rest =
        let alone = ap (λ i. find (has_id i) xs) (sym (same_id x.dedup id e)) ∙ distinct.0 in
        ap (λ o. option_map (λ a. a.sequence) (cond (is_recent moment x) (Some x) o)) (none_counts id moment xs alone) ∙ recent_or (is_recent moment x)
    either false e rest = rest

-- so does what is found under it
pub repeated-known : (id : List ℕ) (moment : ℕ) (xs : List Accepted) (known : List (List ℕ × Known)) → IsWindow xs known → repeated id moment xs ≡ answered moment (known_at known id)
repeated-known id moment xs known window = repeated_found id moment xs window.distinct ∙ ap (answered moment) (sym (window.found id))

-- all that are recent count, so that an id that doesn't count isn't there
pub new-id : (id : List ℕ) (moment : ℕ) (xs : List Accepted) → repeated id moment xs ≡ None → find (has_id id) (filter (is_recent moment) xs) ≡ None
new-id id moment [] none = refl
new-id id moment (x ∷ xs) none = either (is_recent moment x) (bytes_eq x.dedup id) refl none (new-id id moment xs)
  where
    some_sequence : (o : Option Accepted) → option_map (λ a. a.sequence) (cond true (Some x) o) ≡ None → ⊥
    some_sequence o h = cc

    either : (r b : Bool) → bytes_eq x.dedup id ≡ b → option_map (λ a. a.sequence) (cond (b && r) (Some x) (find (counts_for id moment) xs)) ≡ None
        → (repeated id moment xs ≡ None → find (has_id id) (filter (is_recent moment) xs) ≡ None)
        → find (has_id id) (cond r (x ∷ filter (is_recent moment) xs) (filter (is_recent moment) xs)) ≡ None
    either true true e h rest = absurd (some_sequence (find (counts_for id moment) xs) h)
    either true false e h rest = ap (λ c. cond c (Some x) (find (has_id id) (filter (is_recent moment) xs))) e ∙ rest h
    either false true e h rest = rest h
    either false false e h rest = rest h
