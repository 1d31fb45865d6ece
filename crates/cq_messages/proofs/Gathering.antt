-- Slots of which only those are left that have a message.
use Rattle.std.proofs.Common.{◌≡◌, ◌≢◌, ℕ, ◌+◌, ◌<◌, ◌≤◌, ◌∙◌, ◌⊎◌, ap, sym, subst, List, [], ◌∷◌, ◌++◌, length, get_or, set, take, Bool, true, false, cond, Option, Some, None, inl, inr, arith, refl}
use Rattle.std.specs.Option.{is_some}
use Rattle.std.proofs.lemmas.Bool.{cases_lt}
use Rattle.std.proofs.lemmas.List.{append-nil, length_push, get_or_append_left, get_or_push, get_or-set_same, get_or-set_other, length-take-le}
use Rattle.std.proofs.lemmas.List.Elements.{filter_more}
use Rattle.cq_base.specs.queue.Messages.{Message}
use Rattle.cq_base.specs.Relations.{Among}
use Rattle.cq_messages.specs.declared.slot.Slot.{Slot}
use Rattle.cq_messages.specs.within.Gathered.{AreGathered, IsBeside, is_full, full_slots}
use Rattle.cq_messages.specs.within.Groups.{GroupKept}
use Rattle.cq_messages.specs.Changes.{numbers_of}
use Rattle.cq_messages.specs.within.Indexed.{IsIndexed}
use Rattle.cq_messages.specs.Slots.{live, kept_before, gone, IsAscending, in_group, wait_for, flight_of}

-- there are no more than before
pub full-short : (ss : List Slot) → length (full_slots ss) ≤ length ss
full-short [] = omega arith
full-short (s ∷ ss) = by (is_full s) (full-short ss)
  where
    by : (b : Bool) → length (full_slots ss) ≤ length ss → length (cond b (s ∷ full_slots ss) (full_slots ss)) ≤ length (s ∷ ss)
    by true h = omega arith
    by false h = omega arith

-- a slot with a message is one more
full_next : (ss : List Slot) (i : ℕ) → i < length ss → is_full (get_or ss i gone) ≡ true → full_slots (take (i + 1) ss) ≡ full_slots (take i ss) ++ get_or ss i gone ∷ []
full_next ss i l e = filter_more is_full ss i gone l ∙ ap (λ b. full_slots (take i ss) ++ cond b (get_or ss i gone ∷ []) []) e

-- and another isn't
pub full-skip : (ss : List Slot) (i : ℕ) → i < length ss → is_full (get_or ss i gone) ≡ false → full_slots (take (i + 1) ss) ≡ full_slots (take i ss)
full-skip ss i l e = filter_more is_full ss i gone l ∙ ap (λ b. full_slots (take i ss) ++ cond b (get_or ss i gone ∷ []) []) e ∙ append-nil (full_slots (take i ss))

pub full-count : (ss : List Slot) (i : ℕ) → i < length ss → is_full (get_or ss i gone) ≡ true → length (full_slots (take (i + 1) ss)) ≡ length (full_slots (take i ss)) + 1
full-count ss i l e = ap length (full_next ss i l e) ∙ length_push (full_slots (take i ss)) (get_or ss i gone)

-- they are as many at most as the slots that were passed
pub full-upto : (ss : List Slot) (i : ℕ) → i ≤ length ss → length (full_slots (take i ss)) ≤ i
full-upto ss i l = let a = full-short (take i ss) in let b = length-take-le i ss l in omega arith

-- a write behind them leaves what stands beside them
pub beside-apart : (f : Slot → ℕ) (xs : List Slot) (from v : ℕ) (tree : List ℕ) → length xs ≤ from → IsBeside f xs tree → IsBeside f xs (set tree from v)
beside-apart f xs from v tree past prefix k inside = let other : k ≢ from = λ e. omega arith in get_or-set_other tree from k v 0 other ∙ prefix k inside

-- what stands beside one more is moved behind the others
pub beside-next : (f : Slot → ℕ) (ss : List Slot) (i to v : ℕ) (tree : List ℕ) → i < length ss → is_full (get_or ss i gone) ≡ true → to ≡ length (full_slots (take i ss)) → to < length tree
    → v ≡ f (get_or ss i gone) → IsBeside f (full_slots (take i ss)) tree → IsBeside f (full_slots (take (i + 1) ss)) (set tree to v)
beside-next f ss i to v tree l e at room is prefix = subst (λ xs. IsBeside f xs (set tree to v)) (sym (full_next ss i l e)) (λ k inside. by k (cases_lt k to) inside)
  where
    xs : List Slot
    xs = full_slots (take i ss)

    s : Slot
    s = get_or ss i gone

    by : (k : ℕ) → (k < to) ⊎ (to ≤ k) → k < length (xs ++ s ∷ []) → get_or (set tree to v) k 0 ≡ f (get_or (xs ++ s ∷ []) k gone)
    by k (inl small) inside =
        let there : k < length xs = omega arith in
        let other : k ≢ to = λ eq. omega arith in
        get_or-set_other tree to k v 0 other ∙ prefix k there ∙ ap f (sym (get_or_append_left xs (s ∷ []) gone k there))
    by k (inr big) inside =
        let last : k ≡ to = omega (arith, length_push xs s) in
        ap (λ j. get_or (set tree to v) j 0) last ∙ get_or-set_same tree to v 0 room ∙ is ∙ ap f (sym (get_or_push xs s gone k (sym at ∙ sym last)))

ascending_lower : (a b : ℕ) (ss : List Slot) → a ≤ b → IsAscending b ss → IsAscending a ss
ascending_lower a b [] l h = tt
ascending_lower a b (s ∷ ss) l h = (let above = h.0 in omega arith, h.1)

-- their order stays
pub ascending-full : (b : ℕ) (ss : List Slot) → IsAscending b ss → IsAscending b (full_slots ss)
ascending-full b [] h = tt
ascending-full b (s ∷ ss) h = by (is_full s) (ascending-full s.sequence ss h.1.1)
  where
    by : (c : Bool) → IsAscending s.sequence (full_slots ss) → IsAscending b (cond c (s ∷ full_slots ss) (full_slots ss))
    by true later = (h.0, (h.1.0, later))
    by false later = ascending_lower b s.sequence (full_slots ss) (let above = h.0 in omega arith) later

-- and so do the messages
pub live-full : (ss : List Slot) → live (full_slots ss) ≡ live ss
live-full [] = refl
live-full (s ∷ ss) = by s.message refl (live-full ss)
  where
    by : (o : Option Message) → s.message ≡ o → live (full_slots ss) ≡ live ss → live (cond (is_some o) (s ∷ full_slots ss) (full_slots ss)) ≡ kept_before o (live ss)
    by None e later = later
    by (Some m) e later = ap (λ q. kept_before q (live (full_slots ss))) e ∙ ap (λ ms. m ∷ ms) later

-- and what stands beside them
pub indexed-gathered : (ss : List Slot) (lead_times waits' flight_ends flights' : List ℕ) (groups : List (List ℕ × GroupKept)) → AreGathered ss lead_times waits' → AreGathered ss flight_ends flights' → IsIndexed ss lead_times flight_ends groups → IsIndexed (full_slots ss) waits' flights' groups
indexed-gathered ss lead_times waits' flight_ends flights' groups gw gf is = record {
  ascending = ascending-full 0 ss is.ascending;
  are_waits = record {
    long = let a = is.are_waits.long in let b = gw.long in let c = full-short ss in omega arith;
    is = λ k inside. gw.beside (λ s. wait_for (live ss) s.message) is.are_waits.is k inside ∙ ap (λ ms. wait_for ms (get_or (full_slots ss) k gone).message) (sym (live-full ss));
  };
  are_flights = record {
    long = let a = is.are_flights.long in let b = gf.long in let c = full-short ss in omega arith;
    is = λ k inside. gf.beside (λ s. flight_of s.message) is.are_flights.is k inside;
  };
  are_numbers = λ g. is.are_numbers g ∙ ap (λ ms. numbers_of (in_group g ms)) (sym (live-full ss));
  are_handed = λ m a. is.are_handed m (subst (Among m) (live-full ss) a);
}
