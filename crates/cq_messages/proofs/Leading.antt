-- Which messages lead, by what stands beside them.
use Rattle.std.proofs.Common.{◌≡◌, ℕ, ◌<◌, ◌≤◌, ◌==◌, ◌∙◌, ◌&&◌, ◌||◌, ap, sym, List, [], ◌∷◌, length, get_or, max, Bool, true, false, not, cond, nat_lt, nat_le, Option, Some, None, inl, inr, arith, refl}
use Rattle.std.specs.List.{filter, list_any}
use Rattle.std.specs.Str.{bytes_eq}
use Rattle.std.proofs.lemmas.Slice.Eq.{bytes_eq-Decides}
use Rattle.cq_base.specs.queue.Messages.{Message}
use Rattle.cq_base.specs.queue.Receiving.{is_same_group, is_in_flight, is_open, leads}
use Rattle.cq_base.specs.Relations.{Among}
use Rattle.cq_base.proofs.Among.{among-kept}
use Rattle.cq_messages.specs.declared.slot.Slot.{Slot}
use Rattle.cq_messages.specs.declared.slot.TheConstants.{NEVER}
use Rattle.cq_messages.specs.Slots.{live, gone, IsAscending, in_group, busy, wait_in, wait_for, passes}
use Rattle.cq_min_index.specs.Firsts.{AreAbove, IsFirst}
use Rattle.cq_messages.specs.within.Indexed.{AreWaits}
use Rattle.cq_messages.specs.within.Passing.{NonePasses, IsNext}
use Rattle.cq_messages.specs.Ordered.{IsRising}
use Rattle.cq_messages.proofs.Rising.{rising-filter, rising-above, live-rising, live-among}

any_step : (a b c : Bool) {X : Type 0} (q : X → Bool) (x : X) (xs : List X) → q x ≡ b → list_any q xs ≡ c → (a && b || c) ≡ list_any q (cond a (x ∷ xs) xs)
any_step true b c q x xs e h = ap (λ d. d || c) (sym e) ∙ ap (λ d. q x || d) (sym h)
any_step false b c q x xs e h = sym h

-- some pass both tests where some of those that pass the first pass the second
pub any-filter : {X : Type 0} (p q : X → Bool) (xs : List X) → list_any (λ y. p y && q y) xs ≡ list_any q (filter p xs)
any-filter p q [] = refl
any-filter p q (x ∷ xs) = ap (λ d. p x && q x || d) (any-filter p q xs) ∙ any_step (p x) (q x) (list_any q (filter p xs)) q x (filter p xs) refl refl

lt_max : (t a b : ℕ) → nat_lt t (max a b) ≡ (nat_lt t a || nat_lt t b)
lt_max t a b = grind arith

-- some are in flight where the last timeout hasn't ended
pub any-busy : (t : ℕ) (gs : List Message) → list_any (is_in_flight t) gs ≡ nat_lt t (busy gs)
any-busy t [] = let no : nat_lt t 0 ≡ false = grind arith in sym no
any-busy t (x ∷ gs) = ap (λ d. nat_lt t x.until || d) (any-busy t gs) ∙ sym (lt_max t x.until (busy gs))

not_lt : (a b : ℕ) → b ≤ a → nat_lt a b ≡ false
not_lt a b h = grind arith

lt_not : (a b : ℕ) → not (nat_lt a b) ≡ nat_le b a
lt_not a b = grind arith

none_older : (b n : ℕ) (gs : List Message) → IsRising b gs → n ≤ b → list_any (λ y. nat_lt y.sequence n) gs ≡ false
none_older b n [] h l = refl
none_older b n (x ∷ gs) h l = let above = h.0 in
    ap (λ d. d || list_any (λ y. nat_lt y.sequence n) gs) (not_lt x.sequence n (omega arith)) ∙ none_older x.sequence n gs h.1 (omega arith)

pub oldest-wait : (b : ℕ) (gs : List Message) (t : ℕ) (m : Message) → IsRising b gs → Among m gs → t < NEVER
    → (not (list_any (λ y. nat_lt y.sequence m.sequence) gs) && not (nat_lt t (busy gs))) ≡ nat_le (wait_in gs m.sequence) t
oldest-wait b [] t m h a l = absurd a
oldest-wait b (x ∷ gs) t m h a l = by (x.sequence == m.sequence) refl
  where
    older : Bool
    older = list_any (λ y. nat_lt y.sequence m.sequence) (x ∷ gs)

    late : Among m (x ∷ gs) → (x.sequence == m.sequence) ≡ false → x.sequence < m.sequence
    late (inl e) d = absurd (let same : m.sequence ≡ x.sequence = ap (λ y. y.sequence) e in grind arith)
    late (inr r) d = rising-above x.sequence gs m h.1 r

    by : (d : Bool) → (x.sequence == m.sequence) ≡ d → (not older && not (nat_lt t (busy (x ∷ gs)))) ≡ nat_le (cond d (busy (x ∷ gs)) NEVER) t
    by true d = let same : x.sequence ≡ m.sequence = grind arith in
        let none : older ≡ false = ap (λ e. e || list_any (λ y. nat_lt y.sequence m.sequence) gs) (not_lt x.sequence m.sequence (omega arith)) ∙ none_older x.sequence m.sequence gs h.1 (omega arith) in
        ap (λ e. not e && not (nat_lt t (busy (x ∷ gs)))) none ∙ lt_not t (busy (x ∷ gs))
    by false d = let before = late a d in
        let some : older ≡ true = ap (λ e. e || list_any (λ y. nat_lt y.sequence m.sequence) gs) (let is : nat_lt x.sequence m.sequence ≡ true = grind arith in is) in
        let past : nat_le NEVER t ≡ false = grind arith in
        ap (λ e. not e && not (nat_lt t (busy (x ∷ gs)))) some ∙ sym past

same_self : (xs : List ℕ) → bytes_eq xs xs ≡ true
same_self xs = (bytes_eq-Decides xs xs).1 refl

-- whether the message of a slot leads
pub leads-wait : (ss : List Slot) (t k : ℕ) (o : Option Message) → IsAscending 0 ss → k < length ss → (get_or ss k gone).message ≡ o → t < NEVER
    → passes (leads t (live ss)) o ≡ nat_le (wait_for (live ss) o) t
leads-wait ss t k None h l e small = let past : nat_le NEVER t ≡ false = grind arith in sym past
leads-wait ss t k (Some m) h l e small =
    let ms = live ss in
    let gs = in_group m.group ms in
    ap (λ d. not d && is_open t ms m) (any-filter (is_same_group m) (λ y. nat_lt y.sequence m.sequence) ms)
    ∙ ap (λ d. not (list_any (λ y. nat_lt y.sequence m.sequence) gs) && not d) (any-filter (is_same_group m) (is_in_flight t) ms ∙ any-busy t gs)
    ∙ oldest-wait 0 gs t m (rising-filter (λ y. bytes_eq m.group y.group) 0 ms (live-rising 0 ss h))
    (among-kept (λ y. bytes_eq m.group y.group) m ms (same_self m.group) (live-among ss k m l e)) small

not_le : (a t : ℕ) → t < a → nat_le a t ≡ false
not_le a t h = grind arith

is_le : (a t : ℕ) → a ≤ t → nat_le a t ≡ true
is_le a t h = grind arith

-- where all that stands beside the slots is above the moment, none leads
pub above-closed : (ss : List Slot) (lead_times : List ℕ) (t from end : ℕ) → IsAscending 0 ss → AreWaits ss lead_times → t < NEVER → end ≤ length ss → AreAbove lead_times t from end → NonePasses (leads t (live ss)) ss from end
above-closed ss lead_times t from end h are small l above k a b =
    let inside : k < length ss = omega arith in
    leads-wait ss t k (get_or ss k gone).message h inside refl small
    ∙ ap (λ w. nat_le w t) (sym (are.is k inside))
    ∙ not_le (get_or lead_times k 0) t (above k a b)

pub found-open : (ss : List Slot) (lead_times : List ℕ) (t from i : ℕ) → IsAscending 0 ss → AreWaits ss lead_times → t < NEVER → i < length ss → IsFirst lead_times from t i → IsNext (leads t (live ss)) ss from i
found-open ss lead_times t from i h are small inside first = record {
  after = first.after;
  within = inside;
  passing = leads-wait ss t i (get_or ss i gone).message h inside refl small ∙ ap (λ w. nat_le w t) (sym (are.is i inside)) ∙ is_le (get_or lead_times i 0) t first.found;
  before = above-closed ss lead_times t from i h are small (omega arith) first.before;
}
