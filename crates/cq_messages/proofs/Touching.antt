-- Slots of which one has a message with other times.
use Rattle.std.proofs.Common.{◌≡◌, ◌≢◌, ℕ, ◌-◌, ◌<◌, ◌≤◌, ◌==◌, ◌∙◌, ◌⊎◌, ap, sym, subst, List, [], ◌∷◌, length, get_or, set, max, Bool, true, false, cond, Option, Some, None, inl, inr, arith, suc, zero, refl}
use Rattle.std.specs.Str.{bytes_eq}
use Rattle.std.proofs.lemmas.Bool.{cases_eq}
use Rattle.std.proofs.lemmas.List.{length-set, get_or-set_same, get_or-set_other, set-get_or}
use Rattle.std.proofs.lemmas.Slice.Eq.{bytes_eq-Decides}
use Rattle.cq_base.specs.queue.Messages.{Message}
use Rattle.cq_base.specs.Relations.{Among}
use Rattle.cq_base.proofs.Among.{among-filter, among-kept}
use Rattle.cq_messages.specs.declared.slot.Slot.{Slot}
use Rattle.cq_messages.specs.within.Groups.{GroupKept, numbers_at, handed_at}
use Rattle.cq_messages.specs.within.Indexed.{AreWaits, AreFlights, AreNumbers, AreHanded, IsIndexed}
use Rattle.cq_messages.specs.Changes.{numbers_of}
use Rattle.cq_messages.specs.declared.slot.TheConstants.{NEVER}
use Rattle.cq_messages.specs.Slots.{live, kept_before, gone, IsOwn, IsAscending, in_group, busy, wait_in, wait_for, flight_of}
use Rattle.cq_messages.specs.within.Touched.{IsHead, retimed, retimed_kept, retimed_in}
use Rattle.cq_messages.proofs.Rising.{own-number, live-among}
use Rattle.cq_messages.proofs.Remaining.{StandsAt, live-place, same-place, head-exists}

own_retimed : (n handings at until : ℕ) (o : Option Message) → IsOwn n o → IsOwn n (retimed_kept handings at until o)
own_retimed n handings at until None h = h
own_retimed n handings at until (Some m) h = h

-- the order stays
pub ascending-retimed : (b : ℕ) (ss : List Slot) (p handings at until : ℕ) → IsAscending b ss → IsAscending b (set ss p (retimed_in handings at until (get_or ss p gone)))
ascending-retimed b [] p handings at until h = h
ascending-retimed b (s ∷ ss) zero handings at until h = (h.0, (own_retimed s.sequence handings at until s.message h.1.0, h.1.1))
ascending-retimed b (s ∷ ss) (suc p) handings at until h = (h.0, (h.1.0, ascending-retimed s.sequence ss p handings at until h.1.1))

-- The messages x and y are the same but for their times.
pub record IsAlike (x y : Message) : Type 0 where
  pub sequence : y.sequence ≡ x.sequence
  pub group : y.group ≡ x.group

numbers_kept : (g : List ℕ) (handings at until : ℕ) (o : Option Message) (xs ys : List Message) → numbers_of (in_group g ys) ≡ numbers_of (in_group g xs)
    → numbers_of (in_group g (kept_before (retimed_kept handings at until o) ys)) ≡ numbers_of (in_group g (kept_before o xs))
numbers_kept g handings at until None xs ys e = e
numbers_kept g handings at until (Some m) xs ys e = by (bytes_eq g m.group)
  where
    by : (b : Bool) → numbers_of (cond b (retimed handings at until m ∷ in_group g ys) (in_group g ys)) ≡ numbers_of (cond b (m ∷ in_group g xs) (in_group g xs))
    by true = ap (λ ns. m.sequence ∷ ns) e
    by false = e

-- the numbers of a group stay
pub numbers-retimed : (g : List ℕ) (ss : List Slot) (p handings at until : ℕ) → numbers_of (in_group g (live (set ss p (retimed_in handings at until (get_or ss p gone))))) ≡ numbers_of (in_group g (live ss))
numbers-retimed g [] p handings at until = refl
numbers-retimed g (s ∷ ss) zero handings at until = numbers_kept g handings at until s.message (live ss) (live ss) refl
numbers-retimed g (s ∷ ss) (suc p) handings at until = same_kept s.message (numbers-retimed g ss p handings at until)
  where
    same_kept : (o : Option Message) → numbers_of (in_group g (live (set ss p (retimed_in handings at until (get_or ss p gone))))) ≡ numbers_of (in_group g (live ss))
        → numbers_of (in_group g (kept_before o (live (set ss p (retimed_in handings at until (get_or ss p gone)))))) ≡ numbers_of (in_group g (kept_before o (live ss)))
    same_kept None e = e
    same_kept (Some m) e = by (bytes_eq g m.group)
      where
        by : (b : Bool) → numbers_of (cond b (m ∷ in_group g (live (set ss p (retimed_in handings at until (get_or ss p gone))))) (in_group g (live (set ss p (retimed_in handings at until (get_or ss p gone)))))) ≡ numbers_of (cond b (m ∷ in_group g (live ss)) (in_group g (live ss)))
        by true = ap (λ ns. m.sequence ∷ ns) e
        by false = e

length_kept : (handings at until : ℕ) (o : Option Message) (xs ys : List Message) → length xs ≡ length ys → length (kept_before (retimed_kept handings at until o) xs) ≡ length (kept_before o ys)
length_kept handings at until None xs ys e = e
length_kept handings at until (Some m) xs ys e = ap suc e

-- and so does their count
pub length-retimed : (ss : List Slot) (p handings at until : ℕ) → length (live (set ss p (retimed_in handings at until (get_or ss p gone)))) ≡ length (live ss)
length-retimed [] p handings at until = refl
length-retimed (s ∷ ss) zero handings at until = length_kept handings at until s.message (live ss) (live ss) refl
length-retimed (s ∷ ss) (suc p) handings at until = later s.message (live (set ss p (retimed_in handings at until (get_or ss p gone)))) (live ss) (length-retimed ss p handings at until)
  where
    later : (o : Option Message) (xs ys : List Message) → length xs ≡ length ys → length (kept_before o xs) ≡ length (kept_before o ys)
    later None xs ys e = e
    later (Some m) xs ys e = ap suc e

-- the messages of another group stay
pub others-changed : (g : List ℕ) (ss : List Slot) (p : ℕ) (s' : Slot) → in_group g (kept_before (get_or ss p gone).message []) ≡ [] → in_group g (kept_before s'.message []) ≡ [] → in_group g (live (set ss p s')) ≡ in_group g (live ss)
others-changed g [] p s' a b = refl
others-changed g (s ∷ ss) zero s' a b = unseen s'.message b ∙ sym (unseen s.message a)
  where
    unseen : (o : Option Message) → in_group g (kept_before o []) ≡ [] → in_group g (kept_before o (live ss)) ≡ in_group g (live ss)
    unseen None e = refl
    unseen (Some m) e = by (bytes_eq g m.group) e
      where
        by : (c : Bool) → cond c (m ∷ []) [] ≡ [] → cond c (m ∷ in_group g (live ss)) (in_group g (live ss)) ≡ in_group g (live ss)
        by true e' = absurd cc
        by false e' = refl
others-changed g (s ∷ ss) (suc p) s' a b = same_kept s.message (others-changed g ss p s' a b)
  where
    same_kept : (o : Option Message) → in_group g (live (set ss p s')) ≡ in_group g (live ss) → in_group g (kept_before o (live (set ss p s'))) ≡ in_group g (kept_before o (live ss))
    same_kept None e = e
    same_kept (Some m) e = ap (λ xs. cond (bytes_eq g m.group) (m ∷ xs) xs) e

-- what the first number of a group says of how long a message waits
pub wait-other : (gs : List Message) (n : ℕ) → ((x : Message) (xs : List Message) → gs ≡ x ∷ xs → x.sequence ≢ n) → wait_in gs n ≡ NEVER
wait-other [] n h = refl
wait-other (x ∷ xs) n h = by (x.sequence == n) refl
  where
    by : (b : Bool) → (x.sequence == n) ≡ b → cond b (busy (x ∷ xs)) NEVER ≡ NEVER
    by true e = absurd (h x xs refl (let same : x.sequence ≡ n = grind arith in same))
    by false e = refl

pub wait-first : (gs : List Message) (x : Message) (xs : List Message) (n : ℕ) → gs ≡ x ∷ xs → x.sequence ≡ n → wait_in gs n ≡ busy gs
wait-first gs x xs n e same = ap (λ ys. wait_in ys n) e ∙ ap (λ b. cond b (busy (x ∷ xs)) NEVER) (let is : (x.sequence == n) ≡ true = grind arith in is) ∙ ap busy (sym e)

-- The slots ss' have at the place p the message m' in place of m, which is the same but for its times.
pub record IsTouched (ss ss' : List Slot) (p : ℕ) (m m' : Message) : Type 0 where
  pub long : length ss' ≡ length ss
  pub within : p < length ss
  pub before : (get_or ss p gone).message ≡ Some m
  pub after : (get_or ss' p gone).message ≡ Some m'
  pub alike : IsAlike m m'
  pub elsewhere : (k : ℕ) → k ≢ p → get_or ss' k gone ≡ get_or ss k gone
  pub old_order : IsAscending 0 ss
  pub new_order : IsAscending 0 ss'
  pub numbers : (g : List ℕ) → numbers_of (in_group g (live ss')) ≡ numbers_of (in_group g (live ss))
  pub others : (g : List ℕ) → bytes_eq g m.group ≡ false → in_group g (live ss') ≡ in_group g (live ss)

-- the message of ss at the place where y' stands in ss'
pub was-alike : (ss ss' : List Slot) (p k : ℕ) (m m' y' : Message) → IsTouched ss ss' p m m' → (get_or ss' k gone).message ≡ Some y' → (y : Message) × (((get_or ss k gone).message ≡ Some y) × IsAlike y y')
was-alike ss ss' p k m m' y' t e = by (cases_eq k p)
  where
    by : (k ≡ p) ⊎ (k ≡ p → ⊥) → (y : Message) × (((get_or ss k gone).message ≡ Some y) × IsAlike y y')
    by (inl same) =
        let at : (get_or ss' p gone).message ≡ Some y' = subst (λ j. (get_or ss' j gone).message ≡ Some y') same e in
        let is : m' ≡ y' = cc (at, t.after) in
        (m, (subst (λ j. (get_or ss j gone).message ≡ Some m) (sym same) t.before, record { sequence = ap (λ x. x.sequence) (sym is) ∙ t.alike.sequence; group = ap (λ x. x.group) (sym is) ∙ t.alike.group }))
    by (inr other) = (y', (ap (λ s. s.message) (sym (t.elsewhere k other)) ∙ e, record { sequence = refl; group = refl }))

first_number : (gs hs : List Message) (x y : Message) (xs ys : List Message) → numbers_of gs ≡ numbers_of hs → gs ≡ x ∷ xs → hs ≡ y ∷ ys → x.sequence ≡ y.sequence
first_number gs hs x y xs ys e a b = ap (λ ns. get_or ns 0 0) (ap numbers_of (sym a) ∙ e ∙ ap numbers_of b)

pub head_group : (ss : List Slot) (g : List ℕ) (h : ℕ) → (head : IsHead ss g h) → g ≡ head.first.group
head_group ss g h head = (bytes_eq-Decides g head.first.group).0 (among-filter (λ y. bytes_eq g y.group) head.first (live ss) (subst (Among head.first) (sym head.leads) (inl refl))).1

-- another message of the group doesn't lead it
pub late-other : (ss : List Slot) (g : List ℕ) (h k : ℕ) (y x : Message) (xs : List Message) → IsAscending 0 ss → IsHead ss g h → k < length ss → k ≢ h → (get_or ss k gone).message ≡ Some y → in_group g (live ss) ≡ x ∷ xs → x.sequence ≢ y.sequence
late-other ss g h k y x xs asc head inside other e is same =
    let first_is = first_number (in_group g (live ss)) (in_group g (live ss)) x head.first xs head.rest refl is head.leads in
    let at_h = own-number 0 ss h head.first asc head.within head.message in
    let at_k = own-number 0 ss k y asc inside e in
    other (same-place ss k h asc inside head.within (sym at_k ∙ sym same ∙ first_is ∙ at_h))

kept_waits : (ss ss' : List Slot) (p : ℕ) (m m' : Message) (h k : ℕ) (o' : Option Message) → IsTouched ss ss' p m m' → IsHead ss' m.group h → k < length ss → k ≢ h → (get_or ss' k gone).message ≡ o'
    → wait_for (live ss) (get_or ss k gone).message ≡ wait_for (live ss') o'
kept_waits ss ss' p m m' h k None t head inside other e = by (cases_eq k p)
  where
    by : (k ≡ p) ⊎ (k ≡ p → ⊥) → wait_for (live ss) (get_or ss k gone).message ≡ NEVER
    by (inl same) = let at : (get_or ss' p gone).message ≡ None = subst (λ j. (get_or ss' j gone).message ≡ None) same e in absurd (cc (at, t.after))
    by (inr else) = ap (wait_for (live ss)) (ap (λ s. s.message) (sym (t.elsewhere k else)) ∙ e)
kept_waits ss ss' p m m' h k (Some y') t head inside other e =
    let r = was-alike ss ss' p k m m' y' t e in
    ap (wait_for (live ss)) r.1.0 ∙ by r.0 r.1.0 r.1.1 (bytes_eq r.0.group m.group) refl
  where
    by : (y : Message) → (get_or ss k gone).message ≡ Some y → IsAlike y y' → (b : Bool) → bytes_eq y.group m.group ≡ b → wait_in (in_group y.group (live ss)) y.sequence ≡ wait_in (in_group y'.group (live ss')) y'.sequence
    by y at like false d =
        ap (λ gs. wait_in gs y.sequence) (sym (t.others y.group d))
        ∙ ap (λ g. wait_in (in_group g (live ss')) y.sequence) (sym like.group)
        ∙ ap (wait_in (in_group y'.group (live ss'))) (sym like.sequence)
    by y at like true d =
        let same : y.group ≡ m.group = (bytes_eq-Decides y.group m.group).0 d in
        let late : (x : Message) (xs : List Message) → in_group m.group (live ss') ≡ x ∷ xs → x.sequence ≢ y'.sequence = λ x xs is. late-other ss' m.group h k y' x xs t.new_order head (subst (λ n. k < n) (sym t.long) inside) other e is in
        let old : wait_in (in_group m.group (live ss)) y.sequence ≡ NEVER = wait-other (in_group m.group (live ss)) y.sequence (λ x xs is eq. late head.first head.rest head.leads (first_number (in_group m.group (live ss')) (in_group m.group (live ss)) head.first x head.rest xs (t.numbers m.group) head.leads is ∙ eq ∙ sym like.sequence)) in
        let new : wait_in (in_group m.group (live ss')) y'.sequence ≡ NEVER = wait-other (in_group m.group (live ss')) y'.sequence late in
        ap (λ g. wait_in (in_group g (live ss)) y.sequence) same ∙ old ∙ sym new ∙ ap (λ g. wait_in (in_group g (live ss')) y'.sequence) (sym (like.group ∙ same))

-- the oldest message of the group waits for the last of its timeouts, and all others as before
pub lead_times-touched : (ss ss' : List Slot) (lead_times : List ℕ) (p h : ℕ) (m m' : Message) → IsTouched ss ss' p m m' → IsHead ss' m.group h → AreWaits ss lead_times → AreWaits ss' (set lead_times h (busy (in_group m.group (live ss'))))
lead_times-touched ss ss' lead_times p h m m' t head are = record {
  long = let a = t.long in let b = are.long in omega (arith, length-set lead_times h (busy (in_group m.group (live ss'))));
  is = λ k inside. by k (subst (λ n. k < n) t.long inside) (cases_eq k h);
}
  where
    gs : List Message
    gs = in_group m.group (live ss')

    at_head : wait_for (live ss') (Some head.first) ≡ busy gs
    at_head = ap (λ g. wait_in (in_group g (live ss')) head.first.sequence) (sym (head_group ss' m.group h head)) ∙ wait-first gs head.first head.rest head.first.sequence head.leads refl

    by : (k : ℕ) → k < length ss → (k ≡ h) ⊎ (k ≡ h → ⊥) → get_or (set lead_times h (busy gs)) k 0 ≡ wait_for (live ss') (get_or ss' k gone).message
    by k inside (inl same) =
        ap (λ j. get_or (set lead_times h (busy gs)) j 0) same
        ∙ get_or-set_same lead_times h (busy gs) 0 (let a = are.long in omega arith)
        ∙ sym at_head
        ∙ ap (wait_for (live ss')) (sym head.message)
        ∙ ap (λ j. wait_for (live ss') (get_or ss' j gone).message) (sym same)
    by k inside (inr other) = get_or-set_other lead_times h k (busy gs) 0 other ∙ are.is k inside ∙ kept_waits ss ss' p m m' h k (get_or ss' k gone).message t head inside other refl

-- a slot whose message was given other times
pub touched : (ss : List Slot) (p handings at until : ℕ) (m : Message) → IsAscending 0 ss → p < length ss → (get_or ss p gone).message ≡ Some m
    → IsTouched ss (set ss p (retimed_in handings at until (get_or ss p gone))) p m (retimed handings at until m)
touched ss p handings at until m asc inside e =
    let s' = retimed_in handings at until (get_or ss p gone) in
    let at_p : get_or (set ss p s') p gone ≡ s' = get_or-set_same ss p s' gone inside in
    let is : s'.message ≡ Some (retimed handings at until m) = ap (retimed_kept handings at until) e in
    record {
      long = length-set ss p s';
      within = inside;
      before = e;
      after = ap (λ s. s.message) at_p ∙ is;
      alike = record { sequence = refl; group = refl };
      elsewhere = λ k other. get_or-set_other ss p k s' gone other;
      old_order = asc;
      new_order = ascending-retimed 0 ss p handings at until asc;
      numbers = λ g. numbers-retimed g ss p handings at until;
      others = λ g differs. others-changed g ss p s'
          (ap (λ o. in_group g (kept_before o [])) e ∙ ap (λ b. cond b (m ∷ []) []) differs)
          (ap (λ o. in_group g (kept_before o [])) is ∙ ap (λ b. cond b (retimed handings at until m ∷ []) []) differs);
    }

pub flight_ends-touched : (ss ss' : List Slot) (flight_ends : List ℕ) (p : ℕ) (m m' : Message) → IsTouched ss ss' p m m' → AreFlights ss flight_ends → AreFlights ss' (set flight_ends p (NEVER - m'.until))
flight_ends-touched ss ss' flight_ends p m m' t are = record {
  long = let a = t.long in let b = are.long in omega (arith, length-set flight_ends p (NEVER - m'.until));
  is = λ k inside. by k (subst (λ n. k < n) t.long inside) (cases_eq k p);
}
  where
    by : (k : ℕ) → k < length ss → (k ≡ p) ⊎ (k ≡ p → ⊥) → get_or (set flight_ends p (NEVER - m'.until)) k 0 ≡ flight_of (get_or ss' k gone).message
    by k inside (inl same) =
        ap (λ j. get_or (set flight_ends p (NEVER - m'.until)) j 0) same
        ∙ get_or-set_same flight_ends p (NEVER - m'.until) 0 (let a = are.long in let w = t.within in omega arith)
        ∙ ap flight_of (sym t.after)
        ∙ ap (λ j. flight_of (get_or ss' j gone).message) (sym same)
    by k inside (inr other) = get_or-set_other flight_ends p k (NEVER - m'.until) 0 other ∙ are.is k inside ∙ ap (λ s. flight_of s.message) (sym (t.elsewhere k other))

pub some_number : (g : List ℕ) (ms : List Message) (m : Message) → bytes_eq g m.group ≡ true → Among m ms → 0 < length (numbers_of (in_group g ms))
some_number g ms m e a = by (in_group g ms) (among-kept (λ y. bytes_eq g y.group) m ms e a)
  where
    by : (gs : List Message) → Among m gs → 0 < length (numbers_of gs)
    by [] b = absurd b
    by (x ∷ gs) b = omega arith

pub same_self : (xs : List ℕ) → bytes_eq xs xs ≡ true
same_self xs = (bytes_eq-Decides xs xs).1 refl

-- after the message was handed out, or not
pub handed-touched : (ss ss' : List Slot) (groups groups' : List (List ℕ × GroupKept)) (p : ℕ) (m m' : Message) → IsTouched ss ss' p m m' → AreNumbers ss groups → AreHanded ss groups
    → ((g : List ℕ) → handed_at groups g ≤ handed_at groups' g) → (0 < length (numbers_at groups m.group) → m.sequence ≤ handed_at groups' m.group) → AreHanded ss' groups'
handed-touched ss ss' groups groups' p m m' t numbers old more raised x a upto = by (cases_eq r.0 p)
  where
    r : (k : ℕ) × StandsAt ss' x k
    r = live-place ss' x a

    by : (r.0 ≡ p) ⊎ (r.0 ≡ p → ⊥) → x.sequence ≤ handed_at groups' x.group
    by (inl same) =
        let at : (get_or ss' p gone).message ≡ Some x = subst (λ j. (get_or ss' j gone).message ≡ Some x) same r.1.message in
        let is : m' ≡ x = cc (at, t.after) in
        let number : x.sequence ≡ m.sequence = ap (λ y. y.sequence) (sym is) ∙ t.alike.sequence in
        let group : x.group ≡ m.group = ap (λ y. y.group) (sym is) ∙ t.alike.group in
        let there : 0 < length (numbers_at groups m.group) = subst (λ ns. 0 < length ns) (sym (numbers m.group)) (some_number m.group (live ss) m (same_self m.group) (live-among ss p m t.within t.before)) in
        subst (λ g. x.sequence ≤ handed_at groups' g) (sym group) (subst (λ n. n ≤ handed_at groups' m.group) (sym number) (raised there))
    by (inr other) =
        let at : (get_or ss r.0 gone).message ≡ Some x = ap (λ s. s.message) (sym (t.elsewhere r.0 other)) ∙ r.1.message in
        let before = old x (live-among ss r.0 x (subst (λ n. r.0 < n) t.long r.1.within) at) upto in
        let grown = more x.group in
        omega arith

pub retimed-from : (handings at until : ℕ) (o : Option Message) (n : Message) → retimed_kept handings at until o ≡ Some n → (m : Message) × ((o ≡ Some m) × (n ≡ retimed handings at until m))
retimed-from handings at until None n e = absurd cc
retimed-from handings at until (Some m) n e = (m, (refl, let same : retimed handings at until m ≡ n = cc in sym same))

pub numbers-raised : (ss ss' : List Slot) (groups groups' : List (List ℕ × GroupKept)) (p : ℕ) (m m' : Message) → IsTouched ss ss' p m m' → AreNumbers ss groups → ((g : List ℕ) → numbers_at groups' g ≡ numbers_at groups g) → AreNumbers ss' groups'
numbers-raised ss ss' groups groups' p m m' t are same g = same g ∙ are g ∙ sym (t.numbers g)

pub indexed-touched : (ss ss' : List Slot) (lead_times waits' flight_ends : List ℕ) (groups groups' : List (List ℕ × GroupKept)) (p : ℕ) (m m' : Message) → IsTouched ss ss' p m m' → IsIndexed ss lead_times flight_ends groups
    → ((h : ℕ) → IsHead ss' m.group h → waits' ≡ set lead_times h (busy (in_group m.group (live ss')))) → AreNumbers ss' groups' → AreHanded ss' groups' → IsIndexed ss' waits' (set flight_ends p (NEVER - m'.until)) groups'
indexed-touched ss ss' lead_times waits' flight_ends groups groups' p m m' t is head numbers handed =
    let there : Among m' (in_group m.group (live ss')) = among-kept (λ y. bytes_eq m.group y.group) m' (live ss') (ap (bytes_eq m.group) t.alike.group ∙ same_self m.group) (live-among ss' p m' (let a = t.long in let b = t.within in omega arith) t.after) in
    let r = head-exists ss' m.group m' t.new_order there in
    record {
      ascending = t.new_order;
      are_waits = subst (AreWaits ss') (sym (head r.0 r.1)) (lead_times-touched ss ss' lead_times p r.0 m m' t r.1 is.are_waits);
      are_flights = flight_ends-touched ss ss' flight_ends p m m' t is.are_flights;
      are_numbers = numbers;
      are_handed = handed;
    }

read_at : (ss new : List Slot) (p : ℕ) (s' result : Slot) → p < length ss → new ≡ set ss p s' → result ≡ get_or new p result → result ≡ s'
read_at ss new p s' result inside is read = read ∙ ap (λ xs. get_or xs p result) is ∙ get_or-set_same ss p s' result inside

-- the message that is read at the place where one was given other times
pub touched-read : (ss new : List Slot) (p handings at until : ℕ) (result : Slot) (n : Message) → IsAscending 0 ss → p < length ss → new ≡ set ss p (retimed_in handings at until (get_or ss p gone)) → result ≡ get_or new p result → result.message ≡ Some n
    → (m : Message) × ((n ≡ retimed handings at until m) × IsTouched ss new p m (retimed handings at until m))
touched-read ss new p handings at until result n asc inside is read e =
    let s' = retimed_in handings at until (get_or ss p gone) in
    let r = retimed-from handings at until (get_or ss p gone).message n (ap (λ s. s.message) (sym (read_at ss new p s' result inside is read)) ∙ e) in
    (r.0, (r.1.1, subst (λ xs. IsTouched ss xs p r.0 (retimed handings at until r.0)) (sym is) (touched ss p handings at until r.0 asc inside r.1.0)))

same_slot : (handings at until : ℕ) (s : Slot) → retimed_kept handings at until s.message ≡ None → retimed_in handings at until s ≡ s
same_slot handings at until s e = by s.message refl e
  where
    by : (o : Option Message) → s.message ≡ o → retimed_kept handings at until o ≡ None → retimed_in handings at until s ≡ s
    by None is e' = ap (λ o. record { sequence = s.sequence; message = o }) (ap (retimed_kept handings at until) is ∙ sym is)
    by (Some m) is e' = absurd cc

-- where no message is, nothing was changed
pub idle-read : (ss new : List Slot) (p handings at until : ℕ) (result : Slot) → p < length ss → new ≡ set ss p (retimed_in handings at until (get_or ss p gone)) → result ≡ get_or new p result → result.message ≡ None → new ≡ ss
idle-read ss new p handings at until result inside is read e =
    let s' = retimed_in handings at until (get_or ss p gone) in
    is ∙ ap (set ss p) (same_slot handings at until (get_or ss p gone) (ap (λ s. s.message) (sym (read_at ss new p s' result inside is read)) ∙ e)) ∙ set-get_or ss p gone

busy_here : (g : List ℕ) (handings at until : ℕ) (m : Message) (o : Option Message) (ms : List Message) → o ≡ Some m → bytes_eq g m.group ≡ true → m.until ≤ until
    → busy (in_group g (kept_before (retimed_kept handings at until o) ms)) ≡ max (busy (in_group g (kept_before o ms))) until
busy_here g handings at until m None ms e d l = absurd cc
busy_here g handings at until m (Some x) ms e d l =
    let same : x ≡ m = cc in
    let group : bytes_eq g x.group ≡ true = ap (λ y. bytes_eq g y.group) same ∙ d in
    let less : x.until ≤ until = subst (λ y. y.until ≤ until) (sym same) l in
    let most : max until (busy (in_group g ms)) ≡ max (max x.until (busy (in_group g ms))) until = omega arith in
    ap (λ b. busy (cond b (retimed handings at until x ∷ in_group g ms) (in_group g ms))) group ∙ most ∙ sym (ap (λ b. max (busy (cond b (x ∷ in_group g ms) (in_group g ms))) until) group)

busy_later : (g : List ℕ) (until : ℕ) (o : Option Message) (xs ys : List Message) → busy (in_group g xs) ≡ max (busy (in_group g ys)) until → busy (in_group g (kept_before o xs)) ≡ max (busy (in_group g (kept_before o ys))) until
busy_later g until None xs ys e = e
busy_later g until (Some x) xs ys e = by (bytes_eq g x.group)
  where
    by : (b : Bool) → busy (cond b (x ∷ in_group g xs) (in_group g xs)) ≡ max (busy (cond b (x ∷ in_group g ys) (in_group g ys))) until
    by true = let u = x.until in omega (arith, e)
    by false = e

-- where a timeout of the group ends later than before, the group is busy up to there at least
pub busy-raised : (g : List ℕ) (ss : List Slot) (p handings at until : ℕ) (m : Message) → p < length ss → (get_or ss p gone).message ≡ Some m → bytes_eq g m.group ≡ true → m.until ≤ until
    → busy (in_group g (live (set ss p (retimed_in handings at until (get_or ss p gone))))) ≡ max (busy (in_group g (live ss))) until
busy-raised g [] p handings at until m l e d less = absurd (omega arith)
busy-raised g (s ∷ ss) zero handings at until m l e d less = busy_here g handings at until m s.message (live ss) e d less
busy-raised g (s ∷ ss) (suc p) handings at until m l e d less = busy_later g until s.message (live (set ss p (retimed_in handings at until (get_or ss p gone)))) (live ss) (busy-raised g ss p handings at until m (omega arith) e d less)

-- beside the oldest message of the group stands how long the group was busy before
pub head-before : (ss ss' : List Slot) (lead_times : List ℕ) (p h : ℕ) (m m' : Message) → IsTouched ss ss' p m m' → IsHead ss' m.group h → AreWaits ss lead_times → get_or lead_times h 0 ≡ busy (in_group m.group (live ss))
head-before ss ss' lead_times p h m m' t head are =
    let gs = in_group m.group (live ss) in
    let r = head-exists ss m.group m t.old_order (among-kept (λ y. bytes_eq m.group y.group) m (live ss) (same_self m.group) (live-among ss p m t.within t.before)) in
    let old : IsHead ss m.group r.0 = r.1 in
    let w = was-alike ss ss' p h m m' head.first t head.message in
    let inside : h < length ss = subst (λ n. h < n) t.long head.within in
    let first : head.first.sequence ≡ old.first.sequence = first_number (in_group m.group (live ss')) gs head.first old.first head.rest old.rest (t.numbers m.group) head.leads old.leads in
    let at_h : w.0.sequence ≡ (get_or ss h gone).sequence = own-number 0 ss h w.0 t.old_order inside w.1.0 in
    let at_old : old.first.sequence ≡ (get_or ss r.0 gone).sequence = own-number 0 ss r.0 old.first t.old_order old.within old.message in
    let like : head.first.sequence ≡ w.0.sequence = w.1.1.sequence in
    let same : h ≡ r.0 = same-place ss h r.0 t.old_order inside old.within (sym at_h ∙ sym like ∙ first ∙ at_old) in
    ap (λ k. get_or lead_times k 0) same ∙ are.is r.0 old.within ∙ ap (wait_for (live ss)) old.message
    ∙ ap (λ g. wait_in (in_group g (live ss)) old.first.sequence) (sym (head_group ss m.group r.0 old)) ∙ wait-first gs old.first old.rest old.first.sequence old.leads refl
