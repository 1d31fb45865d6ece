-- Slots of which one lost its message.
use Rattle.std.proofs.Common.{◌≡◌, ◌≢◌, ℕ, ◌+◌, ◌<◌, ◌≤◌, ◌==◌, ◌∙◌, ◌⊎◌, ap, sym, subst, List, [], ◌∷◌, length, get_or, set, Bool, true, false, cond, not, Option, Some, None, inl, inr, arith, suc, zero, refl}
use Rattle.std.specs.List.{filter}
use Rattle.std.specs.Str.{bytes_eq}
use Rattle.std.proofs.lemmas.Bool.{cases_eq}
use Rattle.std.proofs.lemmas.List.{length-set, get_or-set_same, get_or-set_other, get_or_read}
use Rattle.std.proofs.lemmas.Slice.Eq.{bytes_eq-Decides}
use Rattle.cq_base.specs.queue.Messages.{Message}
use Rattle.cq_base.specs.Relations.{Among}
use Rattle.cq_base.proofs.Filters.{filter-all}
use Rattle.cq_messages.specs.declared.slot.Slot.{Slot}
use Rattle.cq_messages.specs.within.Groups.{GroupKept, numbers_at, handed_at, without}
use Rattle.cq_messages.specs.within.Indexed.{AreWaits, AreFlights, AreNumbers, AreHanded, IsIndexed}
use Rattle.cq_messages.specs.Changes.{numbers_of, is_other}
use Rattle.cq_messages.specs.declared.slot.TheConstants.{NEVER}
use Rattle.cq_messages.specs.Slots.{live, kept_before, gone, IsOwn, IsAscending, in_group, busy, wait_in, wait_for, flight_of}
use Rattle.cq_messages.specs.within.Touched.{IsHead}
use Rattle.cq_messages.proofs.Ascending.{ascending-above}
use Rattle.cq_messages.proofs.Rising.{own-number, live-among, live-rising, rising-above}
use Rattle.cq_messages.proofs.Remaining.{StandsAt, live-place, same-place, head-exists, one-head}
use Rattle.cq_messages.proofs.Touching.{others-changed, wait-other, wait-first, late-other, some_number, same_self, head_group}

-- the slot without its message
abbrev pub vacated : Slot → Slot
vacated s = record { sequence = s.sequence; message = None }

pub ascending-vacated : (b : ℕ) (ss : List Slot) (p : ℕ) → IsAscending b ss → IsAscending b (set ss p (vacated (get_or ss p gone)))
ascending-vacated b [] p h = h
ascending-vacated b (s ∷ ss) zero h = (h.0, (tt, h.1.1))
ascending-vacated b (s ∷ ss) (suc p) h = (h.0, (h.1.0, ascending-vacated s.sequence ss p h.1.1))

without_first : (n : ℕ) (ns : List ℕ) → without n (n ∷ ns) ≡ ns
without_first n ns = ap (λ b. cond b ns (n ∷ without n ns)) (let is : (n == n) ≡ true = grind arith in is)

without_next : (n x : ℕ) (ns : List ℕ) → x ≢ n → without n (x ∷ ns) ≡ x ∷ without n ns
without_next n x ns other = ap (λ b. cond b ns (x ∷ without n ns)) (let is : (x == n) ≡ false = grind arith in is)

gone_here : (g : List ℕ) (m : Message) (o : Option Message) (rest : List Message) → o ≡ Some m → bytes_eq g m.group ≡ true → numbers_of (in_group g rest) ≡ without m.sequence (numbers_of (in_group g (kept_before o rest)))
gone_here g m None rest e d = absurd cc
gone_here g m (Some x) rest e d =
    let same : x ≡ m = cc in
    sym (ap (λ y. without m.sequence (numbers_of (in_group g (y ∷ rest)))) same
    ∙ ap (λ b. without m.sequence (numbers_of (cond b (m ∷ in_group g rest) (in_group g rest)))) d
    ∙ without_first m.sequence (numbers_of (in_group g rest)))

gone_later : (g : List ℕ) (n number : ℕ) (o : Option Message) (xs ys : List Message) → IsOwn number o → number ≢ n → numbers_of (in_group g xs) ≡ without n (numbers_of (in_group g ys))
    → numbers_of (in_group g (kept_before o xs)) ≡ without n (numbers_of (in_group g (kept_before o ys)))
gone_later g n number None xs ys own other e = e
gone_later g n number (Some x) xs ys own other e = by (bytes_eq g x.group)
  where
    by : (b : Bool) → numbers_of (cond b (x ∷ in_group g xs) (in_group g xs)) ≡ without n (numbers_of (cond b (x ∷ in_group g ys) (in_group g ys)))
    by true = ap (λ ns. x.sequence ∷ ns) e ∙ sym (without_next n x.sequence (numbers_of (in_group g ys)) (λ eq. other (sym own ∙ eq)))
    by false = e

-- the group of the message has one number less
pub numbers-vacated : (g : List ℕ) (b : ℕ) (ss : List Slot) (p : ℕ) (m : Message) → IsAscending b ss → p < length ss → (get_or ss p gone).message ≡ Some m → bytes_eq g m.group ≡ true
    → numbers_of (in_group g (live (set ss p (vacated (get_or ss p gone))))) ≡ without m.sequence (numbers_of (in_group g (live ss)))
numbers-vacated g b [] p m h l e d = absurd (omega arith)
numbers-vacated g b (s ∷ ss) zero m h l e d = gone_here g m s.message (live ss) e d
numbers-vacated g b (s ∷ ss) (suc p) m h l e d =
    let own = own-number s.sequence ss p m h.1.1 (omega arith) e in
    let above = ascending-above s.sequence ss p h.1.1 (omega arith) in
    gone_later g m.sequence s.sequence s.message _ (live ss) h.1.0 (λ eq. omega arith) (numbers-vacated g s.sequence ss p m h.1.1 (omega arith) e d)

-- The slots ss' are those of ss, but that the message m at the place p is gone.
pub record IsVacated (ss ss' : List Slot) (p : ℕ) (m : Message) : Type 0 where
  pub long : length ss' ≡ length ss
  pub within : p < length ss
  pub before : (get_or ss p gone).message ≡ Some m
  pub after : (get_or ss' p gone).message ≡ None
  pub elsewhere : (k : ℕ) → k ≢ p → get_or ss' k gone ≡ get_or ss k gone
  pub old_order : IsAscending 0 ss
  pub new_order : IsAscending 0 ss'
  pub numbers : (g : List ℕ) → bytes_eq g m.group ≡ true → numbers_of (in_group g (live ss')) ≡ without m.sequence (numbers_of (in_group g (live ss)))
  pub others : (g : List ℕ) → bytes_eq g m.group ≡ false → in_group g (live ss') ≡ in_group g (live ss)

pub emptied : (ss : List Slot) (p : ℕ) (m : Message) → IsAscending 0 ss → p < length ss → (get_or ss p gone).message ≡ Some m → IsVacated ss (set ss p (vacated (get_or ss p gone))) p m
emptied ss p m asc inside e =
    let s' = vacated (get_or ss p gone) in
    record {
      long = length-set ss p s';
      within = inside;
      before = e;
      after = ap (λ s. s.message) (get_or-set_same ss p s' gone inside);
      elsewhere = λ k other. get_or-set_other ss p k s' gone other;
      old_order = asc;
      new_order = ascending-vacated 0 ss p asc;
      numbers = λ g d. numbers-vacated g 0 ss p m asc inside e d;
      others = λ g differs. others-changed g ss p s' (ap (λ o. in_group g (kept_before o [])) e ∙ ap (λ b. cond b (m ∷ []) []) differs) refl;
    }

first_kept : (n : ℕ) (gs hs : List Message) (x : Message) (xs : List Message) → numbers_of gs ≡ without n (numbers_of hs) → hs ≡ x ∷ xs → x.sequence ≢ n → (y : Message) × ((ys : List Message) × ((gs ≡ y ∷ ys) × (y.sequence ≡ x.sequence)))
first_kept n gs hs x xs e is other = by gs (e ∙ ap (λ zs. without n (numbers_of zs)) is ∙ without_next n x.sequence (numbers_of xs) other)
  where
    by : (zs : List Message) → numbers_of zs ≡ x.sequence ∷ without n (numbers_of xs) → (y : Message) × ((ys : List Message) × ((zs ≡ y ∷ ys) × (y.sequence ≡ x.sequence)))
    by [] e' = absurd cc
    by (z ∷ zs) e' = (z, (zs, (refl, ap (λ ns. get_or ns 0 0) e')))

-- a message elsewhere that doesn't lead the group waits as before
kept_waits : (ss ss' : List Slot) (p : ℕ) (m : Message) (k : ℕ) (o : Option Message) → IsVacated ss ss' p m → k < length ss → k ≢ p → (get_or ss k gone).message ≡ o → (IsHead ss' m.group k → ⊥)
    → wait_for (live ss) o ≡ wait_for (live ss') o
kept_waits ss ss' p m k None v inside else e nohead = refl
kept_waits ss ss' p m k (Some y) v inside else e nohead = by (bytes_eq y.group m.group) refl
  where
    at : (get_or ss' k gone).message ≡ Some y
    at = ap (λ s. s.message) (v.elsewhere k else) ∙ e

    number : y.sequence ≢ m.sequence
    number eq = else (same-place ss k p v.old_order inside v.within (sym (own-number 0 ss k y v.old_order inside e) ∙ eq ∙ own-number 0 ss p m v.old_order v.within v.before))

    by : (b : Bool) → bytes_eq y.group m.group ≡ b → wait_in (in_group y.group (live ss)) y.sequence ≡ wait_in (in_group y.group (live ss')) y.sequence
    by false d = ap (λ gs. wait_in gs y.sequence) (sym (v.others y.group d))
    by true d =
        let same : y.group ≡ m.group = (bytes_eq-Decides y.group m.group).0 d in
        let late : (x : Message) (xs : List Message) → in_group m.group (live ss') ≡ x ∷ xs → x.sequence ≢ y.sequence = λ x xs is eq.
        let a : Among x (in_group m.group (live ss')) = subst (Among x) (sym is) (inl refl) in
        let r = head-exists ss' m.group x v.new_order a in
        by_place r.0 r.1 (cases_eq k r.0) x xs is eq in
        let old : wait_in (in_group m.group (live ss)) y.sequence ≡ NEVER = wait-other (in_group m.group (live ss)) y.sequence (λ x xs is eq.
        let f = first_kept m.sequence (in_group m.group (live ss')) (in_group m.group (live ss)) x xs (v.numbers m.group (same_self m.group)) is (λ eq'. number (sym eq ∙ eq')) in
        late f.0 f.1.0 f.1.1.0 (f.1.1.1 ∙ eq)) in
        ap (λ g. wait_in (in_group g (live ss)) y.sequence) same ∙ old ∙ sym (wait-other (in_group m.group (live ss')) y.sequence late) ∙ ap (λ g. wait_in (in_group g (live ss')) y.sequence) (sym same)
      where
        by_place : (h : ℕ) → IsHead ss' m.group h → (k ≡ h) ⊎ (k ≡ h → ⊥) → (x : Message) (xs : List Message) → in_group m.group (live ss') ≡ x ∷ xs → x.sequence ≡ y.sequence → ⊥
        by_place h head (inl is_h) x xs is eq = nohead (subst (IsHead ss' m.group) (sym is_h) head)
        by_place h head (inr other) x xs is eq = late-other ss' m.group h k y x xs v.new_order head (subst (λ n. k < n) (sym v.long) inside) other at is eq

-- the slot waits for ever, the oldest that is left for the last of the timeouts, and all others as before
pub lead_times-vacated : (ss ss' : List Slot) (lead_times waits' : List ℕ) (p : ℕ) (m : Message) → IsVacated ss ss' p m → AreWaits ss lead_times
    → ((h : ℕ) → IsHead ss' m.group h → waits' ≡ set (set lead_times p NEVER) h (busy (in_group m.group (live ss')))) → (in_group m.group (live ss') ≡ [] → waits' ≡ set lead_times p NEVER) → AreWaits ss' waits'
lead_times-vacated ss ss' lead_times waits' p m v are head none = by (in_group m.group (live ss')) refl
  where
    gs : List Message
    gs = in_group m.group (live ss')

    first : List ℕ
    first = set lead_times p NEVER

    -- at a place that isn't that of the oldest message
    plain : (k : ℕ) → k < length ss → (IsHead ss' m.group k → ⊥) → (k ≡ p) ⊎ (k ≡ p → ⊥) → get_or first k 0 ≡ wait_for (live ss') (get_or ss' k gone).message
    plain k inside nohead (inl same) =
        ap (λ j. get_or first j 0) same ∙ get_or-set_same lead_times p NEVER 0 (let a = are.long in let w = v.within in omega arith)
        ∙ ap (wait_for (live ss')) (sym v.after) ∙ ap (λ j. wait_for (live ss') (get_or ss' j gone).message) (sym same)
    plain k inside nohead (inr else) =
        get_or-set_other lead_times p k NEVER 0 else ∙ are.is k inside
        ∙ kept_waits ss ss' p m k (get_or ss k gone).message v inside else refl nohead
        ∙ ap (λ s. wait_for (live ss') s.message) (sym (v.elsewhere k else))

    at_head : (h : ℕ) → (hd : IsHead ss' m.group h) → wait_for (live ss') (get_or ss' h gone).message ≡ busy gs
    at_head h hd = ap (wait_for (live ss')) hd.message ∙ ap (λ g. wait_in (in_group g (live ss')) hd.first.sequence) (sym (head_group ss' m.group h hd)) ∙ wait-first gs hd.first hd.rest hd.first.sequence hd.leads refl

    with_head : (h : ℕ) → IsHead ss' m.group h → AreWaits ss' (set first h (busy gs))
    with_head h hd = record {
      long = let a = v.long in let b = are.long in omega (arith, length-set lead_times p NEVER, length-set first h (busy gs));
      is = λ k inside. at k (subst (λ n. k < n) v.long inside) (cases_eq k h);
    }
      where
        at : (k : ℕ) → k < length ss → (k ≡ h) ⊎ (k ≡ h → ⊥) → get_or (set first h (busy gs)) k 0 ≡ wait_for (live ss') (get_or ss' k gone).message
        at k inside (inl same) = ap (λ j. get_or (set first h (busy gs)) j 0) same ∙ get_or-set_same first h (busy gs) 0 (let a = are.long in let w = hd.within in let l = v.long in omega (arith, length-set lead_times p NEVER)) ∙ sym (at_head h hd) ∙ ap (λ j. wait_for (live ss') (get_or ss' j gone).message) (sym same)
        at k inside (inr other) = get_or-set_other first h k (busy gs) 0 other ∙ plain k inside (λ hd'. other (one-head ss' m.group k h v.new_order hd' hd)) (cases_eq k p)

    by : (zs : List Message) → gs ≡ zs → AreWaits ss' waits'
    by [] is = subst (AreWaits ss') (sym (none is)) (record {
      long = let a = v.long in let b = are.long in omega (arith, length-set lead_times p NEVER);
      is = λ k inside. plain k (subst (λ n. k < n) v.long inside) (λ hd. cc (hd.leads, is)) (cases_eq k p);
    })
    by (x ∷ xs) is =
        let r = head-exists ss' m.group x v.new_order (subst (Among x) (sym is) (inl refl)) in
        subst (AreWaits ss') (sym (head r.0 r.1)) (with_head r.0 r.1)

pub flipped : (a b : List ℕ) (c : Bool) → bytes_eq a b ≡ c → bytes_eq b a ≡ c
flipped a b true e = subst (λ x. bytes_eq x a ≡ true) ((bytes_eq-Decides a b).0 e) (same_self a)
flipped a b false e = by (bytes_eq b a) refl
  where
    by : (d : Bool) → bytes_eq b a ≡ d → d ≡ false
    by true h = absurd (let same : bytes_eq a b ≡ true = (bytes_eq-Decides a b).1 (sym ((bytes_eq-Decides b a).0 h)) in cc)
    by false h = refl

pub numbers-shrunk : (ss ss' : List Slot) (groups groups' : List (List ℕ × GroupKept)) (p : ℕ) (m : Message) → IsVacated ss ss' p m → AreNumbers ss groups
    → ((g : List ℕ) → numbers_at groups' g ≡ cond (bytes_eq m.group g) (without m.sequence (numbers_at groups g)) (numbers_at groups g)) → AreNumbers ss' groups'
numbers-shrunk ss ss' groups groups' p m v are shrunk g = by (bytes_eq m.group g) refl (shrunk g)
  where
    by : (b : Bool) → bytes_eq m.group g ≡ b → numbers_at groups' g ≡ cond b (without m.sequence (numbers_at groups g)) (numbers_at groups g) → numbers_at groups' g ≡ numbers_of (in_group g (live ss'))
    by true d h = h ∙ ap (without m.sequence) (are g) ∙ sym (v.numbers g (flipped m.group g true d))
    by false d h = h ∙ are g ∙ ap numbers_of (sym (v.others g (flipped m.group g false d)))

pub handed-vacated : (ss ss' : List Slot) (groups groups' : List (List ℕ × GroupKept)) (p : ℕ) (m : Message) → IsVacated ss ss' p m → AreHanded ss groups → AreNumbers ss' groups'
    → ((g : List ℕ) → 0 < length (numbers_at groups' g) → handed_at groups' g ≡ handed_at groups g) → AreHanded ss' groups'
handed-vacated ss ss' groups groups' p m v old numbers same x a upto = by (cases_eq r.0 p)
  where
    r : (k : ℕ) × StandsAt ss' x k
    r = live-place ss' x a

    by : (r.0 ≡ p) ⊎ (r.0 ≡ p → ⊥) → x.sequence ≤ handed_at groups' x.group
    by (inl is) = absurd (let at : (get_or ss' p gone).message ≡ Some x = subst (λ j. (get_or ss' j gone).message ≡ Some x) is r.1.message in cc (at, v.after))
    by (inr other) =
        let at : (get_or ss r.0 gone).message ≡ Some x = ap (λ s. s.message) (sym (v.elsewhere r.0 other)) ∙ r.1.message in
        let before = old x (live-among ss r.0 x (subst (λ n. r.0 < n) v.long r.1.within) at) upto in
        let there : 0 < length (numbers_at groups' x.group) = subst (λ ns. 0 < length ns) (sym (numbers x.group)) (some_number x.group (live ss') x (same_self x.group) a) in
        subst (λ n. x.sequence ≤ n) (sym (same x.group there)) before

pub flight_ends-vacated : (ss ss' : List Slot) (flight_ends : List ℕ) (p : ℕ) (m : Message) → IsVacated ss ss' p m → AreFlights ss flight_ends → AreFlights ss' (set flight_ends p NEVER)
flight_ends-vacated ss ss' flight_ends p m v are = record {
  long = let a = v.long in let b = are.long in omega (arith, length-set flight_ends p NEVER);
  is = λ k inside. by k (subst (λ n. k < n) v.long inside) (cases_eq k p);
}
  where
    by : (k : ℕ) → k < length ss → (k ≡ p) ⊎ (k ≡ p → ⊥) → get_or (set flight_ends p NEVER) k 0 ≡ flight_of (get_or ss' k gone).message
    by k inside (inl same) =
        ap (λ j. get_or (set flight_ends p NEVER) j 0) same
        ∙ get_or-set_same flight_ends p NEVER 0 (let a = are.long in let w = v.within in omega arith)
        ∙ ap flight_of (sym v.after)
        ∙ ap (λ j. flight_of (get_or ss' j gone).message) (sym same)
    by k inside (inr other) = get_or-set_other flight_ends p k NEVER 0 other ∙ are.is k inside ∙ ap (λ s. flight_of s.message) (sym (v.elsewhere k other))

pub indexed-vacated : (ss ss' : List Slot) (lead_times waits' flight_ends : List ℕ) (groups groups' : List (List ℕ × GroupKept)) (p : ℕ) (m : Message) → IsVacated ss ss' p m → IsIndexed ss lead_times flight_ends groups
    → ((h : ℕ) → IsHead ss' m.group h → waits' ≡ set (set lead_times p NEVER) h (busy (in_group m.group (live ss')))) → (in_group m.group (live ss') ≡ [] → waits' ≡ set lead_times p NEVER)
    → AreNumbers ss' groups' → AreHanded ss' groups' → IsIndexed ss' waits' (set flight_ends p NEVER) groups'
indexed-vacated ss ss' lead_times waits' flight_ends groups groups' p m v is head none numbers handed = record {
  ascending = v.new_order;
  are_waits = lead_times-vacated ss ss' lead_times waits' p m v is.are_waits head none;
  are_flights = flight_ends-vacated ss ss' flight_ends p m v is.are_flights;
  are_numbers = numbers;
  are_handed = handed;
}

-- the same, by the slot that is read and the message that is taken from it
pub emptied-read : (ss : List Slot) (p : ℕ) (read : Slot) (o : Option Message) (m : Message) → IsAscending 0 ss → p < length ss → read ≡ get_or ss p read → Some m ≡ read.message → o ≡ None → IsVacated ss (set ss p (record { sequence = read.sequence; message = o })) p m
emptied-read ss p read o m asc inside is e none =
    let at : read ≡ get_or ss p gone = get_or_read ss p read inside is gone in
    let new : vacated (get_or ss p gone) ≡ record { sequence = read.sequence; message = o } = ap vacated (sym at) ∙ ap (λ x. record { sequence = read.sequence; message = x }) (sym none) in
    subst (λ s. IsVacated ss (set ss p s) p m) new (emptied ss p m asc inside (ap (λ s. s.message) (sym at) ∙ sym e))

-- the messages of another number
others_pass : (n b : ℕ) (ss : List Slot) → IsAscending b ss → n ≤ b → filter (is_other n) (live ss) ≡ live ss
others_pass n b ss h l = filter-all (is_other n) (live ss) (λ x a. let above = rising-above b (live ss) x (live-rising b ss h) a in let test : (x.sequence == n) ≡ false = grind arith in ap not test)

dropped_here : (n : ℕ) (s' : Slot) (o : Option Message) (rest : List Message) → IsOwn n o → s'.message ≡ None → filter (is_other n) rest ≡ rest → kept_before s'.message rest ≡ filter (is_other n) (kept_before o rest)
dropped_here n s' None rest own e same = ap (λ q. kept_before q rest) e ∙ sym same
dropped_here n s' (Some x) rest own e same = ap (λ q. kept_before q rest) e ∙ sym (ap (λ b. cond (not b) (x ∷ filter (is_other n) rest) (filter (is_other n) rest)) (let is : (x.sequence == n) ≡ true = grind (arith, own) in is) ∙ same)

dropped_later : (n number : ℕ) (o : Option Message) (xs ys : List Message) → IsOwn number o → number ≢ n → xs ≡ filter (is_other n) ys → kept_before o xs ≡ filter (is_other n) (kept_before o ys)
dropped_later n number None xs ys own other e = e
dropped_later n number (Some x) xs ys own other e = ap (λ zs. x ∷ zs) e ∙ sym (ap (λ b. cond (not b) (x ∷ filter (is_other n) ys) (filter (is_other n) ys)) (let differs : x.sequence ≢ n = λ eq. other (sym own ∙ eq) in let is : (x.sequence == n) ≡ false = grind arith in is))

-- the message of that number is taken out, and no other
pub live-vacated : (b : ℕ) (ss : List Slot) (p : ℕ) (s' : Slot) → IsAscending b ss → p < length ss → s'.message ≡ None → live (set ss p s') ≡ filter (is_other (get_or ss p gone).sequence) (live ss)
live-vacated b [] p s' h l e = absurd (omega arith)
live-vacated b (s ∷ ss) zero s' h l e = dropped_here s.sequence s' s.message (live ss) h.1.0 e (others_pass s.sequence s.sequence ss h.1.1 (omega arith))
live-vacated b (s ∷ ss) (suc p) s' h l e =
    let above = ascending-above s.sequence ss p h.1.1 (omega arith) in
    dropped_later (get_or ss p gone).sequence s.sequence s.message _ (live ss) h.1.0 (λ eq. omega arith) (live-vacated s.sequence ss p s' h.1.1 (omega arith) e)

-- where no message has the number, all stay
pub none-dropped : (ss : List Slot) (n : ℕ) → ((x : Message) → Among x (live ss) → x.sequence ≢ n) → live ss ≡ filter (is_other n) (live ss)
none-dropped ss n none = sym (filter-all (is_other n) (live ss) (λ x a. let other = none x a in let test : (x.sequence == n) ≡ false = grind arith in ap not test))

length_later : (o : Option Message) (xs ys : List Message) → length xs + 1 ≡ length ys → length (kept_before o xs) + 1 ≡ length (kept_before o ys)
length_later None xs ys e = e
length_later (Some m) xs ys e = omega arith

length_here : (o o' : Option Message) (m : Message) (ms : List Message) → o ≡ Some m → o' ≡ None → length (kept_before o' ms) + 1 ≡ length (kept_before o ms)
length_here None o' m ms e e' = absurd cc
length_here (Some x) None m ms e e' = omega arith
length_here (Some x) (Some y) m ms e e' = absurd cc

-- where a message is taken out, there is one less
pub length-vacated : (ss : List Slot) (p : ℕ) (s' : Slot) (m : Message) → p < length ss → (get_or ss p gone).message ≡ Some m → s'.message ≡ None → length (live (set ss p s')) + 1 ≡ length (live ss)
length-vacated [] p s' m l e none = absurd (omega arith)
length-vacated (s ∷ ss) zero s' m l e none = length_here s.message s'.message m (live ss) e none
length-vacated (s ∷ ss) (suc p) s' m l e none = length_later s.message (live (set ss p s')) (live ss) (length-vacated ss p s' m (omega arith) e none)
