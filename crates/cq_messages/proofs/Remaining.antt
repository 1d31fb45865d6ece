-- Where messages stand, and the first of their groups.
use Rattle.std.proofs.Common.{◌≡◌, ◌≢◌, ℕ, ◌+◌, ◌<◌, ◌≤◌, ◌∙◌, ◌⊎◌, ap, sym, subst, List, [], ◌∷◌, ◌++◌, length, get_or, take, max, Option, Some, None, inl, inr, arith, suc, zero, refl}
use Rattle.std.specs.Str.{bytes_eq}
use Rattle.std.proofs.lemmas.Bool.{cases_lt}
use Rattle.std.specs.Prelude.{IfSome}
use Rattle.std.proofs.lemmas.List.{take_more}
use Rattle.std.proofs.lemmas.Slice.Eq.{bytes_eq-Decides}
use Rattle.cq_base.specs.queue.Messages.{Message}
use Rattle.cq_base.specs.Relations.{Among}
use Rattle.cq_base.proofs.Among.{among-filter}
use Rattle.cq_messages.specs.declared.slot.Slot.{Slot}
use Rattle.cq_messages.specs.within.Groups.{GroupKept, handed_at}
use Rattle.cq_messages.specs.within.Indexed.{AreHanded}
use Rattle.cq_messages.specs.Changes.{numbers_of}
use Rattle.cq_messages.specs.Slots.{live, kept_before, gone, IsAscending, in_group, busy}
use Rattle.cq_messages.specs.within.Touched.{IsHead}
use Rattle.cq_messages.proofs.Ascending.{ascending-order}
use Rattle.cq_messages.specs.Ordered.{IsRising}
use Rattle.cq_messages.proofs.Rising.{rising-above, own-number}

-- the message stands at that place
pub record StandsAt (ss : List Slot) (m : Message) (k : ℕ) : Type 0 where
  pub within : k < length ss
  pub message : (get_or ss k gone).message ≡ Some m

place_here : (s : Slot) (ss : List Slot) (m : Message) (o : Option Message) → s.message ≡ o → Among m (kept_before o (live ss)) → (Among m (live ss) → (k : ℕ) × StandsAt ss m k) → (k : ℕ) × StandsAt (s ∷ ss) m k
place_here s ss m None e a later = let r = later a in (suc r.0, record { within = let w = r.1.within in omega arith; message = r.1.message })
place_here s ss m (Some x) e (inl same) later = (0, record { within = omega arith; message = e ∙ ap (λ y. Some y) (sym same) })
place_here s ss m (Some x) e (inr a) later = let r = later a in (suc r.0, record { within = let w = r.1.within in omega arith; message = r.1.message })

pub live-place : (ss : List Slot) (m : Message) → Among m (live ss) → (k : ℕ) × StandsAt ss m k
live-place [] m a = absurd a
live-place (s ∷ ss) m a = place_here s ss m s.message refl a (live-place ss m)

-- a sequence number stands at one place
pub same-place : (ss : List Slot) (j k : ℕ) → IsAscending 0 ss → j < length ss → k < length ss → (get_or ss j gone).sequence ≡ (get_or ss k gone).sequence → j ≡ k
same-place ss j k h a b e = by (cases_lt j k) (cases_lt k j)
  where
    by : (j < k) ⊎ (k ≤ j) → (k < j) ⊎ (j ≤ k) → j ≡ k
    by (inl l) d = absurd (let o = ascending-order 0 ss j k h l b in omega arith)
    by (inr l) (inl l') = absurd (let o = ascending-order 0 ss k j h l' a in omega arith)
    by (inr l) (inr l') = omega arith

-- the message of that sequence number stands at the place of that sequence number
pub found-message : (ss : List Slot) (k : ℕ) (m : Message) → IsAscending 0 ss → Among m (live ss) → k < length ss → (get_or ss k gone).sequence ≡ m.sequence → (get_or ss k gone).message ≡ Some m
found-message ss k m h a l e =
    let r = live-place ss m a in
    let own = own-number 0 ss r.0 m h r.1.within r.1.message in
    let same : k ≡ r.0 = same-place ss k r.0 h l r.1.within (e ∙ own) in
    ap (λ j. (get_or ss j gone).message) same ∙ r.1.message

first_among : (g : List ℕ) (ms : List Message) (x : Message) (xs : List Message) → in_group g ms ≡ x ∷ xs → Among x ms
first_among g ms x xs e = (among-filter (λ m. bytes_eq g m.group) x ms (subst (Among x) (sym e) (inl refl))).0

-- the place of a group's first number is that of its oldest message
pub head-at : (ss : List Slot) (g : List ℕ) (ns : List ℕ) (k : ℕ) → IsAscending 0 ss → ns ≡ numbers_of (in_group g (live ss)) → 0 < length ns → k < length ss → (get_or ss k gone).sequence ≡ get_or ns 0 0 → IsHead ss g k
head-at ss g ns k h e some l at = by (in_group g (live ss)) refl
  where
    by : (gs : List Message) → in_group g (live ss) ≡ gs → IsHead ss g k
    by [] is = absurd (let none : length ns ≡ 0 = ap length e ∙ ap (λ ms. length (numbers_of ms)) is in omega arith)
    by (x ∷ xs) is = record {
      first = x;
      rest = xs;
      within = l;
      message = found-message ss k x h (first_among g (live ss) x xs is) l (at ∙ ap (λ ms. get_or ms 0 0) (e ∙ ap numbers_of is));
      leads = is;
    }

-- and it is there
pub head-there : (ss : List Slot) (g : List ℕ) (ns : List ℕ) → IsAscending 0 ss → ns ≡ numbers_of (in_group g (live ss)) → 0 < length ns → ((k : ℕ) → k < length ss → (get_or ss k gone).sequence ≢ get_or ns 0 0) → ⊥
head-there ss g ns h e some none = by (in_group g (live ss)) refl
  where
    by : (gs : List Message) → in_group g (live ss) ≡ gs → ⊥
    by [] is = let none' : length ns ≡ 0 = ap length e ∙ ap (λ ms. length (numbers_of ms)) is in omega arith
    by (x ∷ xs) is =
        let r = live-place ss x (first_among g (live ss) x xs is) in
        none r.0 r.1.within (sym (own-number 0 ss r.0 x h r.1.within r.1.message) ∙ sym (ap (λ ms. get_or ms 0 0) (e ∙ ap numbers_of is)))

pub none-numbered : (gs : List Message) (ns : List ℕ) → ns ≡ numbers_of gs → length ns ≡ 0 → gs ≡ []
none-numbered [] ns e z = refl
none-numbered (x ∷ gs) ns e z = absurd (let some : length ns ≡ length (numbers_of (x ∷ gs)) = ap length e in omega arith)

pub if_both : (o : Option ℕ) (A B C : ℕ → Type 0) → ((k : ℕ) → A k → B k → C k) → IfSome o A → IfSome o B → IfSome o C
if_both None A B C follows a b = tt
if_both (Some k) A B C follows a b = follows k a b

-- no timeout of these ends later than that of the passed
busy_none : (gs : List Message) → ((m : Message) → Among m gs → m.until ≡ 0) → busy gs ≡ 0
busy_none [] none = refl
busy_none (x ∷ gs) none = let first = none x (inl refl) in let rest = busy_none gs (λ m a. none m (inr a)) in omega arith

not_below : (u n h : ℕ) → (0 < u → n ≤ h) → h < n → u ≡ 0
not_below u n h f l = by (cases_lt 0 u)
  where
    by : (0 < u) ⊎ (u ≤ 0) → u ≡ 0
    by (inl p) = absurd (let o = f p in omega arith)
    by (inr p) = omega arith

pub busy-rest : (b : ℕ) (gs : List Message) (handed i : ℕ) → IsRising b gs → ((m : Message) → Among m gs → 0 < m.until → m.sequence ≤ handed) → handed < get_or (numbers_of gs) i 0 → i < length gs → busy gs ≡ busy (take i gs)
busy-rest b [] handed i h upto l inside = absurd (omega arith)
busy-rest b (x ∷ gs) handed zero h upto l inside = busy_none (x ∷ gs) late
  where
    late : (m : Message) → Among m (x ∷ gs) → m.until ≡ 0
    late m (inl e) = not_below m.until m.sequence handed (upto m (inl e)) (subst (λ y. handed < y.sequence) (sym e) l)
    late m (inr a) = not_below m.until m.sequence handed (upto m (inr a)) (let o = rising-above x.sequence gs m h.1 a in omega arith)
busy-rest b (x ∷ gs) handed (suc i) h upto l inside = ap (max x.until) (busy-rest x.sequence gs handed i h.1 (λ m a. upto m (inr a)) l (omega arith))

busy_append : (xs : List Message) (m : Message) → busy (xs ++ m ∷ []) ≡ max (busy xs) m.until
busy_append [] m = let u = m.until in omega arith
busy_append (x ∷ xs) m = let r = busy_append xs m in omega arith

pub busy-more : (gs : List Message) (i : ℕ) (d : Message) → i < length gs → busy (take (i + 1) gs) ≡ max (busy (take i gs)) (get_or gs i d).until
busy-more gs i d h = ap busy (take_more gs i d h) ∙ busy_append (take i gs) (get_or gs i d)

pub at-among : (gs : List Message) (i : ℕ) (d : Message) → i < length gs → Among (get_or gs i d) gs
at-among [] i d h = absurd (omega arith)
at-among (x ∷ gs) zero d h = inl refl
at-among (x ∷ gs) (suc i) d h = inr (at-among gs i d (omega arith))

pub number-at : (gs : List Message) (i : ℕ) (d : Message) → i < length gs → get_or (numbers_of gs) i 0 ≡ (get_or gs i d).sequence
number-at [] i d h = absurd (omega arith)
number-at (x ∷ gs) zero d h = refl
number-at (x ∷ gs) (suc i) d h = number-at gs i d (omega arith)

-- a message that was handed out isn't after the last of its group that was
pub handed-upto : (ss : List Slot) (groups : List (List ℕ × GroupKept)) (g : List ℕ) → AreHanded ss groups → (m : Message) → Among m (in_group g (live ss)) → 0 < m.until → m.sequence ≤ handed_at groups g
handed-upto ss groups g all m a p =
    let w = among-filter (λ y. bytes_eq g y.group) m (live ss) a in
    subst (λ k. m.sequence ≤ handed_at groups k) (sym ((bytes_eq-Decides g m.group).0 w.1)) (all m w.0 p)

-- a message, where none is read
abbrev pub no_message : Message
no_message = record { sequence = 0; group = []; body = []; handings = 0; handed_at = 0; until = 0 }

-- a group has one oldest message
pub one-head : (ss : List Slot) (g : List ℕ) (h k : ℕ) → IsAscending 0 ss → IsHead ss g h → IsHead ss g k → h ≡ k
one-head ss g h k asc a b =
    let first : a.first ≡ b.first = cc (a.leads, b.leads) in
    same-place ss h k asc a.within b.within (sym (own-number 0 ss h a.first asc a.within a.message) ∙ ap (λ m. m.sequence) first ∙ own-number 0 ss k b.first asc b.within b.message)

-- a group with messages has an oldest
pub head-exists : (ss : List Slot) (g : List ℕ) (m : Message) → IsAscending 0 ss → Among m (in_group g (live ss)) → (h : ℕ) × IsHead ss g h
head-exists ss g m asc a = by (in_group g (live ss)) refl a
  where
    by : (gs : List Message) → in_group g (live ss) ≡ gs → Among m gs → (h : ℕ) × IsHead ss g h
    by [] is b = absurd b
    by (x ∷ xs) is b =
        let r = live-place ss x (first_among g (live ss) x xs is) in
        (r.0, record { first = x; rest = xs; within = r.1.within; message = r.1.message; leads = is })
