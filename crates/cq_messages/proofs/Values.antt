-- What a changed slot changes of the messages.
use Rattle.std.proofs.Common.{◌≡◌, ◌≢◌, ℕ, ◌+◌, ◌<◌, ◌≤◌, ◌==◌, ◌∙◌, ◌||◌, ap, sym, subst, List, [], ◌∷◌, length, get_or, set, map, true, false, cond, Option, Some, None, inl, inr, arith, suc, zero, refl}
use Rattle.std.specs.List.{find}
use Rattle.cq_base.specs.queue.Messages.{Message}
use Rattle.cq_base.specs.Relations.{Among}
use Rattle.cq_messages.specs.declared.slot.Slot.{Slot}
use Rattle.cq_messages.specs.Changes.{hidden_until, marked, handed_at_until}
use Rattle.cq_messages.specs.Slots.{live, kept_before, gone, IsOwn, IsAscending}
use Rattle.cq_messages.specs.within.Touched.{retimed, retimed_kept, retimed_in}
use Rattle.cq_messages.proofs.Ascending.{ascending-above}
use Rattle.std.specs.Option.{option_map, option_copied}
use Rattle.std.proofs.Common.{Bor}
use Rattle.std.specs.List.{All}
use Rattle.std.proofs.lemmas.List.Elements.{All-head, All-tail}
use Rattle.cq_messages.specs.Ordered.{IsRising}
use Rattle.cq_messages.proofs.Rising.{rising-above, live-rising, own-number, live-among}
use Rattle.cq_messages.proofs.Remaining.{live-place, same-place}
use Rattle.std.proofs.lemmas.List.{get_or_read}

-- a function that changes none of these makes the same list
pub map-kept : {X : Type 0} (f : X → X) (xs : List X) → ((x : X) → Among x xs → f x ≡ x) → map f xs ≡ xs
map-kept f [] same = refl
map-kept f (x ∷ xs) same = ap (λ y. y ∷ map f xs) (same x (inl refl)) ∙ ap (λ ys. x ∷ ys) (map-kept f xs (λ y a. same y (inr a)))

later_kept : (f : Message → Message) (n b : ℕ) (ss : List Slot) → IsAscending b ss → n ≤ b → ((x : Message) → x.sequence ≢ n → f x ≡ x) → map f (live ss) ≡ live ss
later_kept f n b ss h l same = map-kept f (live ss) (λ x a. same x (λ e. let above = rising-above b (live ss) x (live-rising b ss h) a in omega arith))

here_changed : (f : Message → Message) (handings at until : ℕ) (m : Message) (o : Option Message) (rest : List Message) → o ≡ Some m → f m ≡ retimed handings at until m → map f rest ≡ rest
    → kept_before (retimed_kept handings at until o) rest ≡ map f (kept_before o rest)
here_changed f handings at until m None rest e is same = absurd cc
here_changed f handings at until m (Some x) rest e is same =
    let one : x ≡ m = cc in
    ap (λ y. retimed handings at until y ∷ rest) one ∙ ap (λ y. y ∷ rest) (sym is) ∙ ap (λ y. f y ∷ rest) (sym one) ∙ ap (λ ys. f x ∷ ys) (sym same)

before_changed : (f : Message → Message) (n number : ℕ) (o : Option Message) (xs ys : List Message) → IsOwn number o → number ≢ n → ((x : Message) → x.sequence ≢ n → f x ≡ x) → xs ≡ map f ys → kept_before o xs ≡ map f (kept_before o ys)
before_changed f n number None xs ys own other same e = e
before_changed f n number (Some m) xs ys own other same e = ap (λ zs. m ∷ zs) e ∙ ap (λ x. x ∷ map f ys) (sym (same m (λ is. other (sym own ∙ is))))

-- the message of that place is changed, and no other
pub live-retimed : (f : Message → Message) (b : ℕ) (ss : List Slot) (p handings at until : ℕ) (m : Message) → IsAscending b ss → p < length ss → (get_or ss p gone).message ≡ Some m → f m ≡ retimed handings at until m
    → ((x : Message) → x.sequence ≢ m.sequence → f x ≡ x) → live (set ss p (retimed_in handings at until (get_or ss p gone))) ≡ map f (live ss)
live-retimed f b [] p handings at until m h l e is same = absurd (omega arith)
live-retimed f b (s ∷ ss) zero handings at until m h l e is same =
    let own = own-number b (s ∷ ss) 0 m h l e in
    here_changed f handings at until m s.message (live ss) e is (later_kept f m.sequence s.sequence ss h.1.1 (omega arith) same)
live-retimed f b (s ∷ ss) (suc p) handings at until m h l e is same =
    let own = own-number s.sequence ss p m h.1.1 (omega arith) e in
    let above = ascending-above s.sequence ss p h.1.1 (omega arith) in
    before_changed f m.sequence s.sequence s.message _ (live ss) h.1.0 (λ eq. omega arith) same (live-retimed f s.sequence ss p handings at until m h.1.1 (omega arith) e is same)

-- the message of that number, and no other, is hidden
pub hidden-same : (n end : ℕ) (m : Message) → m.sequence ≡ n → hidden_until n end m ≡ retimed m.handings m.handed_at end m
hidden-same n end m e = ap (λ b. cond b (record m { until = end }) m) (let is : (m.sequence == n) ≡ true = grind arith in is)

pub hidden-other : (n end : ℕ) (m : Message) → m.sequence ≢ n → hidden_until n end m ≡ m
hidden-other n end m e = ap (λ b. cond b (record m { until = end }) m) (let is : (m.sequence == n) ≡ false = grind arith in is)

-- and the same of one that is handed out
pub marked-same : (t end n : ℕ) (m : Message) → m.sequence ≡ n → marked t end (n ∷ []) m ≡ retimed (m.handings + 1) t end m
marked-same t end n m e = ap (λ b. cond (b || false) (handed_at_until t end m) m) (let is : (n == m.sequence) ≡ true = grind arith in is)

pub marked-other : (t end n : ℕ) (m : Message) → m.sequence ≢ n → marked t end (n ∷ []) m ≡ m
marked-other t end n m e = ap (λ b. cond (b || false) (handed_at_until t end m) m) (let is : (n == m.sequence) ≡ false = grind arith in is)

-- the message of a sequence number
pub find-number : (b : ℕ) (ms : List Message) (n : ℕ) (m : Message) → IsRising b ms → Among m ms → m.sequence ≡ n → find (λ x. x.sequence == n) ms ≡ Some m
find-number b [] n m h a e = absurd a
find-number b (x ∷ ms) n m h (inl same) e = ap (λ c. cond c (Some x) (find (λ y. y.sequence == n) ms)) (let is : x.sequence ≡ n = ap (λ y. y.sequence) (sym same) ∙ e in let test : (x.sequence == n) ≡ true = grind arith in test) ∙ ap (λ y. Some y) (sym same)
find-number b (x ∷ ms) n m h (inr a) e =
    let above = rising-above x.sequence ms m h.1 a in
    ap (λ c. cond c (Some x) (find (λ y. y.sequence == n) ms)) (let test : (x.sequence == n) ≡ false = grind arith in test) ∙ find-number x.sequence ms n m h.1 a e

pub find-no-number : (ms : List Message) (n : ℕ) → ((x : Message) → Among x ms → x.sequence ≢ n) → find (λ x. x.sequence == n) ms ≡ None
find-no-number [] n none = refl
find-no-number (x ∷ ms) n none = ap (λ c. cond c (Some x) (find (λ y. y.sequence == n) ms)) (let other = none x (inl refl) in let test : (x.sequence == n) ≡ false = grind arith in test) ∙ find-no-number ms n (λ y a. none y (inr a))

-- no message has the number of a slot without one
pub vacant : (ss : List Slot) (p n : ℕ) → IsAscending 0 ss → p < length ss → (get_or ss p gone).sequence ≡ n → (get_or ss p gone).message ≡ None → (x : Message) → Among x (live ss) → x.sequence ≢ n
vacant ss p n h l at none x a e =
    let r = live-place ss x a in
    let own = own-number 0 ss r.0 x h r.1.within r.1.message in
    let same : r.0 ≡ p = same-place ss r.0 p h r.1.within l (sym own ∙ e ∙ sym at) in
    let there : (get_or ss p gone).message ≡ Some x = subst (λ j. (get_or ss j gone).message ≡ Some x) same r.1.message in
    cc (there, none)

-- nor a number that no slot has
pub unnumbered : (ss : List Slot) (n : ℕ) → IsAscending 0 ss → ((k : ℕ) → k < length ss → (get_or ss k gone).sequence ≢ n) → (x : Message) → Among x (live ss) → x.sequence ≢ n
unnumbered ss n h none x a e =
    let r = live-place ss x a in
    none r.0 r.1.within (sym (own-number 0 ss r.0 x h r.1.within r.1.message) ∙ e)

pub read_message : (ss : List Slot) (p : ℕ) (read : Slot) (o : Option Message) → p < length ss → read ≡ get_or ss p read → read.message ≡ o → (get_or ss p gone).message ≡ o
read_message ss p read o l is e = ap (λ s. s.message) (sym (get_or_read ss p read l is gone)) ∙ e

-- a message was hidden
pub live-hidden : (ss new : List Slot) (p n end : ℕ) (read : Slot) (m : Message) → IsAscending 0 ss → p < length ss → (get_or ss p gone).sequence ≡ n → read ≡ get_or ss p read → read.message ≡ Some m
    → new ≡ set ss p (retimed_in m.handings m.handed_at end (get_or ss p gone)) → live new ≡ map (hidden_until n end) (live ss)
live-hidden ss new p n end read m h l at is e changed =
    let there = read_message ss p read (Some m) l is e in
    let number : m.sequence ≡ n = own-number 0 ss p m h l there ∙ at in
    ap live changed ∙ live-retimed (hidden_until n end) 0 ss p m.handings m.handed_at end m h l there (hidden-same n end m number) (λ x other. hidden-other n end x (λ eq. other (eq ∙ sym number)))

-- and handed out
pub live-handed : (ss new : List Slot) (p n t end : ℕ) (read : Slot) (m : Message) → IsAscending 0 ss → p < length ss → (get_or ss p gone).sequence ≡ n → read ≡ get_or ss p read → read.message ≡ Some m
    → new ≡ set ss p (retimed_in (m.handings + 1) t end (get_or ss p gone)) → live new ≡ map (marked t end (n ∷ [])) (live ss)
live-handed ss new p n t end read m h l at is e changed =
    let there = read_message ss p read (Some m) l is e in
    let number : m.sequence ≡ n = own-number 0 ss p m h l there ∙ at in
    ap live changed ∙ live-retimed (marked t end (n ∷ [])) 0 ss p (m.handings + 1) t end m h l there (marked-same t end n m number) (λ x other. marked-other t end n x (λ eq. other (eq ∙ sym number)))

pub none-hidden : (ss : List Slot) (n end : ℕ) → ((x : Message) → Among x (live ss) → x.sequence ≢ n) → live ss ≡ map (hidden_until n end) (live ss)
none-hidden ss n end none = sym (map-kept (hidden_until n end) (live ss) (λ x a. hidden-other n end x (none x a)))

pub none-handed : (ss : List Slot) (n t end : ℕ) → ((x : Message) → Among x (live ss) → x.sequence ≢ n) → live ss ≡ map (marked t end (n ∷ [])) (live ss)
none-handed ss n t end none = sym (map-kept (marked t end (n ∷ [])) (live ss) (λ x a. marked-other t end n x (none x a)))

pub vacant-read : (ss : List Slot) (p n : ℕ) (read : Slot) → IsAscending 0 ss → p < length ss → (get_or ss p gone).sequence ≡ n → read ≡ get_or ss p read → read.message ≡ None → (x : Message) → Among x (live ss) → x.sequence ≢ n
vacant-read ss p n read h l at is e = vacant ss p n h l at (read_message ss p read None l is e)

pub all-among : {X : Type 0} (P : X → Type 0) (xs : List X) (x : X) → All P xs → Among x xs → P x
all-among P [] x h a = absurd a
all-among P (y ∷ xs) x h (inl e) = subst P (sym e) (All-head P y xs h)
all-among P (y ∷ xs) x h (inr a) = all-among P xs x (All-tail P y xs h) a

pub copied-map : {X : Type 0} (o : Option (Bor X)) → option_map (λ x. x.now) o ≡ option_copied o
copied-map None = refl
copied-map (Some x) = refl

-- the message at the place of a number
pub message-found : (ss : List Slot) (p n : ℕ) → IsAscending 0 ss → p < length ss → (get_or ss p gone).sequence ≡ n → (get_or ss p gone).message ≡ find (λ x. x.sequence == n) (live ss)
message-found ss p n h l at = by (get_or ss p gone).message refl
  where
    by : (o : Option Message) → (get_or ss p gone).message ≡ o → o ≡ find (λ x. x.sequence == n) (live ss)
    by None e = sym (find-no-number (live ss) n (vacant ss p n h l at e))
    by (Some m) e = sym (find-number 0 (live ss) n m (live-rising 0 ss h) (live-among ss p m l e) (own-number 0 ss p m h l e ∙ at))
