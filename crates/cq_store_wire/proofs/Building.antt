-- What may come next is put, and what may not is refused.
use Rattle.std.proofs.Common.{◌≡◌, ℕ, ◌<◌, ◌≤◌, Bool, true, false, cond, ltb, leb, leb-true, le-leb, ltb-true, lt-ltb, List, [], ◌∷◌, length, Option, None, Some, Result, Ok, Err, refl, sym, subst, ap, ◌∙◌, arith}
use Rattle.std.specs.Prelude.{◌&&◌, slice_get, is_none}
use Rattle.std.specs.Option.{is_some, option_map}
use Rattle.std.specs.List.{All, find, list_all}
use Rattle.std.specs.Str.{bytes_eq}
use Rattle.std.proofs.lemmas.List.Elements.{All-cons, All-head, All-nil, All-tail}
use Rattle.cq_base.specs.queue.Incarnations.{Accepted, Incarnation}
use Rattle.cq_base.specs.queue.Messages.{Message}
use Rattle.cq_queue.specs.Parts.{IsNextAccepted, IsNextMessage, and_accepted, and_message}
use Rattle.cq_store.specs.Parts.{IsNextName, IsQueueWithin, and_client, and_name}
use Rattle.cq_store.specs.Stands.{ClientRecord, QueueRecord, StoreKept, client_at, name_at}
use Rattle.cq_base.specs.declared.reply.Reply.{Reply}
use Rattle.cq_wire.specs.declared.fault.WireFault.{WireFault}
use Rattle.cq_wire.specs.declared.fault.WireFault.TheVariants.{BadTag, BadNumber}
use Rattle.cq_wire.specs.Reading.{◌>>=◌}
use Rattle.cq_wire.proofs.Fronts.{ok_is}
use Rattle.cq_store_wire.specs.declared.part.NameRecord.{NameRecord}
use Rattle.cq_store_wire.specs.declared.reply.ReplyRecord.{ReplyRecord}
use Rattle.cq_store_wire.specs.Bodies.{and_reply, bodies_of, reply_resolved}
use Rattle.cq_store_wire.specs.Building.{closed, is_empty, is_living_within, is_next_accepted, is_next_message, is_next_name, record_of, with_accepted, with_client, with_message, with_reply}
use Rattle.cq_store_wire.proofs.Mentions.{bodies-more}

-- ---- tests

pub two_true : (a b : Bool) → (a && b) ≡ true → (a ≡ true) × (b ≡ true)
two_true true true e = (refl, refl)
two_true true false e = absurd cc
two_true false b e = absurd cc

pub both : (a b : Bool) → a ≡ true → b ≡ true → (a && b) ≡ true
both a b e f = rw (e, f) refl

is_false : (b : Bool) → (b ≡ true → ⊥) → b ≡ false
is_false true never = absurd (never refl)
is_false false never = refl

pub all-tested : {A : Type 0} (test : A → Bool) (P : A → Type 0) → ((x : A) → P x → test x ≡ true) → (xs : List A) → All P xs → list_all test xs ≡ true
all-tested test P holds [] h = refl
all-tested test P holds (x ∷ xs) h = both (test x) (list_all test xs) (holds x (All-head P x xs h)) (all-tested test P holds xs (All-tail P x xs h))

pub tested-all : {A : Type 0} (test : A → Bool) (P : A → Type 0) → ((x : A) → test x ≡ true → P x) → (xs : List A) → list_all test xs ≡ true → All P xs
tested-all test P holds [] e = All-nil P
tested-all test P holds (x ∷ xs) e = let t = two_true (test x) (list_all test xs) e in All-cons P x xs (holds x t.0) (tested-all test P holds xs t.1)

pub none-tested : {A : Type 0} (o : Option A) → o ≡ None → is_none o ≡ true
none-tested o e = ap is_none e

pub tested-none : {A : Type 0} (o : Option A) → is_none o ≡ true → o ≡ None
tested-none None e = refl
tested-none (Some x) e = absurd cc

-- ---- the first of a list, as it is looked up

pub none-first : {A B : Type 0} (f : A → B) (o : Option A) (xs : List B) → option_map f o ≡ slice_get xs 0 → false ≡ is_some o → xs ≡ []
none-first f None [] e never = refl
none-first f None (x ∷ xs) e never = absurd cc
none-first f (Some a) xs e never = absurd cc

pub some-first : {A B : Type 0} (f : A → B) (o : Option A) (xs : List B) → option_map f o ≡ slice_get xs 0 → true ≡ is_some o → is_empty xs ≡ false
some-first f None xs e there = absurd cc
some-first f (Some a) [] e there = absurd cc
some-first f (Some a) (x ∷ xs) e there = refl

-- ---- messages

pub message-tested : (q : Incarnation) (m : Message) → IsNextMessage q m → is_next_message q m ≡ true
unfolding is_next_message
message-tested q m next =
    both (list_all (λ x. ltb x.sequence m.sequence) q.messages) (leb m.sequence q.sent && leb m.handings q.used)
    (all-tested (λ x. ltb x.sequence m.sequence) (λ x. x.sequence < m.sequence) (λ x h. lt-ltb _ _ h) q.messages next.later)
    (both (leb m.sequence q.sent) (leb m.handings q.used) (le-leb _ _ next.sent) (le-leb _ _ next.handed))

pub tested-message : (q : Incarnation) (m : Message) → is_next_message q m ≡ true → IsNextMessage q m
unfolding is_next_message
tested-message q m e =
    let a = two_true (list_all (λ x. ltb x.sequence m.sequence) q.messages) (leb m.sequence q.sent && leb m.handings q.used) e in
    let b = two_true (leb m.sequence q.sent) (leb m.handings q.used) a.1 in
    record { later = tested-all (λ x. ltb x.sequence m.sequence) (λ x. x.sequence < m.sequence) (λ x h. ltb-true _ _ h) q.messages a.0; sent = leb-true _ _ b.0; handed = leb-true _ _ b.1 }

abbrev queue_or : Bool → Incarnation → Result Incarnation WireFault
queue_or is q = cond is (Ok q) (Err BadNumber)

abbrev queue_or_late : Bool → Result Incarnation WireFault → Result Incarnation WireFault
queue_or_late is r = cond is r (Err BadTag)

pub message-put : (m : Message) (q after : Incarnation) → q.accepted ≡ [] → IsNextMessage q m → after ≡ and_message m q → with_message m q ≡ Ok after
unfolding with_message
message-put m q after none next is =
    ap (λ (b : Bool). queue_or_late b (queue_or (is_next_message q m) (and_message m q))) (ap is_empty none)
    ∙ ap (λ (b : Bool). queue_or b (and_message m q)) (message-tested q m next)
    ∙ ap (λ (r : Incarnation). queue_or true r) (sym is)

pub message-refused : (m : Message) (q : Incarnation) → q.accepted ≡ [] → (IsNextMessage q m → ⊥) → with_message m q ≡ Err BadNumber
unfolding with_message
message-refused m q none never =
    ap (λ (b : Bool). queue_or_late b (queue_or (is_next_message q m) (and_message m q))) (ap is_empty none)
    ∙ ap (λ (b : Bool). queue_or b (and_message m q)) (is_false (is_next_message q m) (λ e. never (tested-message q m e)))

pub message-late : (m : Message) (q : Incarnation) → is_empty q.accepted ≡ false → with_message m q ≡ Err BadTag
unfolding with_message
message-late m q some = ap (λ (b : Bool). queue_or_late b (queue_or (is_next_message q m) (and_message m q))) some

-- ---- accepted sends

pub accepted-tested : (q : Incarnation) (a : Accepted) → IsNextAccepted q a → is_next_accepted q a ≡ true
unfolding is_next_accepted
accepted-tested q a next =
    both (list_all (λ x. leb x.moment a.moment) q.accepted) (is_none (find (λ x. bytes_eq x.dedup a.dedup) q.accepted) && (leb a.moment q.last && ltb (length q.accepted) q.sent))
    (all-tested (λ x. leb x.moment a.moment) (λ x. x.moment ≤ a.moment) (λ x h. le-leb _ _ h) q.accepted next.later)
    (both (is_none (find (λ x. bytes_eq x.dedup a.dedup) q.accepted)) (leb a.moment q.last && ltb (length q.accepted) q.sent) (ap is_none next.own)
    (both (leb a.moment q.last) (ltb (length q.accepted) q.sent) (le-leb _ _ next.past) (lt-ltb _ _ next.fewer)))

pub tested-accepted : (q : Incarnation) (a : Accepted) → is_next_accepted q a ≡ true → IsNextAccepted q a
unfolding is_next_accepted
tested-accepted q a e =
    let b = two_true (list_all (λ x. leb x.moment a.moment) q.accepted) (is_none (find (λ x. bytes_eq x.dedup a.dedup) q.accepted) && (leb a.moment q.last && ltb (length q.accepted) q.sent)) e in
    let c = two_true (is_none (find (λ x. bytes_eq x.dedup a.dedup) q.accepted)) (leb a.moment q.last && ltb (length q.accepted) q.sent) b.1 in
    let d = two_true (leb a.moment q.last) (ltb (length q.accepted) q.sent) c.1 in
    record {
      later = tested-all (λ x. leb x.moment a.moment) (λ x. x.moment ≤ a.moment) (λ x h. leb-true _ _ h) q.accepted b.0;
      own = tested-none (find (λ x. bytes_eq x.dedup a.dedup) q.accepted) c.0;
      past = leb-true _ _ d.0;
      fewer = ltb-true _ _ d.1;
    }

pub accepted-put : (a : Accepted) (q after : Incarnation) → IsNextAccepted q a → after ≡ and_accepted a q → with_accepted a q ≡ Ok after
unfolding with_accepted
accepted-put a q after next is =
    ap (λ (b : Bool). queue_or b (and_accepted a q)) (accepted-tested q a next) ∙ ap (λ (r : Incarnation). queue_or true r) (sym is)

pub accepted-refused : (a : Accepted) (q : Incarnation) → (IsNextAccepted q a → ⊥) → with_accepted a q ≡ Err BadNumber
unfolding with_accepted
accepted-refused a q never = ap (λ (b : Bool). queue_or b (and_accepted a q)) (is_false (is_next_accepted q a) (λ e. never (tested-accepted q a e)))

-- ---- names

living-tested : (count last : ℕ) (living : Option Incarnation) → IsQueueWithin count last living → is_living_within count last living ≡ true
living-tested count last None h = refl
living-tested count last (Some q) h = both (leb q.used count) (leb q.last last) (le-leb _ _ h.0) (le-leb _ _ h.1)

tested-living : (count last : ℕ) (living : Option Incarnation) → is_living_within count last living ≡ true → IsQueueWithin count last living
tested-living count last None e = tt
tested-living count last (Some q) e = let t = two_true (leb q.used count) (leb q.last last) e in (leb-true _ _ t.0, leb-true _ _ t.1)

pub name-tested : (kept : StoreKept) (n : NameRecord) → IsNextName kept n.name (record_of n) → is_next_name kept n ≡ true
unfolding is_next_name
name-tested kept n next =
    both (is_none (name_at kept.queues n.name)) (leb n.creations kept.count && is_living_within kept.count kept.last n.living) (ap is_none next.new)
    (both (leb n.creations kept.count) (is_living_within kept.count kept.last n.living) (le-leb _ _ next.within.creations) (living-tested kept.count kept.last n.living next.within.living))

pub tested-name : (kept : StoreKept) (n : NameRecord) → is_next_name kept n ≡ true → IsNextName kept n.name (record_of n)
unfolding is_next_name
tested-name kept n e =
    let a = two_true (is_none (name_at kept.queues n.name)) (leb n.creations kept.count && is_living_within kept.count kept.last n.living) e in
    let b = two_true (leb n.creations kept.count) (is_living_within kept.count kept.last n.living) a.1 in
    record { new = tested-none (name_at kept.queues n.name) a.0; within = record { creations = leb-true _ _ b.0; living = tested-living kept.count kept.last n.living b.1 } }

abbrev store_or : Bool → StoreKept → Result StoreKept WireFault
store_or is kept = cond is (Ok kept) (Err BadNumber)

-- what is kept of a name to whose queue nothing more comes
pub recorded : (n : NameRecord) (living : Option Incarnation) (one : QueueRecord) → one ≡ record { creations = n.creations; removed = n.removed; living = living } → living ≡ n.living → one ≡ record_of n
recorded n living one is same = subst (λ (l : Option Incarnation). one ≡ record { creations = n.creations; removed = n.removed; living = l }) same is

pub name-put : (kept after : StoreKept) (n : NameRecord) (one : QueueRecord) → one ≡ record_of n → IsNextName kept n.name one → after ≡ and_name n.name one kept → closed kept (Some n) ≡ Ok after
unfolding closed
name-put kept after n one same next is =
    let own : IsNextName kept n.name (record_of n) = subst (λ (r : QueueRecord). IsNextName kept n.name r) same next in
    ap (λ (b : Bool). store_or b (and_name n.name (record_of n) kept)) (name-tested kept n own)
    ∙ ap (λ (r : QueueRecord). store_or true (and_name n.name r kept)) (sym same)
    ∙ ap (λ (s : StoreKept). store_or true s) (sym is)

pub name-refused : (kept : StoreKept) (n : NameRecord) (one : QueueRecord) → one ≡ record_of n → (IsNextName kept n.name one → ⊥) → closed kept (Some n) ≡ Err BadNumber
unfolding closed
name-refused kept n one same never =
    ap (λ (b : Bool). store_or b (and_name n.name (record_of n) kept))
    (is_false (is_next_name kept n) (λ e. never (subst (λ (r : QueueRecord). IsNextName kept n.name r) (sym same) (tested-name kept n e))))

-- ---- clients

pub no-names : (queues : List (List ℕ × QueueRecord)) → length queues ≤ 0 → is_empty queues ≡ true
no-names [] none = refl
no-names (q ∷ qs) none = absurd (omega (arith, none))

pub some-names : (queues : List (List ℕ × QueueRecord)) → 0 < length queues → is_empty queues ≡ false
some-names [] some = absurd (omega (arith, some))
some-names (q ∷ qs) some = refl

pub client-put : (client number : ℕ) (reply : Reply) (kept after : StoreKept) → client_at kept.clients client ≡ None → after ≡ and_client client (record { number = number; reply = reply }) kept
    → with_reply client number reply kept ≡ Ok after
unfolding with_reply
client-put client number reply kept after new is =
    ap (λ (b : Bool). store_or b (and_client client (record { number = number; reply = reply }) kept)) (ap is_none new) ∙ ap (λ (s : StoreKept). store_or true s) (sym is)

pub client-refused : (client number : ℕ) (reply : Reply) (kept : StoreKept) → (client_at kept.clients client ≡ None → ⊥) → with_reply client number reply kept ≡ Err BadNumber
unfolding with_reply
client-refused client number reply kept never =
    ap (λ (b : Bool). store_or b (and_client client (record { number = number; reply = reply }) kept))
    (is_false (is_none (client_at kept.clients client)) (λ e. never (tested-none (client_at kept.clients client) e)))

put-is : (b : Bool) (made after : StoreKept) → store_or b made ≡ Ok after → made ≡ after
put-is true made after e = ok_is made after e
put-is false made after e = absurd cc

-- the bodies so far are those of the clients so far
pub client-bodies : (client number : ℕ) (reply : Reply) (kept after : StoreKept) (known more : List (List ℕ)) → known ≡ bodies_of kept.clients → more ≡ and_reply known reply → with_reply client number reply kept ≡ Ok after → more ≡ bodies_of after.clients
unfolding with_reply
client-bodies client number reply kept after known more so_far and e =
    let one : ClientRecord = record { number = number; reply = reply } in
    and ∙ ap (λ (ks : List (List ℕ)). and_reply ks reply) so_far ∙ sym (bodies-more kept.clients (client, one))
    ∙ ap (λ (s : StoreKept). bodies_of s.clients) (put-is (is_none (client_at kept.clients client)) (and_client client one kept) after e)

-- what comes of a client before all names
pub client-early : (client number : ℕ) (one : ReplyRecord) (kept : StoreKept) → length kept.queues ≤ 0 → with_client client number one kept ≡ (reply_resolved (bodies_of kept.clients) one >>= λ reply. with_reply client number reply kept)
unfolding with_client
client-early client number one kept none =
    ap (λ (b : Bool). cond b (reply_resolved (bodies_of kept.clients) one >>= λ reply. with_reply client number reply kept) (Err BadTag)) (no-names kept.queues none)

pub client-late : (client number : ℕ) (one : ReplyRecord) (kept : StoreKept) → 0 < length kept.queues → with_client client number one kept ≡ Err BadTag
unfolding with_client
client-late client number one kept some =
    ap (λ (b : Bool). cond b (reply_resolved (bodies_of kept.clients) one >>= λ reply. with_reply client number reply kept) (Err BadTag)) (some-names kept.queues some)
