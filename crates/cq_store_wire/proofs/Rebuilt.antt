-- The parts of a store, put one after another, make the store.
use Rattle.std.proofs.Common.{◌≡◌, ℕ, ◌+◌, ◌<◌, ◌≤◌, Bool, true, false, cond, eqb, List, [], ◌∷◌, ◌++◌, length, Option, None, Some, Result, Ok, refl, sym, ap, ◌∙◌, append_assoc, arith}
use Rattle.std.specs.Prelude.{nat_eq}
use Rattle.std.specs.List.{All, AllByRecursion, IsDistinct, find, flat_map}
use Rattle.std.specs.Map.{keys_of, lookup, values_of}
use Rattle.std.specs.Str.{bytes_eq}
use Rattle.std.proofs.lemmas.Bool.{eqb-true}
use Rattle.std.proofs.lemmas.List.{append-nil, length-append}
use Rattle.std.proofs.lemmas.List.Elements.{All-head, All-nil, All-push, All-tail, All-weaker}
use Rattle.std.proofs.lemmas.Slice.Eq.{bytes_eq-Decides}
use Rattle.cq_base.specs.declared.reply.Reply.{Reply}
use Rattle.cq_base.specs.queue.Incarnations.{Accepted, Incarnation}
use Rattle.cq_base.specs.queue.Messages.{Message}
use Rattle.cq_messages.specs.Ordered.{IsRising}
use Rattle.cq_queue.specs.Parts.{AreInOrder, IsNextAccepted, IsNextMessage}
use Rattle.cq_store.specs.Parts.{IsWithin}
use Rattle.cq_store.specs.Stands.{ClientRecord, QueueRecord, StoreKept, name_at}
use Rattle.cq_wire.specs.declared.fault.WireFault.{WireFault}
use Rattle.cq_wire.specs.Reading.{◌>>=◌}
use Rattle.cq_wire.specs.Limits.{IfThere}
use Rattle.cq_store_wire.specs.declared.part.NameRecord.{NameRecord}
use Rattle.cq_store_wire.specs.declared.part.Part.{Part}
use Rattle.cq_store_wire.specs.declared.part.Part.TheVariants as parts
use Rattle.cq_store_wire.specs.declared.build.State.{State}
use Rattle.cq_store_wire.specs.declared.build.State.TheVariants as states
use Rattle.cq_store_wire.specs.Building.{built, client_into, closed, in_name, put, put_client, put_end, put_name, put_start, put_step, step_into, with_client, with_living, with_reply}
use Rattle.cq_store_wire.specs.Bodies.{and_reply, bodies_of, reply_recorded}
use Rattle.cq_store_wire.specs.Laws.{IsName, IsQueue, IsStore}
use Rattle.cq_store_wire.specs.Order.{accepted_of, all_accepted, all_clients, all_messages, all_names, messages_of, name_parts, name_record, parts_of}
use Rattle.cq_store_wire.proofs.Mentions.{bodies-more, reply-means}
use Rattle.cq_store_wire.proofs.Building.{accepted-put, client-early, client-put, message-put, name-put}

abbrev ready : State → Result State WireFault
ready s = Ok s

-- ---- keys of which none is there twice

-- the key of each is none of those before it
abbrev Apart : {K X : Type 0} → (K → K → Bool) → List (K × X) → List (K × X) → Type 0
Apart test done [] = Unit {0}
Apart test done (e ∷ es) = (lookup (test e.0) done ≡ None) × Apart test (done ++ e ∷ []) es

lookup-more : {K X : Type 0} (test : K → Bool) (es : List (K × X)) (e : K × X) → lookup test es ≡ None → test e.0 ≡ false → lookup test (es ++ e ∷ []) ≡ None
lookup-more test [] e none other = ap (λ (b : Bool). cond b (Some e.1) None) other
lookup-more {K} {X} test (d ∷ ds) e none other = by (test d.0) refl (λ rest. lookup-more test ds e rest other)
  where
    by : (b : Bool) → test d.0 ≡ b → (lookup test ds ≡ None → lookup test (ds ++ e ∷ []) ≡ None) → cond (test d.0) (Some d.1) (lookup test (ds ++ e ∷ [])) ≡ None
    by true h more = let wrong : Some d.1 ≡ None = sym (ap (λ (c : Bool). cond c (Some d.1) (lookup test ds)) h) ∙ none in absurd cc
    by false h more =
        let rest : lookup test ds ≡ None = sym (ap (λ (c : Bool). cond c (Some d.1) (lookup test ds)) h) ∙ none in
        ap (λ (c : Bool). cond c (Some d.1) (lookup test (ds ++ e ∷ []))) h ∙ more rest

-- an equality of keys: what differs one way round differs the other
abbrev Turns : {K : Type 0} → (K → K → Bool) → (K → K → Bool) → Type 0
Turns {K} eq test = (x y : K) → eq x y ≡ false → test y x ≡ false

keys-more : {K X : Type 0} (eq test : K → K → Bool) → Turns eq test → (done : List (K × X)) (e : K × X) (ks : List K) → AllByRecursion (λ k. lookup (test k) done ≡ None) ks
    → AllByRecursion (λ y. eq e.0 y ≡ false) ks → AllByRecursion (λ k. lookup (test k) (done ++ e ∷ []) ≡ None) ks
keys-more eq test turns done e [] new others = tt
keys-more eq test turns done e (k ∷ ks) new others = (lookup-more (test k) done e new.0 (turns e.0 k others.0), keys-more eq test turns done e ks new.1 others.1)

apart : {K X : Type 0} (eq test : K → K → Bool) → Turns eq test → (done more : List (K × X)) → AllByRecursion (λ k. lookup (test k) done ≡ None) (keys_of more) → IsDistinct eq (keys_of more) → Apart test done more
unfolding IsDistinct
apart eq test turns done [] new distinct = tt
apart eq test turns done (e ∷ es) new distinct = (new.0, apart eq test turns (done ++ e ∷ []) es (keys-more eq test turns done e (keys_of es) new.1 distinct.0) distinct.1)

none-yet : {K : Type 0} (X : Type 0) (test : K → K → Bool) (ks : List K) → AllByRecursion (λ k. lookup {X = X} (test k) [] ≡ None) ks
none-yet X test [] = tt
none-yet X test (k ∷ ks) = (refl, none-yet X test ks)

numbers-turn : Turns nat_eq eqb
numbers-turn x y e = other (eqb y x) refl
  where
    other : (c : Bool) → eqb y x ≡ c → c ≡ false
    other false h = refl
    other true h = let same = eqb-true y x h in let wrong : eqb y x ≡ false = ap (λ (n : ℕ). eqb n x) same ∙ ap (λ (n : ℕ). eqb x n) (sym same) ∙ e in absurd (let w : true ≡ false = sym h ∙ wrong in cc)

texts-turn : Turns bytes_eq bytes_eq
texts-turn x y e = other (bytes_eq y x) refl
  where
    other : (c : Bool) → bytes_eq y x ≡ c → c ≡ false
    other false h = refl
    other true h = let same = (bytes_eq-Decides y x).0 h in let wrong : bytes_eq y x ≡ false = ap (λ (t : List ℕ). bytes_eq t x) same ∙ ap (λ (t : List ℕ). bytes_eq x t) (sym same) ∙ e in absurd (let w : true ≡ false = sym h ∙ wrong in cc)

-- ---- clients

abbrev store_of : ℕ → ℕ → List (ℕ × ClientRecord) → List (List ℕ × QueueRecord) → StoreKept
store_of count last clients queues = record { count = count; last = last; clients = clients; queues = queues }

one-client : (c : ℕ × ClientRecord) (count last : ℕ) (done : List (ℕ × ClientRecord)) → lookup (eqb c.0) done ≡ None
    → with_client c.0 c.1.number (reply_recorded (bodies_of done) c.1.reply) (store_of count last done []) ≡ Ok (store_of count last (done ++ c ∷ []) [])
one-client c count last done new =
    client-early c.0 c.1.number (reply_recorded (bodies_of done) c.1.reply) (store_of count last done []) (omega arith)
    ∙ ap (λ (r : Result Reply WireFault). r >>= λ reply. with_reply c.0 c.1.number reply (store_of count last done [])) (reply-means (bodies_of done) c.1.reply)
    ∙ client-put c.0 c.1.number c.1.reply (store_of count last done []) (store_of count last (done ++ c ∷ []) []) new refl

clients-built : (count last : ℕ) (done more : List (ℕ × ClientRecord)) (rest : List Part) → Apart eqb done more
    → built (all_clients (bodies_of done) more ++ rest) (states.Begun (store_of count last done []) None) ≡ built rest (states.Begun (store_of count last (done ++ more) []) None)
unfolding all_clients built put put_client client_into
clients-built count last done [] rest new = ap (λ (cs : List (ℕ × ClientRecord)). built rest (states.Begun (store_of count last cs []) None)) (sym (append-nil done))
clients-built count last done (c ∷ cs) rest new =
    ap (λ (r : Result StoreKept WireFault). (r >>= λ more. ready (states.Begun more None)) >>= λ next. built (all_clients (and_reply (bodies_of done) c.1.reply) cs ++ rest) next) (one-client c count last done new.0)
    ∙ ap (λ (known : List (List ℕ)). built (all_clients known cs ++ rest) (states.Begun (store_of count last (done ++ c ∷ []) []) None)) (sym (bodies-more done c))
    ∙ clients-built count last (done ++ c ∷ []) cs rest new.1
    ∙ ap (λ (all : List (ℕ × ClientRecord)). built rest (states.Begun (store_of count last all []) None)) (append_assoc done (c ∷ []) cs)

-- ---- queues

abbrev filled : Incarnation → List Message → List Accepted → Incarnation
filled q ms xs = record q { messages = ms; accepted = xs }

abbrev Follow : Incarnation → List Message → List Message → Type 0
Follow q done [] = Unit {0}
Follow q done (m ∷ ms) = IsNextMessage (filled q done []) m × Follow q (done ++ m ∷ []) ms

follow : (q : Incarnation) (b : ℕ) (done more : List Message) → All (λ x. x.sequence ≤ b) done → IsRising b more → All (λ m. m.sequence ≤ q.sent) more → All (λ m. m.handings ≤ q.used) more → Follow q done more
follow q b done [] before rising sent handed = tt
follow q b done (m ∷ ms) before rising sent handed =
    let above : b < m.sequence = rising.0 in (
      record {
        later = All-weaker (λ x. x.sequence ≤ b) (λ x. x.sequence < m.sequence) (λ x h. omega (arith, h, above)) done before;
        sent = All-head (λ x. x.sequence ≤ q.sent) m ms sent;
        handed = All-head (λ x. x.handings ≤ q.used) m ms handed;
      },
      follow q m.sequence (done ++ m ∷ []) ms
          (All-push (λ x. x.sequence ≤ m.sequence) done m (All-weaker (λ x. x.sequence ≤ b) (λ x. x.sequence ≤ m.sequence) (λ x h. omega (arith, h, above)) done before) (omega arith))
          rising.1 (All-tail (λ x. x.sequence ≤ q.sent) m ms sent) (All-tail (λ x. x.handings ≤ q.used) m ms handed),
    )

abbrev within_name : StoreKept → NameRecord → Incarnation → State
within_name kept n q = states.Begun kept (Some (with_living n q))

messages-built : (kept : StoreKept) (n : NameRecord) (q : Incarnation) (done more : List Message) (rest : List Part) → Follow q done more
    → built (all_messages more ++ rest) (within_name kept n (filled q done [])) ≡ built rest (within_name kept n (filled q (done ++ more) []))
unfolding built put put_step step_into in_name
messages-built kept n q done [] rest follows = ap (λ (ms : List Message). built rest (within_name kept n (filled q ms []))) (sym (append-nil done))
messages-built kept n q done (m ∷ ms) rest follows =
    ap (λ (r : Result Incarnation WireFault). ((r >>= λ after. Ok (with_living n after)) >>= λ more. ready (states.Begun kept (Some more))) >>= λ next. built (all_messages ms ++ rest) next)
    (message-put m (filled q done []) (filled q (done ++ m ∷ []) []) refl follows.0 refl)
    ∙ messages-built kept n q (done ++ m ∷ []) ms rest follows.1
    ∙ ap (λ (all : List Message). built rest (within_name kept n (filled q all []))) (append_assoc done (m ∷ []) ms)

-- ---- and their accepted sends

abbrev FollowSends : Incarnation → List Message → List Accepted → List Accepted → Type 0
FollowSends q ms done [] = Unit {0}
FollowSends q ms done (a ∷ xs) = IsNextAccepted (filled q ms done) a × FollowSends q ms (done ++ a ∷ []) xs

-- what holds of those to come, by those before them
record IsAhead (done : List Accepted) (a : Accepted) : Type 0 where
  late : All (λ x. x.moment ≤ a.moment) done
  own : find (λ x. bytes_eq x.dedup a.dedup) done ≡ None

find-more : (a b : Accepted) (done : List Accepted) → find (λ x. bytes_eq x.dedup b.dedup) done ≡ None → bytes_eq a.dedup b.dedup ≡ false → find (λ x. bytes_eq x.dedup b.dedup) (done ++ a ∷ []) ≡ None
find-more a b [] none other = ap (λ (c : Bool). cond c (Some a) None) other
find-more a b (d ∷ ds) none other = by (bytes_eq d.dedup b.dedup) refl (λ rest. find-more a b ds rest other)
  where
    by : (c : Bool) → bytes_eq d.dedup b.dedup ≡ c → (find (λ x. bytes_eq x.dedup b.dedup) ds ≡ None → find (λ x. bytes_eq x.dedup b.dedup) (ds ++ a ∷ []) ≡ None) → cond (bytes_eq d.dedup b.dedup) (Some d) (find (λ x. bytes_eq x.dedup b.dedup) (ds ++ a ∷ [])) ≡ None
    by true h more = let wrong : Some d ≡ None = sym (ap (λ (c : Bool). cond c (Some d) (find (λ x. bytes_eq x.dedup b.dedup) ds)) h) ∙ none in absurd cc
    by false h more =
        let rest : find (λ x. bytes_eq x.dedup b.dedup) ds ≡ None = sym (ap (λ (c : Bool). cond c (Some d) (find (λ x. bytes_eq x.dedup b.dedup) ds)) h) ∙ none in
        ap (λ (c : Bool). cond c (Some d) (find (λ x. bytes_eq x.dedup b.dedup) (ds ++ a ∷ []))) h ∙ more rest

not-found : (a : Accepted) (x : Accepted) (xs : List Accepted) → find (λ y. bytes_eq y.dedup a.dedup) (x ∷ xs) ≡ None → (bytes_eq x.dedup a.dedup ≡ false) × (find (λ y. bytes_eq y.dedup a.dedup) xs ≡ None)
not-found a x xs none = by (bytes_eq x.dedup a.dedup) refl
  where
    by : (c : Bool) → bytes_eq x.dedup a.dedup ≡ c → (bytes_eq x.dedup a.dedup ≡ false) × (find (λ y. bytes_eq y.dedup a.dedup) xs ≡ None)
    by true h = let wrong : Some x ≡ None = sym (ap (λ (c : Bool). cond c (Some x) (find (λ y. bytes_eq y.dedup a.dedup) xs)) h) ∙ none in absurd cc
    by false h = (h, sym (ap (λ (c : Bool). cond c (Some x) (find (λ y. bytes_eq y.dedup a.dedup) xs)) h) ∙ none)

ahead-more : (a : Accepted) (done more : List Accepted) → AllByRecursion (IsAhead done) more → All (λ x. a.moment ≤ x.moment) more → find (λ y. bytes_eq y.dedup a.dedup) more ≡ None
    → AllByRecursion (IsAhead (done ++ a ∷ [])) more
ahead-more a done [] ahead late own = tt
ahead-more a done (b ∷ bs) ahead late own =
    let f = not-found a b bs own in (
      record {
        late = All-push (λ x. x.moment ≤ b.moment) done a ahead.0.late (All-head (λ x. a.moment ≤ x.moment) b bs late);
        own = find-more a b done ahead.0.own (texts-turn b.dedup a.dedup f.0);
      },
      ahead-more a done bs ahead.1 (All-tail (λ x. a.moment ≤ x.moment) b bs late) f.1,
    )

follow-sends : (q : Incarnation) (ms : List Message) (done more : List Accepted) → AllByRecursion (IsAhead done) more → AreInOrder more → All (λ a. a.moment ≤ q.last) more → length done + length more ≤ q.sent
    → FollowSends q ms done more
follow-sends q ms done [] ahead order past fewer = tt
follow-sends q ms done (a ∷ xs) ahead order past fewer =
    let sum : length (done ++ a ∷ []) ≡ length done + length (a ∷ []) = length-append done (a ∷ []) in (
      record { later = ahead.0.late; own = ahead.0.own; past = All-head (λ x. x.moment ≤ q.last) a xs past; fewer = omega (arith, fewer) },
      follow-sends q ms (done ++ a ∷ []) xs (ahead-more a done xs ahead.1 order.0 order.1) order.2 (All-tail (λ x. x.moment ≤ q.last) a xs past) (omega (arith, fewer, sum)),
    )

none-ahead : (xs : List Accepted) → AllByRecursion (IsAhead []) xs
none-ahead [] = tt
none-ahead (a ∷ xs) = (record { late = All-nil (λ x. x.moment ≤ a.moment); own = refl }, none-ahead xs)

sends-built : (kept : StoreKept) (n : NameRecord) (q : Incarnation) (ms : List Message) (done more : List Accepted) (rest : List Part) → FollowSends q ms done more
    → built (all_accepted more ++ rest) (within_name kept n (filled q ms done)) ≡ built rest (within_name kept n (filled q ms (done ++ more)))
unfolding built put put_step step_into in_name
sends-built kept n q ms done [] rest follows = ap (λ (xs : List Accepted). built rest (within_name kept n (filled q ms xs))) (sym (append-nil done))
sends-built kept n q ms done (a ∷ xs) rest follows =
    ap (λ (r : Result Incarnation WireFault). ((r >>= λ after. Ok (with_living n after)) >>= λ more. ready (states.Begun kept (Some more))) >>= λ next. built (all_accepted xs ++ rest) next)
    (accepted-put a (filled q ms done) (filled q ms (done ++ a ∷ [])) follows.0 refl)
    ∙ sends-built kept n q ms (done ++ a ∷ []) xs rest follows.1
    ∙ ap (λ (all : List Accepted). built rest (within_name kept n (filled q ms all))) (append_assoc done (a ∷ []) xs)

-- ---- names

abbrev named : List ℕ × QueueRecord → NameRecord
named n = record { name = n.0; creations = n.1.creations; removed = n.1.removed; living = n.1.living }

living-built : (kept : StoreKept) (name : List ℕ) (creations : ℕ) (removed : Option ℕ) (living : Option Incarnation) (rest : List Part) → IfThere IsQueue living
    → built ((all_messages (messages_of living) ++ all_accepted (accepted_of living)) ++ rest) (states.Begun kept (Some (name_record name (record { creations = creations; removed = removed; living = living }))))
    ≡ built rest (states.Begun kept (Some (named (name, record { creations = creations; removed = removed; living = living }))))
living-built kept name creations removed None rest sound = refl
living-built kept name creations removed (Some q) rest sound =
    let n : NameRecord = record { name = name; creations = creations; removed = removed; living = Some q } in
    let above : All (λ (x : Message). x.sequence ≤ 0) [] = All-nil (λ x. x.sequence ≤ 0) in
    ap (λ (ps : List Part). built ps (within_name kept n (filled q [] []))) (append_assoc (all_messages q.messages) (all_accepted q.accepted) rest)
    ∙ messages-built kept n q [] q.messages (all_accepted q.accepted ++ rest) (follow q 0 [] q.messages above sound.rising sound.known.numbers sound.known.handings)
    ∙ sends-built kept n q q.messages [] q.accepted rest (follow-sends q q.messages [] q.accepted (none-ahead q.accepted) sound.order sound.known.past (omega (arith, sound.known.fewer)))

-- the names that are there are apart, and within what the store has done
record AreNames (count last : ℕ) (done more : List (List ℕ × QueueRecord)) : Type 0 where
  new : Apart bytes_eq done more
  within : All (IsWithin count last) (values_of more)
  sound : AllByRecursion IsName more

closing : (count last : ℕ) (clients : List (ℕ × ClientRecord)) (done : List (List ℕ × QueueRecord)) (n : List ℕ × QueueRecord) → name_at done n.0 ≡ None → IsWithin count last n.1
    → closed (store_of count last clients done) (Some (named n)) ≡ Ok (store_of count last clients (done ++ n ∷ []))
closing count last clients done n new within =
    name-put (store_of count last clients done) (store_of count last clients (done ++ n ∷ [])) (named n) n.1 refl (record { new = new; within = within }) refl

names-built : (count last : ℕ) (clients : List (ℕ × ClientRecord)) (done more : List (List ℕ × QueueRecord)) (n : List ℕ × QueueRecord) → name_at done n.0 ≡ None → IsWithin count last n.1 → AreNames count last (done ++ n ∷ []) more
    → built (flat_map name_parts more ++ parts.End ∷ []) (states.Begun (store_of count last clients done) (Some (named n))) ≡ Ok (states.Whole (store_of count last clients ((done ++ n ∷ []) ++ more)))
unfolding built put put_name put_end name_parts
names-built count last clients done [] n new within others =
    ap (λ (r : Result StoreKept WireFault). (r >>= λ whole. Ok (states.Whole whole)) >>= λ next. ready next) (closing count last clients done n new within)
    ∙ ap (λ (all : List (List ℕ × QueueRecord)). ready (states.Whole (store_of count last clients all))) (sym (append-nil (done ++ n ∷ [])))
names-built count last clients done (m ∷ ms) n new within others =
    let all : List (List ℕ × QueueRecord) = done ++ n ∷ [] in
    let own : List Part = all_messages (messages_of m.1.living) ++ all_accepted (accepted_of m.1.living) in
    let behind : List Part = flat_map name_parts ms ++ parts.End ∷ [] in
    ap (λ (r : Result StoreKept WireFault). (r >>= λ more. Ok (states.Begun more (Some (name_record m.0 m.1)))) >>= λ next. built ((own ++ flat_map name_parts ms) ++ parts.End ∷ []) next) (closing count last clients done n new within)
    ∙ ap (λ (ps : List Part). built ps (states.Begun (store_of count last clients all) (Some (name_record m.0 m.1)))) (append_assoc own (flat_map name_parts ms) (parts.End ∷ []))
    ∙ living-built (store_of count last clients all) m.0 m.1.creations m.1.removed m.1.living behind others.sound.0
    ∙ names-built count last clients all ms m others.new.0 (All-head (IsWithin count last) m.1 (values_of ms) others.within)
    (record { new = others.new.1; within = All-tail (IsWithin count last) m.1 (values_of ms) others.within; sound = others.sound.1 })
    ∙ ap (λ (every : List (List ℕ × QueueRecord)). ready (states.Whole (store_of count last clients every))) (append_assoc all (m ∷ []) ms)

all-names-built : (count last : ℕ) (clients : List (ℕ × ClientRecord)) (queues : List (List ℕ × QueueRecord)) → AreNames count last [] queues
    → built (all_names queues) (states.Begun (store_of count last clients []) None) ≡ Ok (states.Whole (store_of count last clients queues))
unfolding built put put_name put_end closed all_names name_parts
all-names-built count last clients [] names = refl
all-names-built count last clients (n ∷ ns) names =
    let own : List Part = all_messages (messages_of n.1.living) ++ all_accepted (accepted_of n.1.living) in
    let behind : List Part = flat_map name_parts ns ++ parts.End ∷ [] in
    ap (λ (ps : List Part). built ps (states.Begun (store_of count last clients []) (Some (name_record n.0 n.1)))) (append_assoc own (flat_map name_parts ns) (parts.End ∷ []))
    ∙ living-built (store_of count last clients []) n.0 n.1.creations n.1.removed n.1.living behind names.sound.0
    ∙ names-built count last clients [] ns n names.new.0 (All-head (IsWithin count last) n.1 (values_of ns) names.within)
    (record { new = names.new.1; within = All-tail (IsWithin count last) n.1 (values_of ns) names.within; sound = names.sound.1 })

-- ---- the store

pub store-built : (kept : StoreKept) → IsStore kept → built (parts_of kept) states.Empty ≡ Ok (states.Whole kept)
unfolding built put put_start parts_of
store-built kept sound =
    clients-built kept.count kept.last [] kept.clients (all_names kept.queues) (apart nat_eq eqb numbers-turn [] kept.clients (none-yet ClientRecord eqb (keys_of kept.clients)) sound.clients)
    ∙ all-names-built kept.count kept.last kept.clients kept.queues
    (record { new = apart bytes_eq bytes_eq texts-turn [] kept.queues (none-yet QueueRecord bytes_eq (keys_of kept.queues)) sound.names; within = sound.within; sound = sound.queues })
