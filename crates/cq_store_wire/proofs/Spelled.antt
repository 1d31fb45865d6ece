-- What was put so far can be told from what was made of it: so a store is made of its own parts alone.
use Rattle.std.proofs.Common.{◌≡◌, ℕ, Bool, true, false, cond, List, [], ◌∷◌, ◌++◌, map, Option, None, Some, Result, Ok, Err, refl, sym, subst, ap, ◌∙◌, append_assoc}
use Rattle.std.specs.Prelude.{is_none}
use Rattle.std.specs.List.{AllByRecursion, flat_map}
use Rattle.std.proofs.lemmas.List.{append-nil}
use Rattle.cq_base.specs.declared.reply.Reply.{Reply}
use Rattle.cq_base.specs.queue.Incarnations.{Accepted, Incarnation}
use Rattle.cq_base.specs.queue.Messages.{Message}
use Rattle.cq_queue.specs.Parts.{and_accepted, and_message}
use Rattle.cq_store.specs.Parts.{and_client, and_name}
use Rattle.cq_store.specs.Stands.{ClientRecord, QueueRecord, StoreKept, client_at}
use Rattle.cq_wire.specs.declared.fault.WireFault.{WireFault}
use Rattle.cq_wire.specs.declared.fault.WireFault.TheVariants.{BadTag, BadNumber}
use Rattle.cq_wire.specs.Limits.{IfThere}
use Rattle.cq_wire.specs.Reading.{◌>>=◌}
use Rattle.cq_wire.proofs.Fronts.{bind_ok, ok_is}
use Rattle.cq_store_wire.specs.declared.part.NameRecord.{NameRecord}
use Rattle.cq_store_wire.specs.declared.part.Part.{Part}
use Rattle.cq_store_wire.specs.declared.part.Part.TheVariants as parts
use Rattle.cq_store_wire.specs.declared.build.State.{State}
use Rattle.cq_store_wire.specs.declared.build.State.TheVariants as states
use Rattle.cq_store_wire.specs.declared.reply.ReplyRecord.{ReplyRecord}
use Rattle.cq_store_wire.specs.Bodies.{and_reply, bodies_of, reply_resolved}
use Rattle.cq_store_wire.specs.Building.{built, client_into, closed, in_name, is_empty, is_next_accepted, is_next_message, is_next_name, put, put_client, put_end, put_name, put_start, put_step, record_of, step_into, with_accepted, with_client, with_living, with_message, with_reply}
use Rattle.cq_store_wire.specs.Limits.{IsBare, IsNameRecord, IsPart, IsReplyRecord}
use Rattle.cq_store_wire.specs.Order.{all_accepted, all_clients, all_messages, all_names, client_part, emptied, name_parts, name_record, parts_of}
use Rattle.cq_store_wire.proofs.Mentions.{distinct-bodies, means-reply, with_clients}

abbrev front : StoreKept → List Part → List Part
front kept rest = parts.Start kept.count kept.last ∷ (all_clients [] kept.clients ++ rest)

abbrev newest_parts : Option NameRecord → List Part
newest_parts None = []
newest_parts (Some n) = name_parts (n.name, record_of n)

-- the parts of which it was made
spelled : State → List Part
spelled states.Empty = []
spelled (states.Begun kept newest) = front kept (flat_map name_parts kept.queues ++ newest_parts newest)
spelled (states.Whole kept) = front kept (flat_map name_parts kept.queues ++ parts.End ∷ [])

-- a test that was passed
passed : {A : Type 0} (b : Bool) (r : Result A WireFault) (f : WireFault) (y : A) → cond b r (Err f) ≡ Ok y → (b ≡ true) × (r ≡ Ok y)
passed true r f y e = (refl, e)
passed false r f y e = absurd cc

front-more : (kept : StoreKept) (rest : List Part) (p : Part) → front kept (rest ++ p ∷ []) ≡ front kept rest ++ p ∷ []
front-more kept rest p = ap (λ (ps : List Part). parts.Start kept.count kept.last ∷ ps) (sym (append_assoc (all_clients [] kept.clients) rest (p ∷ [])))

-- ---- lists with one more

map-more : {A B : Type 0} (f : A → B) (xs : List A) (x : A) → map f (xs ++ x ∷ []) ≡ map f xs ++ f x ∷ []
map-more f [] x = refl
map-more f (y ∷ ys) x = ap (λ (zs : List _). f y ∷ zs) (map-more f ys x)

names-more : (queues : List (List ℕ × QueueRecord)) (n : List ℕ × QueueRecord) → flat_map name_parts (queues ++ n ∷ []) ≡ flat_map name_parts queues ++ name_parts n
names-more [] n = append-nil (name_parts n)
names-more (q ∷ qs) n = ap (λ (ps : List Part). name_parts q ++ ps) (names-more qs n) ∙ sym (append_assoc (name_parts q) (flat_map name_parts qs) (name_parts n))

-- ---- names that are closed

closed-spelled : (kept more : StoreKept) (newest : Option NameRecord) → closed kept newest ≡ Ok more → front more (flat_map name_parts more.queues) ≡ spelled (states.Begun kept newest)
unfolding closed spelled
closed-spelled kept more None e =
    subst (λ (s : StoreKept). front s (flat_map name_parts s.queues) ≡ front kept (flat_map name_parts kept.queues ++ [])) (ok_is kept more e)
    (ap (λ (ps : List Part). front kept ps) (sym (append-nil (flat_map name_parts kept.queues))))
closed-spelled kept more (Some n) e =
    let t = passed (is_next_name kept n) (Ok (and_name n.name (record_of n) kept)) BadNumber more e in
    subst (λ (s : StoreKept). front s (flat_map name_parts s.queues) ≡ front kept (flat_map name_parts kept.queues ++ name_parts (n.name, record_of n))) (ok_is (and_name n.name (record_of n) kept) more t.1)
    (ap (λ (ps : List Part). front kept ps) (names-more kept.queues (n.name, record_of n)))

-- ---- a name whose queue has nothing yet

bare-is : (q : Incarnation) → IsBare q → emptied q ≡ q
bare-is q bare =
    let made : List Message → List Accepted → Incarnation = λ ms xs. record { number = q.number; attributes = q.attributes; sent = q.sent; messages = ms; accepted = xs; last = q.last; used = q.used } in
    ap (λ (ms : List Message). made ms []) (sym bare.messages) ∙ ap (λ (xs : List Accepted). made q.messages xs) (sym bare.accepted)

bare-parts : (name : List ℕ) (creations : ℕ) (removed : Option ℕ) (living : Option Incarnation) → IfThere IsBare living
    → name_parts (name, record { creations = creations; removed = removed; living = living }) ≡ parts.Name (record { name = name; creations = creations; removed = removed; living = living }) ∷ []
unfolding name_parts
bare-parts name creations removed None bare = refl
bare-parts name creations removed (Some q) bare =
    ap (λ (r : Incarnation). parts.Name (record { name = name; creations = creations; removed = removed; living = Some r }) ∷ (all_messages q.messages ++ all_accepted q.accepted)) (bare-is q bare)
    ∙ ap (λ (ms : List Message). parts.Name (record { name = name; creations = creations; removed = removed; living = Some q }) ∷ (all_messages ms ++ all_accepted q.accepted)) bare.messages
    ∙ ap (λ (xs : List Accepted). parts.Name (record { name = name; creations = creations; removed = removed; living = Some q }) ∷ all_accepted xs) bare.accepted

-- ---- each part

start-spelled : (count last : ℕ) (state after : State) → put_start count last state ≡ Ok after → spelled after ≡ spelled state ++ parts.Start count last ∷ []
unfolding put_start spelled all_clients
start-spelled count last states.Empty after e =
    subst (λ (s : State). spelled s ≡ parts.Start count last ∷ []) (ok_is (states.Begun (record { count = count; last = last; clients = []; queues = [] }) None) after e) refl
start-spelled count last (states.Begun kept newest) after e = absurd cc
start-spelled count last (states.Whole kept) after e = absurd cc

no-queues : (queues : List (List ℕ × QueueRecord)) → is_empty queues ≡ true → queues ≡ []
no-queues [] e = refl
no-queues (q ∷ qs) e = absurd cc

clients-more : (known : List (List ℕ)) (clients : List (ℕ × ClientRecord)) (c : ℕ × ClientRecord) → all_clients known (clients ++ c ∷ []) ≡ all_clients known clients ++ client_part (with_clients known clients) c ∷ []
unfolding all_clients
clients-more known [] c = refl
clients-more known (d ∷ ds) c = ap (λ (ps : List Part). client_part known d ∷ ps) (clients-more (and_reply known d.1.reply) ds c)

-- a client that was put is spelled as it was
client-as : (client number : ℕ) (one : ReplyRecord) (reply : Reply) (kept : StoreKept) → IsReplyRecord one → reply_resolved (bodies_of kept.clients) one ≡ Ok reply
    → client_part (bodies_of kept.clients) (client, record { number = number; reply = reply }) ≡ parts.Client client number one
client-as client number one reply kept fits e = ap (λ (r : ReplyRecord). parts.Client client number r) (means-reply (bodies_of kept.clients) one reply (distinct-bodies kept.clients) fits e)

client-spelled : (client number : ℕ) (one : ReplyRecord) (state after : State) → IsReplyRecord one → put_client client number one state ≡ Ok after → spelled after ≡ spelled state ++ parts.Client client number one ∷ []
unfolding put_client client_into with_client with_reply spelled
client-spelled client number one states.Empty after fits e = absurd cc
client-spelled client number one (states.Whole kept) after fits e = absurd cc
client-spelled client number one (states.Begun kept (Some n)) after fits e = absurd cc
client-spelled client number one (states.Begun kept None) after fits e =
    let x = bind_ok (with_client client number one kept) (λ more. Ok (states.Begun more None)) after e in
    let late = passed (is_empty kept.queues) (reply_resolved (bodies_of kept.clients) one >>= λ reply. with_reply client number reply kept) BadTag x.0 x.1 in
    let r = bind_ok (reply_resolved (bodies_of kept.clients) one) (λ reply. with_reply client number reply kept) x.0 late.1 in
    let c : ℕ × ClientRecord = (client, record { number = number; reply = r.0 }) in
    let made : StoreKept = and_client client c.1 kept in
    let new = passed (is_none (client_at kept.clients client)) (Ok made) BadNumber x.0 r.2 in
    let none : flat_map name_parts kept.queues ++ [] ≡ [] = ap (λ (qs : List (List ℕ × QueueRecord)). flat_map name_parts qs ++ []) (no-queues kept.queues late.0) in
    let p : Part = parts.Client client number one in
    let cs : List Part = all_clients [] kept.clients in
    let begin : List Part → List Part = λ ps. parts.Start kept.count kept.last ∷ ps in
    let more : all_clients [] (kept.clients ++ c ∷ []) ≡ cs ++ p ∷ [] = clients-more [] kept.clients c ∙ ap (λ (q : Part). cs ++ q ∷ []) (client-as client number one r.0 kept fits r.1) in
    subst (λ (s : State). spelled s ≡ begin (cs ++ (flat_map name_parts kept.queues ++ [])) ++ p ∷ []) (ap (λ (k : StoreKept). states.Begun k None) (ok_is made x.0 new.1) ∙ ok_is (states.Begun x.0 None) after x.2)
    (ap (λ (ps : List Part). begin (all_clients [] (kept.clients ++ c ∷ []) ++ ps)) none
    ∙ ap begin (append-nil (all_clients [] (kept.clients ++ c ∷ [])) ∙ more)
    ∙ ap (λ (ps : List Part). begin (ps ++ p ∷ [])) (sym (append-nil cs))
    ∙ ap (λ (ps : List Part). begin ((cs ++ ps) ++ p ∷ [])) (sym none))

name-spelled : (n : NameRecord) (state after : State) → IsNameRecord n → put_name n state ≡ Ok after → spelled after ≡ spelled state ++ parts.Name n ∷ []
unfolding put_name spelled
name-spelled n states.Empty after fits e = absurd cc
name-spelled n (states.Whole kept) after fits e = absurd cc
name-spelled n (states.Begun kept newest) after fits e =
    let x = bind_ok (closed kept newest) (λ more. Ok (states.Begun more (Some n))) after e in
    subst (λ (s : State). spelled s ≡ front kept (flat_map name_parts kept.queues ++ newest_parts newest) ++ parts.Name n ∷ []) (ok_is (states.Begun x.0 (Some n)) after x.2)
    (ap (λ (ps : List Part). front x.0 (flat_map name_parts x.0.queues ++ ps)) (bare-parts n.name n.creations n.removed n.living fits.1.1.1)
    ∙ front-more x.0 (flat_map name_parts x.0.queues) (parts.Name n)
    ∙ ap (λ (ps : List Part). ps ++ parts.Name n ∷ []) (closed-spelled kept x.0 newest x.1))

end-spelled : (state after : State) → put_end state ≡ Ok after → spelled after ≡ spelled state ++ parts.End ∷ []
unfolding put_end spelled
end-spelled states.Empty after e = absurd cc
end-spelled (states.Whole kept) after e = absurd cc
end-spelled (states.Begun kept newest) after e =
    let x = bind_ok (closed kept newest) (λ whole. Ok (states.Whole whole)) after e in
    subst (λ (s : State). spelled s ≡ front kept (flat_map name_parts kept.queues ++ newest_parts newest) ++ parts.End ∷ []) (ok_is (states.Whole x.0) after x.2)
    (front-more x.0 (flat_map name_parts x.0.queues) parts.End ∙ ap (λ (ps : List Part). ps ++ parts.End ∷ []) (closed-spelled kept x.0 newest x.1))

-- ---- messages and accepted sends, which are put into the newest name's queue

no-sends : (xs : List Accepted) → is_empty xs ≡ true → xs ≡ []
no-sends [] e = refl
no-sends (x ∷ xs) e = absurd cc

message-parts : (name : List ℕ) (creations : ℕ) (removed : Option ℕ) (q after : Incarnation) (m : Message) → with_message m q ≡ Ok after
    → name_parts (name, record { creations = creations; removed = removed; living = Some after }) ≡ name_parts (name, record { creations = creations; removed = removed; living = Some q }) ++ parts.Message m ∷ []
unfolding with_message name_parts
message-parts name creations removed q after m e =
    let late = passed (is_empty q.accepted) (cond (is_next_message q m) (Ok (and_message m q)) (Err BadNumber)) BadTag after e in
    let next = passed (is_next_message q m) (Ok (and_message m q)) BadNumber after late.1 in
    let none : all_accepted q.accepted ≡ [] = ap all_accepted (no-sends q.accepted late.0) in
    let begin : List Part → List Part = λ ps. parts.Name (name_record name (record { creations = creations; removed = removed; living = Some q })) ∷ ps in
    let ms : List Part = all_messages q.messages in
    subst (λ (r : Incarnation). parts.Name (name_record name (record { creations = creations; removed = removed; living = Some r })) ∷ (all_messages r.messages ++ all_accepted r.accepted) ≡ begin (ms ++ all_accepted q.accepted) ++ parts.Message m ∷ [])
    (ok_is (and_message m q) after next.1)
    (ap (λ (ps : List Part). begin (all_messages (q.messages ++ m ∷ []) ++ ps)) none
    ∙ ap begin (append-nil (all_messages (q.messages ++ m ∷ [])) ∙ map-more (λ m. parts.Message m) q.messages m)
    ∙ ap (λ (ps : List Part). begin (ps ++ parts.Message m ∷ [])) (sym (append-nil ms))
    ∙ ap (λ (ps : List Part). begin ((ms ++ ps) ++ parts.Message m ∷ [])) (sym none))

accepted-parts : (name : List ℕ) (creations : ℕ) (removed : Option ℕ) (q after : Incarnation) (a : Accepted) → with_accepted a q ≡ Ok after
    → name_parts (name, record { creations = creations; removed = removed; living = Some after }) ≡ name_parts (name, record { creations = creations; removed = removed; living = Some q }) ++ parts.Accepted a ∷ []
unfolding with_accepted name_parts
accepted-parts name creations removed q after a e =
    let next = passed (is_next_accepted q a) (Ok (and_accepted a q)) BadNumber after e in
    let begin : List Part → List Part = λ ps. parts.Name (name_record name (record { creations = creations; removed = removed; living = Some q })) ∷ ps in
    let ms : List Part = all_messages q.messages in
    subst (λ (r : Incarnation). parts.Name (name_record name (record { creations = creations; removed = removed; living = Some r })) ∷ (all_messages r.messages ++ all_accepted r.accepted) ≡ begin (ms ++ all_accepted q.accepted) ++ parts.Accepted a ∷ [])
    (ok_is (and_accepted a q) after next.1)
    (ap (λ (ps : List Part). begin (ms ++ ps)) (map-more (λ a. parts.Accepted a) q.accepted a)
    ∙ ap begin (sym (append_assoc ms (all_accepted q.accepted) (parts.Accepted a ∷ []))))

-- what a step adds to the parts of each queue
abbrev Adds : (Incarnation → Result Incarnation WireFault) → Part → Type 0
Adds step p = (name : List ℕ) (creations : ℕ) (removed : Option ℕ) (q after : Incarnation) → step q ≡ Ok after
    → name_parts (name, record { creations = creations; removed = removed; living = Some after }) ≡ name_parts (name, record { creations = creations; removed = removed; living = Some q }) ++ p ∷ []

name-steps : (step : Incarnation → Result Incarnation WireFault) (p : Part) → Adds step p → (kept : StoreKept) (name : List ℕ) (creations : ℕ) (removed : Option ℕ) (living : Option Incarnation) (after : State)
    → (in_name step (record { name = name; creations = creations; removed = removed; living = living }) living >>= λ more. Ok (states.Begun kept (Some more))) ≡ Ok after
    → spelled after ≡ spelled (states.Begun kept (Some (record { name = name; creations = creations; removed = removed; living = living }))) ++ p ∷ []
unfolding in_name spelled
name-steps step p adds kept name creations removed None after e = absurd cc
name-steps step p adds kept name creations removed (Some q) after e =
    let n : NameRecord = record { name = name; creations = creations; removed = removed; living = Some q } in
    let x = bind_ok (step q >>= λ r. Ok (with_living n r)) (λ more. Ok (states.Begun kept (Some more))) after e in
    let y = bind_ok (step q) (λ r. Ok (with_living n r)) x.0 x.1 in
    let own : List Part = flat_map name_parts kept.queues in
    let before : List Part = name_parts (name, record { creations = creations; removed = removed; living = Some q }) in
    let same : states.Begun kept (Some (with_living n y.0)) ≡ after = ap (λ (m : NameRecord). states.Begun kept (Some m)) (ok_is (with_living n y.0) x.0 y.2) ∙ ok_is (states.Begun kept (Some x.0)) after x.2 in
    subst (λ (s : State). spelled s ≡ front kept (own ++ before) ++ p ∷ []) same
    (ap (λ (ps : List Part). front kept (own ++ ps)) (adds name creations removed q y.0 y.1)
    ∙ ap (λ (ps : List Part). front kept ps) (sym (append_assoc own before (p ∷ [])))
    ∙ front-more kept (own ++ before) p)

step-spelled : (step : Incarnation → Result Incarnation WireFault) (p : Part) → Adds step p → (state after : State) → put_step step state ≡ Ok after → spelled after ≡ spelled state ++ p ∷ []
unfolding put_step step_into
step-spelled step p adds states.Empty after e = absurd cc
step-spelled step p adds (states.Whole kept) after e = absurd cc
step-spelled step p adds (states.Begun kept None) after e = absurd cc
step-spelled step p adds (states.Begun kept (Some n)) after e = name-steps step p adds kept n.name n.creations n.removed n.living after e

part-spelled : (p : Part) (state after : State) → IsPart p → put p state ≡ Ok after → spelled after ≡ spelled state ++ p ∷ []
unfolding put
part-spelled (parts.Start count last) state after fits e = start-spelled count last state after e
part-spelled (parts.Client client number one) state after fits e = client-spelled client number one state after fits.1.1 e
part-spelled (parts.Name n) state after fits e = name-spelled n state after fits e
part-spelled (parts.Message m) state after fits e = step-spelled (with_message m) (parts.Message m) (λ name creations removed q r h. message-parts name creations removed q r m h) state after e
part-spelled (parts.Accepted a) state after fits e = step-spelled (with_accepted a) (parts.Accepted a) (λ name creations removed q r h. accepted-parts name creations removed q r a h) state after e
part-spelled parts.End state after fits e = end-spelled state after e

-- ---- parts in a row

parts-spelled : (ps : List Part) (state after : State) → AllByRecursion IsPart ps → built ps state ≡ Ok after → spelled after ≡ spelled state ++ ps
unfolding built
parts-spelled [] state after fit e = ap spelled (sym (ok_is state after e)) ∙ sym (append-nil (spelled state))
parts-spelled (p ∷ ps) state after fit e =
    let x = bind_ok (put p state) (λ next. built ps next) after e in
    parts-spelled ps x.0 after fit.1 x.2 ∙ ap (λ (qs : List Part). qs ++ ps) (part-spelled p state x.0 fit.0 x.1) ∙ append_assoc (spelled state) (p ∷ []) ps

fit-append : (ps qs : List Part) → AllByRecursion IsPart ps → AllByRecursion IsPart qs → AllByRecursion IsPart (ps ++ qs)
fit-append [] qs fit others = others
fit-append (p ∷ ps) qs fit others = (fit.0, fit-append ps qs fit.1 others)

fit-flat : (chunks : List (List Part)) → AllByRecursion (AllByRecursion IsPart) chunks → AllByRecursion IsPart (flat_map (λ some. some) chunks)
fit-flat [] fit = tt
fit-flat (ps ∷ more) fit = fit-append ps (flat_map (λ some. some) more) fit.0 (fit-flat more fit.1)

pub whole-spelled : (kept : StoreKept) (chunks : List (List Part)) → AllByRecursion (AllByRecursion IsPart) chunks → built (flat_map (λ some. some) chunks) states.Empty ≡ Ok (states.Whole kept)
    → flat_map (λ some. some) chunks ≡ parts_of kept
unfolding spelled parts_of all_clients all_names
whole-spelled kept chunks fit e = sym (parts-spelled (flat_map (λ some. some) chunks) states.Empty (states.Whole kept) (fit-flat chunks fit) e)
