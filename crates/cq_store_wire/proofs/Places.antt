-- What is written at each place of a store, and what follows it.
use Rattle.std.proofs.Common.{◌≡◌, ◌⊎◌, ℕ, zero, suc, ◌<◌, ◌≤◌, List, [], ◌∷◌, ◌++◌, length, drop, Option, None, Some, Result, Ok, Err, refl, sym, subst, ap, ◌∙◌, append_assoc, arith, inl, inr}
use Rattle.std.specs.Prelude.{slice_get, IfOk}
use Rattle.std.specs.List.{AllByRecursion, flat_map}
use Rattle.std.proofs.lemmas.List.{append-nil}
use Rattle.cq_base.specs.declared.fault.NoMemory.{NoMemory}
use Rattle.cq_base.specs.queue.Incarnations.{Accepted, Incarnation}
use Rattle.cq_base.specs.queue.Messages.{Message}
use Rattle.cq_messages.specs.Ordered.{all_after}
use Rattle.cq_store.specs.Stands.{ClientRecord, QueueRecord, StoreKept}
use Rattle.cq_wire.specs.declared.version.TheConstants.{VERSION}
use Rattle.cq_store_wire.specs.declared.part.Part.{Part}
use Rattle.cq_store_wire.specs.declared.part.Part.TheVariants as parts
use Rattle.cq_store_wire.specs.declared.writer.Place.{Place}
use Rattle.cq_store_wire.specs.declared.writer.Place.TheVariants as places
use Rattle.cq_store_wire.specs.Bodies.{and_reply}
use Rattle.cq_store_wire.specs.Chunks.{IsChunk, IsNext}
use Rattle.cq_store_wire.specs.Layout.{chunk, part}
use Rattle.cq_store_wire.specs.Limits.{IsAccepted, IsMessage, IsNameRecord, IsPart}
use Rattle.cq_store_wire.specs.Order.{accepted_of, all_accepted, all_clients, all_messages, all_names, client_part, living_at, living_of, messages_of, name_parts, name_record, parts_from, parts_of}

-- ---- a list from a place on

pub drop-some : {A : Type 0} (xs : List A) (i : ℕ) (x : A) → slice_get xs i ≡ Some x → drop i xs ≡ x ∷ drop (suc i) xs
drop-some [] i x e = absurd cc
drop-some (y ∷ ys) zero x e = cc
drop-some (y ∷ ys) (suc i) x e = drop-some ys i x e

pub drop-none : {A : Type 0} (xs : List A) (i : ℕ) → slice_get xs i ≡ None → drop i xs ≡ []
drop-none [] zero e = refl
drop-none [] (suc i) e = refl
drop-none (y ∷ ys) zero e = absurd cc
drop-none (y ∷ ys) (suc i) e = drop-none ys i e

pub drop-past : {A : Type 0} (xs : List A) (i : ℕ) → length xs ≤ i → drop i xs ≡ []
drop-past [] zero h = refl
drop-past [] (suc i) h = refl
drop-past (y ∷ ys) zero h = absurd (omega (arith, h))
drop-past (y ∷ ys) (suc i) h = drop-past ys i (omega (arith, h))

pub some-below : {A : Type 0} (xs : List A) (i : ℕ) (x : A) → slice_get xs i ≡ Some x → i < length xs
some-below [] i x e = absurd cc
some-below (y ∷ ys) zero x e = omega arith
some-below (y ∷ ys) (suc i) x e = let rest = some-below ys i x e in omega (arith, rest)

-- ---- one part

is_next : (p : Part) (before rest after : List Part) (old new : List ℕ) → before ≡ p ∷ rest → rest ≡ after → IsPart p → new ≡ old ++ part p → IsNext before after old new
is_next p before rest after old new e same fits written = subst (λ (ps : List Part). IsNext ps after old new) (sym e) (fits, (same, written))

-- the same of a call, where what comes before is the same
pub same-next : (r : Result Place NoMemory) (before other : List Part) (after : Place → List Part) (old new : List ℕ) → before ≡ other
    → IfOk r (λ next. IsNext other (after next) old new) → IfOk r (λ next. IsNext before (after next) old new)
same-next (Ok next) before other after old new e h = subst (λ (ps : List Part). IsNext ps (after next) old new) (sym e) h
same-next (Err f) before other after old new e h = tt

-- ---- clients

client-next : (kept : StoreKept) (known : List (List ℕ)) (i : ℕ) (c : ℕ × ClientRecord) (old new : List ℕ) → slice_get kept.clients i ≡ Some c → IsPart (client_part known c) → new ≡ old ++ part (client_part known c)
    → IsNext (parts_from kept known (places.Clients i)) (parts_from kept (and_reply known c.1.reply) (places.Clients (suc i))) old new
unfolding parts_from all_clients
client-next kept known i c old new e fits written =
    let rest : List Part = all_clients (and_reply known c.1.reply) (drop (suc i) kept.clients) ++ all_names kept.queues in
    is_next (client_part known c) (all_clients known (drop i kept.clients) ++ all_names kept.queues) rest rest old new
    (ap (λ (cs : List (ℕ × ClientRecord)). all_clients known cs ++ all_names kept.queues) (drop-some kept.clients i c e)) refl fits written

pub client-next-at : (kept : StoreKept) (known after : List (List ℕ)) (i j : ℕ) (c : ℕ × ClientRecord) (old new : List ℕ) → suc i ≡ j → slice_get kept.clients i ≡ Some c → after ≡ and_reply known c.1.reply
    → IsPart (client_part known c) → new ≡ old ++ part (client_part known c) → IsNext (parts_from kept known (places.Clients i)) (parts_from kept after (places.Clients j)) old new
client-next-at kept known after i j c old new next e more fits written =
    subst (λ (ks : List (List ℕ)). IsNext (parts_from kept known (places.Clients i)) (parts_from kept ks (places.Clients j)) old new) (sym more)
    (subst (λ (k : ℕ). IsNext (parts_from kept known (places.Clients i)) (parts_from kept (and_reply known c.1.reply) (places.Clients k)) old new) next (client-next kept known i c old new e fits written))

pub clients-end : (kept : StoreKept) (known : List (List ℕ)) (i : ℕ) → drop i kept.clients ≡ [] → parts_from kept known (places.Clients i) ≡ parts_from kept known (places.Names 0)
unfolding parts_from all_clients
clients-end kept known i e = ap (λ (cs : List (ℕ × ClientRecord)). all_clients known cs ++ all_names kept.queues) e

-- ---- names

pub name-next : (kept : StoreKept) (known : List (List ℕ)) (i : ℕ) (n : List ℕ × QueueRecord) (old new : List ℕ) → slice_get kept.queues i ≡ Some n → IsNameRecord (name_record n.0 n.1)
    → all_after 0 (messages_of n.1.living) ≡ messages_of n.1.living → new ≡ old ++ part (parts.Name (name_record n.0 n.1))
    → IsNext (parts_from kept known (places.Names i)) (parts_from kept known (places.Messages i 0)) old new
unfolding parts_from all_names name_parts
name-next kept known i n old new e fits follow written =
    let rest : List (List ℕ × QueueRecord) = drop (suc i) kept.queues in
    let ms : List Part = all_messages (messages_of n.1.living) in
    let xs : List Part = all_accepted (accepted_of n.1.living) in
    let behind : List Part = flat_map name_parts rest ++ parts.End ∷ [] in
    let first : flat_map name_parts (drop i kept.queues) ++ parts.End ∷ [] ≡ parts.Name (name_record n.0 n.1) ∷ (((ms ++ xs) ++ flat_map name_parts rest) ++ parts.End ∷ []) =
    ap (λ (ns : List (List ℕ × QueueRecord)). flat_map name_parts ns ++ parts.End ∷ []) (drop-some kept.queues i n e) in
    let grouped : ((ms ++ xs) ++ flat_map name_parts rest) ++ parts.End ∷ [] ≡ ms ++ (xs ++ behind) = append_assoc (ms ++ xs) (flat_map name_parts rest) (parts.End ∷ []) ∙ append_assoc ms xs behind in
    let living : living_at kept i ≡ n.1.living = ap living_of e in
    let after : ms ++ (xs ++ behind) ≡ all_messages (all_after 0 (messages_of (living_at kept i))) ++ (all_accepted (accepted_of (living_at kept i)) ++ behind) =
    ap (λ (all : List Message). all_messages all ++ (xs ++ behind)) (sym follow)
    ∙ ap (λ (l : Option Incarnation). all_messages (all_after 0 (messages_of l)) ++ (all_accepted (accepted_of l) ++ behind)) (sym living) in
    is_next (parts.Name (name_record n.0 n.1)) (flat_map name_parts (drop i kept.queues) ++ parts.End ∷ []) (((ms ++ xs) ++ flat_map name_parts rest) ++ parts.End ∷ [])
    (all_messages (all_after 0 (messages_of (living_at kept i))) ++ (all_accepted (accepted_of (living_at kept i)) ++ behind)) old new first (grouped ∙ after) fits written

pub end-next : (kept : StoreKept) (known : List (List ℕ)) (queues : List (List ℕ × QueueRecord)) (old new : List ℕ) → queues ≡ [] → new ≡ old ++ part parts.End
    → IsNext (all_names queues) (parts_from kept known places.End) old new
unfolding parts_from all_names
end-next kept known queues old new e written =
    is_next parts.End (flat_map name_parts queues ++ parts.End ∷ []) [] [] old new (ap (λ (ns : List (List ℕ × QueueRecord)). flat_map name_parts ns ++ parts.End ∷ []) e) refl tt written

pub end-here : (kept : StoreKept) (known : List (List ℕ)) (i : ℕ) (old new : List ℕ) → slice_get kept.queues i ≡ None → new ≡ old ++ part parts.End → IsNext (parts_from kept known (places.Names i)) (parts_from kept known places.End) old new
unfolding parts_from
end-here kept known i old new e written = end-next kept known (drop i kept.queues) old new (drop-none kept.queues i e) written

pub names-from : (kept : StoreKept) (known : List (List ℕ)) (i j : ℕ) → j ≡ suc i → all_names (drop (suc i) kept.queues) ≡ parts_from kept known (places.Names j)
unfolding parts_from
names-from kept known i j e = ap (λ (k : ℕ). all_names (drop k kept.queues)) (sym e)

-- ---- the messages of a queue

message-next : (kept : StoreKept) (known : List (List ℕ)) (i after : ℕ) (q : Incarnation) (m : Message) (old new : List ℕ) → living_at kept i ≡ Some q → all_after after q.messages ≡ m ∷ all_after m.sequence q.messages
    → IsMessage m → new ≡ old ++ part (parts.Message m) → IsNext (parts_from kept known (places.Messages i after)) (parts_from kept known (places.Messages i m.sequence)) old new
unfolding parts_from
message-next kept known i after q m old new living e fits written =
    let behind : List Part = all_accepted (accepted_of (living_at kept i)) ++ all_names (drop (suc i) kept.queues) in
    let own : messages_of (living_at kept i) ≡ q.messages = ap messages_of living in
    let first : all_messages (all_after after (messages_of (living_at kept i))) ++ behind ≡ parts.Message m ∷ (all_messages (all_after m.sequence q.messages) ++ behind) =
    ap (λ (ms : List Message). all_messages (all_after after ms) ++ behind) own ∙ ap (λ (ms : List Message). all_messages ms ++ behind) e in
    let rest : all_messages (all_after m.sequence q.messages) ++ behind ≡ all_messages (all_after m.sequence (messages_of (living_at kept i))) ++ behind =
    ap (λ (ms : List Message). all_messages (all_after m.sequence ms) ++ behind) (sym own) in
    is_next (parts.Message m) (all_messages (all_after after (messages_of (living_at kept i))) ++ behind) (all_messages (all_after m.sequence q.messages) ++ behind)
    (all_messages (all_after m.sequence (messages_of (living_at kept i))) ++ behind) old new first rest fits written

pub message-next-at : (kept : StoreKept) (known : List (List ℕ)) (i after n : ℕ) (q : Incarnation) (m : Message) (ms : List Message) (old new : List ℕ) → m.sequence ≡ n → ms ≡ q.messages → living_at kept i ≡ Some q → all_after after ms ≡ m ∷ all_after m.sequence ms
    → IsMessage m → new ≡ old ++ part (parts.Message m) → IsNext (parts_from kept known (places.Messages i after)) (parts_from kept known (places.Messages i n)) old new
message-next-at kept known i after n q m ms old new number own living e fits written =
    let there = subst (λ (all : List Message). all_after after all ≡ m ∷ all_after m.sequence all) own e in
    subst (λ (k : ℕ). IsNext (parts_from kept known (places.Messages i after)) (parts_from kept known (places.Messages i k)) old new) number (message-next kept known i after q m old new living there fits written)

messages-end : (kept : StoreKept) (known : List (List ℕ)) (i after : ℕ) → all_after after (messages_of (living_at kept i)) ≡ [] → parts_from kept known (places.Messages i after) ≡ parts_from kept known (places.Accepted i 0)
unfolding parts_from
messages-end kept known i after e = ap (λ (ms : List Message). all_messages ms ++ (all_accepted (accepted_of (living_at kept i)) ++ all_names (drop (suc i) kept.queues))) e

pub messages-done : (kept : StoreKept) (known : List (List ℕ)) (i after : ℕ) (q : Incarnation) (ms : List Message) → ms ≡ q.messages → living_at kept i ≡ Some q → all_after after ms ≡ [] → parts_from kept known (places.Messages i after) ≡ parts_from kept known (places.Accepted i 0)
messages-done kept known i after q ms own living e = messages-end kept known i after (ap (λ (l : Option Incarnation). all_after after (messages_of l)) living ∙ ap (λ (all : List Message). all_after after all) (sym own) ∙ e)

pub messages-none : (kept : StoreKept) (known : List (List ℕ)) (i after : ℕ) → living_at kept i ≡ None → parts_from kept known (places.Messages i after) ≡ parts_from kept known (places.Accepted i 0)
messages-none kept known i after living = messages-end kept known i after (ap (λ (l : Option Incarnation). all_after after (messages_of l)) living)

-- ---- and its accepted sends

accepted-next : (kept : StoreKept) (known : List (List ℕ)) (i next : ℕ) (q : Incarnation) (a : Accepted) (old new : List ℕ) → living_at kept i ≡ Some q → slice_get q.accepted next ≡ Some a
    → IsAccepted a → new ≡ old ++ part (parts.Accepted a) → IsNext (parts_from kept known (places.Accepted i next)) (parts_from kept known (places.Accepted i (suc next))) old new
unfolding parts_from
accepted-next kept known i next q a old new living e fits written =
    let behind : List Part = all_names (drop (suc i) kept.queues) in
    let own : accepted_of (living_at kept i) ≡ q.accepted = ap accepted_of living in
    let first : all_accepted (drop next (accepted_of (living_at kept i))) ++ behind ≡ parts.Accepted a ∷ (all_accepted (drop (suc next) q.accepted) ++ behind) =
    ap (λ (xs : List Accepted). all_accepted (drop next xs) ++ behind) own ∙ ap (λ (xs : List Accepted). all_accepted xs ++ behind) (drop-some q.accepted next a e) in
    let rest : all_accepted (drop (suc next) q.accepted) ++ behind ≡ all_accepted (drop (suc next) (accepted_of (living_at kept i))) ++ behind =
    ap (λ (xs : List Accepted). all_accepted (drop (suc next) xs) ++ behind) (sym own) in
    is_next (parts.Accepted a) (all_accepted (drop next (accepted_of (living_at kept i))) ++ behind) (all_accepted (drop (suc next) q.accepted) ++ behind)
    (all_accepted (drop (suc next) (accepted_of (living_at kept i))) ++ behind) old new first rest fits written

pub accepted-next-at : (kept : StoreKept) (known : List (List ℕ)) (i next j : ℕ) (q : Incarnation) (a : Accepted) (old new : List ℕ) → suc next ≡ j → living_at kept i ≡ Some q → slice_get q.accepted next ≡ Some a
    → IsAccepted a → new ≡ old ++ part (parts.Accepted a) → IsNext (parts_from kept known (places.Accepted i next)) (parts_from kept known (places.Accepted i j)) old new
accepted-next-at kept known i next j q a old new more living e fits written =
    subst (λ (k : ℕ). IsNext (parts_from kept known (places.Accepted i next)) (parts_from kept known (places.Accepted i k)) old new) more (accepted-next kept known i next q a old new living e fits written)

accepted-end : (kept : StoreKept) (known : List (List ℕ)) (i next : ℕ) → drop next (accepted_of (living_at kept i)) ≡ [] → parts_from kept known (places.Accepted i next) ≡ all_names (drop (suc i) kept.queues)
unfolding parts_from
accepted-end kept known i next e = ap (λ (xs : List Accepted). all_accepted xs ++ all_names (drop (suc i) kept.queues)) e

pub accepted-done : (kept : StoreKept) (known : List (List ℕ)) (i next : ℕ) (q : Incarnation) → living_at kept i ≡ Some q → slice_get q.accepted next ≡ None → parts_from kept known (places.Accepted i next) ≡ all_names (drop (suc i) kept.queues)
accepted-done kept known i next q living e = accepted-end kept known i next (ap (λ (l : Option Incarnation). drop next (accepted_of l)) living ∙ drop-none q.accepted next e)

pub accepted-none : (kept : StoreKept) (known : List (List ℕ)) (i next : ℕ) → living_at kept i ≡ None → parts_from kept known (places.Accepted i next) ≡ all_names (drop (suc i) kept.queues)
accepted-none kept known i next living = accepted-end kept known i next (ap (λ (l : Option Incarnation). drop next (accepted_of l)) living ∙ drop-past [] next (omega arith))

-- ---- the start

start-next : (kept : StoreKept) (known : List (List ℕ)) (old new : List ℕ) → IsPart (parts.Start kept.count kept.last) → new ≡ old ++ part (parts.Start kept.count kept.last)
    → IsNext (parts_from kept known places.Start) (parts_from kept known (places.Clients 0)) old new
unfolding parts_from parts_of
start-next kept known old new fits written = (fits, (refl, written))

pub start-at : (kept : StoreKept) (known : List (List ℕ)) (place : Place) (count last : ℕ) (old new : List ℕ) → place ≡ places.Start → count ≡ kept.count → last ≡ kept.last → IsPart (parts.Start count last) → new ≡ old ++ part (parts.Start count last)
    → IsNext (parts_from kept known place) (parts_from kept known (places.Clients 0)) old new
start-at kept known place count last old new start same-count same-last fits written =
    let G : ℕ → ℕ → Type 0 = λ c l. IsPart (parts.Start c l) × (new ≡ old ++ part (parts.Start c l)) in
    let own : G kept.count kept.last = subst (λ (l : ℕ). G kept.count l) same-last (subst (λ (c : ℕ). G c last) same-count (fits, written)) in
    subst (λ (p : Place). IsNext (parts_from kept known p) (parts_from kept known (places.Clients 0)) old new) (sym start) (start-next kept known old new own.0 own.1)

-- ---- chunks

pub chunk-start : (before : List Part) (bytes : List ℕ) → bytes ≡ VERSION ∷ [] → IsChunk before before bytes
unfolding chunk
chunk-start before bytes e = record { some = []; fit = tt; order = refl; written = e }

one-more : (ps : List Part) (p : Part) → AllByRecursion IsPart ps → IsPart p → AllByRecursion IsPart (ps ++ p ∷ [])
one-more [] p fit fits = (fits, tt)
one-more (x ∷ xs) p fit fits = (fit.0, one-more xs p fit.1 fits)

flat-more : (ps : List Part) (p : Part) → flat_map part (ps ++ p ∷ []) ≡ flat_map part ps ++ part p
flat-more [] p = append-nil (part p)
flat-more (x ∷ xs) p = ap (λ (t : List ℕ). part x ++ t) (flat-more xs p) ∙ sym (append_assoc (part x) (flat_map part xs) (part p))

pub chunk-next : (before middle after : List Part) (old new : List ℕ) → IsChunk before middle old → IsNext middle after old new → IsChunk before after new
unfolding chunk
chunk-next before [] after old new c next = absurd next
chunk-next before (p ∷ rest) after old new c next = record {
  some = c.some ++ p ∷ [];
  fit = one-more c.some p c.fit next.0;
  order = c.order ∙ sym (append_assoc c.some (p ∷ []) rest) ∙ ap (λ (ps : List Part). (c.some ++ p ∷ []) ++ ps) next.1.0;
  written = next.1.1 ∙ ap (λ (t : List ℕ). t ++ part p) c.written ∙ ap (λ (t : List ℕ). VERSION ∷ t) (sym (flat-more c.some p));
}

pub next-shorter : (before after : List Part) (old new : List ℕ) → IsNext before after old new → length after < length before
next-shorter [] after old new next = absurd next
next-shorter (p ∷ rest) after old new next = let same : length rest ≡ length after = ap length next.1.0 in omega (arith, same)

-- behind a part the place has moved on
pub moved : (kept : StoreKept) (known more after : List (List ℕ)) (first place next : Place) (old new value : List ℕ) → ((place ≡ first) × ((more ≡ known) × (length value ≡ 1))) ⊎ (length (parts_from kept more place) < length (parts_from kept known first))
    → IsNext (parts_from kept more place) (parts_from kept after next) old new → length (parts_from kept after next) < length (parts_from kept known first)
moved kept known more after first place next old new value (inl same) n =
    let here : length (parts_from kept more place) ≡ length (parts_from kept known first) = ap (λ (p : Place). length (parts_from kept more p)) same.0 ∙ ap (λ (ks : List (List ℕ)). length (parts_from kept ks first)) same.1.0 in
    omega (arith, here, next-shorter (parts_from kept more place) (parts_from kept after next) old new n)
moved kept known more after first place next old new value (inr less) n = omega (arith, less, next-shorter (parts_from kept more place) (parts_from kept after next) old new n)
