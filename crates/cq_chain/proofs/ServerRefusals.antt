-- When a server refuses what comes to it, and when a message is no news.
use Rattle.std.proofs.Common.{◌≡◌, ℕ, ◌≤◌, ◌<◌, ◌∙◌, ap, sym, List, length, Option, Some, None, true, false, nat_lt, nat_le, subst, refl, min, ◌&&◌, ◌==◌, ◌+◌, if◌then◌else◌, Result, Ok, Err}
use Rattle.std.specs.Prelude.{IfErr, OnOk}
use Rattle.std.specs.Result.{IsErrAnd}
use Rattle.std.proofs.lemmas.Bool.{leb-true, leb-false, lt-ltb, le-ltb}
use Rattle.cq_base.specs.declared.ask.Entry.{Entry}
use Rattle.cq_base.specs.declared.limits.TheConstants.{HISTORY_LIMIT}
use Rattle.cq_base.specs.declared.party.Party.TheVariants as parties
use Rattle.cq_chain.specs.declared.fault.WorldFault.{WorldFault}
use Rattle.cq_chain.specs.declared.fault.WorldFault.TheVariants.{NotHead, HistoryFull, NotTail, NoMemory}
use Rattle.cq_chain.specs.declared.message.Message as rust
use Rattle.cq_chain.specs.declared.message.Message.TheVariants as stored
use Rattle.cq_chain.specs.declared.message.Untaken.{Untaken}
use Rattle.cq_chain.specs.Faults.{IsRefusal}
use Rattle.cq_chain.specs.Messages.{Message, Fwd, Snap, Ack, BeHead, Report, Adopt, BeTail, Feed}
use Rattle.cq_chain.specs.Refusals.{unless_full, refusal_of_arrival, refusal_of_query, refusal_of_taking}
use Rattle.cq_chain.specs.Servers.{Server, acts, is_that}
use Rattle.cq_chain.specs.Stands.{Means, IsSnapshot, IsRefusedBy}
use Rattle.cq_store.specs.Stands as stores
use Rattle.cq_store.specs.Stands.{StoreKept, count_of, last_of}
use Rattle.cq_chain.specs.Steps.{is_next, forwarded, acknowledged, headed, reported, adopting, feeding, tailed, silent, takes}

-- want of memory is told where nothing else refuses
pub no_memory : (result : Result (Unit {0}) WorldFault) (refusal : Option WorldFault) → IsErrAnd result (λ fault. fault ≡ NoMemory) → refusal ≡ None → IsRefusedBy refusal result
no_memory (Ok x) refusal h none = none
no_memory (Err fault) refusal h none = subst (λ f. IsRefusedBy refusal (Err f)) (sym h) none

-- the same of a message that comes back
pub none-refused : {E : Type 0} (result : Result (Unit {0}) E) (refusal : Option WorldFault) → refusal ≡ None → OnOk result (refusal ≡ None)
none-refused (Ok x) refusal none = none
none-refused (Err e) refusal none = tt

pub for-memory : (result : Result (Unit {0}) Untaken) (refusal : Option WorldFault) (message : rust.Message) → IfErr result (λ untaken. (untaken.message ≡ message) × (untaken.fault ≡ NoMemory)) → refusal ≡ None
    → IfErr result (λ untaken. IsRefusal untaken.fault refusal)
for-memory (Ok x) refusal message back none = tt
for-memory (Err untaken) refusal message back none = subst (λ f. IsRefusal f refusal) (sym back.1) none

full-at_limit : (count : ℕ) (entries : List Entry) → count ≡ length entries → nat_le HISTORY_LIMIT count ≡ true → unless_full entries ≡ Some HistoryFull
full-at_limit count entries same h = let e : nat_lt (length entries) HISTORY_LIMIT ≡ false = le-ltb (length entries) HISTORY_LIMIT (subst (λ n. HISTORY_LIMIT ≤ n) same (leb-true HISTORY_LIMIT count h)) in rw e

room-below_limit : (count : ℕ) (entries : List Entry) → count ≡ length entries → nat_le HISTORY_LIMIT count ≡ false → unless_full entries ≡ None
room-below_limit count entries same h = let e : nat_lt (length entries) HISTORY_LIMIT ≡ true = lt-ltb (length entries) HISTORY_LIMIT (subst (λ n. n < HISTORY_LIMIT) same (leb-false HISTORY_LIMIT count h)) in rw e

-- ---- arrivals

pub refused-elsewhere : (s : Server) → s.head ≡ false → refusal_of_arrival s ≡ Some NotHead
unfolding refusal_of_arrival
refused-elsewhere s h = rw h

pub refused-full : (s : Server) (count : ℕ) → s.head ≡ true → count ≡ length s.entries → nat_le HISTORY_LIMIT count ≡ true → refusal_of_arrival s ≡ Some HistoryFull
unfolding refusal_of_arrival
refused-full s count h same full = rw h (full-at_limit count s.entries same full)

pub not-refused : (s : Server) (count : ℕ) → s.head ≡ true → count ≡ length s.entries → nat_le HISTORY_LIMIT count ≡ false → refusal_of_arrival s ≡ None
unfolding refusal_of_arrival
not-refused s count h same room = rw h (room-below_limit count s.entries same room)

-- ---- queries

pub refused-silent : (s : Server) → acts s ≡ false → refusal_of_query s ≡ Some NotTail
unfolding refusal_of_query
refused-silent s h = rw h

pub query-not-refused : (s : Server) → acts s ≡ true → refusal_of_query s ≡ None
unfolding refusal_of_query
query-not-refused s h = rw h

-- ---- messages

pub refused-next : (s : Server) (count from place : ℕ) (e : Entry) → is_next s from place e ≡ true → count ≡ length s.entries → nat_le HISTORY_LIMIT count ≡ true → refusal_of_taking (parties.Server from) (Fwd place e) s ≡ Some HistoryFull
unfolding refusal_of_taking
refused-next s count from place e h same full = rw h (full-at_limit count s.entries same full)

pub next-not-refused : (s : Server) (count from place : ℕ) (e : Entry) → is_next s from place e ≡ true → count ≡ length s.entries → nat_le HISTORY_LIMIT count ≡ false → refusal_of_taking (parties.Server from) (Fwd place e) s ≡ None
unfolding refusal_of_taking
next-not-refused s count from place e h same room = rw h (room-below_limit count s.entries same room)

pub other-not-refused : (s : Server) (from place : ℕ) (e : Entry) → is_next s from place e ≡ false → refusal_of_taking (parties.Server from) (Fwd place e) s ≡ None
unfolding refusal_of_taking
other-not-refused s from place e h = rw h

pub takes-next : (s : Server) (from place : ℕ) (e : Entry) → is_next s from place e ≡ true → takes (parties.Server from) (Fwd place e) s ≡ forwarded e s
unfolding takes
takes-next s from place e h = rw h

pub takes-other : (s : Server) (from place : ℕ) (e : Entry) → is_next s from place e ≡ false → takes (parties.Server from) (Fwd place e) s ≡ silent s
unfolding takes
takes-other s from place e h = rw h

-- a message that is none of an entry

pub means-seen : (message seen : rust.Message) (m : Message) → message ≡ seen → Means message m → Means seen m
means-seen message seen m is h = subst (λ x. Means x m) is h

pub takes-ack : (s : Server) (from n : ℕ) (m : Message) → m ≡ Ack n → takes (parties.Server from) m s ≡ acknowledged (min n (length s.entries)) s
unfolding takes
takes-ack s from n m is = ap (λ x. takes (parties.Server from) x s) is

pub ack-not-refused : (s : Server) (from n : ℕ) (m : Message) → m ≡ Ack n → refusal_of_taking (parties.Server from) m s ≡ None
unfolding refusal_of_taking
ack-not-refused s from n m is = ap (λ x. refusal_of_taking (parties.Server from) x s) is

-- what a snapshot stands for
pub snapshot-seen : (message : rust.Message) (state : StoreKept) (m : Message) → message ≡ stored.Snap state → Means message m → IsSnapshot state m
snapshot-seen message state m is h = means-seen message (stored.Snap state) m is h

pub snapshot-not-refused : (s : Server) (from : ℕ) (state : List Entry) (m : Message) → m ≡ Snap state → refusal_of_taking (parties.Server from) m s ≡ None
unfolding refusal_of_taking
snapshot-not-refused s from state m is = ap (λ x. refusal_of_taking (parties.Server from) x s) is

-- what no server says to a server

pub takes-others : (s : Server) (from : ℕ) (message : rust.Message) (m : Message) → ((place : ℕ) (e : Entry) → message ≡ stored.Fwd place e → ⊥) → ((state : StoreKept) → message ≡ stored.Snap state → ⊥)
    → ((place : ℕ) → message ≡ stored.Ack place → ⊥) → Means message m → takes (parties.Server from) m s ≡ silent s
unfolding takes
takes-others s from (stored.Fwd place e) m fwd snap ack h = absurd (fwd place e refl)
takes-others s from (stored.Snap state) m fwd snap ack h = absurd (snap state refl)
takes-others s from (stored.Ack place) m fwd snap ack h = absurd (ack place refl)
takes-others s from stored.BeHead m fwd snap ack h = ap (λ x. takes (parties.Server from) x s) h
takes-others s from (stored.Report pred) m fwd snap ack h = ap (λ x. takes (parties.Server from) x s) h
takes-others s from (stored.Adopt succ have) m fwd snap ack h = ap (λ x. takes (parties.Server from) x s) h
takes-others s from (stored.BeTail least) m fwd snap ack h = ap (λ x. takes (parties.Server from) x s) h
takes-others s from (stored.Feed succ) m fwd snap ack h = ap (λ x. takes (parties.Server from) x s) h
takes-others s from (stored.Have pred count) m fwd snap ack h = ap (λ x. takes (parties.Server from) x s) h
takes-others s from (stored.Adopted succ count) m fwd snap ack h = ap (λ x. takes (parties.Server from) x s) h
takes-others s from (stored.Caught pred count) m fwd snap ack h = ap (λ x. takes (parties.Server from) x s) h
takes-others s from stored.Ready m fwd snap ack h = ap (λ x. takes (parties.Server from) x s) h
takes-others s from (stored.Answer answer) m fwd snap ack h = ap (λ x. takes (parties.Server from) x s) h

pub others-not-refused : (s : Server) (from : ℕ) (message : rust.Message) (m : Message) → ((place : ℕ) (e : Entry) → message ≡ stored.Fwd place e → ⊥) → Means message m → refusal_of_taking (parties.Server from) m s ≡ None
unfolding refusal_of_taking
others-not-refused s from (stored.Fwd place e) m fwd h = absurd (fwd place e refl)
others-not-refused s from (stored.Snap state) m fwd h = ap (λ x. refusal_of_taking (parties.Server from) x s) h.is
others-not-refused s from (stored.Ack place) m fwd h = ap (λ x. refusal_of_taking (parties.Server from) x s) h
others-not-refused s from stored.BeHead m fwd h = ap (λ x. refusal_of_taking (parties.Server from) x s) h
others-not-refused s from (stored.Report pred) m fwd h = ap (λ x. refusal_of_taking (parties.Server from) x s) h
others-not-refused s from (stored.Adopt succ have) m fwd h = ap (λ x. refusal_of_taking (parties.Server from) x s) h
others-not-refused s from (stored.BeTail least) m fwd h = ap (λ x. refusal_of_taking (parties.Server from) x s) h
others-not-refused s from (stored.Feed succ) m fwd h = ap (λ x. refusal_of_taking (parties.Server from) x s) h
others-not-refused s from (stored.Have pred count) m fwd h = ap (λ x. refusal_of_taking (parties.Server from) x s) h
others-not-refused s from (stored.Adopted succ count) m fwd h = ap (λ x. refusal_of_taking (parties.Server from) x s) h
others-not-refused s from (stored.Caught pred count) m fwd h = ap (λ x. refusal_of_taking (parties.Server from) x s) h
others-not-refused s from stored.Ready m fwd h = ap (λ x. refusal_of_taking (parties.Server from) x s) h
others-not-refused s from (stored.Answer answer) m fwd h = ap (λ x. refusal_of_taking (parties.Server from) x s) h

-- what comes from clients is ignored

pub takes-of_clients : (s : Server) (message : rust.Message) (m : Message) → Means message m → takes parties.Clients m s ≡ silent s
unfolding takes
takes-of_clients s message m h = refl

-- what comes from the master

pub takes-be_head : (s : Server) (m : Message) → m ≡ BeHead → takes parties.Master m s ≡ headed s
unfolding takes
takes-be_head s m is = ap (λ x. takes parties.Master x s) is

pub takes-report : (s : Server) (pred : ℕ) (m : Message) → m ≡ Report pred → takes parties.Master m s ≡ reported pred s
unfolding takes
takes-report s pred m is = ap (λ x. takes parties.Master x s) is

pub takes-adopt : (s : Server) (succ have : ℕ) (m : Message) → m ≡ Adopt succ have → takes parties.Master m s ≡ adopting succ have s
unfolding takes
takes-adopt s succ have m is = ap (λ x. takes parties.Master x s) is

pub takes-be_tail : (s : Server) (least : ℕ) (m : Message) → m ≡ BeTail least → takes parties.Master m s ≡ tailed least s
unfolding takes
takes-be_tail s least m is = ap (λ x. takes parties.Master x s) is

pub takes-feed : (s : Server) (succ : Option ℕ) (m : Message) → m ≡ Feed succ → takes parties.Master m s ≡ (if acts s then feeding succ s else silent s)
unfolding takes
takes-feed s succ m is = ap (λ x. takes parties.Master x s) is

-- and what the master doesn't say
pub takes-no_order : (s : Server) (message : rust.Message) (m : Message) → (message ≡ stored.BeHead → ⊥) → ((pred : ℕ) → message ≡ stored.Report pred → ⊥) → ((succ have : ℕ) → message ≡ stored.Adopt succ have → ⊥)
    → ((least : ℕ) → message ≡ stored.BeTail least → ⊥) → ((succ : Option ℕ) → message ≡ stored.Feed succ → ⊥) → Means message m → takes parties.Master m s ≡ silent s
unfolding takes
takes-no_order s (stored.Fwd place e) m head report adopt tail feed h = ap (λ x. takes parties.Master x s) h
takes-no_order s (stored.Snap state) m head report adopt tail feed h = ap (λ x. takes parties.Master x s) h.is
takes-no_order s (stored.Ack place) m head report adopt tail feed h = ap (λ x. takes parties.Master x s) h
takes-no_order s stored.BeHead m head report adopt tail feed h = absurd (head refl)
takes-no_order s (stored.Report pred) m head report adopt tail feed h = absurd (report pred refl)
takes-no_order s (stored.Adopt succ have) m head report adopt tail feed h = absurd (adopt succ have refl)
takes-no_order s (stored.BeTail least) m head report adopt tail feed h = absurd (tail least refl)
takes-no_order s (stored.Feed succ) m head report adopt tail feed h = absurd (feed succ refl)
takes-no_order s (stored.Have pred count) m head report adopt tail feed h = ap (λ x. takes parties.Master x s) h
takes-no_order s (stored.Adopted succ count) m head report adopt tail feed h = ap (λ x. takes parties.Master x s) h
takes-no_order s (stored.Caught pred count) m head report adopt tail feed h = ap (λ x. takes parties.Master x s) h
takes-no_order s stored.Ready m head report adopt tail feed h = ap (λ x. takes parties.Master x s) h
takes-no_order s (stored.Answer answer) m head report adopt tail feed h = ap (λ x. takes parties.Master x s) h

pub master-not-refused : (s : Server) (m : Message) → refusal_of_taking parties.Master m s ≡ None
unfolding refusal_of_taking
master-not-refused s m = refl

pub clients-not-refused : (s : Server) (m : Message) → refusal_of_taking parties.Clients m s ≡ None
unfolding refusal_of_taking
clients-not-refused s m = refl

-- the next entry, by what the server keeps
pub next-of : (s : Server) (pred : Option ℕ) (store : StoreKept) (from place : ℕ) (e : Entry) → pred ≡ s.pred → stores.StandsFor store s.entries
    → (is_that pred from && place == count_of store + 1 && nat_le (last_of store) e.moment) ≡ is_next s from place e
next-of s pred store from place e is_pred is = ap (λ p. is_that p from && place == count_of store + 1 && nat_le (last_of store) e.moment) is_pred
    ∙ ap (λ n. is_that s.pred from && place == n + 1 && nat_le (last_of store) e.moment) is.count
    ∙ ap (λ l. is_that s.pred from && place == length s.entries + 1 && nat_le l e.moment) is.last
