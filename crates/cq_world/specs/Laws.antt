-- The laws of the chain, for every list of events from the first world of every size.
use Rattle.std.specs.Prelude.{◌≡◌, ◌≤◌, ℕ, ◌+◌, length, List, [], ◌∷◌, ◌++◌, max, true, false, Option, None, Some, ◌⊎◌}
use Rattle.cq_base.specs.declared.ask.Entry.{Entry}
use Rattle.cq_base.specs.declared.ask.Query.{Query}
use Rattle.cq_base.specs.declared.ask.Request.{Request}
use Rattle.cq_base.specs.declared.party.Party.{Party}
use Rattle.cq_base.specs.declared.party.Party.TheVariants as parties
use Rattle.cq_base.specs.Relations.{Among, IsPrefix, Pairwise}
use Rattle.cq_chain.specs.declared.fault.WorldFault.{WorldFault}
use Rattle.cq_chain.specs.declared.message.Answer.{Answer}
use Rattle.cq_chain.specs.Masters.{Master, is_last}
use Rattle.cq_chain.specs.Messages.{Message, Fwd, Snap}
use Rattle.cq_chain.specs.Parties.{is_that}
use Rattle.cq_chain.specs.Servers.{acts}
use Rattle.cq_chain.specs.Steps.{answer_to, answer_to_query}
use Rattle.cq_store.specs.Laws.{Stamped, FreshOnceIn, RepeatsAreAnsweredAt, OthersDoNothingAt, HandsWhatWasSentAt, NoneInFlightAt, NoneDeletedAt, NoneRemovedAt, OneAcceptancePerWindowAt, FirstHandingsInOrderIn}
use Rattle.cq_events.specs.Events.{refusal_of, after}
use Rattle.cq_events.specs.Runs.{world_after, given_from, committed, made}
use Rattle.cq_events.specs.Worlds.{World, first_world, is_in, channel}
use Rattle.cq_events.specs.declared.event.Event.{Event}
use Rattle.cq_events.specs.declared.event.Event.TheVariants.{Arrive, Ask}

-- ---- what is answered

-- the answer to a request is the queue object's, at the place of an entry of the list
abbrev pub AnswersRequest : List Entry → Answer → Type 0
AnswersRequest list a = (before rest : List Entry) × (e : Entry) × (list ≡ before ++ (e ∷ rest)) × (a ≡ answer_to before e)

-- The answer to a query was made by one of these events, from that world on: one that asked that very query and wasn't
-- refused. It is that after the entries that the server had then, which begin the list.
pub record AnswersQuery (list : List Entry) (w : World) (events : List Event) (a : Answer) : Type 0 where
  pub earlier : List Event
  pub later : List Event
  pub at : ℕ
  pub query : Query
  pub asked : events ≡ earlier ++ (Ask at query ∷ later)
  pub free : refusal_of (world_after w earlier) (Ask at query) ≡ None
  pub prefix : IsPrefix ((world_after w earlier).server at).entries list
  pub answer : a ≡ answer_to_query ((world_after w earlier).server at).entries query

-- The answer is the one that a single queue object gives that takes the entries of the list in order: the reply
-- to the entry at the place that the answer bears, or the counts after so many entries, to a query of these events, from
-- that world on.
abbrev pub IsAnswered : List Entry → World → List Event → Answer → Type 0
IsAnswered list w events a = AnswersRequest list a ⊎ AnswersQuery list w events a

-- The answer is the queue object's, over the committed list of a run.
abbrev pub IsOfTheObject : ℕ → List Event → Answer → Type 0
IsOfTheObject size events a = IsAnswered (committed size events) (first_world size) events a

-- Every answer that a run makes is the queue object's, over the committed list.
abbrev pub AnswersAreOfTheObject : Type 0
AnswersAreOfTheObject = (size : ℕ) (events : List Event) → 1 ≤ size → (a : Answer) → Among a (made size events) → IsOfTheObject size events a

-- Every answer that a run gives to the clients is one that it made.
abbrev pub GivenWereMade : Type 0
GivenWereMade = (size : ℕ) (events : List Event) (n : ℕ) (a : Answer) → Among (n, a) (given_from 1 (first_world size) events) → Among a (made size events)

-- ---- the committed list

-- The committed list is a prefix of the history of a head that lives.
abbrev pub CommittedIsOfTheHead : Type 0
CommittedIsOfTheHead = (size : ℕ) (events : List Event) (id : ℕ) → 1 ≤ size
    → is_in (world_after (first_world size) events).master.used id ≡ true → ((world_after (first_world size) events).server id).head ≡ true
    → ((world_after (first_world size) events).server id).down ≡ false → IsPrefix (committed size events) ((world_after (first_world size) events).server id).entries

-- It is a prefix of the history of each full server that lives.
abbrev pub CommittedIsOfFullServers : Type 0
CommittedIsOfFullServers = (size : ℕ) (events : List Event) (id : ℕ) → 1 ≤ size
    → is_in (world_after (first_world size) events).master.used id ≡ true → ((world_after (first_world size) events).server id).full ≡ true
    → ((world_after (first_world size) events).server id).down ≡ false → IsPrefix (committed size events) ((world_after (first_world size) events).server id).entries

-- The committed list only grows.
abbrev pub CommittedGrows : Type 0
CommittedGrows = (size : ℕ) (before more : List Event) → 1 ≤ size → IsPrefix (committed size before) (committed size (before ++ more))

-- a request that arrived, with the clock that it met
pub record Arrival : Type 0 where
  pub clock : ℕ
  pub request : Request

-- the arrival that an event is, where that is its refusal
abbrev pub arrival_if : Event → Option WorldFault → List Arrival
arrival_if (Arrive at clock request) None = record { clock = clock; request = request } ∷ []
arrival_if event refusal = []

-- the arrivals of these events that weren't refused
unfoldable pub arrivals_from : World → List Event → List Arrival
arrivals_from w [] = []
arrivals_from w (event ∷ events) = arrival_if event (refusal_of w event) ++ arrivals_from (after w event) events

-- The entries are requests of some of the arrivals, in order, each stamped with the larger of the clock that it
-- met and the moment of the entry before it, which is that one at first.
abbrev pub AreArrivals : ℕ → List Entry → List Arrival → Type 0
AreArrivals last [] arrivals = Unit {0}
AreArrivals last (e ∷ entries) [] = ⊥
AreArrivals last (e ∷ entries) (a ∷ arrivals) = ((e.request ≡ a.request) × (e.moment ≡ max a.clock last) × AreArrivals e.moment entries arrivals) ⊎ AreArrivals last (e ∷ entries) arrivals

-- The committed list holds requests that arrived, in order, and no others; its moments never fall.
abbrev pub CommittedIsOfArrivals : Type 0
CommittedIsOfArrivals = (size : ℕ) (events : List Event) → 1 ≤ size
    → AreArrivals 0 (committed size events) (arrivals_from (first_world size) events) × Stamped (committed size events)

-- ---- histories

-- What a message says of its sender's history: a forwarded entry stands at its place there, and a snapshot is a
-- prefix of it.
abbrev pub Speaks : List Entry → Message → Type 0
Speaks entries (Fwd place e) = (before rest : List Entry) × (entries ≡ before ++ (e ∷ rest)) × (length before + 1 ≡ place)
Speaks entries (Snap snapshot) = IsPrefix snapshot entries
Speaks entries m = Unit {0}

-- What is on its way from a server is of its history.
abbrev pub MessagesAreOfTheHistory : Type 0
MessagesAreOfTheHistory = (size : ℕ) (events : List Event) (id : ℕ) (to : Party) (m : Message) → 1 ≤ size
    → Among m (channel (world_after (first_world size) events) (parties.Server id) to) → Speaks ((world_after (first_world size) events).server id).entries m

-- The history of a server that has a predecessor is a prefix of the predecessor's.
abbrev pub HistoriesArePrefixes : Type 0
HistoriesArePrefixes = (size : ℕ) (events : List Event) (id p : ℕ) → 1 ≤ size → ((world_after (first_world size) events).server id).pred ≡ Some p
    → IsPrefix ((world_after (first_world size) events).server id).entries ((world_after (first_world size) events).server p).entries

-- Along the chain the history of each member is a prefix of that of each member before it.
abbrev pub HistoriesFallAlongTheChain : Type 0
HistoriesFallAlongTheChain = (size : ℕ) (events : List Event) (before between behind : List ℕ) (p s : ℕ) → 1 ≤ size
    → (world_after (first_world size) events).master.chain ≡ before ++ (p ∷ (between ++ (s ∷ behind)))
    → IsPrefix ((world_after (first_world size) events).server s).entries ((world_after (first_world size) events).server p).entries

-- ---- who acts

-- At most one server that lives acts as tail.
abbrev pub OneActs : Type 0
OneActs = (size : ℕ) (events : List Event) (id other : ℕ) → 1 ≤ size
    → ((world_after (first_world size) events).server id).down ≡ false → acts ((world_after (first_world size) events).server id) ≡ true
    → ((world_after (first_world size) events).server other).down ≡ false → acts ((world_after (first_world size) events).server other) ≡ true → id ≡ other

-- The lengths of the answers that are made never fall.
abbrev pub LengthsNeverFall : Type 0
LengthsNeverFall = (size : ℕ) (events : List Event) → 1 ≤ size → Pairwise (λ a b. a.length ≤ b.length) (made size events)

-- An entry that arrives after an answer was made is appended at a place above the answer's length.
abbrev pub LaterArrivalsStandAbove : Type 0
LaterArrivalsStandAbove = (size : ℕ) (before : List Event) (at clock : ℕ) (request : Request) (a : Answer) → 1 ≤ size
    → Among a (made size before) → refusal_of (world_after (first_world size) before) (Arrive at clock request) ≡ None
    → a.length ≤ length ((world_after (first_world size) before).server at).entries

-- A query that comes after an answer was made is answered with a length that is at least the answer's.
abbrev pub LaterQueriesSeeAsMuch : Type 0
LaterQueriesSeeAsMuch = (size : ℕ) (before : List Event) (at : ℕ) (query : Query) (a : Answer) → 1 ≤ size
    → Among a (made size before) → refusal_of (world_after (first_world size) before) (Ask at query) ≡ None
    → a.length ≤ (answer_to_query ((world_after (first_world size) before).server at).entries query).length

-- ---- servers that were dropped

-- The number was used, and its server is neither a member nor the one that joins.
abbrev pub IsOutOf : Master → ℕ → Type 0
IsOutOf m id = (is_in m.used id ≡ true) × (is_in m.chain id ≡ false) × (is_that m.joiner id ≡ false)

-- So it is in a world. Where such a server lives, it joined and was dropped, since a member leaves the chain only when it is
-- down.
abbrev pub IsOut : World → ℕ → Type 0
IsOut w id = IsOutOf w.master id

-- A server that was dropped while it joined is never a member and never joins again, and while it lives it isn't full and
-- doesn't act.
abbrev pub DroppedServersStayOut : Type 0
DroppedServersStayOut = (size : ℕ) (events more : List Event) (id : ℕ) → 1 ≤ size → IsOut (world_after (first_world size) events) id
    → IsOut (world_after (first_world size) (events ++ more)) id
    × (((world_after (first_world size) (events ++ more)).server id).down ≡ false
    → (((world_after (first_world size) (events ++ more)).server id).full ≡ false) × (acts ((world_after (first_world size) (events ++ more)).server id) ≡ false))

-- ---- the chain at rest

-- the party is the master, or a member of the chain
abbrev pub IsOfChain : World → Party → Type 0
IsOfChain w parties.Master = Unit {0}
IsOfChain w parties.Clients = ⊥
IsOfChain w (parties.Server id) = is_in w.master.chain id ≡ true

-- The chain is quiet: the master knows that the last member acts, and nothing is on its way between members, and between
-- them and the master.
pub record IsQuiet (w : World) : Type 0 where
  pub ready : w.master.ready ≡ true
  pub outboxes : (from to : Party) → IsOfChain w from → IsOfChain w to → w.outbox from to ≡ []
  pub links : (from to : Party) → IsOfChain w from → IsOfChain w to → w.link from to ≡ []

-- In a quiet chain all members have the same history.
abbrev pub QuietMembersAgree : Type 0
QuietMembersAgree = (size : ℕ) (events : List Event) (p s : ℕ) → 1 ≤ size → IsQuiet (world_after (first_world size) events)
    → is_in (world_after (first_world size) events).master.chain p ≡ true → is_in (world_after (first_world size) events).master.chain s ≡ true
    → ((world_after (first_world size) events).server p).entries ≡ ((world_after (first_world size) events).server s).entries

-- In a quiet chain the last member acts.
abbrev pub QuietTailActs : Type 0
QuietTailActs = (size : ℕ) (events : List Event) (id : ℕ) → 1 ≤ size → IsQuiet (world_after (first_world size) events)
    → is_last (world_after (first_world size) events).master.chain id ≡ true → acts ((world_after (first_world size) events).server id) ≡ true

-- ---- the laws of the queue object, on the committed list

-- it holds of each entry of the list, after those before it
abbrev pub AtEachPlace : (List Entry → Entry → Type 0) → List Entry → Type 0
AtEachPlace P list = (before rest : List Entry) (e : Entry) → list ≡ before ++ (e ∷ rest) → P before e

-- it holds of the committed list of every run
abbrev pub OfCommitted : (List Entry → Type 0) → Type 0
OfCommitted P = (size : ℕ) (events : List Event) → 1 ≤ size → P (committed size events)

-- ---- the headline

-- For one run: every answer is one queue object's over one growing list of requests; in each group first handings
-- are a prefix of the accepted sends, no message is handed while one of its group is in flight, nothing is handed
-- after its or its queue's deletion, and repeats within five minutes add nothing.
pub record Headline (size : ℕ) (events : List Event) : Type 0 where
  -- every answer is one queue object's
  pub answers : (a : Answer) → Among a (made size events) → IsOfTheObject size events a
  pub given : (n : ℕ) (a : Answer) → Among (n, a) (given_from 1 (first_world size) events) → IsOfTheObject size events a
  -- over one growing list
  pub grows : (before more : List Event) → events ≡ before ++ more → IsPrefix (committed size before) (committed size events)
  pub stamped : Stamped (committed size events)
  -- of requests
  pub arrivals : AreArrivals 0 (committed size events) (arrivals_from (first_world size) events)
  -- in each group first handings are a prefix of the accepted sends
  pub in_order : FirstHandingsInOrderIn (committed size events)
  -- only accepted messages are handed, and none while one of its group is in flight
  pub sent : AtEachPlace HandsWhatWasSentAt (committed size events)
  pub landed : AtEachPlace NoneInFlightAt (committed size events)
  -- nothing is handed after its or its queue's deletion
  pub deleted : AtEachPlace NoneDeletedAt (committed size events)
  pub removed : AtEachPlace NoneRemovedAt (committed size events)
  -- repeats within five minutes add nothing: of a deduplication id, and of a client's number
  pub windows : AtEachPlace OneAcceptancePerWindowAt (committed size events)
  pub once : FreshOnceIn (committed size events)
  pub repeats : AtEachPlace RepeatsAreAnsweredAt (committed size events)
  pub idle : AtEachPlace OthersDoNothingAt (committed size events)

-- The headline holds of every run.
abbrev pub HeadlineHolds : Type 0
HeadlineHolds = (size : ℕ) (events : List Event) → 1 ≤ size → Headline size events
