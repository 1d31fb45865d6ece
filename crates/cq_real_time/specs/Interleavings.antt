-- What the parties of a chain did, each by its own core, and one order in time of it all.
use Rattle.std.specs.Prelude.{◌≡◌, ◌<◌, ◌≤◌, ℕ, ◌+◌, ◌==◌, ◌&&◌, ◌||◌, not, List, [], ◌∷◌, ◌++◌, map, Bool, true, false, if◌then◌else◌, ◌⊎◌}
use Rattle.std.specs.List.{list_any}
use Rattle.cq_base.specs.declared.party.Party.{Party}
use Rattle.cq_base.specs.declared.party.Party.TheVariants as parties
use Rattle.cq_base.specs.Relations.{Among, IsPrefix}
use Rattle.cq_chain.specs.declared.master.Master as rust_master
use Rattle.cq_chain.specs.declared.message.Answer.{Answer}
use Rattle.cq_chain.specs.declared.message.Message as rust
use Rattle.cq_chain.specs.declared.message.Message.TheVariants as stored
use Rattle.cq_chain.specs.declared.server.Server as rust_server
use Rattle.cq_chain.specs.Masters.{Master, numbers_from, detected, joined, hears_from}
use Rattle.cq_chain.specs.Messages.{Message, Snap, Have, Adopted, Caught, Ready}
use Rattle.cq_chain.specs.Parties.{same}
use Rattle.cq_chain.specs.Servers.{Server}
use Rattle.cq_events.specs.Actions.{Action, Took, Detected, Joined, CoreState, StandsAs, IsMasterAs, event_of, put_to, taken_from}
use Rattle.cq_events.specs.Events.{another_full}
use Rattle.cq_events.specs.Orders.{of_party, AreEnabled}
use Rattle.cq_events.specs.Owners.{party_of}
use Rattle.cq_events.specs.Runs.{world_after}
use Rattle.cq_events.specs.Worlds.{World, first_world, is_in}
use Rattle.cq_events.specs.declared.event.Event.{Event}
use Rattle.cq_events.specs.declared.event.Event.TheVariants as events
use Rattle.cq_events.specs.Acts.{ServerActs, MasterActs}
use Rattle.cq_world.specs.Laws.{IsOfTheObject}

-- ---- what was done

-- By a server's core that stood for that these actions were done, and none of them was refused; or none were done.
abbrev pub ServerActed : Server → (Party → List Message) → List Action → Type 0
ServerActed s outbox actions = (actions ≡ []) ⊎ ((a b : CoreState rust_server.Server) × StandsAs a s outbox × ServerActs a actions b)

-- And by the master's.
abbrev pub MasterActed : Master → (Party → List Message) → List Action → Type 0
MasterActed m outbox actions = (actions ≡ []) ⊎ ((a b : CoreState rust_master.Master) × IsMasterAs a m outbox × MasterActs a actions b)

-- From that world on a party did this by its core, which refused none of it. Nothing that the clients do is an event.
abbrev pub Acted : World → Party → List Action → Type 0
Acted w (parties.Server id) actions = ServerActed (w.server id) (w.outbox (parties.Server id)) actions
Acted w parties.Master actions = MasterActed w.master (w.outbox parties.Master) actions
Acted w parties.Clients actions = actions ≡ []

-- ---- messages on links

-- how many messages an event puts on a link
abbrev pub put_once : Party → Party → Event → ℕ
put_once from to (events.Put a b) = if same from a && same to b then 1 else 0
put_once from to event = 0

-- and how many it takes from it
abbrev pub taken_once : Party → Party → Event → ℕ
taken_once from to (events.Take a b) = if same from a && same to b then 1 else 0
taken_once from to event = 0

-- the same of several events
abbrev pub puts_on : Party → Party → List Event → ℕ
puts_on from to [] = 0
puts_on from to (event ∷ order) = put_once from to event + puts_on from to order

abbrev pub takes_on : Party → Party → List Event → ℕ
takes_on from to [] = 0
takes_on from to (event ∷ order) = taken_once from to event + takes_on from to order

-- ---- where parties begin

-- A world in which parties may begin: events led to it from a first world of at least one server, no server is down in it, and
-- no link has a message. Messages may wait in outboxes.
pub record IsStart (start : World) : Type 0 where
  pub size : ℕ
  pub past : List Event
  pub some : 1 ≤ size
  pub reached : world_after (first_world size) past ≡ start
  pub lives : (id : ℕ) → (start.server id).down ≡ false
  pub links : (from to : Party) → start.link from to ≡ []

-- A first world is one, to which no events led. The master knows just the servers of its chain, and just these are full.
abbrev pub FirstWorldsAreStarts : Type 0
FirstWorldsAreStarts = (size : ℕ) → 1 ≤ size
    → (s : IsStart (first_world size)) × (s.size ≡ size) × (s.past ≡ [])
    × ((id : ℕ) → (is_in (first_world size).master.used id ≡ is_in (numbers_from 1 size) id) × (((first_world size).server id).full ≡ is_in (numbers_from 1 size) id))

-- ---- orders in time

-- One order in time of the events of all, from a world on.
pub record IsInTimeFrom (start : World) (actions : Party → List Action) (order : List Event) : Type 0 where
  -- the events of each party are what it did, by its own core
  pub each : (p : Party) → of_party p order ≡ map (event_of p) (actions p)
  pub acted : (p : Party) → Acted start p (actions p)
  -- what was taken from a link is what was put on it, in order, and each message was put before it was taken
  pub links : (from to : Party) → IsPrefix (taken_from from (actions to)) (put_to to (actions from))
  pub causes : (from to : Party) (before rest : List Event) → order ≡ before ++ (events.Take from to ∷ rest) → takes_on from to before < puts_on from to before
  -- a detection comes behind the crash of that server, and nothing of a server comes behind its crash
  pub detections : (id : ℕ) (before rest : List Event) → order ≡ before ++ (events.Detect id ∷ rest) → Among (events.Crash id) before
  pub silence : (id : ℕ) (before rest : List Event) (event : Event) → order ≡ before ++ (events.Crash id ∷ rest) → Among event rest → same (parties.Server id) (party_of event) ≡ false
  -- where a server crashes, another one is full and lives
  pub survivors : (id : ℕ) (before rest : List Event) → order ≡ before ++ (events.Crash id ∷ rest) → another_full (world_after start before) id ≡ true
  -- what a server does that the master didn't know at the start comes behind its join
  pub joins : (id : ℕ) (before rest : List Event) (event : Event) → order ≡ before ++ (event ∷ rest) → same (parties.Server id) (party_of event) ≡ true
      → (is_in start.master.used id ≡ true) ⊎ Among (events.Join id) before

-- The same from the first world of so many servers on: the master knows those of the first chain.
abbrev pub IsInTime : ℕ → (Party → List Action) → List Event → Type 0
IsInTime size actions order = IsInTimeFrom (first_world size) actions order

-- In an order in time each event is enabled, wherever the parties begin: it is a run of the world.
abbrev pub OrdersFromStartsAreRuns : Type 0
OrdersFromStartsAreRuns = (start : World) (actions : Party → List Action) (order : List Event) → IsStart start → IsInTimeFrom start actions order → AreEnabled start order

-- And each answer that a party put to the clients is one queue object's, over the committed list of all that happened: up to the
-- start, and in the order.
abbrev pub AnswersFromStartsAreOfOneObject : Type 0
AnswersFromStartsAreOfOneObject = (start : World) (actions : Party → List Action) (order : List Event) (s : IsStart start) → IsInTimeFrom start actions order
    → (from : Party) (a : Answer) → Among (stored.Answer a) (put_to parties.Clients (actions from)) → IsOfTheObject s.size (s.past ++ order) a

-- So it is from a first world on.
abbrev pub OrdersInTimeAreRuns : Type 0
OrdersInTimeAreRuns = (size : ℕ) (actions : Party → List Action) (order : List Event) → 1 ≤ size → IsInTime size actions order → AreEnabled (first_world size) order

-- ---- the master's log

-- what the master hears of a message as it is kept: it ignores all but four kinds, as it does an empty snapshot
abbrev pub heard : rust.Message → Message
heard (stored.Have pred count) = Have pred count
heard (stored.Adopted succ count) = Adopted succ count
heard (stored.Caught pred count) = Caught pred count
heard stored.Ready = Ready
heard x = Snap []

-- what the master knows after one more action
abbrev pub learned : Master → Action → Master
learned m (Took from x) = (hears_from from (heard x) m).master
learned m (Detected id) = (detected id m).master
learned m (Joined id) = (joined id m).master
learned m action = m

-- and after several
abbrev pub knows : Master → List Action → Master
knows m [] = m
knows m (action ∷ log) = knows (learned m action) log

-- the message says that its sender acts
abbrev pub is_ready : rust.Message → Bool
is_ready stored.Ready = true
is_ready x = false

-- the master takes such a message of that server
abbrev pub takes_ready : ℕ → Action → Bool
takes_ready id (Took from x) = same from (parties.Server id) && is_ready x
takes_ready id action = false

-- By what the master did so far a server is full: it was at the start, or its Ready was taken.
abbrev pub full_by_log : World → List Action → ℕ → Bool
full_by_log start log id = (start.server id).full || list_any (takes_ready id) log

-- another member is
abbrev pub another_full_by_log : World → List Action → ℕ → Bool
another_full_by_log start log id = list_any (λ other. not (other == id) && full_by_log start log other) (knows start.master log).chain

-- One order in time, from a world on, in which servers crash as the master's log says: a server crashes when it is detected, and a
-- crash that isn't detected is no event.
pub record IsByTheLogFrom (start : World) (actions : Party → List Action) (order : List Event) : Type 0 where
  -- the events of each party are what it did, by its own core
  pub each : (p : Party) → of_party p order ≡ map (event_of p) (actions p)
  pub acted : (p : Party) → Acted start p (actions p)
  -- what was taken from a link is what was put on it, in order, and each message was put before it was taken
  pub links : (from to : Party) → IsPrefix (taken_from from (actions to)) (put_to to (actions from))
  pub causes : (from to : Party) (before rest : List Event) → order ≡ before ++ (events.Take from to ∷ rest) → takes_on from to before < puts_on from to before
  -- a detection comes behind the crash of that server, each crash stands just before a detection, and nothing of a server
  -- comes behind its detection
  pub detections : (id : ℕ) (before rest : List Event) → order ≡ before ++ (events.Detect id ∷ rest) → Among (events.Crash id) before
  pub crashes : (id : ℕ) (before rest : List Event) → order ≡ before ++ (events.Crash id ∷ rest) → (later : List Event) × (rest ≡ events.Detect id ∷ later)
  pub silence : (id : ℕ) (before rest : List Event) (event : Event) → order ≡ before ++ (events.Detect id ∷ rest) → Among event rest → same (parties.Server id) (party_of event) ≡ false
  -- where the master detects a server, another member is full by what the master did before
  pub others : (id : ℕ) (log rest : List Action) → actions parties.Master ≡ log ++ (Detected id ∷ rest) → another_full_by_log start log id ≡ true
  -- what a server does that the master didn't know at the start comes behind its join
  pub joins : (id : ℕ) (before rest : List Event) (event : Event) → order ≡ before ++ (event ∷ rest) → same (parties.Server id) (party_of event) ≡ true
      → (is_in start.master.used id ≡ true) ⊎ Among (events.Join id) before

-- The same from the first world of so many servers on: those of the first chain are full.
abbrev pub IsByTheLog : ℕ → (Party → List Action) → List Event → Type 0
IsByTheLog size actions order = IsByTheLogFrom (first_world size) actions order

-- An order by the log is one in time, and so a run of the world, wherever the parties begin.
abbrev pub LogOrdersFromStartsAreRuns : Type 0
LogOrdersFromStartsAreRuns = (start : World) (actions : Party → List Action) (order : List Event) → IsStart start → IsByTheLogFrom start actions order
    → IsInTimeFrom start actions order × AreEnabled start order

-- So it is from a first world on.
abbrev pub OrdersByTheLogAreRuns : Type 0
OrdersByTheLogAreRuns = (size : ℕ) (actions : Party → List Action) (order : List Event) → 1 ≤ size → IsByTheLog size actions order
    → IsInTime size actions order × AreEnabled (first_world size) order
