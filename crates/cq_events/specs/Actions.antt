-- What parties did, each by its own core and with the messages that it put and took, and what an order of their events
-- says of it.
use Rattle.std.specs.Prelude.{◌≡◌, ℕ, length, List, [], ◌∷◌, ◌++◌, map, drop, if◌then◌else◌, Option, None, Some, ◌⊎◌}
use Rattle.cq_base.specs.declared.ask.Query.{Query}
use Rattle.cq_base.specs.declared.ask.Request.{Request}
use Rattle.cq_base.specs.declared.party.Party.{Party}
use Rattle.cq_base.specs.declared.party.Party.TheVariants as parties
use Rattle.cq_base.specs.Relations.{Among, IsPrefix}
use Rattle.cq_chain.specs.declared.master.Master as rust_master
use Rattle.cq_chain.specs.declared.message.Answer.{Answer}
use Rattle.cq_chain.specs.declared.message.Message as rust
use Rattle.cq_chain.specs.declared.message.Message.TheVariants as stored
use Rattle.cq_chain.specs.declared.server.Server as rust_server
use Rattle.cq_chain.specs.Masters.{Master, Order, detected, joined, hears_from}
use Rattle.cq_chain.specs.Messages.{Message}
use Rattle.cq_chain.specs.Parties.{same}
use Rattle.cq_chain.specs.Servers.{Server}
use Rattle.cq_chain.specs.Stands as chain
use Rattle.cq_chain.specs.Stands.{Means, AllMean, IsFirst, posted, drained}
use Rattle.cq_chain.specs.Steps.{Step, arrived, asked, takes, crashed}
use Rattle.cq_events.specs.Orders.{of_party, AreEnabled, put_by}
use Rattle.cq_events.specs.Runs.{world_after, given_from}
use Rattle.cq_events.specs.Worlds.{World, first_world}
use Rattle.cq_events.specs.declared.event.Event.{Event}
use Rattle.cq_events.specs.declared.event.Event.TheVariants as events

-- ---- actions

-- One thing that a party did. A message is told as it is kept, and as it went through the link.
pub data Action : Type 0 where
  Arrived : ℕ → Request → Action
  Asked : Query → Action
  Put : Party → rust.Message → Action
  Took : Party → rust.Message → Action
  -- the server had so many entries then
  Crashed : ℕ → Action
  Detected : ℕ → Action
  Joined : ℕ → Action

-- the number of a server; other parties have none
abbrev pub number_of : Party → ℕ
number_of (parties.Server id) = id
number_of parties.Master = 0
number_of parties.Clients = 0

-- the event that a party's action is
abbrev pub event_of : Party → Action → Event
event_of p (Arrived clock request) = events.Arrive (number_of p) clock request
event_of p (Asked query) = events.Ask (number_of p) query
event_of p (Put to x) = events.Put p to
event_of p (Took from x) = events.Take from p
event_of p (Crashed count) = events.Crash (number_of p)
event_of p (Detected id) = events.Detect id
event_of p (Joined id) = events.Join id

-- what an action puts on the link to a party
abbrev pub put_in : Party → Action → List rust.Message
put_in to (Put other x) = if same to other then x ∷ [] else []
put_in to action = []

-- what it takes from the link from one
abbrev pub taken_in : Party → Action → List rust.Message
taken_in from (Took other x) = if same from other then x ∷ [] else []
taken_in from action = []

-- what actions put on the link to a party, in order
abbrev pub put_to : Party → List Action → List rust.Message
put_to to [] = []
put_to to (action ∷ actions) = put_in to action ++ put_to to actions

-- what they take from the link from one, in order
abbrev pub taken_from : Party → List Action → List rust.Message
taken_from from [] = []
taken_from from (action ∷ actions) = taken_in from action ++ taken_from from actions

-- ---- remaining

-- A core, and the message for each party that left its outbox and that a full link handed back, if there is one.
pub record CoreState (C : Type 0) : Type 0 where
  pub core : C
  pub back : Party → Option rust.Message

-- what still waits in an outbox of which that message, if there is one, has left as the first
abbrev pub behind : Option rust.Message → List Message → List Message
behind None ms = ms
behind (Some x) ms = drop 1 ms

-- that message, if there is one, stands for the first of these
abbrev pub Heads : Option rust.Message → List Message → Type 0
Heads None ms = Unit {0}
Heads (Some x) ms = IsFirst (Some x) ms

-- A server's core, with what was handed back, stands for a state and for what waits for each party. A message that was
-- handed back is the first that waits.
abbrev pub StandsAs : CoreState rust_server.Server → Server → (Party → List Message) → Type 0
StandsAs a s outbox = chain.StandsFor a.core s (λ to. behind (a.back to) (outbox to)) × ((to : Party) → Heads (a.back to) (outbox to))

-- so does the master's
abbrev pub IsMasterAs : CoreState rust_master.Master → Master → (Party → List Message) → Type 0
IsMasterAs a m outbox = chain.MasterStandsFor a.core m (λ to. behind (a.back to) (outbox to)) × ((to : Party) → Heads (a.back to) (outbox to))

-- what stands now stands for all that the other stood for
abbrev pub Keeps : {A S : Type 0} → (A → S → (Party → List Message) → Type 0) → A → A → Type 0
Keeps {A} {S} stands a b = (s : S) (outbox : Party → List Message) → stands a s outbox → stands b s outbox

-- The first message for a party is put on its link.
abbrev pub Puts : {A S : Type 0} → (A → S → (Party → List Message) → Type 0) → Party → rust.Message → A → A → Type 0
Puts {A} {S} stands to x a b = (s : S) (outbox : Party → List Message) → stands a s outbox → IsFirst (Some x) (outbox to) × stands b s (drained outbox to)

-- whatever the server stood for, it now stands for that after a step
abbrev pub Steps : CoreState rust_server.Server → CoreState rust_server.Server → (Server → Step) → Type 0
Steps a b step = (s : Server) (outbox : Party → List Message) → StandsAs a s outbox → StandsAs b (step s).server (posted outbox (step s).sent)

-- whatever the master stood for, it now stands for that after an order
abbrev pub Orders : CoreState rust_master.Master → CoreState rust_master.Master → (Master → Order) → Type 0
Orders a b order = (m : Master) (outbox : Party → List Message) → IsMasterAs a m outbox → IsMasterAs b (order m).master (posted outbox (order m).said)

-- A server's core does that. What it takes may stand for many messages, and it does so for each of them. A server detects
-- nothing and joins nobody.
abbrev pub Does : Action → CoreState rust_server.Server → CoreState rust_server.Server → Type 0
Does (Arrived clock request) a b = Steps a b (arrived clock request)
Does (Asked query) a b = Steps a b (asked query)
Does (Put to x) a b = Puts StandsAs to x a b
Does (Took from x) a b = (m : Message) → Means x m → Steps a b (takes from m)
Does (Crashed count) a b = Steps a b crashed × ((s : Server) (outbox : Party → List Message) → StandsAs a s outbox → length s.entries ≡ count)
Does (Detected id) a b = ⊥
Does (Joined id) a b = ⊥

-- The master's core does that. No request or query comes to it, and it doesn't crash.
abbrev pub DoesMaster : Action → CoreState rust_master.Master → CoreState rust_master.Master → Type 0
DoesMaster (Put to x) a b = Puts IsMasterAs to x a b
DoesMaster (Took from x) a b = (m : Message) → Means x m → Orders a b (hears_from from m)
DoesMaster (Detected id) a b = Orders a b (detected id)
DoesMaster (Joined id) a b = Orders a b (joined id)
DoesMaster (Arrived clock request) a b = ⊥
DoesMaster (Asked query) a b = ⊥
DoesMaster (Crashed count) a b = ⊥

-- Actions one after another, from one remaining to another.
abbrev pub Run : {A : Type 0} → (Action → A → A → Type 0) → (A → A → Type 0) → A → List Action → A → Type 0
Run does keeps a [] b = keeps a b
Run {A} does keeps a (action ∷ actions) b = (mid : A) × does action a mid × Run does keeps mid actions b

-- of a server
abbrev pub ServerRun : CoreState rust_server.Server → List Action → CoreState rust_server.Server → Type 0
ServerRun a actions b = Run Does (Keeps StandsAs) a actions b

-- of the master
abbrev pub MasterRun : CoreState rust_master.Master → List Action → CoreState rust_master.Master → Type 0
MasterRun a actions b = Run DoesMaster (Keeps IsMasterAs) a actions b

-- ---- agreement

-- by a server's core that stood for that these actions were done, or none were
abbrev pub ServerLives : Server → (Party → List Message) → List Action → Type 0
ServerLives s outbox actions = (actions ≡ []) ⊎ ((a b : CoreState rust_server.Server) × StandsAs a s outbox × ServerRun a actions b)

-- and by the master's
abbrev pub MasterLives : Master → (Party → List Message) → List Action → Type 0
MasterLives m outbox actions = (actions ≡ []) ⊎ ((a b : CoreState rust_master.Master) × IsMasterAs a m outbox × MasterRun a actions b)

-- From that world on a party did this by its core. Nothing that the clients do is an event.
abbrev pub Lived : World → Party → List Action → Type 0
Lived w (parties.Server id) actions = ServerLives (w.server id) (w.outbox (parties.Server id)) actions
Lived w parties.Master actions = MasterLives w.master (w.outbox parties.Master) actions
Lived w parties.Clients actions = actions ≡ []

-- What parties did, each from the first world on by its own core, over links that hand over in order what was put: what
-- was taken from a link is a prefix of what was put on it.
pub record AreActions (size : ℕ) (actions : Party → List Action) : Type 0 where
  pub lived : (p : Party) → Lived (first_world size) p (actions p)
  pub links : (from to : Party) → IsPrefix (taken_from from (actions to)) (put_to to (actions from))

-- One order of the events of all, in which each is enabled: those of each party are what it did.
pub record IsOrder (size : ℕ) (actions : Party → List Action) (order : List Event) : Type 0 where
  pub enabled : AreEnabled (first_world size) order
  pub each : (p : Party) → of_party p order ≡ map (event_of p) (actions p)

-- The run of that order is what they did.
pub record IsWhatTheyDid (size : ℕ) (actions : Party → List Action) (order : List Event) : Type 0 where
  -- it puts on each link, and to the clients, just the messages that the parties put
  pub links : (from to : Party) → AllMean (put_to to (actions from)) (put_by (first_world size) order from to)
  -- each answer that it gives is one that a party put to the clients
  pub given : (n : ℕ) (a : Answer) → Among (n, a) (given_from 1 (first_world size) order) → (from : Party) × Among (stored.Answer a) (put_to parties.Clients (actions from))
  -- and each answer that a party put to the clients is given
  pub heard : (from : Party) (a : Answer) → Among (stored.Answer a) (put_to parties.Clients (actions from)) → (n : ℕ) × Among (n, a) (given_from 1 (first_world size) order)
  -- a server that crashes in it has as many entries as it had when it crashed
  pub crashes : (before rest : List Event) (id : ℕ) → order ≡ before ++ (events.Crash id ∷ rest) → Among (Crashed (length ((world_after (first_world size) before).server id).entries)) (actions (parties.Server id))

-- Every such order is what the parties did.
abbrev pub OrdersAgree : Type 0
OrdersAgree = (size : ℕ) (actions : Party → List Action) (order : List Event) → AreActions size actions → IsOrder size actions order → IsWhatTheyDid size actions order
