-- What a live run promises, and what its nodes have to show for it.
use Rattle.std.specs.Prelude.{◌≡◌, ◌≤◌, ◌<◌, ℕ, ◌+◌, List, [], ◌∷◌, ◌++◌, map, length, slice_get, Bool, true, false, ◌&&◌, if◌then◌else◌, Some, ◌⊎◌}
use Rattle.cq_base.specs.declared.ask.Ask.{Ask}
use Rattle.cq_base.specs.declared.ask.Ask.TheVariants as asks
use Rattle.cq_base.specs.declared.ask.Query.{Query}
use Rattle.cq_base.specs.declared.ask.Request.{Request}
use Rattle.cq_base.specs.declared.party.Party.{Party}
use Rattle.cq_base.specs.declared.party.Party.TheVariants as parties
use Rattle.cq_base.specs.declared.reply.Reply.{Reply}
use Rattle.cq_base.specs.declared.reply.Reply.TheVariants as replies
use Rattle.cq_base.specs.Relations.{Among, Pairwise}
use Rattle.cq_chain.specs.declared.message.Answer.{Answer}
use Rattle.cq_chain.specs.declared.message.Message.{Message}
use Rattle.cq_chain.specs.declared.message.Message.TheVariants as stored
use Rattle.cq_chain.specs.Parties.{same}
use Rattle.cq_nodes.specs.ClientMoves.{IsAskOf}
use Rattle.cq_trace.specs.Audits.{IsMerge}
use Rattle.cq_events.specs.Actions.{Action, Arrived, Asked, Crashed, Joined, event_of, put_to, AreActions, IsOrder}
use Rattle.cq_events.specs.Orders.{AreEnabled}
use Rattle.cq_events.specs.declared.trace.Trace.{Trace}
use Rattle.cq_events.specs.Runs.{world_after, given_from}
use Rattle.cq_events.specs.Worlds.{first_world}
use Rattle.cq_events.specs.declared.event.Event.{Event}
use Rattle.cq_events.specs.declared.event.Event.TheVariants as events

-- What a live run is to do: what each client asks, which servers crash, each with the number of entries from which on it
-- does, and which servers join.
pub record Plan : Type 0 where
  pub asks : ℕ → List Ask
  pub crashes : List (ℕ × ℕ)
  pub joins : List ℕ

-- the clients of a live run
abbrev pub IsClientId : ℕ → Type 0
IsClientId c = (c ≡ 1) ⊎ (c ≡ 2)

abbrev pub is_send : Ask → Bool
is_send (asks.Send queue group dedup body) = true
is_send ask = false

abbrev pub is_sent : Reply → Bool
is_sent (replies.Sent sequence) = true
is_sent reply = false

-- how many of the asks are sends that were closed by `Sent`
abbrev pub sends_closed : List Ask → List Answer → ℕ
sends_closed [] answers = 0
sends_closed (ask ∷ asks) [] = 0
sends_closed (ask ∷ asks) (a ∷ answers) = (if is_send ask && is_sent a.reply then 1 else 0) + sends_closed asks answers

-- ---- what nodes show

-- The answer closed a client's ask at that place: the client took it, as the answer to the request of the ask's number.
pub record Closed (c place : ℕ) (taken : List Message) (answer : Answer) : Type 0 where
  pub took : Among (stored.Answer answer) taken
  pub client : answer.client ≡ c
  pub number : answer.number ≡ place + 1
  pub no_query : answer.is_query ≡ false

-- What a client put into inboxes, took from its links, and closed its asks by.
pub record IsClient (c : ℕ) (asks : List Ask) (put : List Request) (taken : List Message) (closed : List Answer) : Type 0 where
  -- it put only its asks
  pub asked : (request : Request) → Among request put → IsAskOf c asks request
  pub closed_by : (place : ℕ) (answer : Answer) → slice_get closed place ≡ Some answer → Closed c place taken answer
  -- each answer is longer than those before
  pub rising : Pairwise (λ a b. a.length < b.length) closed

-- a server crashed where the plan says so, or found no memory
abbrev pub MayCrash : Plan → List ℕ → ℕ → ℕ → Type 0
MayCrash plan starved id count = ((least : ℕ) × Among (id, least) plan.crashes × (least ≤ count)) ⊎ Among id starved

-- What nodes show together: what was put and taken on links and in inboxes is known of both of their ends.
pub record AreNodes (plan : Plan) (size : ℕ) (actions : Party → List Action) (put : ℕ → List Request) (taken : ℕ → List Message) (closed : ℕ → List Answer) (starved : List ℕ) : Type 0 where
  pub done : AreActions size actions
  -- no query comes to a server
  pub silent : (p : Party) (query : Query) → Among (Asked query) (actions p) → ⊥
  -- what arrives at a server was put into its inbox by a client
  pub arrivals : (p : Party) (clock : ℕ) (request : Request) → Among (Arrived clock request) (actions p) → (c : ℕ) × IsClientId c × Among request (put c)
  -- what a client took was put by a server
  pub links : (c : ℕ) (m : Message) → IsClientId c → Among m (taken c) → (p : Party) × Among m (put_to parties.Clients (actions p))
  pub clients : (c : ℕ) → IsClientId c → IsClient c (plan.asks c) (put c) (taken c) (closed c)
  pub crashes : (id count : ℕ) → Among (Crashed count) (actions (parties.Server id)) → MayCrash plan starved id count
  pub joins : (id : ℕ) → Among (Joined id) (actions parties.Master) → Among id plan.joins
  -- a server that found no memory crashed
  pub starved_crash : (id : ℕ) → Among id starved → (count : ℕ) × Among (Crashed count) (actions (parties.Server id))

-- ---- what is promised

-- The run gives that answer, to the request of that client and number.
pub record IsGivenTo (size : ℕ) (order : List Event) (client number : ℕ) (a : Answer) : Type 0 where
  pub event : ℕ
  pub given : Among (event, a) (given_from 1 (first_world size) order)
  pub its_client : a.client ≡ client
  pub its_number : a.number ≡ number
  pub no_query : a.is_query ≡ false

-- An order of what was done, by a plan: the run of it gives the answers that closed the clients' asks.
pub record IsLive (plan : Plan) (size : ℕ) (order : List Event) (closed : ℕ → List Answer) (accepted : ℕ) (starved : List ℕ) : Type 0 where
  pub enabled : AreEnabled (first_world size) order
  pub no_query : (at : ℕ) (query : Query) → Among (events.Ask at query) order → ⊥
  -- each request that arrives is a client's ask
  pub arrivals : (at clock : ℕ) (request : Request) → Among (events.Arrive at clock request) order → (c : ℕ) × IsClientId c × IsAskOf c (plan.asks c) request
  -- each ask was closed by an answer that the run gives, to that client's request of that number
  pub closed_asks : (c place : ℕ) (ask : Ask) → IsClientId c → slice_get (plan.asks c) place ≡ Some ask
      → (a : Answer) × (slice_get (closed c) place ≡ Some a) × IsGivenTo size order c (place + 1) a
  pub rising : (c : ℕ) → IsClientId c → Pairwise (λ a b. a.length < b.length) (closed c)
  pub sends : accepted ≡ sends_closed (plan.asks 1) (closed 1) + sends_closed (plan.asks 2) (closed 2)
  pub crashes : (before rest : List Event) (id : ℕ) → order ≡ before ++ (events.Crash id ∷ rest) → MayCrash plan starved id (length ((world_after (first_world size) before).server id).entries)
  pub joins : (id : ℕ) → Among (events.Join id) order → Among id plan.joins
  -- each server that found no memory crashes
  pub starved_crash : (id : ℕ) → Among id starved → Among (events.Crash id) order

-- What nodes show, with an order of what they did and all asks closed, is what is promised.
abbrev pub NodesLive : Type 0
NodesLive = (plan : Plan) (size : ℕ) (actions : Party → List Action) (put : ℕ → List Request) (taken : ℕ → List Message) (closed : ℕ → List Answer) (starved : List ℕ) (order : List Event) (accepted : ℕ)
    → AreNodes plan size actions put taken closed starved → IsOrder size actions order → ((c : ℕ) → IsClientId c → length (closed c) ≡ length (plan.asks c))
    → accepted ≡ sends_closed (plan.asks 1) (closed 1) + sends_closed (plan.asks 2) (closed 2) → IsLive plan size order closed accepted starved

-- ---- the traces of nodes

-- What the node of a party did.
pub record Life : Type 0 where
  pub party : Party
  pub actions : List Action

-- what a party did; nothing where it has no node
abbrev pub actions_of : List Life → Party → List Action
actions_of [] p = []
actions_of (life ∷ lives) p = if same p life.party then life.actions else actions_of lives p

-- each trace is that of the life at its place
abbrev pub AreTraces : List Trace → List Life → Type 0
AreTraces [] [] = Unit {0}
AreTraces [] (life ∷ lives) = ⊥
AreTraces (trace ∷ traces) [] = ⊥
AreTraces (trace ∷ traces) (life ∷ lives) = (trace.party ≡ life.party) × (trace.events.items ≡ map (event_of life.party) life.actions) × AreTraces traces lives

-- What an audit answers to the traces of nodes is an order of what they did.
abbrev pub AuditsOrder : Type 0
AuditsOrder = (size : ℕ) (traces : List Trace) (lives : List Life) (order : List Event) → AreTraces traces lives → IsMerge size traces order → IsOrder size (actions_of lives) order
