-- What is known of the nodes of a live run once it has ended, and what they show for it.
use Rattle.std.specs.Prelude.{◌≡◌, ◌≤◌, ◌==◌, ◌⊎◌, ℕ, ◌+◌, List, ◌∷◌, length, map, slice_get, true, if◌then◌else◌, Some}
use Rattle.std.specs.List.{flat_map}
use Rattle.cq_base.specs.declared.ask.Request.{Request}
use Rattle.cq_base.specs.declared.party.Party.{Party}
use Rattle.cq_base.specs.declared.party.Party.TheVariants as parties
use Rattle.cq_base.specs.Relations.{Among, IsPrefix}
use Rattle.cq_chain.specs.declared.message.Answer.{Answer}
use Rattle.cq_chain.specs.declared.message.Message.{Message}
use Rattle.cq_link.specs.declared.inbox.InPut.{InPut}
use Rattle.cq_link.specs.declared.inbox.InTake.{InTake}
use Rattle.cq_link.specs.declared.link.Putter.{Putter}
use Rattle.cq_link.specs.declared.link.Taker.{Taker}
use Rattle.cq_link.specs.Clients.{AreOfBoth, requests_in}
use Rattle.cq_link.specs.Inboxes.{put_in}
use Rattle.cq_link.specs.Links.{put_on, taken_from}
use Rattle.cq_live_plan.specs.declared.joins.Join.{Join}
use Rattle.cq_nodes.specs.declared.master_node.MasterEnds.{MasterEnds}
use Rattle.cq_nodes.specs.declared.server_ends.ServerParts.{ServerParts}
use Rattle.cq_nodes.specs.ClientNodes.{ClientHeld, ClientDid}
use Rattle.cq_nodes.specs.Ends.{ends_of, in_ends_of, unread_in}
use Rattle.cq_nodes.specs.FreshLinks.{Ends}
use Rattle.cq_live.specs.Lives.{Life, AreNodes, AreTraces, actions_of}
use Rattle.cq_nodes.specs.MasterNodes.{MasterLived}
use Rattle.cq_nodes.specs.Nodes.{Tells, HasRead, held_in}
use Rattle.cq_live.specs.Plans.{plan_of}
use Rattle.cq_live_plan.specs.declared.step.LiveStep.{LiveStep}
use Rattle.cq_live_plan.specs.Steps.{asks_of, crash_of, joiners_of}
use Rattle.cq_events.specs.declared.trace.Trace.{Trace}
use Rattle.cq_events.specs.declared.event.Event.{Event}

-- What the nodes of a live run handed out: the master's, with the ends that it has of a link to itself, those of the
-- servers in the order of their numbers, and what callers see of those of the two clients.
pub record Nodes (P T I Q : Type 0) : Type 0 where
  pub master : MasterEnds P T
  pub own_out : P
  pub own_in : T
  pub servers : List (ServerParts P T I)
  pub first : ClientHeld Q T
  pub second : ClientHeld Q T

-- a server's ends towards each party and from each: the master at place 0, and each server at its number
abbrev pub server_row : {P T I : Type 0} → ServerParts P T I → Ends P T
server_row parts = record { outs = ends_of parts.outs.items; ins = in_ends_of parts.ins.items }

-- whose trace it is, and the events of it
abbrev pub events_in : Trace → Party × List Event
events_in trace = (trace.party, trace.events.items)

-- what a server's trace has to tell
abbrev pub server_events : {P T I : Type 0} → ServerParts P T I → Party × List Event
server_events parts = (parties.Server parts.id, parts.trace.items)

module _ {P T I Q : Type 0} where
  -- ---- the ends of the master and of the servers

  -- the master's ends, at the same places
  abbrev pub master_row : Nodes P T I Q → Ends P T
  master_row nodes = record { outs = nodes.own_out ∷ ends_of nodes.master.outs.items; ins = nodes.own_in ∷ in_ends_of nodes.master.ins.items }

  -- those of each party, in the same order
  abbrev pub rows : Nodes P T I Q → List (Ends P T)
  rows nodes = master_row nodes ∷ map server_row nodes.servers

  -- ---- the clients

  abbrev pub client_of : Nodes P T I Q → ℕ → ClientHeld Q T
  client_of nodes c = if c == 1 then nodes.first else nodes.second

  -- the answers that closed a client's asks, in order
  abbrev pub closed_of : Nodes P T I Q → ℕ → List Answer
  closed_of nodes c = (client_of nodes c).closed

  -- ---- the traces

  -- what they have to tell, in the order of the parties
  abbrev pub events_of : Nodes P T I Q → List (Party × List Event)
  events_of nodes = (parties.Master, nodes.master.trace.items) ∷ map server_events nodes.servers

  -- the traces are those of the parties, in the same order
  abbrev pub AreOf : List Trace → Nodes P T I Q → Type 0
  AreOf traces nodes = map events_in traces ≡ events_of nodes

-- for each two parties, what was taken by the second from the first is a prefix of what the first put
abbrev pub HaveDelivered : {P T : Type 0} → (P → List Message) → (T → List Message) → List (Ends P T) → Type 0
HaveDelivered {P} {T} put taken rows = (i j : ℕ) (a b : Ends P T) (out : P) (end : T) → slice_get rows i ≡ Some a → slice_get rows j ≡ Some b
    → slice_get a.outs j ≡ Some out → slice_get b.ins i ≡ Some end → IsPrefix (taken end) (put out)

module _ {P T I Q : Type 0} where
  -- so many servers, and an end of each link at each node
  pub record AreWhole (count : ℕ) (nodes : Nodes P T I Q) : Type 0 where
    pub servers : length nodes.servers ≡ count
    pub master_outs : length nodes.master.outs.items ≡ count
    pub master_ins : length nodes.master.ins.items ≡ count
    pub server_outs : (i : ℕ) (s : ServerParts P T I) → slice_get nodes.servers i ≡ Some s → length s.outs.items ≡ count + 1
    pub server_ins : (i : ℕ) (s : ServerParts P T I) → slice_get nodes.servers i ≡ Some s → length s.ins.items ≡ count + 1
    pub first_outs : length nodes.first.outs ≡ count
    pub first_ins : length nodes.first.ins ≡ count
    pub second_outs : length nodes.second.outs ≡ count
    pub second_ins : length nodes.second.ins ≡ count

-- A server's node was made for the server of that number by the steps, and tells what it did.
pub record IsServer {P T I : Type 0} (put : P → List Message) (taken : T → List Message) (got : I → List Request) (members : ℕ) (steps : List LiveStep) (number : ℕ) (s : ServerParts P T I) : Type 0 where
  pub size : s.size ≡ members
  pub id : s.id ≡ number
  pub crash_after : s.crash_after ≡ crash_of number steps
  pub tells : Tells put taken got s
  -- it read all that it took, but for one message where it found no memory
  pub read : HasRead (held_in s)

-- The master lived, and lets only servers join that the steps let join.
pub record IsMaster {P T : Type 0} (put : P → List Message) (taken : T → List Message) (size : ℕ) (steps : List LiveStep) (master : MasterEnds P T) : Type 0 where
  pub joins : List Join
  pub lived : MasterLived put taken size joins master.outs.items master.ins.items master.trace.items
  pub planned : (join : Join) → Among join joins → Among join.server (joiners_of steps)
  -- it read all that it took, but for one message
  pub read : unread_in master.ins.items ≤ 1

-- A client's node was made for the client of that id by the steps, and did what such a node does.
pub record IsClientNode {Q T : Type 0} (asked : Q → List Request) (taken : T → List Message) (steps : List LiveStep) (number : ℕ) (client : ClientHeld Q T) : Type 0 where
  pub id : client.id ≡ number
  pub asks : client.asks ≡ asks_of number steps
  pub did : ClientDid asked taken client

module _ {P T I Q : Type 0} (put : P → List Message) (taken : T → List Message) (got : I → List Request) (asked : Q → List Request) where
  -- For each server: what a client took from its link is a prefix of what the server put, and of the requests that came from
  -- its inbox those of each client are a prefix of what that client put there.
  pub record HaveServed (nodes : Nodes P T I Q) : Type 0 where
    pub to_first : (i : ℕ) (s : ServerParts P T I) (end : T) → slice_get nodes.servers i ≡ Some s → slice_get nodes.first.ins i ≡ Some end → IsPrefix (taken end) (put s.clients.first)
    pub to_second : (i : ℕ) (s : ServerParts P T I) (end : T) → slice_get nodes.servers i ≡ Some s → slice_get nodes.second.ins i ≡ Some end → IsPrefix (taken end) (put s.clients.second)
    pub requests : (i : ℕ) (s : ServerParts P T I) (one two : Q) → slice_get nodes.servers i ≡ Some s → slice_get nodes.first.outs i ≡ Some one → slice_get nodes.second.outs i ≡ Some two → AreOfBoth (got s.inbox) (asked one) (asked two)

  -- What is known of the nodes of a live run of the steps, with so many servers, once all have ended and all links and
  -- inboxes are settled. The servers that found no memory are those of the last list.
  pub record HaveEnded (count size : ℕ) (steps : List LiveStep) (nodes : Nodes P T I Q) (starved : List ℕ) : Type 0 where
    pub whole : AreWhole count nodes
    pub master : IsMaster put taken size steps nodes.master
    pub servers : (i : ℕ) (s : ServerParts P T I) → slice_get nodes.servers i ≡ Some s → IsServer put taken got size steps (i + 1) s
    pub first : IsClientNode asked taken steps 1 nodes.first
    pub second : IsClientNode asked taken steps 2 nodes.second
    pub delivered : HaveDelivered put taken (rows nodes)
    pub served : HaveServed nodes
    pub noted : (i : ℕ) (s : ServerParts P T I) → slice_get nodes.servers i ≡ Some s → s.starved ≡ true → Among s.id starved
    pub named : (id : ℕ) → Among id starved → (i : ℕ) × (s : ServerParts P T I) × (slice_get nodes.servers i ≡ Some s) × (s.id ≡ id) × (s.starved ≡ true)

-- what a client put on all its ends, one after another
abbrev pub put_by : {P T I Q : Type 0} → (Q → List Request) → Nodes P T I Q → ℕ → List Request
put_by asked nodes c = flat_map asked (client_of nodes c).outs

-- and what it took from all
abbrev pub taken_by : {P T I Q : Type 0} → (T → List Message) → Nodes P T I Q → ℕ → List Message
taken_by taken nodes c = flat_map taken (client_of nodes c).ins

-- There is what each node did, as the traces tell it, and together the nodes show it.
pub record Show {P T I Q : Type 0} (taken : T → List Message) (asked : Q → List Request) (size : ℕ) (steps : List LiveStep) (nodes : Nodes P T I Q) (starved : List ℕ) (traces : List Trace) : Type 0 where
  pub lives : List Life
  pub shown : AreNodes (plan_of steps) size (actions_of lives) (put_by asked nodes) (taken_by taken nodes) (closed_of nodes) starved
  pub told : AreTraces traces lives

-- The nodes of a live run that has ended show what is wanted of nodes.
abbrev pub Shows : Type 0
Shows = (count size : ℕ) (steps : List LiveStep) (nodes : Nodes (Putter Message) (Taker Message) (InTake Request) (InPut Request)) (starved : List ℕ) (traces : List Trace)
    → HaveEnded put_on taken_from requests_in put_in count size steps nodes starved → AreOf traces nodes → Show taken_from put_in size steps nodes starved traces
