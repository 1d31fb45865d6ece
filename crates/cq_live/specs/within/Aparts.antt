-- What nodes that are finished leave behind.
use Rattle.std.specs.Prelude.{◌≡◌, ℕ, List, [], ◌∷◌, ◌++◌, map, slice_get, Bool, true, if◌then◌else◌, Some}
use Rattle.cq_base.specs.declared.ask.Request.{Request}
use Rattle.cq_base.specs.declared.party.Party.TheVariants as parties
use Rattle.cq_base.specs.Relations.{Among}
use Rattle.cq_chain.specs.declared.message.Answer.{Answer}
use Rattle.cq_chain.specs.declared.message.Message.{Message}
use Rattle.cq_link.specs.declared.inbox.InPut.{InPut}
use Rattle.cq_link.specs.declared.inbox.InTake.{InTake}
use Rattle.cq_link.specs.declared.link.Putter.{Putter}
use Rattle.cq_link.specs.declared.link.Taker.{Taker}
use Rattle.cq_link.specs.Inboxes.{put_in}
use Rattle.cq_link.specs.Links.{put_on, taken_from}
use Rattle.cq_nodes.specs.ClientNodes.{ClientHeld, ClientDid}
use Rattle.cq_nodes.specs.Ends.{ends_of, in_ends_of, unread_in}
use Rattle.cq_nodes.specs.MasterNodes.{MasterLived}
use Rattle.cq_nodes.specs.MasterNodes as masters
use Rattle.cq_nodes.specs.Nodes.{Held, held_in, Tells}
use Rattle.cq_nodes.specs.declared.master_node.MasterEnds.{MasterEnds}
use Rattle.cq_nodes.specs.declared.server_ends.ServerParts.{ServerParts}
use Rattle.cq_link.specs.Clients.{requests_in}
use Rattle.cq_link.specs.declared.clients.ClientPorts.{ClientPorts}
use Rattle.cq_live.specs.declared.apart.Apart.{Apart}

-- ---- nodes between ends of links and inboxes

-- what callers see of a server's node
abbrev pub Server : Type 0
Server = Held (Putter Message) (Taker Message) (InTake Request)

-- what it hands out at its end
abbrev pub Parts : Type 0
Parts = ServerParts (Putter Message) (Taker Message) (InTake Request)

-- what callers see of the master's node
abbrev pub Master : Type 0
Master = masters.Held (Putter Message) (Taker Message)

-- what is left of it
abbrev pub Ends : Type 0
Ends = MasterEnds (Putter Message) (Taker Message)

-- what callers see of a client's node
abbrev pub Client : Type 0
Client = ClientHeld (InPut Request) (Taker Message)

-- the two ends of a party's link to itself
abbrev pub Own : Type 0
Own = Putter Message × Taker Message

-- ---- what they leave

-- the server, if it is starved
abbrev pub starved_part : ℕ → Bool → List ℕ
starved_part id starved = if starved then id ∷ [] else []

-- the servers that are starved, in order
abbrev pub starved_in : List Parts → List ℕ
starved_in [] = []
starved_in (p ∷ parts) = starved_part p.id p.starved ++ starved_in parts

-- The master lived, and leaves these ends at its places.
pub record LeavesMaster (master : Master) (ends : Ends) : Type 0 where
  pub lived : MasterLived put_on taken_from master.size master.joins ends.outs.items ends.ins.items ends.trace.items
  pub outs : ends_of ends.outs.items ≡ master.outs
  pub ins : in_ends_of ends.ins.items ≡ master.ins
  pub unread : unread_in ends.ins.items ≡ master.unread
  pub trace : ends.trace.items ≡ master.trace

-- Each server tells what it did, and leaves its parts.
pub record LeavesServers (servers : List Server) (parts : List Parts) : Type 0 where
  pub held : map held_in parts ≡ servers
  pub told : (place : ℕ) (p : Parts) → slice_get parts place ≡ Some p → Tells put_on taken_from requests_in p

-- A client leaves these ends and closed answers.
pub record LeavesClient (client : Client) (ports : ClientPorts Message) (answers : List Answer) : Type 0 where
  pub did : ClientDid put_in taken_from client
  pub outs : ports.outs.items ≡ client.outs
  pub ins : ports.ins.items ≡ client.ins
  pub closed : answers ≡ client.closed

-- The ends, traces and starved servers of all parts, the master's before those of each server.
pub record AreGathered (ends : Ends) (own : Own) (parts : List Parts) (apart : Apart) : Type 0 where
  pub outs : map (λ p. p.outs.items) apart.ports.items ≡ (own.0 ∷ ends_of ends.outs.items) ∷ map (λ s. ends_of s.outs.items) parts
  pub ins : map (λ p. p.ins.items) apart.ports.items ≡ (own.1 ∷ in_ends_of ends.ins.items) ∷ map (λ s. in_ends_of s.ins.items) parts
  pub firsts : map (λ w. w.first) apart.wires.servers.items ≡ map (λ s. s.clients.first) parts
  pub seconds : map (λ w. w.second) apart.wires.servers.items ≡ map (λ s. s.clients.second) parts
  pub inboxes : map (λ w. w.inbox) apart.wires.servers.items ≡ map (λ s. s.inbox) parts
  pub parties : map (λ t. t.party) apart.traces.items ≡ parties.Master ∷ map (λ s. parties.Server s.id) parts
  pub events : map (λ t. t.events.items) apart.traces.items ≡ ends.trace.items ∷ map (λ s. s.trace.items) parts
  pub starved : apart.starved.items ≡ starved_in parts
  -- so each that found no memory is one of these
  pub all_starved : (place : ℕ) (p : Parts) → slice_get parts place ≡ Some p → p.starved ≡ true → Among p.id apart.starved.items

-- What the master, these servers and the two clients leave, with the master's link to itself.
pub record IsApart (master : Master) (own : Own) (servers : List Server) (first second : Client) (apart : Apart) : Type 0 where
  pub ends : Ends
  pub parts : List Parts
  pub its_master : LeavesMaster master ends
  pub its_servers : LeavesServers servers parts
  pub gathered : AreGathered ends own parts apart
  pub its_first : LeavesClient first apart.wires.first apart.first.items
  pub its_second : LeavesClient second apart.wires.second apart.second.items
