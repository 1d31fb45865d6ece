-- The nodes of a live chain, before its run and after it: which links their ends are of, and what each was made for.
use Rattle.std.specs.Prelude.{◌≡◌, ℕ, ◌+◌, List, ◌∷◌, length, map, slice_get, true, false, Some}
use Rattle.cq_live.specs.within.Aparts.{Server, Master, Client, Own}
use Rattle.cq_nodes.specs.MasterNodes as masters
use Rattle.cq_nodes.specs.Nodes.{HasRead}
use Rattle.cq_link.specs.Inboxes.{take_inbox}
use Rattle.cq_link.specs.Links.{putter_link, taker_link}
use Rattle.cq_live_plan.specs.Steps.{joins_of}
use Rattle.cq_live_plan.specs.Steps.{asks_of, crash_of}
use Rattle.cq_live_plan.specs.declared.step.LiveStep.{LiveStep}
use Rattle.cq_link.specs.Clients.{seat_of}
use Rattle.cq_link.specs.Wirings.{Wiring, AreCrossed}

-- ---- links

-- which links the ends of the master are of, those of its link to itself before the others
abbrev pub master_wiring : Own → Master → Wiring
master_wiring own master = record { outs = map putter_link (own.0 ∷ master.outs); ins = map taker_link (own.1 ∷ master.ins) }

-- those of a server
abbrev pub server_wiring : Server → Wiring
server_wiring s = record { outs = map putter_link s.outs; ins = map taker_link s.ins }

-- those of each party
abbrev pub wiring_of : Own → Master → List Server → List Wiring
wiring_of own master servers = master_wiring own master ∷ map server_wiring servers

-- Each end at a server and the end of a client at its place are of one link, or of one inbox.
pub record AreTied (servers : List Server) (first second : Client) : Type 0 where
  pub first_links : map (λ s. putter_link s.first) servers ≡ map taker_link first.ins
  pub second_links : map (λ s. putter_link s.second) servers ≡ map taker_link second.ins
  pub first_inboxes : map (λ s. (take_inbox s.inbox, false)) servers ≡ map seat_of first.outs
  pub second_inboxes : map (λ s. (take_inbox s.inbox, true)) servers ≡ map seat_of second.outs

-- ---- what nodes were made for

-- the master of that chain, with a link to and from each server, lets the servers join that the steps let join, each from
-- the turn on that they say
pub record IsMasterOf (count members : ℕ) (steps : List LiveStep) (master : Master) : Type 0 where
  pub outs : length master.outs ≡ count
  pub ins : length master.ins ≡ count
  pub size : master.size ≡ members
  pub joins : master.joins ≡ joins_of steps
  pub read : masters.HasRead master

-- the server of that number, with a link to and from each party, crashes as the steps say
pub record IsServerOf (count members : ℕ) (steps : List LiveStep) (number : ℕ) (s : Server) : Type 0 where
  pub outs : length s.outs ≡ count + 1
  pub ins : length s.ins ≡ count + 1
  pub size : s.size ≡ members
  pub id : s.id ≡ number
  pub crash_after : s.crash_after ≡ crash_of number steps
  pub read : HasRead s

-- the client of that number asks what the steps let it ask
pub record IsClientOf (steps : List LiveStep) (number : ℕ) (client : Client) : Type 0 where
  pub id : client.id ≡ number
  pub asks : client.asks ≡ asks_of number steps

-- The nodes of a live run of the steps with so many servers, in a chain that begins with `size` of them.
pub record IsChain (count size : ℕ) (steps : List LiveStep) (own : Own) (master : Master) (servers : List Server) (first second : Client) : Type 0 where
  pub crossed : AreCrossed (wiring_of own master servers)
  pub tied : AreTied servers first second
  pub all : length servers ≡ count
  pub its_master : IsMasterOf count size steps master
  pub each : (i : ℕ) (s : Server) → slice_get servers i ≡ Some s → IsServerOf count size steps (i + 1) s
  pub its_first : IsClientOf steps 1 first
  pub its_second : IsClientOf steps 2 second
