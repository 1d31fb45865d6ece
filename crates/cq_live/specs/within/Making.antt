-- Nodes that are made of the ends of links and inboxes.
use Rattle.std.specs.Prelude.{◌≡◌, ℕ, zero, suc, ◌+◌, List, [], ◌∷◌, ◌++◌, length, false}
use Rattle.std.specs.List.{All}
use Rattle.cq_live.specs.within.Aparts.{Server}
use Rattle.cq_chain.specs.declared.message.Message.{Message}
use Rattle.cq_link.specs.Inboxes.{put_in, taken_in}
use Rattle.cq_link.specs.Links.{put_on, taken_from}
use Rattle.cq_live.specs.declared.roles.Role.{Role}
use Rattle.cq_live.specs.declared.wires.Wires.{Wires}
use Rattle.cq_live_plan.specs.Steps.{crash_of}
use Rattle.cq_live_plan.specs.declared.step.LiveStep.{LiveStep}
use Rattle.cq_link.specs.Clients as clients
use Rattle.cq_link.specs.Wirings as links
use Rattle.cq_link.specs.declared.clients.ClientPorts.{ClientPorts}
use Rattle.cq_link.specs.declared.clients.ServerPorts.{ServerPorts}
use Rattle.cq_link.specs.declared.ports.Ports.{Ports}

-- ---- ends that nobody used

-- a party has as many on which it puts as from which it takes
abbrev pub IsEven : Ports Message → Type 0
IsEven p = length p.ins.items ≡ length p.outs.items

-- those of a server towards the clients
abbrev pub IsFresh : ServerPorts Message → Type 0
IsFresh w = (put_on w.first ≡ []) × (put_on w.second ≡ []) × (taken_in w.inbox ≡ [])

-- those of a client
pub record IsClientFit (p : ClientPorts Message) : Type 0 where
  pub even : length p.ins.items ≡ length p.outs.items
  pub unput : All (λ out. put_in out ≡ []) p.outs.items
  pub untaken : All (λ end. taken_from end ≡ []) p.ins.items

-- all links and inboxes of so many servers
pub record AreWired (servers : ℕ) (w : Wires) : Type 0 where
  pub crossed : links.AreCrossed (links.wiring w.ports.items)
  pub unused : links.AreUnused w.ports.items
  pub square : links.IsSquare (servers + 1) w.ports.items
  pub tied : clients.AreTied w.clients
  pub fresh : clients.AreFresh w.clients
  pub all : clients.AreOf servers w.clients

-- ---- nodes

-- the server of that number, as the steps let it crash
abbrev pub role_of : List LiveStep → ℕ → Role
role_of steps number = record { id = number; crash_after = crash_of number steps }

-- so many servers, in the order of their numbers
abbrev pub roles_of : List LiveStep → ℕ → List Role
roles_of steps zero = []
roles_of steps (suc n) = roles_of steps n ++ role_of steps (suc n) ∷ []

-- the node of a server that has done nothing
abbrev pub begun_as : ℕ → Role → Ports Message → ServerPorts Message → Server
begun_as size role port w = record { size = size; id = role.id; crash_after = role.crash_after; trace = []; outs = port.outs.items; first = w.first; second = w.second; ins = port.ins.items; unread = 0; inbox = w.inbox; starved = false; turns = 0; ended = false }

-- the nodes of servers, each with the ends at its place
abbrev pub servers_of : ℕ → List Role → List (Ports Message) → List (ServerPorts Message) → List Server
servers_of size [] ports wires = []
servers_of size (role ∷ roles) [] wires = []
servers_of size (role ∷ roles) (port ∷ ports) [] = []
servers_of size (role ∷ roles) (port ∷ ports) (w ∷ wires) = begun_as size role port w ∷ servers_of size roles ports wires
