-- What is gathered from one node after another.
use Rattle.std.specs.Prelude.{◌≡◌, [], ◌∷◌, ◌++◌, map}
use Rattle.cq_base.specs.declared.ask.Request.{Request}
use Rattle.cq_base.specs.declared.party.Party.TheVariants as parties
use Rattle.cq_chain.specs.declared.message.Message.{Message}
use Rattle.cq_link.specs.declared.inbox.InPut.{InPut}
use Rattle.cq_link.specs.declared.link.Taker.{Taker}
use Rattle.cq_nodes.specs.Ends.{ends_of, in_ends_of}
use Rattle.cq_nodes.specs.declared.client_node.ClientLeft.{ClientLeft}
use Rattle.cq_link.specs.declared.clients.ClientPorts.{ClientPorts}
use Rattle.cq_live.specs.declared.apart.Apart.{Apart}
use Rattle.cq_live.specs.declared.apart.Piece.{Piece}
use Rattle.cq_live.specs.within.Aparts.{Parts, Ends, Own, starved_part}

-- what is left of a client
abbrev pub Left : Type 0
Left = ClientLeft (InPut Request) (Taker Message)

-- the ends of that client
abbrev pub AreOf : Left → ClientPorts Message → Type 0
AreOf left ports = (ports.outs.items ≡ left.outs.items) × (ports.ins.items ≡ left.ins.items)

-- What the master and the clients leave.
pub record HasNoServer (ends : Ends) (own : Own) (first second : Left) (apart : Apart) : Type 0 where
  pub outs : map (λ p. p.outs.items) apart.ports.items ≡ (own.0 ∷ ends_of ends.outs.items) ∷ []
  pub ins : map (λ p. p.ins.items) apart.ports.items ≡ (own.1 ∷ in_ends_of ends.ins.items) ∷ []
  pub wires : apart.wires.servers.items ≡ []
  pub parties : map (λ t. t.party) apart.traces.items ≡ parties.Master ∷ []
  pub events : map (λ t. t.events.items) apart.traces.items ≡ ends.trace.items ∷ []
  pub starved : apart.starved.items ≡ []
  pub first_ends : AreOf first apart.wires.first
  pub second_ends : AreOf second apart.wires.second
  pub first_closed : apart.first.items ≡ first.closed.items
  pub second_closed : apart.second.items ≡ second.closed.items

-- What the parts of a server leave.
pub record IsPieceOf (parts : Parts) (piece : Piece) : Type 0 where
  pub outs : piece.port.outs.items ≡ ends_of parts.outs.items
  pub ins : piece.port.ins.items ≡ in_ends_of parts.ins.items
  pub first : piece.wires.first ≡ parts.clients.first
  pub second : piece.wires.second ≡ parts.clients.second
  pub inbox : piece.wires.inbox ≡ parts.inbox
  pub party : piece.trace.party ≡ parties.Server parts.id
  pub events : piece.trace.events.items ≡ parts.trace.items
  pub id : piece.id ≡ parts.id
  pub starved : piece.starved ≡ parts.starved

-- The same with what one more server leaves, behind the others.
pub record HasOneMore (piece : Piece) (old new : Apart) : Type 0 where
  pub ports : new.ports.items ≡ old.ports.items ++ piece.port ∷ []
  pub wires : new.wires.servers.items ≡ old.wires.servers.items ++ piece.wires ∷ []
  pub traces : new.traces.items ≡ old.traces.items ++ piece.trace ∷ []
  pub starved : new.starved.items ≡ old.starved.items ++ starved_part piece.id piece.starved
  pub first_ends : new.wires.first ≡ old.wires.first
  pub second_ends : new.wires.second ≡ old.wires.second
  pub first_closed : new.first ≡ old.first
  pub second_closed : new.second ≡ old.second
