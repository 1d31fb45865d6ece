-- The turns of all parties: clients first, then the master, then servers in the order of their numbers.
use Rattle.std.specs.Prelude.{◌≡◌, ℕ, List, [], ◌∷◌, ◌++◌, Option, None, Some, Bool, true, false, if◌then◌else◌}
use Rattle.std.specs.List.{flat_map}
use Rattle.cq_base.specs.declared.party.Party.{Party}
use Rattle.cq_base.specs.declared.party.Party.TheVariants.{Master, Clients, Server}
use Rattle.cq_chain.specs.Messages.{Message}
use Rattle.cq_chain.specs.Next.{IsNext}
use Rattle.cq_chain.specs.Servers as states
use Rattle.cq_chain.specs.Stands.{StandsFor}
use Rattle.cq_frames.specs.declared.response.Response.{Response}
use Rattle.cq_server_process.specs.declared.turn.Stop.{Stop}
use Rattle.cq_server_process.specs.declared.turn.Stop.TheVariants as stops
use Rattle.cq_server_process.specs.Turns.{At, HasTurn, frames}

-- whether something still waits behind a turn that stopped so
abbrev pub waits : Stop → Bool
waits stops.Empty = false
waits stops.Long = true
waits stops.Begun = true
waits stops.NoMemory = true
waits stops.Spent = true
waits stops.Gone = false

-- the first party for which something still waits, behind one turn more
abbrev pub first_waiting : Option Party → Party → Stop → Option Party
first_waiting None to stop = if waits stop then Some to else None
first_waiting (Some first) to stop = Some first

-- The turn of one server: what it was told, and how it stopped.
pub record OneTurn : Type 0 where
  pub id : ℕ
  pub told : List Response
  pub stop : Stop

-- that is the first server behind that one for which something waits, if there is one
abbrev pub IsDue : Option ℕ → At → Option ℕ → Type 0
IsDue after a next = (s : states.Server) (outbox : Party → List Message) → StandsFor a.core s outbox → IsNext after outbox next

-- Turns of servers one after another, each of the first one behind the last for which something waits.
abbrev pub AreInTurn : List Party → Option ℕ → At → List OneTurn → Option ℕ → At → Type 0
AreInTurn gone after a [] last b = (last ≡ after) × (b ≡ a)
AreInTurn gone after a (one ∷ rest) last b = (mid : At) × (IsDue after a (Some one.id) × (HasTurn gone (Server one.id) a mid one.told one.stop × AreInTurn gone (Some one.id) mid rest last b))

-- what servers were told in their turns
abbrev pub told_in : List OneTurn → List Response
told_in turns = flat_map (λ one. one.told) turns

-- the first party for which something still waits, behind the turns of servers
abbrev pub waiting_behind : Option Party → List OneTurn → Option Party
waiting_behind first [] = first
waiting_behind first (one ∷ rest) = waiting_behind (first_waiting first (Server one.id) one.stop) rest

-- The turns of all servers for which something waits.
pub record ServersTurn (gone : List Party) (before : Option Party) (a b : At) (told : List Response) (first : Option Party) : Type 0 where
  pub turns : List OneTurn
  pub last : Option ℕ
  pub are : AreInTurn gone None a turns last b
  pub all : IsDue last b None
  pub is : told ≡ told_in turns
  pub waits : first ≡ waiting_behind before turns

-- The turns of all parties. `before` is a party for which something waited before them.
pub record Rounds (gone : List Party) (before : Option Party) (a d : At) (told : List Response) (first : Option Party) : Type 0 where
  pub b : At
  pub to_clients : List Response
  pub clients_stop : Stop
  pub clients : HasTurn gone Clients a b to_clients clients_stop
  pub c : At
  pub to_master : List Response
  pub master_stop : Stop
  pub master : HasTurn gone Master b c to_master master_stop
  pub to_servers : List Response
  pub servers : ServersTurn gone (first_waiting (first_waiting before Clients clients_stop) Master master_stop) c d to_servers first
  pub is : told ≡ to_clients ++ (to_master ++ to_servers)

abbrev pub TellsSome : List Party → Option Party → At → Option ℕ → At → Option Party → List ℕ → List ℕ → Type 0
TellsSome gone before a last b first old new = (turns : List OneTurn) × ((new ≡ old ++ frames (told_in turns)) × (AreInTurn gone None a turns last b × (first ≡ waiting_behind before turns)))

abbrev pub TellsServers : List Party → Option Party → At → At → Option Party → List ℕ → List ℕ → Type 0
TellsServers gone before a b first old new = (told : List Response) × ((new ≡ old ++ frames told) × ServersTurn gone before a b told first)

abbrev pub TellsRounds : List Party → Option Party → At → At → Option Party → List ℕ → List ℕ → Type 0
TellsRounds gone before a b first old new = (told : List Response) × ((new ≡ old ++ frames told) × Rounds gone before a b told first)
