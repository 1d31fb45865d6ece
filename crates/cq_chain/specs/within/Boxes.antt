-- What is kept of the outboxes of a server.
use Rattle.std.specs.Prelude.{ℕ, nat_lt, List, length, Option, Some, ◌&&◌, if◌then◌else◌}
use Rattle.std.specs.Map.{lookup}
use Rattle.cq_base.specs.declared.party.Party.{Party}
use Rattle.cq_base.specs.declared.party.Party.TheVariants.{Master, Clients, Server}
use Rattle.cq_chain.specs.declared.message.Message.{Message}
use Rattle.cq_chain.specs.Fifos.{Fifo, messages_of, room_of}
use Rattle.cq_chain.specs.Next.{is_above, is_below}
use Rattle.cq_chain.specs.Parties.{same}

-- the fifo for a party, if there is one
abbrev pub fifo_for : List (Party × Fifo) → Party → Option Fifo
fifo_for boxes to = lookup (same to) boxes

-- what waits for a party
abbrev pub messages_for : List (Party × Fifo) → Party → List Message
messages_for boxes to = messages_of (lookup (same to) boxes)

-- how many more messages for a party can be taken without memory
abbrev pub room_for : List (Party × Fifo) → Party → ℕ
room_for boxes to = room_of (fifo_for boxes to)

-- that server, if it is between these two and something waits for it, or else the second of them
abbrev pub nearer : List (Party × Fifo) → Option ℕ → Option ℕ → ℕ → Option ℕ
nearer boxes after next id = if (nat_lt 0 (length (messages_for boxes (Server id))) && is_above after id) && is_below next id then Some id else next

-- the same of any party; one that is no server isn't looked for
abbrev pub nearer_party : List (Party × Fifo) → Option ℕ → Option ℕ → Party → Option ℕ
nearer_party boxes after next Master = next
nearer_party boxes after next Clients = next
nearer_party boxes after next (Server id) = nearer boxes after next id
