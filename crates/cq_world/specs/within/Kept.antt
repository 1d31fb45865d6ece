-- What is kept of the servers of the world, and of its links.
use Rattle.std.specs.Prelude.{ℕ, ◌==◌, ◌&&◌, List, [], ◌∷◌, ◌++◌, drop, ⊤, Bool, Option}
use Rattle.std.specs.Map.{lookup}
use Rattle.std.specs.HashMap.{HashMap}
use Rattle.cq_base.specs.declared.party.Party.{Party}
use Rattle.cq_chain.specs.declared.message.Message.{Message}
use Rattle.cq_chain.specs.declared.server.Server.{Server}
use Rattle.cq_chain.specs.Fifos.{Fifo, messages_of, room_of}
use Rattle.cq_chain.specs.Parties.{same}
use Rattle.cq_chain.specs.Messages as told
use Rattle.cq_events.specs.Events.{first_of}
use Rattle.cq_events.specs.Worlds.{World, set_pair}
use Rattle.cq_world.specs.declared.links.LinkKey.{LinkKey}

-- the server of that number, if it is kept
abbrev pub server_at : {S : Type 0} → HashMap ℕ Server S → ℕ → Option Server
server_at servers id = lookup (λ other. id == other) servers.entries

-- whether a link is that from one party to another
abbrev pub is_between : Party → Party → LinkKey → Bool
is_between from to pair = same from pair.from && same to pair.to

-- what is kept of the link from one party to another, if something is
abbrev pub fifo_at : List (LinkKey × Fifo) → Party → Party → Option Fifo
fifo_at links from to = lookup (is_between from to) links

-- the messages that stand in the link from one party to another
abbrev pub messages_at : List (LinkKey × Fifo) → Party → Party → List Message
messages_at links from to = messages_of (fifo_at links from to)

-- how many more messages that link can take without memory
abbrev pub room_at : List (LinkKey × Fifo) → Party → Party → ℕ
room_at links from to = room_of (fifo_at links from to)

-- there is a message
abbrev pub IsFilled : List told.Message → Type 0
IsFilled [] = ⊥
IsFilled (m ∷ ms) = ⊤

-- after the first message of an outbox left it
abbrev pub after_popping : World → Party → Party → World
after_popping w from to = record w { outbox = set_pair w.outbox from to (drop 1 (w.outbox from to)) }

-- after the first message of an outbox was put on its link, also if that is a link to the clients
abbrev pub after_posting : World → Party → Party → World
after_posting w from to = record w {
  outbox = set_pair w.outbox from to (drop 1 (w.outbox from to));
  link = set_pair w.link from to (w.link from to ++ first_of (w.outbox from to));
}
