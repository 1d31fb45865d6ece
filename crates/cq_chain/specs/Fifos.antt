-- Messages that wait in order, as they are kept: for one party in an outbox, or in one link.
use Rattle.std.specs.Prelude.{ℕ, List, [], Option, None, Some}
use Rattle.cq_chain.specs.declared.message.Message.{Message}

-- These messages, in order, and how many more can be taken without memory.
pub record Fifo : Type 0 where
  pub messages : List Message
  pub room : ℕ

-- the messages of a fifo, if there is one
abbrev pub messages_of : Option Fifo → List Message
messages_of None = []
messages_of (Some fifo) = fifo.messages

-- how many more it can take, if there is one
abbrev pub room_of : Option Fifo → ℕ
room_of None = 0
room_of (Some fifo) = fifo.room
