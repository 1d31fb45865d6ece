-- What servers, the master and the clients tell each other.
use Rattle.std.specs.Prelude.{ℕ, List, Option}
use Rattle.cq_base.specs.declared.ask.Entry.{Entry}
use Rattle.cq_chain.specs.declared.message.Answer.{Answer}

-- A message between two parties.
pub data Message : Type 0 where
  -- To a successor: the entry at that place of the sender's history.
  Fwd : ℕ → Entry → Message
  -- To a successor that lacks much: the sender's whole history.
  Snap : List Entry → Message
  -- To a predecessor: all entries up to that place have reached the tail.
  Ack : ℕ → Message
  -- From the master: the server is the head from now on.
  BeHead : Message
  -- From the master: the server's predecessor is that one from now on, and is to be told.
  Report : ℕ → Message
  -- From the master: the server's successor is that one from now on, which has so many entries.
  Adopt : ℕ → ℕ → Message
  -- From the master: the server is the tail from now on, and acts once it has so many entries.
  BeTail : ℕ → Message
  -- From the master, to one that acts: it is to feed that server as its successor from now on, or nobody any more.
  Feed : Option ℕ → Message
  -- To the master: the sender has that predecessor, and so many entries.
  Have : ℕ → ℕ → Message
  -- To the master: the sender has that successor, and has so many entries itself.
  Adopted : ℕ → ℕ → Message
  -- To the master: the sender has that predecessor, and took a snapshot of so many entries.
  Caught : ℕ → ℕ → Message
  -- To the master: the sender acts as tail.
  Ready : Message
  -- To the clients: an answer.
  Answers : Answer → Message
