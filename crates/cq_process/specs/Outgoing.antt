-- What the end of a link to a party has.
use Rattle.std.specs.Prelude.{◌≡◌, ◌≤◌, ℕ, [], Option, None, Some, false, ◌⊎◌, ⊤}
use Rattle.cq_chain.specs.declared.message.Message as rust
use Rattle.cq_chain_wire.specs.declared.writer.MessageWriter.{MessageWriter}
use Rattle.cq_chain_wire.specs.Laws.{IsSound}
use Rattle.cq_process.specs.declared.outgoing.TheConstants.{LINK_LIMIT}
use Rattle.cq_store_wire.specs.declared.writer.Place.TheVariants as places

-- The number of the last message that was put; and the message that is being written, if there is one, with how many pieces of it
-- were, and how far that is.
pub record End : Type 0 where
  pub put : ℕ
  pub pieces : ℕ
  pub held : Option rust.Message
  pub writer : MessageWriter

-- no number is left for a message, or for a piece of the one that is being written
abbrev pub IsSpent : End → Type 0
IsSpent end = (LINK_LIMIT ≤ end.put) ⊎ (LINK_LIMIT ≤ end.pieces)

-- nothing of a message is written
pub record IsFresh (writer : MessageWriter) : Type 0 where
  pub start : writer.store.place ≡ places.Start
  pub bodies : writer.store.bodies ≡ []
  pub begins : writer.is_done ≡ false

-- the message, if there is one, is one whose pieces are read as just it
abbrev pub AreSound : Option rust.Message → Type 0
AreSound None = ⊤
AreSound (Some message) = IsSound message

-- Of the message that is held a piece is left; where none is, the writer begins.
pub record GoesOn (held : Option rust.Message) (writer : MessageWriter) : Type 0 where
  pub going : writer.is_done ≡ false
  pub fresh : held ≡ None → IsFresh writer
  pub sound : AreSound held
