-- The statements of the laws on pieces that are written and read one at a time.
use Rattle.std.specs.Prelude.{◌≡◌, ℕ, List, [], ◌∷◌, ◌++◌, Option, Ok}
use Rattle.cq_chain.specs.declared.message.Message.{Message}
use Rattle.cq_chain_wire.specs.declared.reader.Progress.TheVariants.{More, Whole}
use Rattle.cq_chain_wire.specs.declared.writer.MessageWriter.{MessageWriter}
use Rattle.cq_chain_wire.specs.Feeding.{all_fed}
use Rattle.cq_chain_wire.specs.Laws.{IsSound}
use Rattle.cq_chain_wire.specs.Pieces.{IsNextPiece}
use Rattle.cq_process.specs.Outgoing.{IsFresh}
use Rattle.cq_process.specs.Taking.{nothing, read_on}
use Rattle.cq_store_wire.specs.declared.build.State.{State}

-- These texts are pieces of the message that are written one after another, from one place of a writer to another.
abbrev pub AreWritten : Message → MessageWriter → List (List ℕ) → MessageWriter → Type 0
AreWritten m before [] after = before ≡ after
AreWritten m before (text ∷ texts) after = (next : MessageWriter) × IsNextPiece m before next text × AreWritten m next texts after

-- The next piece makes of what was read of some pieces what all of them are read as.
abbrev pub AreReadOn : Type 0
AreReadOn = (texts : List (List ℕ)) (piece : List ℕ) (so_far : Option State) → all_fed texts nothing ≡ Ok (More so_far) → all_fed (texts ++ piece ∷ []) nothing ≡ read_on piece (More so_far)

-- What is read of pieces of a message is the message.
abbrev pub IsReadAsWritten : Type 0
IsReadAsWritten = (m other : Message) (start end : MessageWriter) (texts : List (List ℕ)) → IsSound m → IsFresh start → AreWritten m start texts end → all_fed texts nothing ≡ Ok (Whole other) → other ≡ m
