-- The statements of the laws on pieces, and what holds of each message.
use Rattle.std.specs.Prelude.{◌≡◌, ℕ, ◌<◌, List, None, Ok}
use Rattle.std.specs.List.{AllByRecursion}
use Rattle.cq_chain.specs.declared.message.Message.{Message}
use Rattle.cq_chain.specs.declared.message.Message.TheVariants as kinds
use Rattle.cq_store_wire.specs.Laws.{IsStore}
use Rattle.cq_chain_wire.specs.declared.reader.Progress.TheVariants.{More, Whole}
use Rattle.cq_chain_wire.specs.Feeding.{all_fed}
use Rattle.cq_chain_wire.specs.Limits.{IsMessage}
use Rattle.cq_chain_wire.specs.Pieces.{ArePieces}

-- what holds of each message that there is
abbrev pub IsSound : Message → Type 0
IsSound (kinds.Snap kept) = IsStore kept
IsSound plain = IsMessage plain

-- Wherever a message is cut: what is read of its pieces is the message.
abbrev pub IsReadBack : Type 0
IsReadBack = (m : Message) (texts : List (List ℕ)) → IsSound m → ArePieces m texts → all_fed texts (More None) ≡ Ok (Whole m)

-- What is read as a message is that message's pieces.
abbrev pub IsWrittenSo : Type 0
IsWrittenSo = (m : Message) (texts : List (List ℕ)) → AllByRecursion (λ text. AllByRecursion (λ byte. byte < 256) text) texts → all_fed texts (More None) ≡ Ok (Whole m) → ArePieces m texts

-- No two messages have the same pieces.
abbrev pub ArePiecesOfOne : Type 0
ArePiecesOfOne = (x y : Message) (texts : List (List ℕ)) → IsSound x → IsSound y → ArePieces x texts → ArePieces y texts → x ≡ y
