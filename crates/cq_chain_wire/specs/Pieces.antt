-- The pieces of a message: a plain message is one; a snapshot is one for each chunk of its store, and one that ends it.
use Rattle.std.specs.Prelude.{◌≡◌, ℕ, suc, List, [], ◌∷◌, ◌++◌, length, map, Bool, true, false, if◌then◌else◌}
use Rattle.std.specs.List.{AllByRecursion}
use Rattle.cq_chain.specs.declared.message.Message.{Message}
use Rattle.cq_chain.specs.declared.message.Message.TheVariants as kinds
use Rattle.cq_store.specs.Stands.{StoreKept}
use Rattle.cq_store_wire.specs.declared.part.Part.{Part}
use Rattle.cq_store_wire.specs.declared.writer.StoreWriter.{StoreWriter}
use Rattle.cq_store_wire.specs.Chunks.{IsChunk}
use Rattle.cq_store_wire.specs.Laws.{AreChunksOf}
use Rattle.cq_store_wire.specs.Layout.{chunk}
use Rattle.cq_store_wire.specs.Limits.{IsPart}
use Rattle.cq_store_wire.specs.Order.{parts_from}
use Rattle.cq_wire.specs.declared.version.TheConstants.{VERSION}
use Rattle.cq_wire.specs.Layout.{whole}
use Rattle.cq_chain_wire.specs.declared.writer.MessageWriter.{MessageWriter}
use Rattle.cq_chain_wire.specs.Layout.{message}

-- some parts of the store, behind the byte of a snapshot
unfoldable pub snapshot_piece : List Part → List ℕ
snapshot_piece some = VERSION ∷ 1 ∷ chunk some

-- the piece behind the last part
unfoldable pub snapshot_end : List ℕ
snapshot_end = VERSION ∷ 13 ∷ []

-- The texts are the pieces of a snapshot of that store, wherever its parts are cut.
pub record AreSnapshotPieces (kept : StoreKept) (texts : List (List ℕ)) : Type 0 where
  pub chunks : List (List Part)
  pub fit : AllByRecursion (AllByRecursion IsPart) chunks
  pub order : AreChunksOf kept chunks
  pub written : texts ≡ map snapshot_piece chunks ++ snapshot_end ∷ []

-- The texts are the pieces of the message.
abbrev pub ArePieces : Message → List (List ℕ) → Type 0
ArePieces (kinds.Snap kept) texts = AreSnapshotPieces kept texts
ArePieces plain texts = texts ≡ whole message plain ∷ []

-- ---- as they are written

-- the parts of the store that are left
abbrev pub parts_left : StoreKept → StoreWriter → List Part
parts_left kept writer = parts_from kept writer.bodies writer.place

-- The text is the next piece of a snapshot: a chunk of the parts that are left; or, where none is left, the end.
abbrev pub IsNextOfSnapshot : List Part → List Part → Bool → List ℕ → Type 0
IsNextOfSnapshot [] after is_done text = (is_done ≡ true) × (text ≡ snapshot_end)
IsNextOfSnapshot (p ∷ rest) after is_done text = (is_done ≡ false) × ((one : List ℕ) × (IsChunk (p ∷ rest) after one × (text ≡ VERSION ∷ 1 ∷ one)))

-- The text is the next piece of the message. A plain message is all of one.
abbrev pub IsNextPiece : Message → MessageWriter → MessageWriter → List ℕ → Type 0
IsNextPiece (kinds.Snap kept) before after text = IsNextOfSnapshot (parts_left kept before.store) (parts_left kept after.store) after.is_done text
IsNextPiece plain before after text = (after.is_done ≡ true) × (text ≡ whole message plain)

-- at most so many pieces are left
abbrev pub most_left : Message → MessageWriter → ℕ
most_left (kinds.Snap kept) writer = if writer.is_done then 0 else suc (length (parts_left kept writer.store))
most_left plain writer = if writer.is_done then 0 else 1
