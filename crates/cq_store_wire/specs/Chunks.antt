-- Chunks of a store, as they are written.
use Rattle.std.specs.Prelude.{◌≡◌, ℕ, List, [], ◌∷◌, ◌++◌}
use Rattle.std.specs.List.{AllByRecursion}
use Rattle.cq_store_wire.specs.declared.part.Part.{Part}
use Rattle.cq_store_wire.specs.Layout.{chunk, part}
use Rattle.cq_store_wire.specs.Limits.{IsPart}

-- The first of the parts before was written, and the others are those after.
abbrev pub IsNext : List Part → List Part → List ℕ → List ℕ → Type 0
IsNext [] after old new = ⊥
IsNext (p ∷ rest) after old new = IsPart p × ((rest ≡ after) × (new ≡ old ++ part p))

-- The bytes are a chunk of the first of the parts before, and the others are those after.
pub record IsChunk (before after : List Part) (bytes : List ℕ) : Type 0 where
  pub some : List Part
  pub fit : AllByRecursion IsPart some
  pub order : before ≡ some ++ after
  pub written : bytes ≡ chunk some
