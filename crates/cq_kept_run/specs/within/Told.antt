-- A store, as it is told in lines.
use Rattle.std.specs.Prelude.{◌≡◌, ℕ, List, [], ◌∷◌, ◌++◌, Option, Ok, codes, map}
use Rattle.std.specs.Io.KnownBytes.{Appends}
use Rattle.hex.specs.Hex.{encode_lower}
use Rattle.cq_store.specs.Stands.{StoreKept}
use Rattle.cq_store_wire.specs.declared.part.Part.{Part}
use Rattle.cq_store_wire.specs.declared.build.State.TheVariants as states
use Rattle.cq_store_wire.specs.Building.{all_fed}
use Rattle.cq_store_wire.specs.Layout.{chunk}

-- the line of a chunk's bytes
abbrev pub chunk_line : List ℕ → List ℕ
chunk_line bytes = codes "{\"chunk\":\"" ++ (encode_lower bytes ++ (codes "\",\"kind\":\"store\"}" ++ 10 ∷ []))

-- the lines of chunks, in order
abbrev pub chunk_lines : List (List ℕ) → List ℕ
chunk_lines [] = []
chunk_lines (bytes ∷ chunks) = chunk_line bytes ++ chunk_lines chunks

-- The lines of some chunks were written, and what is read of these is the store.
pub record TellsStore (kept : StoreKept) (before after : Option (List ℕ)) : Type 0 where
  pub chunks : List (List Part)
  pub text : Appends before after (chunk_lines (map chunk chunks))
  pub reads : all_fed (map chunk chunks) states.Empty ≡ Ok (states.Whole kept)
