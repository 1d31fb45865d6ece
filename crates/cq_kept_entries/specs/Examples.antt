-- Rows that compute.
use Rattle.std.specs.Prelude.{◌≡◌, [], ◌∷◌, None}
use Rattle.cq_store_wire.specs.declared.build.State.TheVariants as states
use Rattle.cq_kept_entries.specs.Pieces.{at, bad, fresh, listing, read, start, storing}

pub record EntryExamples : Type 0 where
  pub nothing : read start [] ≡ at [] fresh
  -- entries may come
  pub none : read start (2 ∷ 69 ∷ 10 ∷ []) ≡ at [] (listing None [])
  -- a base begins, and then its first chunk does
  pub base : read start (2 ∷ 83 ∷ 10 ∷ []) ≡ at [] (storing states.Empty)
  pub chunk : read start (2 ∷ 83 ∷ 10 ∷ 3 ∷ 3 ∷ []) ≡ at (3 ∷ 3 ∷ []) (storing states.Empty)
  -- a base has a store
  pub without_store : read start (2 ∷ 83 ∷ 10 ∷ 10 ∷ []) ≡ at [] bad
  -- lines are no entries, nor is the base of a session
  pub line : read start (123 ∷ 125 ∷ 10 ∷ []) ≡ at [] bad
  pub header : read start (2 ∷ 3 ∷ 3 ∷ 3 ∷ 17 ∷ 5 ∷ 3 ∷ 17 ∷ 10 ∷ []) ≡ at [] bad
  -- an entry that isn't whole
  pub short : read start (2 ∷ 69 ∷ 10 ∷ 65 ∷ 10 ∷ []) ≡ at [] bad
