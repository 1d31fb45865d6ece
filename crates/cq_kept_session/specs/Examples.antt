-- Rows that compute.
use Rattle.std.specs.Prelude.{◌≡◌, [], ◌∷◌, ◌++◌, Some}
use Rattle.cq_store_wire.specs.declared.build.State.TheVariants as states
use Rattle.cq_kept_session.specs.Bases.{alone, bad, based, fresh, lined, read, several}
use Rattle.cq_kept_session.specs.Texts.{size_text}

pub record BaseExamples : Type 0 where
  -- two lines, of which the second one has begun
  pub lines_alone : read fresh (65 ∷ 10 ∷ 66 ∷ []) ≡ lined alone (65 ∷ 10 ∷ 66 ∷ [])
  -- a line of a session on three servers, behind what says so
  pub of_three : read fresh (size_text 3 ++ 65 ∷ 10 ∷ []) ≡ lined (several 3) (65 ∷ 10 ∷ [])
  -- its line feed is missing
  pub unended : read fresh (3 ∷ 51 ∷ 65 ∷ 10 ∷ []) ≡ bad
  -- a base of three lines, whose clients have numbers up to 5, and no chunk yet
  pub header : read fresh (2 ∷ 3 ∷ 3 ∷ 3 ∷ 17 ∷ 5 ∷ 3 ∷ 17 ∷ 10 ∷ []) ≡ based [] (Some (record { lines = 3; highest = record { clients = 5; queriers = 0 } })) states.Empty
  -- its first chunk has begun
  pub chunk : read fresh (2 ∷ 3 ∷ 3 ∷ 3 ∷ 17 ∷ 5 ∷ 3 ∷ 17 ∷ 10 ∷ 3 ∷ 3 ∷ []) ≡ based (3 ∷ 3 ∷ []) (Some (record { lines = 3; highest = record { clients = 5; queriers = 0 } })) states.Empty
  -- no header is so short
  pub short : read fresh (2 ∷ 3 ∷ 10 ∷ []) ≡ bad
  -- a base has a store
  pub without_store : read fresh (2 ∷ 3 ∷ 3 ∷ 3 ∷ 17 ∷ 5 ∷ 3 ∷ 17 ∷ 10 ∷ 10 ∷ []) ≡ bad
