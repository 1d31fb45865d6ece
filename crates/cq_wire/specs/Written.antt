-- Bytes with a value that is being written at their end.
use Rattle.std.specs.Prelude.{ℕ, List}

-- what stood there before the value, and what is there of the value
pub record Written : Type 0 where
  pub before : List ℕ
  pub value : List ℕ
