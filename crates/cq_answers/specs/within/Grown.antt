-- A text with a line that is being written at its end.
use Rattle.std.specs.Prelude.{ℕ, List}

-- what stood there before the line, and what is there of the line
pub record Grown : Type 0 where
  pub before : List ℕ
  pub told : List ℕ
