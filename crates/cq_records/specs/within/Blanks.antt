-- Bytes that keep the first one, and have zeros behind it.
use Rattle.std.specs.Prelude.{◌≡◌, ℕ, ◌-◌, List, ◌++◌, length, take, replicate}

abbrev pub HasZerosBehind : List ℕ → List ℕ → Type 0
HasZerosBehind old new = new ≡ take 1 old ++ replicate (length old - 1) 0
