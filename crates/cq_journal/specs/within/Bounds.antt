-- Where a region lies.
use Rattle.std.specs.Prelude.{ℕ, ◌+◌, ◌<◌, ◌≤◌}
use Rattle.cq_journal.specs.declared.number.TheConstants.{NUMBER_LIMIT}

-- a region of this length at this place lies between these bounds, and a root may name it
abbrev pub IsWithin : ℕ → ℕ → ℕ → ℕ → Type 0
IsWithin len low high place = (low ≤ place) × (place + len ≤ high) × (place < NUMBER_LIMIT)
