-- Regions that no root names yet.
use Rattle.std.specs.Prelude.{ℕ, ◌+◌, ◌*◌, ◌<◌, ◌≤◌, List, length}
use Rattle.cq_journal.specs.declared.journal.TheConstants.{REGION_LIMIT}
use Rattle.cq_journal.specs.declared.number.TheConstants.{NUMBER_LIMIT}
use Rattle.cq_journal.specs.Regions.{Each, AreApart}

-- A region of this length at this place lies behind a root of two halves of that length, in a file of this length and apart from these
-- regions, and the root may name it.
pub record IsFreeIn (half len whole : ℕ) (places : List ℕ) (place : ℕ) : Type 0 where
  pub behind : half + half ≤ place
  pub within : place + len ≤ whole
  pub small : place < NUMBER_LIMIT
  pub apart : Each (λ n. AreApart len n place) places
  pub few : length places < REGION_LIMIT

-- There is room to open a file in which the root of this number names these regions: in steps of a region behind the root one is free, the
-- root has a number left, and a half has room for their names.
pub record HasRoomToOpen (half len whole number : ℕ) (places : List ℕ) : Type 0 where
  pub long : 0 < len
  pub step : ℕ
  pub free : IsFreeIn half len whole places ((half + half) + step * len)
  pub number_left : number + 1 < NUMBER_LIMIT
  pub names : 5 * length places + 15 ≤ half
