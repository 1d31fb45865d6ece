-- What is found in two halves.
use Rattle.std.specs.Prelude.{◌≡◌, ◌⊎◌, ℕ, ◌+◌, ◌-◌, ◌*◌, ◌/◌, ◌<◌, ◌≤◌, List, Option, Some, None, Vec, MatchOption, length, slice_range}
use Rattle.std.specs.declared.alloc.Global.{Global}
use Rattle.cq_journal.specs.Roots.{number_in, half_of, root_of}
use Rattle.cq_journal.specs.declared.opening.Found.{Found}

abbrev pub items_of : Option (Vec ℕ Global) → Option (List ℕ)
items_of None = None
items_of (Some v) = Some v.items

-- of the first half's record and the second one's it is the one with the higher number
abbrev pub IsChosen : ℕ → Option (List ℕ) → Option (List ℕ) → Option Found → Type 0
IsChosen half a b None = (number_in a ≡ 0) × (number_in b ≡ 0)
IsChosen half a b (Some it) =
    ((it.start ≡ 0) × (a ≡ Some it.bytes.items) × (number_in a ≡ it.number) × (number_in b < it.number))
    ⊎ ((it.start ≡ half) × (b ≡ Some it.bytes.items) × (number_in b ≡ it.number) × (number_in a < it.number))

-- the root that counts, in its half; the other half has a lower number
pub record IsRootAt (half : ℕ) (seen : List ℕ) (it : Found) : Type 0 where
  pub place : (it.start ≡ 0) ⊎ (it.start ≡ half)
  pub counts : root_of half seen ≡ Some it.bytes.items
  pub current : number_in (half_of it.start half seen) ≡ it.number
  pub other : number_in (half_of (half - it.start) half seen) < it.number

abbrev pub IsFound : ℕ → List ℕ → Option Found → Type 0
IsFound half seen found = MatchOption found (number_in (root_of half seen) ≡ 0) (λ it. IsRootAt half seen it)

-- The later root names the regions of the first one, in order, and one more for each change between the two. Each place has five digits,
-- behind the five of the number. A change takes two numbers, one for each half, of which the first root may have either, and the later one, too.
pub record HasGrown (first later : Found) : Type 0 where
  pub places : 5 ≤ length first.bytes.items
  pub front : slice_range first.bytes.items 5 (length first.bytes.items) ≡ slice_range later.bytes.items 5 (length first.bytes.items)
  pub long : length first.bytes.items ≤ length later.bytes.items
  pub number : first.number ≤ later.number
  pub least : 2 * ((length later.bytes.items - length first.bytes.items) / 5) ≤ later.number - first.number + 1
  pub most : later.number - first.number ≤ 2 * ((length later.bytes.items - length first.bytes.items) / 5) + 1
