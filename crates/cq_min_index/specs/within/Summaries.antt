-- Lists in blocks, and the least number of each block.
use Rattle.std.specs.Prelude.{◌≡◌, ◌≢◌, ℕ, ◌+◌, ◌*◌, ◌/◌, ◌<◌, ◌≤◌, List, length, get_or}
use Rattle.cq_min_index.specs.declared.min_blocks.TheConstants.{BLOCK}

-- the number at the place k of `low` is the least of the block j
pub record IsLeastOf (low : List ℕ) (j least k : ℕ) : Type 0 where
  pub inside : k / BLOCK ≡ j
  pub within : k < length low
  pub is : get_or low k 0 ≡ least

-- Each block of `low` has its least number in `high`, which may have one number more.
pub record IsSummary (low high : List ℕ) : Type 0 where
  pub long : length low ≤ BLOCK * length high
  pub short : BLOCK * length high ≤ length low + BLOCK
  pub below : (k : ℕ) → k < length low → get_or high (k / BLOCK) 0 ≤ get_or low k 0
  pub reached : (j : ℕ) → BLOCK * j < length low → (k : ℕ) × IsLeastOf low j (get_or high j 0) k

-- The list has the number n at its last place b, and elsewhere the same as before.
pub record IsBegun (old new : List ℕ) (b n : ℕ) : Type 0 where
  pub long : length new ≡ b + 1
  pub at : get_or new b 0 ≡ n
  pub same : (j : ℕ) → j ≢ b → get_or new j 0 ≡ get_or old j 0
