-- Where in each block of a list numbers stand that are below the largest.
use Rattle.std.specs.Prelude.{◌≡◌, ◌≢◌, ℕ, ◌⊎◌, ◌+◌, ◌*◌, ◌/◌, ◌<◌, ◌≤◌, List, length, get_or}
use Rattle.cq_min_index.specs.declared.min_blocks.TheConstants.{BLOCK}
use Rattle.cq_min_index.specs.declared.spans.TheConstants.{LARGEST}
use Rattle.cq_min_index.specs.declared.spans.Span.{Span}

-- no place
abbrev pub nowhere : Span
nowhere = record { from = 0; end = 0 }

abbrev pub IsOutside : Span → ℕ → Type 0
IsOutside span k = (k < span.from) ⊎ (span.end ≤ k)

-- the span is of the block j, and has each of its numbers that is below the largest, whatever stands at the place `but`
pub record IsSpanBut (low : List ℕ) (but j : ℕ) (span : Span) : Type 0 where
  pub after : BLOCK * j ≤ span.from
  pub before : span.end ≤ BLOCK * j + BLOCK
  pub within : span.end ≤ length low
  pub has : (k : ℕ) → k ≢ but → k / BLOCK ≡ j → k < length low → get_or low k 0 < LARGEST → (span.from ≤ k) × (k < span.end)

-- there is a span for each block
pub record AreSpansBut (low : List ℕ) (but : ℕ) (spans : List Span) : Type 0 where
  pub long : length low ≤ BLOCK * length spans
  pub each : (j : ℕ) → j < length spans → IsSpanBut low but j (get_or spans j nowhere)

abbrev pub AreSpans : List ℕ → List Span → Type 0
AreSpans low spans = AreSpansBut low (length low) spans

-- from the place `from` on, no number of the block is at most the limit
abbrev pub AreAboveIn : List ℕ → ℕ → ℕ → ℕ → Type 0
AreAboveIn numbers limit from block = (k : ℕ) → from ≤ k → k / BLOCK ≡ block → k < length numbers → limit < get_or numbers k 0
