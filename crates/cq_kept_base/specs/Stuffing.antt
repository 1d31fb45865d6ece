-- What is added to a text.
use Rattle.std.specs.Prelude.{◌≡◌, ℕ, ◌==◌, Bool, false, List, ◌++◌}
use Rattle.std.specs.List.{list_any}
use Rattle.cq_lines.specs.Lines.{has_line_feed}
use Rattle.cq_kept_base.specs.Stuffed.{put_before, unstuffed}

-- what was added stands for these bytes, whatever comes behind it, and no line feed is in it
pub record Stuffs (old new bytes : List ℕ) : Type 0 where
  pub unit : List ℕ
  pub added : new ≡ old ++ unit
  pub reads : (more : List ℕ) → unstuffed false (unit ++ more) ≡ put_before bytes (unstuffed false more)
  pub clean : has_line_feed unit ≡ false

-- a byte of 3 is among them
abbrev pub has_escape : List ℕ → Bool
has_escape bytes = list_any (λ b. b == 3) bytes

-- as a text they stand for themselves
pub record StandsForItself (bytes : List ℕ) : Type 0 where
  pub no_escape : has_escape bytes ≡ false
  pub no_line_feed : has_line_feed bytes ≡ false
