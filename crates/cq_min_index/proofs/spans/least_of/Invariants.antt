-- The least so far is one of the block's numbers, and at most each that the loop has passed.
use Rattle.std.proofs.Common.{◌≡◌, ℕ, ◌<◌, ◌≤◌, ◌/◌, length, get_or}
use Rattle.cq_min_index.specs.declared.min_blocks.TheConstants.{BLOCK}
use Rattle.cq_min_index.proofs.spans.least_of.Given as goal

abbrev pub invariant-loop-i : goal.invariant-loop-i
invariant-loop-i l = record {
  here : l.least ≤ get_or l.numbers l.at 0;
  below : (k : ℕ) → l.initial.i ≤ k → k < l.i → l.least ≤ get_or l.numbers k 0;
  reached : (k : ℕ) × ((k / BLOCK ≡ l.at / BLOCK) × ((k < length l.numbers) × (get_or l.numbers k 0 ≡ l.least)));
}
