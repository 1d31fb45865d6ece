-- The slots below `low` have smaller sequence numbers, those from `high` on don't.
use Rattle.std.proofs.Common.{ℕ, ◌-◌, ◌<◌, ◌≤◌, length, get_or}
use Rattle.cq_messages.specs.Slots.{gone}
use Rattle.cq_messages.proofs.places.count_below.Given as goal

abbrev pub invariant-loop-low : goal.invariant-loop-low
invariant-loop-low l = record {
  order : l.low ≤ l.high;
  within : l.high ≤ length l.slots;
  below : (k : ℕ) → k < l.low → (get_or l.slots k gone).sequence < l.sequence;
  above : (k : ℕ) → l.high ≤ k → k < length l.slots → l.sequence ≤ (get_or l.slots k gone).sequence;
}

abbrev pub decreases-loop-low : goal.decreases-loop-low
decreases-loop-low l = l.high - l.low
