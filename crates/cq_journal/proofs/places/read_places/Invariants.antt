-- The places so far are small.
use Rattle.std.proofs.Common.{◌≡◌, ◌++◌, ◌-◌, ◌<◌, ◌≤◌, length, drop}
use Rattle.cq_journal.specs.declared.number.TheConstants.{NUMBER_LIMIT}
use Rattle.cq_journal.specs.Regions.{Each, places_in}
use Rattle.cq_journal.proofs.places.read_places.Given as goal

abbrev pub invariant-loop-at : goal.invariant-loop-at
invariant-loop-at l = record {
  within : l.at ≤ length l.bytes;
  read : l.places.items ++ places_in (drop l.at l.bytes) ≡ places_in (drop 6 l.bytes);
  small : Each (λ n. n < NUMBER_LIMIT) l.places.items;
}

abbrev pub decreases-loop-at : goal.decreases-loop-at
decreases-loop-at l = length l.bytes - l.at
