-- The places before this one have been added.
use Rattle.std.proofs.Common.{◌≡◌, ◌++◌, take}
use Rattle.cq_journal.specs.Regions.{places_text}
use Rattle.cq_journal.proofs.places.push_places.Given as goal

abbrev pub invariant-loop-place : goal.invariant-loop-place
invariant-loop-place l = l.text.items ≡ l.fn.text.items ++ places_text (take l.place-index l.places)
