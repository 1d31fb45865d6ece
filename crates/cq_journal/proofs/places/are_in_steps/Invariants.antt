-- The regions before this one lie so.
use Rattle.std.proofs.Common.{take}
use Rattle.cq_journal.specs.Regions.{Each, IsInSteps}
use Rattle.cq_journal.proofs.places.are_in_steps.Given as goal

abbrev pub invariant-loop-place : goal.invariant-loop-place
invariant-loop-place l = Each (IsInSteps l.fn.len l.fn.low) (take l.place-index l.places)
