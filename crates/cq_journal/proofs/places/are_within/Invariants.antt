-- The regions before this one lie there.
use Rattle.std.proofs.Common.{take}
use Rattle.cq_journal.specs.Regions.{Each}
use Rattle.cq_journal.specs.within.Bounds.{IsWithin}
use Rattle.cq_journal.proofs.places.are_within.Given as goal

abbrev pub invariant-loop-place : goal.invariant-loop-place
invariant-loop-place l = Each (IsWithin l.fn.len l.fn.low l.fn.high) (take l.place-index l.places)
