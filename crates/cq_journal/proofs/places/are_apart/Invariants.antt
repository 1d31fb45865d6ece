-- The regions before this one are apart from it.
use Rattle.std.proofs.Common.{take}
use Rattle.cq_journal.specs.Regions.{Each, AreApart}
use Rattle.cq_journal.proofs.places.are_apart.Given as goal

abbrev pub invariant-loop-other : goal.invariant-loop-other
invariant-loop-other l = Each (λ n. AreApart l.fn.len n l.fn.place) (take l.other-index l.places)
