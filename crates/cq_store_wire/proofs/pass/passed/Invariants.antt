-- What was read so far is made of the parts before the place.
use Rattle.std.proofs.Common.{length}
use Rattle.cq_store_wire.specs.Order.{parts_from}
use Rattle.cq_store_wire.proofs.Passing.{IsPassed}
use Rattle.cq_store_wire.proofs.pass.passed.Given as goal

abbrev pub invariant-loop-alloc : goal.invariant-loop-alloc
invariant-loop-alloc l = IsPassed l.store (parts_from l.store l.writer.bodies l.writer.place) l.reader

abbrev pub decreases-loop-alloc : goal.decreases-loop-alloc
decreases-loop-alloc l = length (parts_from l.store l.writer.bodies l.writer.place)
