-- What was told so far is of the parts before the place.
use Rattle.std.proofs.Common.{◌≡◌, false, length}
use Rattle.cq_lines.specs.Checks.{inner_of, is_failed}
use Rattle.cq_store_wire.specs.Order.{parts_from}
use Rattle.cq_kept_run.proofs.Telling.{IsToldSoFar}
use Rattle.cq_kept_run.proofs.store.tell_store.Given as goal

abbrev pub invariant-loop-alloc : goal.invariant-loop-alloc
invariant-loop-alloc g l = record {
  works : is_failed l.output ≡ false;
  told : IsToldSoFar l.store l.writer.bodies l.writer.place (g.W.Write.contents (inner_of l.initial.output)) (g.W.Write.contents (inner_of l.output));
}

abbrev pub decreases-loop-alloc : goal.decreases-loop-alloc
decreases-loop-alloc g l = length (parts_from l.store l.writer.bodies l.writer.place)
