-- What is left gives what all of it gives.
use Rattle.std.proofs.Common.{◌≡◌, length}
use Rattle.cq_wire.proofs.Fronts.{IsBytes}
use Rattle.cq_store_wire.specs.Building.{read_into}
use Rattle.cq_store_wire.proofs.reader.read_into.Given as goal

abbrev pub invariant-loop-rest : goal.invariant-loop-rest
invariant-loop-rest l = record {
  fits : IsBytes l.rest;
  same : read_into (length l.fn.bytes) l.fn.bytes l.fn.state ≡ read_into (length l.rest) l.rest l.state;
}

abbrev pub decreases-loop-rest : goal.decreases-loop-rest
decreases-loop-rest l = length l.rest
