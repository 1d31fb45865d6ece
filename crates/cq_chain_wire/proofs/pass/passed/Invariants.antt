-- Of a snapshot the parts were read that aren't left.
use Rattle.cq_chain_wire.specs.Pieces.{most_left}
use Rattle.cq_chain_wire.proofs.Passing.{IsPassedOn}
use Rattle.cq_chain_wire.proofs.pass.passed.Given as goal

abbrev pub invariant-loop-alloc : goal.invariant-loop-alloc
invariant-loop-alloc l = IsPassedOn l.message l.writer l.reader

abbrev pub decreases-loop-alloc : goal.decreases-loop-alloc
decreases-loop-alloc l = most_left l.message l.writer
