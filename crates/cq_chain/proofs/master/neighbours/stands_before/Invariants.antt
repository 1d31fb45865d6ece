-- The pair isn't among those that the loop has passed.
use Rattle.std.proofs.Common.{◌≡◌, drop}
use Rattle.cq_chain.specs.Masters.{stands_before}
use Rattle.cq_chain.proofs.master.neighbours.stands_before.Given as goal

abbrev pub invariant-loop-i : goal.invariant-loop-i
invariant-loop-i l = stands_before l.pred l.succ l.chain ≡ stands_before l.pred l.succ (drop l.i l.chain)
