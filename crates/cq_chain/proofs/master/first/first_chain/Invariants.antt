-- So far there are the numbers that the loop has passed.
use Rattle.std.proofs.Common.{◌≡◌}
use Rattle.cq_chain.specs.Masters.{numbers_from}
use Rattle.cq_chain.proofs.master.first.first_chain.Given as goal

abbrev pub invariant-loop-k : goal.invariant-loop-k
invariant-loop-k l = l.chain.items ≡ numbers_from 1 l.k
