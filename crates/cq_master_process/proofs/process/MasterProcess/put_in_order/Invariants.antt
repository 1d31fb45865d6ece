-- Up to the last server each had its turn, in order.
use Rattle.cq_master_process.specs.within.Behind.{PutsUpTo}
use Rattle.cq_master_process.proofs.Turns.{left_above}
use Rattle.cq_master_process.proofs.process.MasterProcess.put_in_order.Given as goal

abbrev pub invariant-loop-id : goal.invariant-loop-id
invariant-loop-id l = PutsUpTo l.initial.self l.self l.after l.initial.out.items l.out.items

abbrev pub decreases-loop-id : goal.decreases-loop-id
decreases-loop-id l = left_above l.after
