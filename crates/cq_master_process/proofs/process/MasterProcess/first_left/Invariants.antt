-- Up to the last server nothing waits, or its link is spent.
use Rattle.cq_master_process.specs.Links.{put_of}
use Rattle.cq_master_process.proofs.Turns.{AreDoneUpTo, left_above}
use Rattle.cq_master_process.proofs.process.MasterProcess.first_left.Given as goal

abbrev pub invariant-loop-id : goal.invariant-loop-id
invariant-loop-id l = AreDoneUpTo l.self.core (put_of l.self.links) l.after

abbrev pub decreases-loop-id : goal.decreases-loop-id
decreases-loop-id l = left_above l.after
