-- By the last one.
use Rattle.cq_chain.proofs.Neighbours.{join-said}
use Rattle.cq_chain.proofs.master.neighbours.said_of_join.Goals as goal

pub returns-in-Some : goal.returns-in-Some
returns-in-Some c = join-said c.args.chain.now c.in-Some.last.now c.args.id c.in-Some.ensures.value
