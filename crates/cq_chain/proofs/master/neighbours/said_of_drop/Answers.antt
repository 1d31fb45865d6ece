-- By the last one.
use Rattle.cq_chain.proofs.Neighbours.{drop-said}
use Rattle.cq_chain.proofs.master.neighbours.said_of_drop.Goals as goal

pub returns-in-Some : goal.returns-in-Some
returns-in-Some c = drop-said c.args.chain.now c.in-Some.last.now c.in-Some.ensures.value
