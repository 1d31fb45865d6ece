-- By the last one.
use Rattle.cq_chain.proofs.Neighbours.{last-is}
use Rattle.cq_chain.proofs.master.neighbours.is_last.Goals as goal

pub returns-in-Some : goal.returns-in-Some
returns-in-Some c = rw (c.get.ensures.value, c.get-in-Some.ensures.value) (last-is c.args.chain.now c.in-Some.last.now c.args.id c.in-Some.ensures.value)
