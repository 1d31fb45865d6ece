-- Before the first turn nothing was done.
use Rattle.cq_nodes.proofs.MasterSteps.{master_begun}
use Rattle.cq_nodes.proofs.master_node.MasterNode.new.Goals as goal

pub invariant_of-result : goal.invariant_of-result
invariant_of-result g c =
    let parts = c.into_parts-outs in
    rw c.new-2.ensures.items (master_begun g.P.PutEnd.list g.T.TakeEnd.list c.args.size c.args.joins.items c.in_ok-core.core parts.result.0.items parts.result.1.items c.in_ok-core.ensures parts.ensures.unput parts.ensures.untaken)
