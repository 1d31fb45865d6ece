-- Nothing was done yet.
use Rattle.std.proofs.Common.{false}
use Rattle.cq_nodes.proofs.ClientSteps.{ran_first}
use Rattle.cq_nodes.proofs.client_node.ClientNode.new.Goals as goal

pub invariant_of-result : goal.invariant_of-result
invariant_of-result g c =
    let ends = c.into_parts-outs.result in
    ran_first g.P.PutEnd.list g.T.TakeEnd.list c.args.id c.args.asks.items c.new.result ends.0.items ends.1.items c.new-2.result.items false c.new.ensures c.into_parts-outs.ensures.fresh c.new-2.ensures.items
