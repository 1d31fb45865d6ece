-- One of the asks was put, or is kept.
use Rattle.std.proofs.Common.{length}
use Rattle.cq_nodes.proofs.ClientSteps.{ran_put}
use Rattle.cq_nodes.proofs.ClientTurns.{seen_due}
use Rattle.cq_nodes.specs.ClientNodes.{client_held}
use Rattle.cq_nodes.proofs.client_node.ClientNode.put.Goals as goal

pub invariant_of-self : goal.invariant_of-self
invariant_of-self g c =
    let old = c.self.inside in
    let due = seen_due (client_held old.id old.asks.items old.outs.items old.ins.items old.closed.items old.starved) c.args.self.now c.args.request c.self.view_is c.requires in
    ran_put g.P.PutEnd.list g.T.TakeEnd.list old.id old.asks.items old.core old.core old.handed_back old.outs.items old.ins.items old.closed.items old.closed.items old.starved c.self.invariant
    c.put_at.new.outs.items c.args.request c.put_at.result due (c.put_at.ensures.asked old.id old.asks.items (length old.closed.items) due) c.put_at.ensures.back
