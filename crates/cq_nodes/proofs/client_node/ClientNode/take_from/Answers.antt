-- A message was taken, or none, and closed the open request, or didn't.
use Rattle.cq_nodes.proofs.ClientSteps.{ran_took, ran_closed}
use Rattle.cq_nodes.proofs.ClientTurns.{closed_kept, closed_more}
use Rattle.cq_nodes.specs.ClientNodes.{client_held}
use Rattle.cq_nodes.proofs.client_node.ClientNode.take_from.Goals as goal

pub invariant_of-self-in_default : goal.invariant_of-self-in_default
invariant_of-self-in_default g c =
    let old = c.self.inside in
    let was = c.self.invariant in
    ran_took g.P.PutEnd.list g.T.TakeEnd.list old.id old.asks.items old.core old.core old.handed_back old.outs.items old.ins.items old.closed.items c.reserve.new.self.items old.starved was
    c.take_at.new.ins.items c.args.place c.take_at.result c.take_at.ensures.grew c.take_at.ensures.kept was.along c.in_ok-reserve.ensures.items

pub invariant_of-self-in_default-closing : goal.invariant_of-self-in_default-closing
invariant_of-self-in_default-closing g c =
    let old = c.self.inside in
    let was = c.self.invariant in
    ran_took g.P.PutEnd.list g.T.TakeEnd.list old.id old.asks.items old.core c.closing.new.core old.handed_back old.outs.items old.ins.items old.closed.items c.reserve.new.self.items old.starved was
    c.take_at.new.ins.items c.args.place c.take_at.result c.take_at.ensures.grew c.take_at.ensures.kept (c.in_default-closing.ensures old.asks.items old.closed.items was.along) c.in_ok-reserve.ensures.items

pub invariant_of-self-2 : goal.invariant_of-self-2
invariant_of-self-2 g c =
    let old = c.self.inside in
    let was = c.self.invariant in
    ran_closed g.P.PutEnd.list g.T.TakeEnd.list old.id old.asks.items old.core c.closing.new.core old.handed_back old.outs.items old.ins.items old.closed.items c.push_reserved.new.self.items old.starved was
    c.take_at.new.ins.items c.args.place c.take_at.result c.in-Some.message c.in-Some-closing.answer c.in-Some.is c.take_at.ensures.grew c.take_at.ensures.kept c.in-Some.ensures.taken (c.in-Some-closing.ensures old.asks.items old.closed.items was.along)
    c.reserve.new.self.items c.in_ok-reserve.ensures.items c.push_reserved.ensures.items

pub returns-in_default-closing-clause-closed : goal.returns-in_default-closing-clause-closed
returns-in_default-closing-clause-closed g c =
    let old = c.self.inside in
    closed_kept (client_held old.id old.asks.items old.outs.items old.ins.items old.closed.items old.starved) c.args.self.now c.reserve.new.self.items c.self.view_is c.in_ok-reserve.ensures.items

pub returns-clause-closed : goal.returns-clause-closed
returns-clause-closed g c =
    let old = c.self.inside in
    closed_more (client_held old.id old.asks.items old.outs.items old.ins.items old.closed.items old.starved) c.args.self.now c.reserve.new.self.items c.push_reserved.new.self.items c.in-Some-closing.answer c.self.view_is c.in_ok-reserve.ensures.items c.push_reserved.ensures.items
