-- What was closed stays closed.
use Rattle.cq_nodes.proofs.Growing.{prefix_both, prefix_same}
use Rattle.cq_nodes.proofs.client_node.ClientNode.work.Goals as goal

pub returns-in_err-put-clause-closed : goal.returns-in_err-put-clause-closed
returns-in_err-put-clause-closed g c =
    let mid = c.take_from_each.new.self in
    let new = c.put_next.new.self in
    prefix_both c.args.self.now.closed mid.closed new.closed c.take_from_each.ensures.closed (prefix_same mid.closed new.closed c.put_next.ensures.closed)

pub returns-clause-closed : goal.returns-clause-closed
returns-clause-closed g c =
    let mid = c.take_from_each.new.self in
    let new = c.put_next.new.self in
    prefix_both c.args.self.now.closed mid.closed new.closed c.take_from_each.ensures.closed (prefix_same mid.closed new.closed c.put_next.ensures.closed)
