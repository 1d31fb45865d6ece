-- So far it is the same node.
use Rattle.cq_nodes.specs.MasterNodes.{IsSameNode}
use Rattle.cq_nodes.proofs.master_node.MasterNode.run.Given as goal

abbrev pub invariant-loop : goal.invariant-loop
invariant-loop g l = IsSameNode g.P.PutEnd.link g.T.TakeEnd.link l.fn.self l.self
