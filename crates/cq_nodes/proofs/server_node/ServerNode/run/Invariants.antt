-- So far it is the node of the same server.
use Rattle.cq_nodes.specs.Nodes.{IsSameServer}
use Rattle.cq_nodes.proofs.server_node.ServerNode.run.Given as goal

abbrev pub invariant-loop : goal.invariant-loop
invariant-loop g l = IsSameServer g.P.PutEnd.link g.T.TakeEnd.link g.I.TakeEnd.link l.fn.self l.self
