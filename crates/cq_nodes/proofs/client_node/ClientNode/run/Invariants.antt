-- It is the same client.
use Rattle.cq_nodes.specs.ClientNodes.{IsSameClient}
use Rattle.cq_nodes.proofs.client_node.ClientNode.run.Given as goal

abbrev pub invariant-loop : goal.invariant-loop
invariant-loop g l = IsSameClient g.P.PutEnd.link g.T.TakeEnd.link l.fn.self l.self
