-- It is the same client, and the closed answers only grew.
use Rattle.std.proofs.Common.{◌≡◌}
use Rattle.cq_base.specs.Relations.{IsPrefix}
use Rattle.cq_nodes.specs.ClientNodes.{KeepsClient}
use Rattle.cq_nodes.proofs.client_node.ClientNode.take_from_each.Given as goal

abbrev pub invariant-loop-place : goal.invariant-loop-place
invariant-loop-place g l = record {
  same : KeepsClient g.P.PutEnd.link g.T.TakeEnd.link l.fn.self l.self;
  closed : IsPrefix l.fn.self.closed l.self.closed;
  starved : l.self.starved ≡ l.fn.self.starved;
}
