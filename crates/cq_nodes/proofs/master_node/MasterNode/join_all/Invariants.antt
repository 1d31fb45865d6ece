-- So far the node has what it had, with ends of the same links, and only joins before this place were done, whose turn has
-- come.
use Rattle.std.proofs.Common.{◌≡◌}
use Rattle.cq_nodes.specs.MasterNodes.{KeepsNode, IsSameMoment}
use Rattle.cq_nodes.specs.Turns.{joined_at, each_of, GrewBy}
use Rattle.cq_nodes.proofs.master_node.MasterNode.join_all.Given as goal

abbrev pub invariant-loop-place : goal.invariant-loop-place
invariant-loop-place g l = record {
  same : KeepsNode g.P.PutEnd.link g.T.TakeEnd.link l.fn.self l.self;
  moment : IsSameMoment l.fn.self l.self;
  unread : l.self.unread ≡ l.fn.self.unread;
  grew : GrewBy (each_of (joined_at l.fn.self.joins l.fn.self.turns) l.place) l.fn.self.trace l.self.trace;
}
