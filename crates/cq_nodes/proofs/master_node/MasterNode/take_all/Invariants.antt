-- So far the node has what it had, with ends of the same links, and there is at most one event for each place before this one.
use Rattle.std.proofs.Common.{◌≤◌}
use Rattle.cq_nodes.specs.MasterNodes.{KeepsNode, IsSameMoment}
use Rattle.cq_nodes.specs.Turns.{taken_at, each_of, GrewBy}
use Rattle.cq_nodes.proofs.master_node.MasterNode.take_all.Given as goal

abbrev pub invariant-loop-number : goal.invariant-loop-number
invariant-loop-number g l = record {
  same : KeepsNode g.P.PutEnd.link g.T.TakeEnd.link l.fn.self l.self;
  moment : IsSameMoment l.fn.self l.self;
  unread : l.self.unread ≤ l.fn.self.unread;
  grew : GrewBy (each_of taken_at l.number) l.fn.self.trace l.self.trace;
}
