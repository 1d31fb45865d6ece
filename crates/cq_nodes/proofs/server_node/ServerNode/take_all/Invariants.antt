-- So far each end is still one of the same link, and there is at most one event for each place before this one.
use Rattle.std.proofs.Common.{◌≤◌}
use Rattle.cq_nodes.specs.Nodes.{KeepsLinks, IsSameTurn}
use Rattle.cq_nodes.specs.Turns.{take_of, each_of, GrewBy}
use Rattle.cq_nodes.proofs.server_node.ServerNode.take_all.Given as goal

abbrev pub invariant-loop-place : goal.invariant-loop-place
invariant-loop-place g l = record {
  same : KeepsLinks g.P.PutEnd.link g.T.TakeEnd.link g.I.TakeEnd.link l.fn.self l.self;
  turn : IsSameTurn l.fn.self l.self;
  unread : l.self.unread ≤ l.fn.self.unread;
  grew : GrewBy (each_of (take_of l.fn.self.id) l.place) l.fn.self.trace l.self.trace;
}
