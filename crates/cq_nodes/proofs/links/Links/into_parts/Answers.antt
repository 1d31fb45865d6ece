-- No message is unread at fresh ends.
use Rattle.cq_nodes.proofs.Beginning.{fresh_unread}
use Rattle.cq_nodes.proofs.links.Links.into_parts.Goals as goal

pub returns-clause-read : goal.returns-clause-read
returns-clause-read g c = fresh_unread g.T.TakeEnd.list c.self.inside.ins.items c.self.invariant.1
