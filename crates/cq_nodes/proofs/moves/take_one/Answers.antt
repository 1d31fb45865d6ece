-- No message more is unread than there was, but for one that was refused.
use Rattle.std.proofs.Common.{◌≤◌, length, ap, arith}
use Rattle.cq_nodes.specs.Ends.{listed}
use Rattle.cq_nodes.proofs.moves.take_one.Goals as goal

pub returns-then-not-is_there-clause-unread : goal.returns-then-not-is_there-clause-unread
returns-then-not-is_there-clause-unread g c = let still = ap (λ unread. length (listed unread)) c.is_there.ensures.unread in omega arith

pub returns-clause-unread : goal.returns-clause-unread
returns-clause-unread g c = let few = c.take_first.ensures.unread in omega arith
