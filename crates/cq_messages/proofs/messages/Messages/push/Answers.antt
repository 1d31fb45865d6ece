-- The messages are the same when the new one is added.
use Rattle.std.proofs.Common.{subst}
use Rattle.cq_base.specs.Relations.{Among}
use Rattle.cq_messages.proofs.messages.Messages.push.Goals as goal

pub add-requires-clause-order : goal.add-requires-clause-order
add-requires-clause-order c = λ m a. c.requires.order m (subst (Among m) c.compact.ensures a)
