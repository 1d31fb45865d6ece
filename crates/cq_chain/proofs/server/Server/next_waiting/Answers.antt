-- The look at the outboxes.
use Rattle.cq_chain.proofs.ServerStands.{parts}
use Rattle.cq_chain.proofs.server.Server.next_waiting.Goals as goal

pub returns : goal.returns
returns c = λ s outbox h. c.next_waiting.ensures outbox (parts c.args.self.now s outbox h).waiting
