-- The look at the outbox.
use Rattle.cq_chain.proofs.ServerStands.{parts}
use Rattle.cq_chain.proofs.server.Server.first_for.Goals as goal

pub returns : goal.returns
returns c = λ s outbox h. c.first.ensures outbox (parts c.args.self.now s outbox h).waiting
