-- It is the head, with no predecessor.
use Rattle.cq_chain.proofs.OrderStands.{headed-stands}
use Rattle.cq_chain.proofs.server.Server.be_head.Goals as goal

pub returns : goal.returns
returns c = λ s outbox h. headed-stands c.args.self.now s outbox h
