-- It is down, and nothing else changes.
use Rattle.cq_chain.proofs.OrderStands.{crashed-stands}
use Rattle.cq_chain.proofs.server.Server.crash.Goals as goal

pub returns : goal.returns
returns c = λ s outbox h. crashed-stands c.args.self.now s outbox h
