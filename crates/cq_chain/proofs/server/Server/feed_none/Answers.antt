-- It has no successor.
use Rattle.cq_chain.proofs.OrderStands.{feeding_none-stands}
use Rattle.cq_chain.proofs.server.Server.feed_none.Goals as goal

pub returns : goal.returns
returns c = λ s outbox h. feeding_none-stands c.args.self.now s outbox h
