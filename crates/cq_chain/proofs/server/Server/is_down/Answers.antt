-- As it is kept.
use Rattle.cq_chain.proofs.ServerStands.{parts}
use Rattle.cq_chain.proofs.server.Server.is_down.Goals as goal

pub returns : goal.returns
returns c = λ s outbox h. (parts c.args.self.now s outbox h).down
