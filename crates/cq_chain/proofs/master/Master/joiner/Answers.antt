-- As it is kept.
use Rattle.cq_chain.proofs.MasterStands.{master-parts}
use Rattle.cq_chain.proofs.master.Master.joiner.Goals as goal

pub returns : goal.returns
returns c = λ m outbox h. (master-parts c.args.self.now m outbox h).joiner
