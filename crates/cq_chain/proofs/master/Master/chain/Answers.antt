-- As it is kept.
use Rattle.std.proofs.Common.{◌∙◌}
use Rattle.cq_chain.proofs.MasterStands.{master-parts}
use Rattle.cq_chain.proofs.master.Master.chain.Goals as goal

pub returns : goal.returns
returns c = λ m outbox h. c.deref.ensures.value ∙ (master-parts c.args.self.now m outbox h).chain
