-- The look at the outbox.
use Rattle.cq_chain.proofs.MasterStands.{master-parts}
use Rattle.cq_chain.proofs.master.Master.first_for.Goals as goal

pub returns : goal.returns
returns c = λ m outbox h. c.first.ensures outbox (master-parts c.args.self.now m outbox h).waiting
