-- The look at the outboxes.
use Rattle.cq_chain.proofs.MasterStands.{master-parts}
use Rattle.cq_chain.proofs.master.Master.next_waiting.Goals as goal

pub returns : goal.returns
returns c = λ m outbox h. c.next_waiting.ensures outbox (master-parts c.args.self.now m outbox h).waiting
