-- The same waits.
use Rattle.cq_chain.proofs.MasterStands.{with_master_room}
use Rattle.cq_chain.proofs.master.Master.reserve.Goals as goal

pub returns-in-Some-clause-keeps : goal.returns-in-Some-clause-keeps
returns-in-Some-clause-keeps c = λ m outbox h. with_master_room c.args.self.now m outbox c.reserve.new.self h c.reserve.ensures.keeps
