-- The same waits.
use Rattle.cq_chain.proofs.ServerStands.{with_room}
use Rattle.cq_chain.proofs.server.Server.reserve.Goals as goal

pub returns-clause-keeps : goal.returns-clause-keeps
returns-clause-keeps c = λ s outbox h. with_room c.args.self.now s outbox c.reserve_all.new.self h c.reserve_all.ensures.keeps
