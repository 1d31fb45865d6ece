-- What the master takes stands for each message that the link's does.
use Rattle.cq_nodes.proofs.MasterMoving.{took_of}
use Rattle.cq_nodes.proofs.master_moves.read.Goals as goal

pub returns-clause-ok : goal.returns-clause-ok
returns-clause-ok c = λ back. took_of _ c.args.core.now c.take.new.self back c.args.from c.args.message.now c.take.result c.take.ensures.ok
