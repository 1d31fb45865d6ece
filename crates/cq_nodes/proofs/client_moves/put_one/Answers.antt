-- One more request is put, or none.
use Rattle.cq_nodes.proofs.ClientEnds.{asked_more, asked_same}
use Rattle.cq_nodes.proofs.client_moves.put_one.Goals as goal

pub returns-in-Ok-clause-asked : goal.returns-in-Ok-clause-asked
returns-in-Ok-clause-asked g c = λ id asks closed ask. asked_more id asks closed c.args.request (g.P.PutEnd.list c.args.out.now) (g.P.PutEnd.list c.put.new.self) c.in-Ok.ensures.ok ask

pub returns-in-Err-clause-asked : goal.returns-in-Err-clause-asked
returns-in-Err-clause-asked g c = λ id asks closed ask. asked_same id asks closed (g.P.PutEnd.list c.args.out.now) (g.P.PutEnd.list c.put.new.self) c.in-Err.ensures.full.1
