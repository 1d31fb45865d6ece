use Rattle.cq_store_wire.proofs.Mentions.{copy-known}
use Rattle.cq_store_wire.proofs.bodies.Bodies.resolve.Goals as goal

pub returns-in-Some-clause-known : goal.returns-in-Some-clause-known
returns-in-Some-clause-known c = copy-known c.copy_of.result c.args.self.now c.in-Again.number c.in-Some.body.now c.in-Some.ensures c.copy_of.ensures
