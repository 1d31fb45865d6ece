use Rattle.cq_store_wire.proofs.Resolving.{received-written}
use Rattle.cq_store_wire.proofs.put_reply.put_received.Goals as goal

pub returns-clause-ok : goal.returns-clause-ok
returns-clause-ok c =
    received-written c.put_several.result c.args.bodies.now c.args.values.now c.args.out.now.value c.put.new.self.value c.put_u64.new.self.value c.put_several.new.out.value c.in_ok-put.ensures.ok c.in_ok-put_u64.ensures.ok c.put_several.ensures.ok
