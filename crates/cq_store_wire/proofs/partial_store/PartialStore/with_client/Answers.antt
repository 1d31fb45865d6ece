use Rattle.cq_store_wire.proofs.Building.{client-bodies}
use Rattle.cq_store_wire.proofs.partial_store.PartialStore.with_client.Goals as goal

pub invariant_of-result : goal.invariant_of-result
invariant_of-result c = client-bodies c.args.client c.args.number c.in-Ok.reply _ c.in-Ok-with_reply.store _ c.reply_of.new.bodies c.self.invariant c.in-Ok.ensures.known c.in-Ok-with_reply.ensures
