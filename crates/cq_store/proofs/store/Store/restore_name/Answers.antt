-- The name that was put is within the bounds, and the others stay.
use Rattle.std.proofs.Common.{refl}
use Rattle.cq_store.proofs.Parts.{restored-within}
use Rattle.cq_store.proofs.store.Store.restore_name.Goals as goal

pub invariant_of-self : goal.invariant_of-self
invariant_of-self c =
    restored-within c.self.inside.count c.self.inside.last c.self.inside.queues c.restore.new.self c.args.queue c.args.kept c.restore.result c.restore.ensures.put c.restore.ensures.refused c.restore.ensures.err
    (c.if-not-is_within.ensures.is refl) c.self.invariant
