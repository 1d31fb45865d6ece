-- A removal leaves the name at rest.
use Rattle.std.proofs.Common.{refl}
use Rattle.cq_base.specs.declared.ask.Ask.TheVariants.{Remove}
use Rattle.cq_store.specs.Stands.{QueueRecord}
use Rattle.cq_store.proofs.AsksStand.{refused_seen, removed_seen, no_living, some_living}
use Rattle.cq_store.proofs.queue_record.QueueRecord.remove.Goals as goal

pub returns-then-is_none-clause-ok : goal.returns-then-is_none-clause-ok
returns-then-is_none-clause-ok c = λ queue.
    let kept : QueueRecord = record { creations = c.self.inside.creations; removed = c.self.inside.removed; living = c.self.inside.living } in
    rw (← c.self.view_is) (refused_seen kept kept c.args.moment (Remove queue) c.refused.result.reply refl c.refused.ensures.reply (no_living c.self.inside.living c.if-is_none.ensures) refl)

pub returns-clause-ok : goal.returns-clause-ok
returns-clause-ok c = λ queue.
    let kept : QueueRecord = record { creations = c.self.inside.creations; removed = c.self.inside.removed; living = c.self.inside.living } in
    removed_seen kept c.args.self.now c.args.moment queue c.removed.result.reply c.self.view_is c.removed.ensures.reply (some_living c.self.inside.living c.if-is_none.ensures)
