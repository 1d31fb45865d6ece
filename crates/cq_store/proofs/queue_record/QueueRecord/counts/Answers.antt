-- The counts are those of the queue that lives.
use Rattle.std.proofs.Common.{subst}
use Rattle.cq_base.specs.declared.reply.Reply.TheVariants.{Counts}
use Rattle.cq_store.specs.within.Asked.{IsCount}
use Rattle.cq_store.specs.Stands.{QueueRecord}
use Rattle.cq_store.proofs.AsksStand.{counted}
use Rattle.cq_store.proofs.queue_record.QueueRecord.counts.Goals as goal

pub returns-in-Some : goal.returns-in-Some
returns-in-Some c =
    let kept : QueueRecord = record { creations = c.self.inside.creations; removed = c.self.inside.removed; living = c.self.inside.living } in
    subst (λ k. IsCount k c.args.moment (Counts c.counts-visible.result.0 c.counts-visible.result.1)) c.self.view_is (counted kept c.in-Some.queue c.args.moment c.counts-visible.result.0 c.counts-visible.result.1 c.in-Some.is c.counts-visible.ensures)
