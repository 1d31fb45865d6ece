-- A delete goes to the queue that lives.
use Rattle.std.proofs.Common.{refl}
use Rattle.cq_base.specs.declared.ask.Ask.TheVariants.{Delete}
use Rattle.cq_base.specs.declared.reply.Reply.TheVariants.{Deleted, Refused}
use Rattle.cq_queue.specs.Entries.{IsDelete}
use Rattle.cq_store.specs.Stands.{QueueRecord}
use Rattle.cq_store.proofs.AsksStand.{came_seen, refused_seen}
use Rattle.cq_store.proofs.queue_record.QueueRecord.delete.Goals.{in-Some+in-Ok, in-Some+in-Err, in-None}
use Rattle.cq_store.proofs.queue_record.QueueRecord.delete.Goals as goal

pub returns-clause-ok : goal.returns-clause-ok
returns-clause-ok c =
    let kept : QueueRecord = record { creations = c.self.inside.creations; removed = c.self.inside.removed; living = c.self.inside.living } in
    elim c.match-self.branch [
      | in-Some+in-Ok w ↦ rw (w.result-is, w.self-inside-is) (λ queue. came_seen (IsDelete c.args.receipt.now) kept c.args.self.now w.in-Some.queue w.delete.new.self c.args.moment (Delete queue c.args.receipt.now) w.deleted.result.reply (Deleted w.in-Ok.removed) c.self.view_is w.deleted.ensures.reply w.in-Some.is w.delete.ensures.same
          w.delete.ensures.stands w.in-Ok.ensures.ok (λ e at asks. record { queue = queue; asks = asks }) refl)
      | in-Some+in-Err w ↦ rw (w.result-is, w.self-inside-is) (λ queue. came_seen (IsDelete c.args.receipt.now) kept c.args.self.now w.in-Some.queue w.delete.new.self c.args.moment (Delete queue c.args.receipt.now) w.refused.result.reply (Refused w.in-Err.refusal) c.self.view_is w.refused.ensures.reply w.in-Some.is w.delete.ensures.same
          w.delete.ensures.stands w.in-Err.ensures.err (λ e at asks. record { queue = queue; asks = asks }) refl)
      | in-None w ↦ rw (w.result-is, w.self-inside-is) (λ queue. refused_seen kept c.args.self.now c.args.moment (Delete queue c.args.receipt.now) w.refused-in-None.result.reply c.self.view_is w.refused-in-None.ensures.reply w.in-None.is refl)
    ]
