-- A change goes to the queue that lives.
use Rattle.std.proofs.Common.{refl}
use Rattle.cq_base.specs.declared.ask.Ask.TheVariants.{Change}
use Rattle.cq_base.specs.declared.reply.Reply.TheVariants.{Changed, Refused}
use Rattle.cq_queue.specs.Entries.{IsChange}
use Rattle.cq_store.specs.Stands.{QueueRecord}
use Rattle.cq_store.proofs.AsksStand.{came_seen, refused_seen}
use Rattle.cq_store.proofs.queue_record.QueueRecord.change.Goals.{in-Some+in-Ok, in-Some+in-Err, in-None}
use Rattle.cq_store.proofs.queue_record.QueueRecord.change.Goals as goal

pub returns-clause-ok : goal.returns-clause-ok
returns-clause-ok c =
    let kept : QueueRecord = record { creations = c.self.inside.creations; removed = c.self.inside.removed; living = c.self.inside.living } in
    elim c.match-self.branch [
      | in-Some+in-Ok w ↦ rw (w.result-is, w.self-inside-is) (λ queue. came_seen (IsChange c.args.moment c.args.receipt.now c.args.visibility) kept c.args.self.now w.in-Some.queue w.change.new.self c.args.moment (Change queue c.args.receipt.now c.args.visibility) w.changed.result.reply Changed c.self.view_is w.changed.ensures.reply w.in-Some.is w.change.ensures.same
          w.change.ensures.stands w.in-Ok.ensures.ok (λ e at asks. record { queue = queue; at_moment = at; asks = asks }) refl)
      | in-Some+in-Err w ↦ rw (w.result-is, w.self-inside-is) (λ queue. came_seen (IsChange c.args.moment c.args.receipt.now c.args.visibility) kept c.args.self.now w.in-Some.queue w.change.new.self c.args.moment (Change queue c.args.receipt.now c.args.visibility) w.refused.result.reply (Refused w.in-Err.refusal) c.self.view_is w.refused.ensures.reply w.in-Some.is w.change.ensures.same
          w.change.ensures.stands w.in-Err.ensures.err (λ e at asks. record { queue = queue; at_moment = at; asks = asks }) refl)
      | in-None w ↦ rw (w.result-is, w.self-inside-is) (λ queue. refused_seen kept c.args.self.now c.args.moment (Change queue c.args.receipt.now c.args.visibility) w.refused-in-None.result.reply c.self.view_is w.refused-in-None.ensures.reply w.in-None.is refl)
    ]
