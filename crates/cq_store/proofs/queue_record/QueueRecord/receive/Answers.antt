-- A receive goes to the queue that lives.
use Rattle.std.proofs.Common.{◌∙◌, ap, refl}
use Rattle.cq_base.specs.declared.ask.Ask.TheVariants.{Receive}
use Rattle.cq_base.specs.declared.reply.Reply.TheVariants.{Received}
use Rattle.cq_queue.specs.Entries.{IsReceive}
use Rattle.cq_store.specs.Stands.{QueueRecord}
use Rattle.cq_store.proofs.AsksStand.{came_seen, refused_seen, offered}
use Rattle.cq_store.proofs.queue_record.QueueRecord.receive.Goals.{in-Some+in_ok-offered-in-Some+in_ok-answered-in-Some, in-None}
use Rattle.cq_store.proofs.queue_record.QueueRecord.receive.Goals as goal

pub returns-clause-ok : goal.returns-clause-ok
returns-clause-ok c =
    let kept : QueueRecord = record { creations = c.self.inside.creations; removed = c.self.inside.removed; living = c.self.inside.living } in
    elim c.match-self.branch [
      | in-Some+in_ok-offered-in-Some+in_ok-answered-in-Some w ↦ rw (w.result-is, w.self-inside-is) (λ queue. came_seen (IsReceive c.args.moment c.args.size c.args.visibility) kept c.args.self.now w.in-Some.queue w.hand.new.self c.args.moment (Receive queue c.args.size c.args.visibility) w.in_ok-answered-in-Some.answered.reply (Received w.in_ok-offered-in-Some.offered.items) c.self.view_is
          (w.in_ok-answered-in-Some.ensures.reply ∙ ap Received w.from_vec.ensures) w.in-Some.is w.hand.ensures.same
          w.hand.ensures.stands (offered w.in-Some.queue c.args.moment c.args.size c.args.visibility w.in_ok-offered-in-Some.offered.items w.in_ok-offered-in-Some.ensures.offered) (λ e at asks. record { queue = queue; at_moment = at; asks = asks }) refl)
      | in-None w ↦ rw (w.result-is, w.self-inside-is) (λ queue. refused_seen kept c.args.self.now c.args.moment (Receive queue c.args.size c.args.visibility) w.refused.result.reply c.self.view_is w.refused.ensures.reply w.in-None.is refl)
    ]
