-- A send goes to the queue that lives.
use Rattle.std.proofs.Common.{refl, subst}
use Rattle.std.specs.Option.{option_copied}
use Rattle.cq_base.specs.declared.ask.Ask.TheVariants.{Send}
use Rattle.cq_base.specs.declared.reply.Reply.TheVariants.{Sent, Refused}
use Rattle.cq_queue.specs.within.Answers.{send_reply}
use Rattle.cq_queue.specs.Entries.{IsSend, IsAnswered}
use Rattle.cq_store.specs.Stands.{QueueRecord}
use Rattle.cq_store.proofs.AsksStand.{came_seen, refused_seen}
use Rattle.cq_store.proofs.queue_record.QueueRecord.send.Goals.{in-Some+in_ok-sequence-in-Some+in-Ok, in-Some+in_ok-sequence-in-Some+in-Err, in-None}
use Rattle.cq_store.proofs.queue_record.QueueRecord.send.Goals as goal

pub returns-clause-ok : goal.returns-clause-ok
returns-clause-ok c =
    let kept : QueueRecord = record { creations = c.self.inside.creations; removed = c.self.inside.removed; living = c.self.inside.living } in
    let dedup = option_copied c.args.dedup in
    let kind = IsSend c.args.moment c.args.group.now dedup c.args.body.now in
    elim c.match-self.branch [
      | in-Some+in_ok-sequence-in-Some+in-Ok w ↦ rw (w.result-is, w.self-inside-is) (λ queue. came_seen kind kept c.args.self.now w.in-Some.queue w.send.new.self c.args.moment (Send queue c.args.group.now dedup c.args.body.now) w.sent.result.reply (Sent w.in-Ok.sequence) c.self.view_is w.sent.ensures.reply w.in-Some.is w.send.ensures.same
          w.in_ok-sequence-in-Some.ensures.stands (subst (λ a. IsAnswered kind w.in-Some.queue (send_reply a)) w.in-Ok.is w.in_ok-sequence-in-Some.ensures.reply) (λ e at asks. record { queue = queue; at_moment = at; asks = asks }) refl)
      | in-Some+in_ok-sequence-in-Some+in-Err w ↦ rw (w.result-is, w.self-inside-is) (λ queue. came_seen kind kept c.args.self.now w.in-Some.queue w.send.new.self c.args.moment (Send queue c.args.group.now dedup c.args.body.now) w.refused.result.reply (Refused w.in-Err.refusal) c.self.view_is w.refused.ensures.reply w.in-Some.is w.send.ensures.same
          w.in_ok-sequence-in-Some.ensures.stands (subst (λ a. IsAnswered kind w.in-Some.queue (send_reply a)) w.in-Err.is w.in_ok-sequence-in-Some.ensures.reply) (λ e at asks. record { queue = queue; at_moment = at; asks = asks }) refl)
      | in-None w ↦ rw (w.result-is, w.self-inside-is) (λ queue. refused_seen kept c.args.self.now c.args.moment (Send queue c.args.group.now dedup c.args.body.now) w.refused-in-None.result.reply c.self.view_is w.refused-in-None.ensures.reply w.in-None.is refl)
    ]
