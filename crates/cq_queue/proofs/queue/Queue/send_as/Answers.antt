-- The send repeats one or is accepted.
use Rattle.std.proofs.Common.{◌≡◌, ◌+◌, ◌∙◌, sym, subst}
use Rattle.std.proofs.lemmas.Result.{on_ok_weaker, IfOk-weaker}
use Rattle.cq_base.specs.declared.reply.Reply.TheVariants.{Sent}
use Rattle.cq_queue.specs.Entries.{IsSendAs, IsAnswered}
use Rattle.cq_queue.specs.within.Kept.{with_message}
use Rattle.cq_queue.proofs.KeptIds.{keeps-accepted, keeps-repeated}
use Rattle.cq_queue.proofs.Sends.{stands-accepted, reply-accepted, stands-repeated, reply-repeated}
use Rattle.cq_queue.proofs.queue.Queue.send_as.Goals as goal

pub returns-in-Some-clause-stands : goal.returns-in-Some-clause-stands
returns-in-Some-clause-stands c = rw c.count_repeat.ensures.used (stands-repeated c.args.self.now c.args.moment c.args.group.now c.args.dedup.now c.args.body.now c.in-Some.sequence c.requires.order (sym c.in-Some.ensures))

pub returns-in-Some-clause-reply : goal.returns-in-Some-clause-reply
returns-in-Some-clause-reply c = rw c.count_repeat.ensures.sequence (reply-repeated c.args.self.now c.args.moment c.args.group.now c.args.dedup.now c.args.body.now c.in-Some.sequence c.requires.order (sym c.in-Some.ensures))

pub returns-in-Some-clause-ids : goal.returns-in-Some-clause-ids
returns-in-Some-clause-ids c = rw c.count_repeat.ensures.used (keeps-repeated c.args.moment c.args.self.now)

pub returns-in-None-clause-ids : goal.returns-in-None-clause-ids
returns-in-None-clause-ids c =
    let kept = c.args.self.now in
    on_ok_weaker c.accept.result (λ (h : c.accept.new.self ≡ with_message c.args.moment c.args.group.now c.args.dedup.now c.args.body.now kept). rw h (keeps-accepted c.args.moment c.args.group.now c.args.dedup.now c.args.body.now kept)) c.accept.ensures.ok

pub returns-in-None-clause-stands : goal.returns-in-None-clause-stands
returns-in-None-clause-stands c =
    let kept = c.args.self.now in
    on_ok_weaker c.accept.result (λ (h : c.accept.new.self ≡ with_message c.args.moment c.args.group.now c.args.dedup.now c.args.body.now kept). rw h (stands-accepted kept c.args.moment c.args.group.now c.args.dedup.now c.args.body.now c.requires.order (sym c.repeated.ensures ∙ c.in-None.is))) c.accept.ensures.ok

pub returns-in-None-clause-reply : goal.returns-in-None-clause-reply
returns-in-None-clause-reply c =
    let kept = c.args.self.now in
    let kind = IsSendAs kept.attributes c.args.moment c.args.group.now c.args.dedup.now c.args.body.now in
    IfOk-weaker c.accept.result (λ n. n ≡ kept.sent + 1) (λ n. IsAnswered kind kept (Sent n)) (λ n h. subst (λ k. IsAnswered kind kept (Sent k)) (sym h) (reply-accepted kept c.args.moment c.args.group.now c.args.dedup.now c.args.body.now c.requires.order (sym c.repeated.ensures ∙ c.in-None.is))) c.accept.ensures.sequence
