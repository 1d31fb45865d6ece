-- A creation gives the name its next incarnation, unless it rests.
use Rattle.std.proofs.Common.{◌+◌, ◌∙◌, sym, ap, subst}
use Rattle.cq_base.specs.declared.ask.Ask.TheVariants as asks
use Rattle.cq_store.specs.within.Asked.{IsAnswer}
use Rattle.cq_store.proofs.AsksStand.{resting, created}
use Rattle.cq_base.specs.declared.reply.Reply.TheVariants.{Created}
use Rattle.cq_store.proofs.QueuesStand.{with_creation}
use Rattle.cq_store.proofs.queue_record.QueueRecord.begin.Goals as goal

pub returns-then-is_resting-clause-ok : goal.returns-then-is_resting-clause-ok
returns-then-is_resting-clause-ok c = λ queue. subst (λ r. IsAnswer c.args.self.now c.args.self.now c.args.moment (asks.Create queue c.args.visibility c.args.content) r) (sym c.refused.ensures.reply) (resting c.args.self.now c.args.moment queue c.args.visibility c.args.content c.requires.dead (sym c.is_resting.ensures ∙ c.if-is_resting.true))

pub returns-clause-ok : goal.returns-clause-ok
returns-clause-ok c = λ queue. let now = c.args.self.now in
    let made = created now c.args.moment queue c.args.visibility c.args.content c.in_ok-new.field-0 c.requires.dead (sym c.is_resting.ensures ∙ c.if-is_resting.false) (c.in_ok-new.ensures.number ∙ ap (λ k. k.creations + 1) c.self.view_is) c.in_ok-new.ensures.attributes c.in_ok-new.ensures.stands in
    subst (λ r. IsAnswer now (with_creation (record { creations = c.self.inside.creations; removed = c.self.inside.removed; living = c.self.inside.living }) c.in_ok-new.field-0) c.args.moment (asks.Create queue c.args.visibility c.args.content) r) (sym c.created.ensures.reply)
    (subst (λ k. IsAnswer now (with_creation k c.in_ok-new.field-0) c.args.moment (asks.Create queue c.args.visibility c.args.content) (Created (k.creations + 1))) (sym c.self.view_is) made)
