-- By whether the server acts, and by whom it is to feed.
use Rattle.std.proofs.Common.{◌∙◌, ap, sym, Some, if◌then◌else◌}
use Rattle.cq_chain.specs.Servers.{acts}
use Rattle.cq_chain.specs.Steps.{feeding, silent}
use Rattle.cq_chain.proofs.OrderStands.{does-as, feeds-acting, feeds-silent}
use Rattle.cq_chain.proofs.ServerStands.{stands-by, nothing-sent}
use Rattle.cq_chain.proofs.server.Server.feed.Goals as goal

pub returns-then-not-is_acting-clause-ok : goal.returns-then-not-is_acting-clause-ok
returns-then-not-is_acting-clause-ok c = λ s outbox h.
    stands-by c.args.self.now outbox _ _ (feeds-silent c.args.succ s (sym (c.is_acting.ensures s outbox h) ∙ c.if-not-is_acting.true)) (nothing-sent c.args.self.now s outbox h)

pub returns-in-Some-clause-ok : goal.returns-in-Some-clause-ok
returns-in-Some-clause-ok c = does-as c.args.self.now c.feed_one.new.self (feeding (Some c.in-Some.id)) (λ s. if acts s then feeding c.args.succ s else silent s) c.feed_one.result
    (λ s outbox h. feeds-acting c.args.succ s (sym (c.is_acting.ensures s outbox h) ∙ c.if-not-is_acting.false) ∙ ap (λ x. feeding x s) c.in-Some.is) c.feed_one.ensures.ok

pub returns-in-None-clause-ok : goal.returns-in-None-clause-ok
returns-in-None-clause-ok c = λ s outbox h.
    stands-by c.feed_none.new.self outbox _ _ (feeds-acting c.args.succ s (sym (c.is_acting.ensures s outbox h) ∙ c.if-not-is_acting.false) ∙ ap (λ x. feeding x s) c.in-None.is) (c.feed_none.ensures s outbox h)
