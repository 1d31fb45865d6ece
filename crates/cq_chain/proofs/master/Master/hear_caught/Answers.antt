-- By whether the sender joins behind the last member.
use Rattle.std.proofs.Common.{◌∙◌, sym}
use Rattle.cq_chain.specs.Masters.{admitted, hears}
use Rattle.cq_chain.specs.Messages as sent
use Rattle.cq_chain.proofs.MasterStands.{orders-as, orders-by, nothing-said, hears-caught, hears-stale_caught}
use Rattle.cq_chain.proofs.master.Master.hear_caught.Goals as goal

pub returns-then-not-joins_behind-clause-ok : goal.returns-then-not-joins_behind-clause-ok
returns-then-not-joins_behind-clause-ok c = λ m outbox h.
    orders-by c.args.self.now outbox _ _ (hears-stale_caught c.args.from c.args.pred c.args.count m (sym (c.joins_behind.ensures m outbox h) ∙ c.if-not-joins_behind.true)) (nothing-said c.args.self.now m outbox h)

pub returns-clause-ok : goal.returns-clause-ok
returns-clause-ok c = orders-as c.args.self.now c.admit.new.self (admitted c.args.pred c.args.from c.args.count) (hears c.args.from (sent.Caught c.args.pred c.args.count)) c.admit.result
    (λ m outbox h. hears-caught c.args.from c.args.pred c.args.count m (sym (c.joins_behind.ensures m outbox h) ∙ c.if-not-joins_behind.false)) c.admit.ensures.ok
