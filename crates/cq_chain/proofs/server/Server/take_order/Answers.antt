-- By the message.
use Rattle.cq_base.specs.declared.party.Party.TheVariants as parties
use Rattle.cq_chain.specs.declared.message.Message.TheVariants as stored
use Rattle.std.proofs.Common.{if◌then◌else◌}
use Rattle.cq_chain.specs.Servers.{acts}
use Rattle.cq_chain.specs.Steps.{reported, adopting, feeding, tailed, silent, takes}
use Rattle.cq_chain.proofs.OrderStands.{does-by}
use Rattle.cq_chain.proofs.ServerStands.{stands-by, nothing-sent}
use Rattle.cq_chain.proofs.ServerRefusals.{means-seen, takes-be_head, takes-report, takes-adopt, takes-be_tail, takes-feed, takes-no_order}
use Rattle.cq_chain.proofs.server.Server.take_order.Goals as goal

pub returns-in-BeHead-clause-ok : goal.returns-in-BeHead-clause-ok
returns-in-BeHead-clause-ok c = λ m means s outbox h.
    stands-by c.be_head.new.self outbox _ _ (takes-be_head s m (means-seen c.args.message.now stored.BeHead m c.in-BeHead.is means)) (c.be_head.ensures s outbox h)

pub returns-in-Report-clause-ok : goal.returns-in-Report-clause-ok
returns-in-Report-clause-ok c = λ m means.
    let is = means-seen c.args.message.now (stored.Report c.in-Report.pred) m c.in-Report.is means in
    does-by c.args.self.now c.report.new.self (reported c.in-Report.pred) (takes parties.Master m) c.report.result (λ s. takes-report s c.in-Report.pred m is) c.report.ensures.ok

pub returns-in-Adopt-clause-ok : goal.returns-in-Adopt-clause-ok
returns-in-Adopt-clause-ok c = λ m means.
    let is = means-seen c.args.message.now (stored.Adopt c.in-Adopt.succ c.in-Adopt.have) m c.in-Adopt.is means in
    does-by c.args.self.now c.adopt.new.self (adopting c.in-Adopt.succ c.in-Adopt.have) (takes parties.Master m) c.adopt.result (λ s. takes-adopt s c.in-Adopt.succ c.in-Adopt.have m is) c.adopt.ensures.ok

pub returns-in-BeTail-clause-ok : goal.returns-in-BeTail-clause-ok
returns-in-BeTail-clause-ok c = λ m means.
    let is = means-seen c.args.message.now (stored.BeTail c.in-BeTail.at_least) m c.in-BeTail.is means in
    does-by c.args.self.now c.be_tail.new.self (tailed c.in-BeTail.at_least) (takes parties.Master m) c.be_tail.result (λ s. takes-be_tail s c.in-BeTail.at_least m is) c.be_tail.ensures.ok

pub returns-in-Feed-clause-ok : goal.returns-in-Feed-clause-ok
returns-in-Feed-clause-ok c = λ m means.
    let is = means-seen c.args.message.now (stored.Feed c.in-Feed.succ) m c.in-Feed.is means in
    does-by c.args.self.now c.feed.new.self (λ s. if acts s then feeding c.in-Feed.succ s else silent s) (takes parties.Master m) c.feed.result (λ s. takes-feed s c.in-Feed.succ m is) c.feed.ensures.ok

pub returns-in_default : goal.returns-in_default
returns-in_default c = record {
  ok = λ m means s outbox h. stands-by c.args.self.now outbox _ _ (takes-no_order s c.args.message.now m c.in_default.not-BeHead c.in_default.not-Report c.in_default.not-Adopt c.in_default.not-BeTail c.in_default.not-Feed means) (nothing-sent c.args.self.now s outbox h);
  err = tt;
}
