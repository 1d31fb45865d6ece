-- What isn't for the master is ignored.
use Rattle.cq_chain.proofs.MasterStands.{orders-by, nothing-said, hears-others}
use Rattle.cq_chain.proofs.master.Master.take.Goals as goal

pub returns-in_default : goal.returns-in_default
returns-in_default c = record {
  ok = λ x means m outbox h. orders-by c.args.self.now outbox _ _ (hears-others c.args.from c.args.message.now x m c.in_default.not-Have c.in_default.not-Caught c.in_default.not-Adopted c.in_default.not-Ready means) (nothing-said c.args.self.now m outbox h);
  err = tt;
}
