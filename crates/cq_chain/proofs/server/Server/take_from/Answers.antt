-- By the message.
use Rattle.cq_chain.specs.declared.message.Message.TheVariants as stored
use Rattle.cq_chain.proofs.ServerStands.{stands-by, nothing-sent}
use Rattle.cq_chain.proofs.ServerRefusals.{no_memory, means-seen, snapshot-seen, snapshot-not-refused, takes-ack, takes-others, ack-not-refused, others-not-refused}
use Rattle.cq_chain.proofs.server.Server.take_from.Goals as goal

pub returns-in_err-take_snap-in-Snap-clause-refused : goal.returns-in_err-take_snap-in-Snap-clause-refused
returns-in_err-take_snap-in-Snap-clause-refused c = λ s outbox m h means.
    no_memory c.from_residual.result _ c.from_residual.ensures.1 (let is = snapshot-seen c.args.message.now c.in-Snap.state m c.in-Snap.is means in snapshot-not-refused s c.args.from is.entries m is.is)

pub returns-in_ok-take_snap-in-Snap-clause-refused : goal.returns-in_ok-take_snap-in-Snap-clause-refused
returns-in_ok-take_snap-in-Snap-clause-refused c = λ s outbox m h means.
    let is = snapshot-seen c.args.message.now c.in-Snap.state m c.in-Snap.is means in snapshot-not-refused s c.args.from is.entries m is.is

pub returns-in_err-take_ack-in-Ack-clause-refused : goal.returns-in_err-take_ack-in-Ack-clause-refused
returns-in_err-take_ack-in-Ack-clause-refused c = λ s outbox m h means.
    no_memory c.from_residual-in_err-take_ack-in-Ack.result _ c.from_residual-in_err-take_ack-in-Ack.ensures.1 (ack-not-refused s c.args.from c.in-Ack.place m (means-seen c.args.message.now (stored.Ack c.in-Ack.place) m c.in-Ack.is means))

pub returns-in_ok-take_ack-in-Ack-clause-refused : goal.returns-in_ok-take_ack-in-Ack-clause-refused
returns-in_ok-take_ack-in-Ack-clause-refused c = λ s outbox m h means.
    ack-not-refused s c.args.from c.in-Ack.place m (means-seen c.args.message.now (stored.Ack c.in-Ack.place) m c.in-Ack.is means)

pub returns-in_ok-take_ack-in-Ack-clause-ok : goal.returns-in_ok-take_ack-in-Ack-clause-ok
returns-in_ok-take_ack-in-Ack-clause-ok c = λ m means s outbox h.
    stands-by c.take_ack.new.self outbox _ _ (takes-ack s c.args.from c.in-Ack.place m (means-seen c.args.message.now (stored.Ack c.in-Ack.place) m c.in-Ack.is means)) (c.in_ok-take_ack-in-Ack.ensures.ok s outbox h)

pub returns-in_default : goal.returns-in_default
returns-in_default c = record {
  refused = λ s outbox m h means. others-not-refused s c.args.from c.args.message.now m c.in_default.not-Fwd means;
  ok = λ m means s outbox h. stands-by c.args.self.now outbox _ _ (takes-others s c.args.from c.args.message.now m c.in_default.not-Fwd c.in_default.not-Snap c.in_default.not-Ack means) (nothing-sent c.args.self.now s outbox h);
  err = tt;
}
