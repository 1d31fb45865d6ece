-- The master and the new predecessor are told.
use Rattle.std.proofs.Common.{refl, [], ◌∷◌}
use Rattle.cq_base.specs.declared.party.Party.{Party}
use Rattle.cq_base.specs.declared.party.Party.TheVariants as parties
use Rattle.cq_chain.specs.Messages as sent
use Rattle.cq_chain.proofs.Mailing.{posts-then, posts-after}
use Rattle.cq_chain.proofs.OrderStands.{keeps-then, reported-stands}
use Rattle.cq_chain.proofs.ServerStands.{on_err, with_room}
use Rattle.cq_chain.proofs.server.Server.report.Goals as goal

pub returns-in_err-reserve-clause-err : goal.returns-in_err-reserve-clause-err
returns-in_err-reserve-clause-err c = on_err c.from_residual.result (λ s outbox h. with_room c.args.self.now s outbox c.reserve.new.self h c.in_err-reserve.ensures.keeps)

pub returns-in_err-reserve-2-clause-err : goal.returns-in_err-reserve-2-clause-err
returns-in_err-reserve-2-clause-err c = on_err c.from_residual-in_err-reserve-2.result (λ s outbox h. with_room c.args.self.now s outbox c.reserve-2.new.self h
    (keeps-then c.args.self.now.outboxes c.reserve.new.self c.reserve-2.new.self c.in_ok-reserve.ensures.keeps c.in_err-reserve-2.ensures.keeps))

pub returns-clause-ok : goal.returns-clause-ok
returns-clause-ok c = λ s outbox h.
    let have : Party × sent.Message = (parties.Master, sent.Have c.args.pred c.count-count.result) in
    let ack : Party × sent.Message = (parties.Server c.args.pred, sent.Ack c.args.self.now.acked) in
    let keeps = keeps-then c.args.self.now.outboxes c.reserve.new.self c.reserve-2.new.self c.in_ok-reserve.ensures.keeps c.in_ok-reserve-2.ensures.keeps in
    reported-stands c.args.self.now s outbox c.push-2.new.self c.args.pred c.count-count.result c.args.self.now.acked h
    (posts-after c.args.self.now.outboxes c.reserve-2.new.self c.push-2.new.self (have ∷ ack ∷ []) keeps
    (posts-then c.reserve-2.new.self c.push.new.self c.push-2.new.self (have ∷ []) (ack ∷ []) (c.push.ensures.posts (sent.Have c.args.pred c.count-count.result) refl) (c.push-2.ensures.posts (sent.Ack c.args.self.now.acked) refl)))
    c.count-count.ensures refl
