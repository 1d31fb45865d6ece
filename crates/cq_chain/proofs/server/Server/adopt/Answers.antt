-- The successor is sent what it lacks, and then the master is told.
use Rattle.std.proofs.Common.{refl, not, List, [], ◌∷◌, ◌++◌}
use Rattle.cq_base.specs.declared.party.Party.{Party}
use Rattle.cq_base.specs.declared.party.Party.TheVariants as parties
use Rattle.cq_chain.specs.Messages as sent
use Rattle.cq_chain.specs.Servers.{is_that}
use Rattle.cq_chain.specs.Steps.{repair, when}
use Rattle.cq_chain.proofs.Mailing.{posts-then, posts-after}
use Rattle.cq_chain.proofs.OrderStands.{keeps-then, adopting-stands}
use Rattle.cq_chain.proofs.ServerStands.{on_err, with_room}
use Rattle.cq_chain.proofs.server.Server.adopt.Goals as goal

pub returns-in_err-reserve-clause-err : goal.returns-in_err-reserve-clause-err
returns-in_err-reserve-clause-err c = on_err c.from_residual-in_err-reserve.result (λ s outbox h. with_room c.args.self.now s outbox c.reserve.new.self h c.in_err-reserve.ensures.keeps)

pub returns-in_err-reserve_many-clause-err : goal.returns-in_err-reserve_many-clause-err
returns-in_err-reserve_many-clause-err c = on_err c.from_residual-in_err-reserve_many.result (λ s outbox h. with_room c.args.self.now s outbox c.reserve_many.new.self h
    (keeps-then c.args.self.now.outboxes c.reserve.new.self c.reserve_many.new.self c.in_ok-reserve.ensures.keeps c.in_err-reserve_many.ensures.keeps))

pub returns-clause-ok : goal.returns-clause-ok
returns-clause-ok c = λ s outbox h.
    let repaired = when (not (is_that s.succ c.args.succ)) (repair c.args.succ c.args.have s) in
    let told : List (Party × sent.Message) = (parties.Master, sent.Adopted c.args.succ c.count-count.result) ∷ [] in
    let keeps = keeps-then c.args.self.now.outboxes c.reserve.new.self c.reserve_many.new.self c.in_ok-reserve.ensures.keeps c.in_ok-reserve_many.ensures.keeps in
    adopting-stands c.args.self.now s outbox c.push.new.self c.args.succ c.args.have c.count-count.result h
    (posts-after c.args.self.now.outboxes c.reserve_many.new.self c.push.new.self (repaired ++ told) keeps
    (posts-then c.reserve_many.new.self c.push_all.new.self c.push.new.self repaired told (c.push_all.ensures.posts repaired (c.in_ok-messages.ensures s outbox h)) (c.push.ensures.posts (sent.Adopted c.args.succ c.count-count.result) refl)))
    c.count-count.ensures
