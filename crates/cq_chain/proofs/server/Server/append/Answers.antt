-- The copy is sent on with the reply that the entry has at its place.
use Rattle.std.proofs.Common.{refl}
use Rattle.cq_chain.proofs.ServerStands.{parts, on_err, with_replica, appended-stands}
use Rattle.cq_chain.proofs.server.Server.append.Goals as goal

pub returns-in_err-reply-clause-err : goal.returns-in_err-reply-clause-err
returns-in_err-reply-clause-err c = on_err c.from_residual-in_err-reply.result (λ s outbox h.
    with_replica c.args.self.now s outbox c.append.new.self h (c.in_err-reply.ensures.err s.entries s.floor (parts c.args.self.now s outbox h).entries))

pub returns-clause-ok : goal.returns-clause-ok
returns-clause-ok c = λ s outbox h.
    let done = c.in_ok-reply.ensures.ok s.entries s.floor (parts c.args.self.now s outbox h).entries in
    c.pass_on.ensures.stands s outbox c.args.entry (appended-stands c.args.self.now s outbox c.args.entry c.append.new.self h done.1) done.0 refl refl c.in_ok-copy.ensures
