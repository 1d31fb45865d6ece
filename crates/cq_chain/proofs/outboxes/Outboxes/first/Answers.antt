-- The look at the fifo of the party, if it has one.
use Rattle.std.proofs.Common.{subst, None, Some}
use Rattle.cq_chain.specs.Fifos.{messages_of}
use Rattle.cq_chain.specs.Stands.{AllMean}
use Rattle.cq_chain.proofs.Mailing.{none-mean, looked-first, found}
use Rattle.cq_chain.proofs.outboxes.Outboxes.first.Goals as goal

pub returns-in-Some : goal.returns-in-Some
returns-in-Some c = λ outbox h.
    let was = found c.self.inside.fifos.entries c.args.self.now c.args.to (Some c.in-Some.fifo.now) c.self.view_is c.in-Some.ensures.value in
    looked-first _ c.in-Some.fifo.now.messages (outbox c.args.to) c.first.ensures (subst (λ o. AllMean (messages_of o) (outbox c.args.to)) was (h c.args.to))

pub returns-in-None : goal.returns-in-None
returns-in-None c = λ outbox h.
    let was = found c.self.inside.fifos.entries c.args.self.now c.args.to None c.self.view_is c.in-None.ensures.value in
    none-mean (outbox c.args.to) (subst (λ o. AllMean (messages_of o) (outbox c.args.to)) was (h c.args.to))
