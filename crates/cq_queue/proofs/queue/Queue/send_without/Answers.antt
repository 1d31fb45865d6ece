-- A send that has no id is refused where the queue makes none.
use Rattle.std.proofs.Common.{◌∙◌, ap, sym}
use Rattle.cq_queue.proofs.Sends.{stands-refused, reply-refused}
use Rattle.cq_queue.proofs.queue.Queue.send_without.Goals as goal

pub returns-then-not-self-clause-stands : goal.returns-then-not-self-clause-stands
returns-then-not-self-clause-stands c =
    let lacks = sym (ap (λ k. k.attributes.content) c.self.view_is) ∙ c.if-not-self.true in
    rw c.refuse.ensures.used (stands-refused c.args.self.now c.args.moment c.args.group.now c.args.body.now c.requires.order lacks)

pub returns-then-not-self-clause-reply : goal.returns-then-not-self-clause-reply
returns-then-not-self-clause-reply c =
    let lacks = sym (ap (λ k. k.attributes.content) c.self.view_is) ∙ c.if-not-self.true in
    rw c.refuse.ensures.refusal (reply-refused c.args.self.now c.args.moment c.args.group.now c.args.body.now lacks)
