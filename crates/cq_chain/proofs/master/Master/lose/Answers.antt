-- What is said goes by the chain as it was.
use Rattle.std.proofs.Common.{◌∙◌, subst}
use Rattle.cq_chain.specs.Masters.{closed_up, said_of_loss}
use Rattle.cq_chain.specs.within.Waiting.{IsSaid}
use Rattle.cq_chain.proofs.MasterStands.{master-parts}
use Rattle.cq_chain.proofs.master.Master.lose.Goals as goal

pub returns-clause-ok : goal.returns-clause-ok
returns-clause-ok c = λ m outbox h.
    let said = subst (λ xs. IsSaid c.said_of_loss-said.result (said_of_loss c.args.id xs)) (c.deref.ensures.value ∙ (master-parts c.args.self.now m outbox h).chain) c.said_of_loss-said.ensures in
    c.say.ensures (closed_up c.args.id m).master outbox (said_of_loss c.args.id m.chain) (c.remove.ensures.stands m outbox (c.reserve.ensures.keeps m outbox h)) said
