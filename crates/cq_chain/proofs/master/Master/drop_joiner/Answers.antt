-- What is said goes by the chain.
use Rattle.std.proofs.Common.{◌∙◌, subst, None}
use Rattle.cq_chain.specs.Masters.{dropped, to_last}
use Rattle.cq_chain.specs.Messages.{Feed}
use Rattle.cq_chain.specs.within.Waiting.{IsSaid}
use Rattle.cq_chain.proofs.MasterStands.{master-parts, with_no_joiner}
use Rattle.cq_chain.proofs.master.Master.drop_joiner.Goals as goal

pub returns-clause-ok : goal.returns-clause-ok
returns-clause-ok c = λ m outbox h.
    let said = subst (λ xs. IsSaid c.said_of_drop-said.result (to_last (Feed None) xs)) (c.deref.ensures.value ∙ (master-parts c.args.self.now m outbox h).chain) c.said_of_drop-said.ensures in
    c.say.ensures (dropped m).master outbox (to_last (Feed None) m.chain) (with_no_joiner c.reserve.new.self m outbox (c.reserve.ensures.keeps m outbox h)) said
