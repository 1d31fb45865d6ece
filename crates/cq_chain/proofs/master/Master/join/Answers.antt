-- A number that isn't refused wasn't used.
use Rattle.std.proofs.Common.{◌∙◌, ap}
use Rattle.cq_chain.specs.Masters.{is_in}
use Rattle.cq_chain.proofs.MasterStands.{master-parts, unused-number}
use Rattle.cq_chain.proofs.master.Master.join.Goals as goal

pub returns-clause-ok : goal.returns-clause-ok
returns-clause-ok c = λ m outbox h.
    let unused = ap (λ xs. is_in xs c.args.id) (master-parts c.args.self.now m outbox h).used ∙ unused-number c.args.id m (c.in_ok-check_join.ensures.refused m outbox h) in
    c.in_ok-begin_join.ensures.ok unused m outbox h
