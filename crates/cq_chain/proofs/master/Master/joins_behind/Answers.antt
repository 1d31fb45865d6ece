-- By who joins, and by the last member.
use Rattle.std.proofs.Common.{◌∙◌, ap, sym}
use Rattle.cq_chain.specs.Masters.{is_last}
use Rattle.cq_chain.specs.Parties.{is_that}
use Rattle.cq_chain.proofs.MasterStands.{master-parts, joins-by_last, joins-no}
use Rattle.cq_chain.proofs.master.Master.joins_behind.Goals as goal

pub returns-then-is_that : goal.returns-then-is_that
returns-then-is_that c = λ m outbox h.
    let p = master-parts c.args.self.now m outbox h in
    let joins = sym (c.is_that.ensures ∙ ap (λ j. is_that j c.args.from) p.joiner) ∙ c.if-is_that.true in
    joins-by_last c.args.pred c.args.from m c.is_last.result joins (c.is_last.ensures ∙ ap (λ xs. is_last xs c.args.pred) (c.deref.ensures.value ∙ p.chain))

pub returns-else-is_that : goal.returns-else-is_that
returns-else-is_that c = λ m outbox h.
    let p = master-parts c.args.self.now m outbox h in
    c.if-is_that.false ∙ joins-no c.args.pred c.args.from m (sym (c.is_that.ensures ∙ ap (λ j. is_that j c.args.from) p.joiner) ∙ c.if-is_that.false)
