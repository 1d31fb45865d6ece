-- By the last member.
use Rattle.std.proofs.Common.{◌≡◌, ◌∙◌, ap, sym}
use Rattle.cq_chain.specs.Masters.{is_last}
use Rattle.cq_chain.proofs.MasterStands.{master-parts, orders-by, nothing-said, with_ready, hears-ready_of_last, hears-ready_of_other}
use Rattle.cq_chain.proofs.master.Master.hear_ready.Goals as goal

pub returns-then-is_last : goal.returns-then-is_last
returns-then-is_last c = λ m outbox h.
    let kept = record c.args.self.now { ready = Rattle.std.proofs.Common.true } in
    let last = sym (c.is_last.ensures ∙ ap (λ xs. is_last xs c.args.from) (c.deref.ensures.value ∙ (master-parts c.args.self.now m outbox h).chain)) ∙ c.if-is_last.true in
    orders-by kept outbox _ _ (hears-ready_of_last c.args.from m last) (nothing-said kept (record m { ready = Rattle.std.proofs.Common.true }) outbox (with_ready c.args.self.now m outbox h))

pub returns-else-is_last : goal.returns-else-is_last
returns-else-is_last c = λ m outbox h.
    let last = sym (c.is_last.ensures ∙ ap (λ xs. is_last xs c.args.from) (c.deref.ensures.value ∙ (master-parts c.args.self.now m outbox h).chain)) ∙ c.if-is_last.false in
    orders-by c.args.self.now outbox _ _ (hears-ready_of_other c.args.from m last) (nothing-said c.args.self.now m outbox h)
