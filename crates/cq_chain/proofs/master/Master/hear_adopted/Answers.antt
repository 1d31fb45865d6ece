-- By the last member, and whether it was told.
use Rattle.std.proofs.Common.{◌∙◌, ◌∷◌, [], ap, sym, refl, true}
use Rattle.cq_base.specs.declared.party.Party.TheVariants as parties
use Rattle.cq_chain.specs.Masters.{is_last}
use Rattle.cq_chain.specs.Messages as sent
use Rattle.cq_chain.proofs.MasterStands.{master-parts, orders-by, nothing-said, with_told, hears-adopted, hears-adopted_of_other, hears-adopted_again}
use Rattle.cq_chain.proofs.master.Master.hear_adopted.Goals as goal

pub returns-then-not-is_last-clause-ok : goal.returns-then-not-is_last-clause-ok
returns-then-not-is_last-clause-ok c = λ from m outbox h.
    let last = sym (c.is_last.ensures ∙ ap (λ xs. is_last xs c.args.succ) (c.deref.ensures.value ∙ (master-parts c.args.self.now m outbox h).chain)) ∙ c.if-not-is_last.true in
    orders-by c.args.self.now outbox _ _ (hears-adopted_of_other from c.args.succ c.args.count m last) (nothing-said c.args.self.now m outbox h)

pub returns-then-self-clause-ok : goal.returns-then-self-clause-ok
returns-then-self-clause-ok c = λ from m outbox h.
    let p = master-parts c.args.self.now m outbox h in
    let last = sym (c.is_last.ensures ∙ ap (λ xs. is_last xs c.args.succ) (c.deref.ensures.value ∙ p.chain)) ∙ c.if-not-is_last.false in
    orders-by c.args.self.now outbox _ _ (hears-adopted_again from c.args.succ c.args.count m last (sym p.told ∙ c.if-self.true)) (nothing-said c.args.self.now m outbox h)

pub returns-clause-ok : goal.returns-clause-ok
returns-clause-ok c = λ from m outbox h.
    let p = master-parts c.args.self.now m outbox h in
    let last = sym (c.is_last.ensures ∙ ap (λ xs. is_last xs c.args.succ) (c.deref.ensures.value ∙ p.chain)) ∙ c.if-not-is_last.false in
    orders-by c.say.new.self outbox _ _ (hears-adopted from c.args.succ c.args.count m last (sym p.told ∙ c.if-self.false))
    (c.say.ensures (record m { told = true }) outbox ((parties.Server c.args.succ, sent.BeTail c.args.count) ∷ []) (with_told c.reserve.new.self m outbox (c.reserve.ensures.keeps m outbox h)) (refl, (refl, tt)))
