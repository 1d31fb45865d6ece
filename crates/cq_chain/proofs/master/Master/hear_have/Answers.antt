-- By whether the two still stand together, and by whether the sender joins behind the last member.
use Rattle.std.proofs.Common.{◌∙◌, ◌∷◌, [], ap, sym, refl, Some}
use Rattle.cq_base.specs.declared.party.Party.TheVariants as parties
use Rattle.cq_chain.specs.Masters.{stands_before, hears}
use Rattle.cq_chain.specs.Messages as sent
use Rattle.cq_chain.proofs.MasterStands.{master-parts, orders-as, orders-by, nothing-said, hears-have, hears-have_of_joiner, hears-stale_have}
use Rattle.cq_chain.proofs.master.Master.hear_have.Goals as goal

pub returns-then-stands_before-clause-ok : goal.returns-then-stands_before-clause-ok
returns-then-stands_before-clause-ok c = orders-as c.args.self.now c.order.new.self (λ m. record { master = m; said = (parties.Server c.args.pred, sent.Adopt c.args.from c.args.count) ∷ [] }) (hears c.args.from (sent.Have c.args.pred c.args.count)) c.order.result
    (λ m outbox h. let before = sym (c.stands_before.ensures ∙ ap (λ xs. stands_before c.args.pred c.args.from xs) (c.deref.ensures.value ∙ (master-parts c.args.self.now m outbox h).chain)) ∙ c.if-stands_before.true in
    hears-have c.args.from c.args.pred c.args.count m before) (c.order.ensures.ok (sent.Adopt c.args.from c.args.count) refl)

pub returns-then-joins_behind-clause-ok : goal.returns-then-joins_behind-clause-ok
returns-then-joins_behind-clause-ok c = orders-as c.args.self.now c.order-then-joins_behind.new.self (λ m. record { master = m; said = (parties.Server c.args.pred, sent.Feed (Some c.args.from)) ∷ [] }) (hears c.args.from (sent.Have c.args.pred c.args.count)) c.order-then-joins_behind.result
    (λ m outbox h. let apart = sym (c.stands_before.ensures ∙ ap (λ xs. stands_before c.args.pred c.args.from xs) (c.deref.ensures.value ∙ (master-parts c.args.self.now m outbox h).chain)) ∙ c.if-stands_before.false in
    hears-have_of_joiner c.args.from c.args.pred c.args.count m apart (sym (c.joins_behind.ensures m outbox h) ∙ c.if-joins_behind.true)) (c.order-then-joins_behind.ensures.ok (sent.Feed (Some c.args.from)) refl)

pub returns-clause-ok : goal.returns-clause-ok
returns-clause-ok c = λ m outbox h.
    let apart = sym (c.stands_before.ensures ∙ ap (λ xs. stands_before c.args.pred c.args.from xs) (c.deref.ensures.value ∙ (master-parts c.args.self.now m outbox h).chain)) ∙ c.if-stands_before.false in
    let stale = sym (c.joins_behind.ensures m outbox h) ∙ c.if-joins_behind.false in
    orders-by c.args.self.now outbox _ _ (hears-stale_have c.args.from c.args.pred c.args.count m apart stale) (nothing-said c.args.self.now m outbox h)
