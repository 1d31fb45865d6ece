-- By whether it joins, whether it is a member, and whether others remain.
use Rattle.std.proofs.Common.{◌<◌, ◌≤◌, ◌∙◌, ap, sym, length, arith}
use Rattle.cq_chain.specs.Masters.{is_in}
use Rattle.cq_chain.specs.Parties.{is_that}
use Rattle.cq_chain.proofs.MasterStands.{master-parts, orders-by, joiner-not-refused, stranger-refused, last-refused, detection-not-refused, detected-joiner, detected-member}
use Rattle.cq_chain.proofs.ServerRefusals.{no_memory}
use Rattle.cq_chain.proofs.master.Master.detect.Goals as goal

pub returns-in_err-drop_joiner-clause-refused : goal.returns-in_err-drop_joiner-clause-refused
returns-in_err-drop_joiner-clause-refused c = λ m outbox h.
    let joins = sym (c.is_that.ensures ∙ ap (λ j. is_that j c.args.id) (master-parts c.args.self.now m outbox h).joiner) ∙ c.if-is_that.true in
    no_memory c.from_residual.result _ c.from_residual.ensures.1 (joiner-not-refused c.args.id m joins)

pub returns-then-is_that-clause-refused : goal.returns-then-is_that-clause-refused
returns-then-is_that-clause-refused c = λ m outbox h.
    joiner-not-refused c.args.id m (sym (c.is_that.ensures ∙ ap (λ j. is_that j c.args.id) (master-parts c.args.self.now m outbox h).joiner) ∙ c.if-is_that.true)

pub returns-then-is_that-clause-ok : goal.returns-then-is_that-clause-ok
returns-then-is_that-clause-ok c = λ m outbox h.
    let joins = sym (c.is_that.ensures ∙ ap (λ j. is_that j c.args.id) (master-parts c.args.self.now m outbox h).joiner) ∙ c.if-is_that.true in
    orders-by c.drop_joiner.new.self outbox _ _ (detected-joiner c.args.id m joins) (c.in_ok-drop_joiner.ensures.ok m outbox h)

pub returns-then-not-contains-clause-refused : goal.returns-then-not-contains-clause-refused
returns-then-not-contains-clause-refused c = λ m outbox h.
    let p = master-parts c.args.self.now m outbox h in
    let joins = sym (c.is_that.ensures ∙ ap (λ j. is_that j c.args.id) p.joiner) ∙ c.if-is_that.false in
    let same = c.deref.ensures.value ∙ p.chain in
    stranger-refused c.args.id m joins (sym (c.contains.ensures.value ∙ ap (λ xs. is_in xs c.args.id) same) ∙ c.if-not-contains.true)

pub returns-then-len-le1-clause-refused : goal.returns-then-len-le1-clause-refused
returns-then-len-le1-clause-refused c = λ m outbox h.
    let p = master-parts c.args.self.now m outbox h in
    let joins = sym (c.is_that.ensures ∙ ap (λ j. is_that j c.args.id) p.joiner) ∙ c.if-is_that.false in
    let same = c.deref.ensures.value ∙ p.chain in
    let few : length m.chain ≤ 1 = omega (arith, ap (λ xs. length xs) same, c.deref.ensures.len) in
    last-refused c.args.id m joins (sym (c.contains.ensures.value ∙ ap (λ xs. is_in xs c.args.id) same) ∙ c.if-not-contains.false) few

pub returns-in_err-lose-clause-refused : goal.returns-in_err-lose-clause-refused
returns-in_err-lose-clause-refused c = λ m outbox h.
    let p = master-parts c.args.self.now m outbox h in
    let joins = sym (c.is_that.ensures ∙ ap (λ j. is_that j c.args.id) p.joiner) ∙ c.if-is_that.false in
    let same = c.deref.ensures.value ∙ p.chain in
    let more : 1 < length m.chain = omega (arith, ap (λ xs. length xs) same, c.deref.ensures.len) in
    no_memory c.from_residual-in_err-lose.result _ c.from_residual-in_err-lose.ensures.1 (detection-not-refused c.args.id m joins (sym (c.contains.ensures.value ∙ ap (λ xs. is_in xs c.args.id) same) ∙ c.if-not-contains.false) more)

pub returns-clause-refused : goal.returns-clause-refused
returns-clause-refused c = λ m outbox h.
    let p = master-parts c.args.self.now m outbox h in
    let joins = sym (c.is_that.ensures ∙ ap (λ j. is_that j c.args.id) p.joiner) ∙ c.if-is_that.false in
    let same = c.deref.ensures.value ∙ p.chain in
    let more : 1 < length m.chain = omega (arith, ap (λ xs. length xs) same, c.deref.ensures.len) in
    detection-not-refused c.args.id m joins (sym (c.contains.ensures.value ∙ ap (λ xs. is_in xs c.args.id) same) ∙ c.if-not-contains.false) more

pub returns-clause-ok : goal.returns-clause-ok
returns-clause-ok c = λ m outbox h.
    let joins = sym (c.is_that.ensures ∙ ap (λ j. is_that j c.args.id) (master-parts c.args.self.now m outbox h).joiner) ∙ c.if-is_that.false in
    orders-by c.lose.new.self outbox _ _ (detected-member c.args.id m joins) (c.in_ok-lose.ensures.ok m outbox h)
