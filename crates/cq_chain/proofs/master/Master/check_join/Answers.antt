-- By whether the number is used, by the length of the chain, and by whether the last member is ready and nobody joins.
use Rattle.std.proofs.Common.{◌<◌, ◌≤◌, ◌∙◌, ◌&&◌, ap, sym, length, arith, is_none}
use Rattle.cq_chain.specs.Masters.{is_in}
use Rattle.cq_chain.proofs.MasterStands.{master-parts, used-refused, full-refused, pending-refused, join-not-refused}
use Rattle.cq_chain.proofs.Neighbours.{any-turned}
use Rattle.cq_chain.proofs.master.Master.check_join.Goals as goal

pub returns-then-contains-clause-refused : goal.returns-then-contains-clause-refused
returns-then-contains-clause-refused c = λ m outbox h.
    let same = any-turned c.args.id c.args.self.now.used.keys ∙ ap (λ xs. is_in xs c.args.id) (master-parts c.args.self.now m outbox h).used in
    used-refused c.args.id m (sym (c.contains.ensures ∙ same) ∙ c.if-contains.true)

pub returns-then-from-chain-clause-refused : goal.returns-then-from-chain-clause-refused
returns-then-from-chain-clause-refused c = λ m outbox h.
    let same = any-turned c.args.id c.args.self.now.used.keys ∙ ap (λ xs. is_in xs c.args.id) (master-parts c.args.self.now m outbox h).used in
    let many : 8 ≤ length m.chain = omega (arith, ap (λ xs. length xs) (c.chain.ensures m outbox h), c.from.ensures) in
    full-refused c.args.id m (sym (c.contains.ensures ∙ same) ∙ c.if-contains.false) many

pub returns-then-not-is_open-clause-refused : goal.returns-then-not-is_open-clause-refused
returns-then-not-is_open-clause-refused c = λ m outbox h.
    let p = master-parts c.args.self.now m outbox h in
    let same = any-turned c.args.id c.args.self.now.used.keys ∙ ap (λ xs. is_in xs c.args.id) p.used in
    let room : length m.chain < 8 = omega (arith, ap (λ xs. length xs) (c.chain.ensures m outbox h), c.from.ensures) in
    let pending = c.is_open.ensures ∙ ap (λ b. b && is_none c.args.self.now.joiner) p.ready ∙ ap (λ j. m.ready && is_none j) p.joiner in
    pending-refused c.args.id m (sym (c.contains.ensures ∙ same) ∙ c.if-contains.false) room (sym pending ∙ c.if-not-is_open.true)

pub returns-clause-refused : goal.returns-clause-refused
returns-clause-refused c = λ m outbox h.
    let p = master-parts c.args.self.now m outbox h in
    let same = any-turned c.args.id c.args.self.now.used.keys ∙ ap (λ xs. is_in xs c.args.id) p.used in
    let room : length m.chain < 8 = omega (arith, ap (λ xs. length xs) (c.chain.ensures m outbox h), c.from.ensures) in
    let pending = c.is_open.ensures ∙ ap (λ b. b && is_none c.args.self.now.joiner) p.ready ∙ ap (λ j. m.ready && is_none j) p.joiner in
    join-not-refused c.args.id m (sym (c.contains.ensures ∙ same) ∙ c.if-contains.false) room (sym pending ∙ c.if-not-is_open.false)
