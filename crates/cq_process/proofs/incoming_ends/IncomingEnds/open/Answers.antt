-- A new end has received nothing.
use Rattle.std.proofs.Common.{◌≡◌, ◌∙◌, ap, sym, None, Some}
use Rattle.cq_process.specs.Links.{end_of, received_from}
use Rattle.cq_process.proofs.Ends.{elsewhere, here, is-found, is-there, new-received, none-found, on-err, written}
use Rattle.cq_process.proofs.incoming_ends.IncomingEnds.open.Goals as goal

pub returns-then-contains_key-clause-ok : goal.returns-then-contains_key-clause-ok
returns-then-contains_key-clause-ok c = sym (is-found c.self.inside.ends.entries c.args.self.now c.args.from.now c.self.view_is) ∙ sym c.contains_key.ensures ∙ c.if-contains_key.true

pub returns-clause-ok : goal.returns-clause-ok
returns-clause-ok c =
    let new = c.insert.new.self.entries in
    is-there new c.args.from.now c.new.result (here c.args.self.now new c.args.from.now (Some c.new.result) (written c.self.inside.ends.entries c.args.self.now new c.args.from.now (Some c.new.result) c.self.view_is c.in_ok-insert.ensures.updates.0))

pub returns-clause-received : goal.returns-clause-received
returns-clause-received c =
    let inside = c.self.inside.ends.entries in
    let new = c.insert.new.self.entries in
    new-received c.args.self.now new c.args.from.now c.new.result (none-found inside c.args.self.now c.args.from.now c.contains_key.result c.self.view_is c.contains_key.ensures c.if-contains_key.false)
    (written inside c.args.self.now new c.args.from.now (Some c.new.result) c.self.view_is c.in_ok-insert.ensures.updates.0) c.new.ensures.number c.new.ensures.pieces c.new.ensures.next

pub returns-clause-others : goal.returns-clause-others
returns-clause-others c =
    let new = c.insert.new.self.entries in
    elsewhere c.args.self.now new c.args.from.now (Some c.new.result) (written c.self.inside.ends.entries c.args.self.now new c.args.from.now (Some c.new.result) c.self.view_is c.in_ok-insert.ensures.updates.0)

pub returns-in_err-insert-clause-absent : goal.returns-in_err-insert-clause-absent
returns-in_err-insert-clause-absent c = on-err c.from_residual.result (end_of c.args.self.now c.args.from.now ≡ None) (none-found c.self.inside.ends.entries c.args.self.now c.args.from.now c.contains_key.result c.self.view_is c.contains_key.ensures c.if-contains_key.false)

pub returns-in_err-insert-clause-received : goal.returns-in_err-insert-clause-received
returns-in_err-insert-clause-received c = λ party. ap (λ es. received_from es party) (c.in_err-insert.ensures.err ∙ c.self.view_is)

pub returns-in_err-insert-clause-others : goal.returns-in_err-insert-clause-others
returns-in_err-insert-clause-others c = λ party differs. ap (λ es. end_of es party) (c.in_err-insert.ensures.err ∙ c.self.view_is)
