-- An end that is there stays; else it is a new one.
use Rattle.std.proofs.Common.{◌≡◌, ◌∙◌, ap, sym, None, Some}
use Rattle.cq_process.specs.Links.{IsOpened, end_of}
use Rattle.cq_process.proofs.Ends.{both, elsewhere, here, none-there, on-err, opened-same, written}
use Rattle.cq_process.proofs.outgoing_ends.OutgoingEnds.open.Goals as goal

pub returns-then-is_open-clause-ok : goal.returns-then-is_open-clause-ok
returns-then-is_open-clause-ok c = opened-same (end_of c.args.self.now c.args.to) (sym c.is_open.ensures ∙ c.if-is_open.true)

pub returns-clause-ok : goal.returns-clause-ok
returns-clause-ok c =
    let new = c.insert.new.self.entries in
    let is = here c.args.self.now new c.args.to (Some c.new.result) (written c.self.inside.ends.entries c.args.self.now new c.args.to (Some c.new.result) c.self.view_is c.in_ok-insert.ensures.updates.0) in
    let was = none-there (end_of c.args.self.now c.args.to) (sym c.is_open.ensures ∙ c.if-is_open.false) in
    both IsOpened _ _ _ _ was is (record { put = c.new.ensures.number; pieces = c.new.ensures.pieces; held = c.new.ensures.held; fresh = c.new.ensures.begins })

pub returns-clause-others : goal.returns-clause-others
returns-clause-others c =
    let new = c.insert.new.self.entries in
    elsewhere c.args.self.now new c.args.to (Some c.new.result) (written c.self.inside.ends.entries c.args.self.now new c.args.to (Some c.new.result) c.self.view_is c.in_ok-insert.ensures.updates.0)

pub returns-in_err-insert-clause-absent : goal.returns-in_err-insert-clause-absent
returns-in_err-insert-clause-absent c = on-err c.from_residual.result (end_of c.args.self.now c.args.to ≡ None) (none-there (end_of c.args.self.now c.args.to) (sym c.is_open.ensures ∙ c.if-is_open.false))

pub returns-in_err-insert-clause-err : goal.returns-in_err-insert-clause-err
returns-in_err-insert-clause-err c = on-err c.from_residual.result (end_of c.insert.new.self.entries c.args.to ≡ None)
    (ap (λ es. end_of es c.args.to) (c.in_err-insert.ensures.err ∙ c.self.view_is) ∙ none-there (end_of c.args.self.now c.args.to) (sym c.is_open.ensures ∙ c.if-is_open.false))

pub returns-in_err-insert-clause-others : goal.returns-in_err-insert-clause-others
returns-in_err-insert-clause-others c = λ party differs. ap (λ es. end_of es party) (c.in_err-insert.ensures.err ∙ c.self.view_is)
