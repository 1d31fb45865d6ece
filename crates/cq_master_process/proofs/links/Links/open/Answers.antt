-- A link that is there stays; a new one says what was so without it.
use Rattle.std.proofs.Common.{◌∙◌, ap, sym, false, Result, Ok, Err}
use Rattle.std.specs.Prelude.{OnErr}
use Rattle.cq_master_process.specs.declared.link.Link.{Link}
use Rattle.cq_master_process.specs.Links.{gone_in, gone_of, is_open, put_in, put_of, taken_in, taken_of}
use Rattle.cq_master_process.proofs.Counting.{not-found, not-open, open-here, part-same, written}
use Rattle.cq_master_process.proofs.links.Links.open.Goals as goal

on-err : {X E P : Type 0} (r : Result X E) → P → OnErr r P
on-err (Ok x) h = tt
on-err (Err e) h = h

pub returns-then-contains_key-clause-ok : goal.returns-then-contains_key-clause-ok
returns-then-contains_key-clause-ok c = ap (λ es. is_open es c.args.id) (sym c.self.view_is) ∙ sym c.contains_key.ensures ∙ c.if-contains_key.true

pub returns-clause-ok : goal.returns-clause-ok
returns-clause-ok c =
    let link : Link = record { taken = 0; put = 0; is_gone = false } in
    let new = c.insert.new.self.entries in
    open-here c.args.self.now new c.args.id link (written c.self.inside.links.entries c.args.self.now new c.args.id link c.self.view_is c.in_ok-insert.ensures.updates.0)

pub returns-clause-taken : goal.returns-clause-taken
returns-clause-taken c =
    let link : Link = record { taken = 0; put = 0; is_gone = false } in
    let inside = c.self.inside.links.entries in
    let new = c.insert.new.self.entries in
    λ i other. part-same taken_in c.args.self.now new c.args.id link (written inside c.args.self.now new c.args.id link c.self.view_is c.in_ok-insert.ensures.updates.0)
    (sym (ap taken_in (not-found inside c.args.self.now c.args.id c.contains_key.result c.self.view_is c.contains_key.ensures c.if-contains_key.false))) other i

pub returns-in_err-insert-clause-taken : goal.returns-in_err-insert-clause-taken
returns-in_err-insert-clause-taken c = ap (λ es. taken_of es) (c.in_err-insert.ensures.err ∙ c.self.view_is)

pub returns-clause-put : goal.returns-clause-put
returns-clause-put c =
    let link : Link = record { taken = 0; put = 0; is_gone = false } in
    let inside = c.self.inside.links.entries in
    let new = c.insert.new.self.entries in
    λ i other. part-same put_in c.args.self.now new c.args.id link (written inside c.args.self.now new c.args.id link c.self.view_is c.in_ok-insert.ensures.updates.0)
    (sym (ap put_in (not-found inside c.args.self.now c.args.id c.contains_key.result c.self.view_is c.contains_key.ensures c.if-contains_key.false))) other i

pub returns-in_err-insert-clause-put : goal.returns-in_err-insert-clause-put
returns-in_err-insert-clause-put c = ap (λ es. put_of es) (c.in_err-insert.ensures.err ∙ c.self.view_is)

pub returns-clause-gone : goal.returns-clause-gone
returns-clause-gone c =
    let link : Link = record { taken = 0; put = 0; is_gone = false } in
    let inside = c.self.inside.links.entries in
    let new = c.insert.new.self.entries in
    λ i other. part-same gone_in c.args.self.now new c.args.id link (written inside c.args.self.now new c.args.id link c.self.view_is c.in_ok-insert.ensures.updates.0)
    (sym (ap gone_in (not-found inside c.args.self.now c.args.id c.contains_key.result c.self.view_is c.contains_key.ensures c.if-contains_key.false))) other i

pub returns-in_err-insert-clause-gone : goal.returns-in_err-insert-clause-gone
returns-in_err-insert-clause-gone c = ap (λ es. gone_of es) (c.in_err-insert.ensures.err ∙ c.self.view_is)

pub returns-in_err-insert-clause-absent : goal.returns-in_err-insert-clause-absent
returns-in_err-insert-clause-absent c = on-err c.from_residual.result (not-open c.self.inside.links.entries c.args.self.now c.args.id c.contains_key.result c.self.view_is c.contains_key.ensures c.if-contains_key.false)
