-- It is the server of the join at that place.
use Rattle.std.proofs.Common.{◌∙◌, ap, sym, refl, length}
use Rattle.std.proofs.lemmas.Option.{slice_get_read}
use Rattle.cq_nodes.specs.Turns.{due_of}
use Rattle.cq_nodes.proofs.MasterSteps.{due_among}
use Rattle.cq_nodes.proofs.master_node.due_at.Goals as goal

pub returns-in-Some-clause-due : goal.returns-in-Some-clause-due
returns-in-Some-clause-due c =
    let joins = c.args.joins.now in
    let item = c.in-Some.ensures.lookup in
    c.due.ensures ∙ ap (due_of c.args.turn) (sym (slice_get_read joins (length joins) c.args.place c.in-Some.join.now refl item.3.0 item.1))

pub returns-in-Some-clause-named : goal.returns-in-Some-clause-named
returns-in-Some-clause-named c =
    let joins = c.args.joins.now in
    let item = c.in-Some.ensures.lookup in
    due_among joins c.args.place c.in-Some.join.now c.args.turn c.due.result (slice_get_read joins (length joins) c.args.place c.in-Some.join.now refl item.3.0 item.1) c.due.ensures
