use Rattle.std.proofs.Common.{◌++◌, ◌∷◌, [], ap, ◌∙◌}
use Rattle.cq_link.proofs.Wiring.{nothing_wired, table_more}
use Rattle.cq_link.proofs.ports.link_all.Goals as goal

pub loop-init : goal.loop-init
loop-init g c = rw (c.new-rows.ensures.items, c.in_ok-columns.ensures) (nothing_wired c.args.parties)

pub loop-preserved : goal.loop-preserved
loop-preserved g c =
    let at = c.loop in
    table_more at.counter c.args.parties at.columns.len at.rows.items c.push_reserved.new.self.items at.columns.items c.deref_mut.result.now c.add_row.new.columns c.in_ok-row.row
    at.invariant c.deref_mut.ensures.value c.in_ok-row.ensures.row c.in_ok-row.ensures.length c.add_row.auto.columns at.columns.ok.0 (c.push_reserved.ensures.items ∙ ap (λ xs. xs ++ c.in_ok-row.row ∷ []) c.reserve.ensures.items)
