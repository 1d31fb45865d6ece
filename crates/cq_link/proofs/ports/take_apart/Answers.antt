use Rattle.std.proofs.Common.{◌∙◌, ap, sym, refl, map, length, drop, [], ◌∷◌, ◌++◌}
use Rattle.cq_link.specs.declared.ports.Ports.{Ports}
use Rattle.std.proofs.lemmas.List.{length_push}
use Rattle.cq_link.proofs.Cells.{gone_more, gone_all, past_end}
use Rattle.cq_link.proofs.Settling.{next_of}
use Rattle.std.specs.Vec.Iter.{into_iter_items}
use Rattle.cq_link.proofs.ports.take_apart.Goals as goal

pub loop-outs-init : goal.loop-outs-init
loop-outs-init g c = record {
  left = c.into_iter-outs-iterator.ensures.into_iter_gives.0;
  rows = ap (map (λ row. row.items)) c.new-rows.ensures.items;
  columns = ap (map into_iter_items) c.new-columns.ensures.items;
}

pub loop-outs-preserved : goal.loop-outs-preserved
loop-outs-preserved g c =
    let at = c.loop-outs in
    let n = length at.yielded in
    let ports = c.args.ports.items in
    let party = next_of at.outs-iterator c.next.new.self c.next.result ports n at.invariant.left c.next.ensures.steps in
    let next = length_push at.yielded c.in-Some.field-0 in
    let here = party.0 ∙ c.in-Some.is in
    record {
      left = party.1 ∙ ap (λ k. drop k ports) (sym next);
      rows = gone_more (λ row. row.items) (λ p. p.outs.items) at.rows.items _ _ ports n _ _ at.invariant.rows (c.push_reserved.ensures.items ∙ ap (λ xs. xs ++ c.in-Some.field-0.outs ∷ []) c.reserve.ensures.items) next here refl;
      columns = gone_more into_iter_items (λ p. p.ins.items) at.columns.items _ _ ports n _ _ at.invariant.columns (c.push_reserved-in-loop-outs.ensures.items ∙ ap (λ xs. xs ++ c.into_iter.result ∷ []) c.reserve-in-loop-outs.ensures.items) next here c.into_iter.ensures.rest;
    }

pub returns-clause-rows : goal.returns-clause-rows
returns-clause-rows g c =
    let at = c.loop-outs in
    let party = next_of at.outs-iterator c.next.new.self c.next.result c.args.ports.items (length at.yielded) at.invariant.left c.next.ensures.steps in
    gone_all (λ (p : Ports _). p.outs.items) _ c.args.ports.items (length at.yielded) at.invariant.rows (past_end c.args.ports.items (length at.yielded) (party.0 ∙ c.in-None.is))

pub returns-clause-columns : goal.returns-clause-columns
returns-clause-columns g c =
    let at = c.loop-outs in
    let party = next_of at.outs-iterator c.next.new.self c.next.result c.args.ports.items (length at.yielded) at.invariant.left c.next.ensures.steps in
    gone_all (λ (p : Ports _). p.ins.items) _ c.args.ports.items (length at.yielded) at.invariant.columns (past_end c.args.ports.items (length at.yielded) (party.0 ∙ c.in-None.is))
