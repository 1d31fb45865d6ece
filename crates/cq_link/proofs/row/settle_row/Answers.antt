use Rattle.std.proofs.Common.{◌≡◌, ◌∙◌, ap, arith, map, length}
use Rattle.std.proofs.lemmas.List.{length-map}
use Rattle.std.specs.Vec.Iter.{into_iter_items}
use Rattle.cq_link.specs.within.Tables.{without_firsts}
use Rattle.cq_link.proofs.Cells.{all_firsts}
use Rattle.cq_link.proofs.Settling.{next_of, next_of_column, headed, delivered_more, all_delivered}
use Rattle.cq_link.proofs.row.settle_row.Goals as goal

pub settle_pair-requires : goal.settle_pair-requires
settle_pair-requires g c =
    let at = c.loop-column in
    let out = next_of at.row c.next.new.self c.next.result c.args.row.items at.column-index at.invariant.left c.next.ensures.cases in
    let end = next_of_column at.columns (map into_iter_items c.args.columns.now) at.column-index c.column-item.result c.next-in-loop-column.new.self c.next-in-loop-column.result at.invariant.columns (omega arith) c.next-in-loop-column.ensures.cases in
    headed c.args.row.items (map into_iter_items c.args.columns.now) at.column-index c.next.result c.next-in-loop-column.result c.requires out.0 end.0

pub loop-column-preserved : goal.loop-column-preserved
loop-column-preserved g c =
    let at = c.loop-column in
    let out = next_of at.row c.next.new.self c.next.result c.args.row.items at.column-index at.invariant.left c.next.ensures.cases in
    let end = next_of_column at.columns (map into_iter_items c.args.columns.now) at.column-index c.column-item.result c.next-in-loop-column.new.self c.next-in-loop-column.result at.invariant.columns (omega arith) c.next-in-loop-column.ensures.cases in
    record {
      left = out.1;
      columns = end.1;
      delivered = delivered_more c.args.row.items (map into_iter_items c.args.columns.now) at.column-index c.next.result c.next-in-loop-column.result at.invariant.delivered out.0 end.0 c.settle_pair.ensures;
    }

pub returns-clause-settled : goal.returns-clause-settled
returns-clause-settled g c = all_delivered c.args.row.items (map into_iter_items c.args.columns.now) c.loop-column.column-index (omega (arith, length-map c.args.columns.now into_iter_items)) c.loop-column.invariant.delivered

pub returns-clause-columns : goal.returns-clause-columns
returns-clause-columns g c =
    let over : c.loop-column.column-index ≡ length (map into_iter_items c.args.columns.now) = omega (arith, length-map c.args.columns.now into_iter_items) in
    c.loop-column.invariant.columns ∙ ap (λ n. without_firsts n (map into_iter_items c.args.columns.now)) over ∙ all_firsts (map into_iter_items c.args.columns.now)
