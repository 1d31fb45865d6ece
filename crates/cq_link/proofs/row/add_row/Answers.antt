use Rattle.std.proofs.Common.{ap, length, arith, ◌∙◌, ◌+◌, ◌++◌, ◌∷◌, []}
use Rattle.std.proofs.lemmas.List.{length_push}
use Rattle.cq_link.proofs.Linking.{no_row, link_pushed}
use Rattle.cq_link.proofs.row.add_row.Goals as goal

pub loop-column-init : goal.loop-column-init
loop-column-init g c = record {
  row = rw c.new-row.ensures.items (no_row _);
  count = ap length c.new-row.ensures.items;
}

pub loop-column-preserved : goal.loop-column-preserved
loop-column-preserved g c =
    let at = c.loop-column in
    let made = c.in_ok-putter in
    let put = c.push_reserved.ensures.items ∙ ap (λ xs. xs ++ made.putter ∷ []) c.reserve.ensures.items in
    record {
      row = link_pushed at.row.items _ _ at.columns at.column-index _ _ made.putter made.taker at.invariant.row at.invariant.count (omega arith)
          made.ensures.pair made.ensures.nothing put (c.push_reserved-in-loop-column.ensures.items ∙ ap (λ xs. xs ++ made.taker ∷ []) c.reserve-in-loop-column.ensures.items);
      count = ap length put ∙ length_push at.row.items made.putter ∙ ap (λ n. n + 1) at.invariant.count;
    }
