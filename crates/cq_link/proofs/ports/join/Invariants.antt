use Rattle.std.proofs.Common.{◌≡◌, map, length, take, drop}
use Rattle.std.specs.Vec.Iter.{into_iter_items}
use Rattle.cq_link.proofs.ports.join.Given as goal

abbrev pub invariant-loop-outs : goal.invariant-loop-outs
invariant-loop-outs g l = record {
  rows : into_iter_items l.outs-iterator ≡ drop (length l.yielded) l.fn.rows.items;
  columns : into_iter_items l.columns ≡ drop (length l.yielded) l.fn.columns.items;
  outs : map (λ p. p.outs.items) l.ports.items ≡ map (λ row. row.items) (take (length l.yielded) l.fn.rows.items);
  ins : map (λ p. p.ins.items) l.ports.items ≡ map (λ column. column.items) (take (length l.yielded) l.fn.columns.items);
}
