use Rattle.std.proofs.Common.{◌≡◌, map, length, take, drop}
use Rattle.std.specs.Vec.Iter.{into_iter_items}
use Rattle.cq_link.proofs.ports.take_apart.Given as goal

abbrev pub invariant-loop-outs : goal.invariant-loop-outs
invariant-loop-outs g l = record {
  left : into_iter_items l.outs-iterator ≡ drop (length l.yielded) l.fn.ports.items;
  rows : map (λ row. row.items) l.rows.items ≡ map (λ p. p.outs.items) (take (length l.yielded) l.fn.ports.items);
  columns : map into_iter_items l.columns.items ≡ map (λ p. p.ins.items) (take (length l.yielded) l.fn.ports.items);
}
