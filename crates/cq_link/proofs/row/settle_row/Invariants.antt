use Rattle.std.proofs.Common.{◌≡◌, ℕ, ◌<◌, map, drop, slice_get, Some}
use Rattle.std.specs.Vec.Iter.{into_iter_items}
use Rattle.cq_link.specs.declared.link.Putter.{Putter}
use Rattle.cq_link.specs.declared.link.Taker.{Taker}
use Rattle.cq_link.specs.Wirings.{cell}
use Rattle.cq_link.specs.within.Tables.{HasDelivered, without_firsts}
use Rattle.cq_link.proofs.row.settle_row.Given as goal

abbrev pub invariant-loop-column : goal.invariant-loop-column
invariant-loop-column g l = record {
  left : into_iter_items l.row ≡ drop l.column-index l.fn.row.items;
  columns : map into_iter_items l.columns ≡ without_firsts l.column-index (map into_iter_items l.fn.columns);
  delivered : (j : ℕ) (out : Putter _) (end : Taker _) → j < l.column-index → slice_get l.fn.row.items j ≡ Some out → cell (map into_iter_items l.fn.columns) j 0 ≡ Some end → HasDelivered out end;
}
