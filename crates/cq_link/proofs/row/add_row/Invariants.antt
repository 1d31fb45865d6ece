use Rattle.std.proofs.Common.{◌≡◌, map, length}
use Rattle.cq_link.specs.within.Tables.{IsNewRow}
use Rattle.cq_link.proofs.row.add_row.Given as goal

abbrev pub invariant-loop-column : goal.invariant-loop-column
invariant-loop-column g l = record {
  row : IsNewRow l.row.items (map (λ c. c.items) l.fn.columns) (map (λ c. c.items) l.columns);
  count : length l.row.items ≡ l.column-index;
}
