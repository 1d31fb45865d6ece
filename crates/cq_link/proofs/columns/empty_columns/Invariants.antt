use Rattle.std.proofs.Common.{◌≡◌, [], map, replicate}
use Rattle.cq_link.proofs.columns.empty_columns.Given as goal

abbrev pub invariant-loop : goal.invariant-loop
invariant-loop g l = map (λ column. column.items) l.columns.items ≡ replicate l.counter []
