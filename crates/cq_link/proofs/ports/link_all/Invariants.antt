use Rattle.std.proofs.Common.{map}
use Rattle.cq_link.specs.within.Tables.{AreWired}
use Rattle.cq_link.proofs.ports.link_all.Given as goal

abbrev pub invariant-loop : goal.invariant-loop
invariant-loop g l = AreWired l.counter l.fn.parties (map (λ row. row.items) l.rows.items) (map (λ column. column.items) l.columns.items)
