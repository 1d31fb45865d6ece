use Rattle.std.proofs.Common.{map}
use Rattle.std.specs.Vec.Iter.{into_iter_items}
use Rattle.cq_link.specs.within.Tables.{AreJoined, HaveAllDelivered}
use Rattle.cq_link.proofs.ports.settle_all.Given as goal

abbrev pub invariant-loop-row : goal.invariant-loop-row
invariant-loop-row g l = record {
  joined : AreJoined (map (λ row. row.items) (into_iter_items l.row-iterator)) (map into_iter_items l.columns.items);
  rest : HaveAllDelivered (map (λ row. row.items) (into_iter_items l.row-iterator)) (map into_iter_items l.columns.items)
      → HaveAllDelivered (map (λ p. p.outs.items) l.fn.ports.items) (map (λ p. p.ins.items) l.fn.ports.items);
}
