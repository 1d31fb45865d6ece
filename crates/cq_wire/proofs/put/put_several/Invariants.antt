use Rattle.std.proofs.Common.{◌≡◌, ◌++◌, take}
use Rattle.std.specs.List.{flat_map}
use Rattle.cq_wire.specs.Layout.{delivery}
use Rattle.cq_wire.proofs.put.put_several.Given as goal

abbrev pub invariant-loop-value : goal.invariant-loop-value
invariant-loop-value l = record {
  ok : l.out.value ≡ l.fn.out.value ++ flat_map delivery (take l.value-index l.values);
  before : l.out.before ≡ l.fn.out.before;
}
