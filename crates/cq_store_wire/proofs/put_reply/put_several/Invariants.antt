-- Those before this one are written, and their bodies are known.
use Rattle.std.proofs.Common.{◌≡◌, ◌++◌, take}
use Rattle.std.specs.List.{flat_map}
use Rattle.cq_base.specs.Relations.{IsPrefix}
use Rattle.cq_store_wire.specs.Bodies.{all_recorded, and_bodies}
use Rattle.cq_store_wire.specs.Layout.{delivery_record}
use Rattle.cq_store_wire.proofs.put_reply.put_several.Given as goal

abbrev pub invariant-loop-value : goal.invariant-loop-value
invariant-loop-value l = record {
  ok : l.out.value ≡ l.fn.out.value ++ flat_map delivery_record (all_recorded l.fn.bodies (take l.value-index l.values));
  known : l.bodies ≡ and_bodies l.fn.bodies (take l.value-index l.values);
  more : IsPrefix l.fn.bodies l.bodies;
  before : l.out.before ≡ l.fn.out.before;
}
