-- What was resolved, and what is still to be, is all that is; and the bodies so far are those of it.
use Rattle.std.proofs.Common.{◌≡◌, drop}
use Rattle.cq_store_wire.specs.Bodies.{all_resolved, and_bodies}
use Rattle.cq_store_wire.proofs.Resolving.{after}
use Rattle.cq_store_wire.proofs.resolved.several_of.Given as goal

abbrev pub invariant-loop-kept : goal.invariant-loop-kept
invariant-loop-kept l = record {
  same : after l.deliveries.items (all_resolved l.bodies (drop l.kept-index l.records)) ≡ all_resolved l.fn.bodies l.records;
  known : l.bodies ≡ and_bodies l.fn.bodies l.deliveries.items;
}
