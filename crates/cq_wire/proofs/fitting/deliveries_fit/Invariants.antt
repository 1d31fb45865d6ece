-- Each that was looked at has bytes.
use Rattle.std.proofs.Common.{take}
use Rattle.std.specs.List.{AllByRecursion}
use Rattle.cq_wire.specs.Limits.{IsDelivery}
use Rattle.cq_wire.proofs.fitting.deliveries_fit.Given as goal

abbrev pub invariant-loop-delivery : goal.invariant-loop-delivery
invariant-loop-delivery l = AllByRecursion IsDelivery (take l.delivery-index l.deliveries)
