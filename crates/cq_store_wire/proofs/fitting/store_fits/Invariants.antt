-- It holds of the names before this one.
use Rattle.std.proofs.Common.{take}
use Rattle.std.specs.List.{AllByRecursion}
use Rattle.cq_store_wire.specs.Laws.{IsName}
use Rattle.cq_store_wire.proofs.fitting.store_fits.Given as goal

abbrev pub invariant-loop-index : goal.invariant-loop-index
invariant-loop-index l = AllByRecursion IsName (take l.index l.store.queues)
