-- None so far remains.
use Rattle.std.proofs.Common.{take}
use Rattle.cq_world.proofs.OfSim.Remaining.{NoneRemains}
use Rattle.cq_world.proofs.sim.Sim.has_another_full.Given as goal

abbrev pub invariant-loop-other : goal.invariant-loop-other
invariant-loop-other l = NoneRemains l.self l.id (take l.other-index l.other-items)
