-- So far the servers before this one stand in the extended chain.
use Rattle.cq_world.specs.within.Kept.{server_at}
use Rattle.cq_world.proofs.OfSim.FirstWorld.{IsExtended}
use Rattle.cq_world.proofs.sim.Sim.new.Given as goal

abbrev pub invariant-loop-before : goal.invariant-loop-before
invariant-loop-before l = IsExtended l.size l.before (λ id. server_at l.servers id)
