-- It is what is kept of the master.
use Rattle.cq_world.proofs.OfSim.Stands.{holds}
use Rattle.cq_world.proofs.sim.Sim.master.Goals as goal

pub returns : goal.returns
returns c = λ w h. (holds c.args.self.now w h).master
