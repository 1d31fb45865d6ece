-- What is found stands for the server.
use Rattle.std.proofs.Common.{option_map}
use Rattle.cq_world.specs.within.Kept.{server_at}
use Rattle.cq_world.proofs.OfSim.Stands.{holds, found}
use Rattle.cq_world.proofs.sim.Sim.server.Goals as goal

pub returns : goal.returns
returns c = λ w h. found w c.args.id (option_map (λ s. s.now) c.get.result) (server_at c.args.self.now.servers c.args.id) c.get.ensures.value ((holds c.args.self.now w h).servers c.args.id)
