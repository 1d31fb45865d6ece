-- Links keep what stands in them.
use Rattle.std.proofs.Common.{◌∙◌}
use Rattle.cq_world.specs.within.Kept.{messages_at}
use Rattle.cq_world.proofs.OfSim.Meanings.{all-length}
use Rattle.cq_world.proofs.OfSim.Stands.{holds}
use Rattle.cq_world.proofs.sim.Sim.waiting.Goals as goal

pub returns : goal.returns
returns c = λ w h. (c.outbox_count.ensures w h, c.waiting.ensures ∙ all-length (messages_at c.args.self.now.links c.args.from c.args.to) (w.link c.args.from c.args.to) ((holds c.args.self.now w h).links c.args.from c.args.to))
