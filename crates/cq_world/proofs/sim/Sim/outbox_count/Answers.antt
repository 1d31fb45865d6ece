-- By whose outbox it is. The clients have none.
use Rattle.std.proofs.Common.{◌∙◌, ap, sym, length}
use Rattle.cq_world.proofs.OfSim.Stands.{holds}
use Rattle.cq_world.proofs.sim.Sim.outbox_count.Goals as goal

pub returns-in-Clients : goal.returns-in-Clients
returns-in-Clients c = λ w h. sym (ap length (ap (λ p. w.outbox p c.args.pair.now.to) c.in-Clients.is ∙ (holds c.args.self.now w h).clients c.args.pair.now.to))
