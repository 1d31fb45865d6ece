-- By whose outbox it is. The clients have none.
use Rattle.std.proofs.Common.{◌∙◌, ap, sym}
use Rattle.cq_world.proofs.OfSim.Stands.{holds}
use Rattle.cq_show.specs.Worlds.{next_of}
use Rattle.cq_show.proofs.ways.next_message.Goals as goal

pub returns-in-Clients : goal.returns-in-Clients
returns-in-Clients c = λ w h. sym (ap next_of (ap (λ p. w.outbox p c.args.to.now) c.in-Clients.is ∙ (holds c.args.sim.now w h).clients c.args.to.now))
