-- The master speaks to servers alone.
use Rattle.std.proofs.Common.{◌∙◌, ap, sym, length}
use Rattle.cq_base.specs.declared.party.Party.TheVariants as parties
use Rattle.cq_world.proofs.OfSim.Stands.{holds, nothing-for}
use Rattle.cq_world.proofs.sim.Sim.master_count.Goals as goal

pub returns-in-Server : goal.returns-in-Server
returns-in-Server c = λ w h. c.waiting.ensures w.master (w.outbox parties.Master) (holds c.args.self.now w h).master ∙ ap (λ p. length (w.outbox parties.Master p)) (sym c.in-Server.is)

pub returns-in_default : goal.returns-in_default
returns-in_default c = λ w h. sym (ap length (nothing-for c.args.self.now.master w.master (w.outbox parties.Master) c.args.to (holds c.args.self.now w h).master c.in_default.not-Server))
