-- The master speaks to servers alone.
use Rattle.std.proofs.Common.{◌∙◌, ap, sym}
use Rattle.cq_base.specs.declared.party.Party.TheVariants as parties
use Rattle.cq_world.proofs.OfSim.Stands.{holds, nothing-for}
use Rattle.cq_show.specs.Worlds.{next_of}
use Rattle.cq_show.proofs.ways.next_order.Goals as goal

pub returns-in_default : goal.returns-in_default
returns-in_default c = λ w h. sym (ap next_of (nothing-for c.args.sim.now.master w.master (w.outbox parties.Master) c.args.to.now (holds c.args.sim.now w h).master c.in_default.not-Server))
