-- A server is known if it is kept.
use Rattle.std.proofs.Common.{◌∙◌, ap, sym}
use Rattle.cq_base.specs.declared.party.Party.TheVariants as parties
use Rattle.cq_events.specs.Events.{has_party}
use Rattle.cq_world.specs.within.Kept.{server_at}
use Rattle.cq_events.specs.Worlds.{is_in}
use Rattle.cq_world.proofs.OfSim.Stands.{holds, kept-known}
use Rattle.cq_world.proofs.sim.Sim.has_party.Goals as goal

pub returns-in-Server : goal.returns-in-Server
returns-in-Server c = λ w h.
    let id = c.in-Server.id in
    c.contains_key.ensures ∙ kept-known (server_at c.args.self.now.servers id) (is_in w.master.used id) (w.server id) (w.outbox (parties.Server id)) ((holds c.args.self.now w h).servers id) ∙ ap (λ p. has_party w p) (sym c.in-Server.is)
