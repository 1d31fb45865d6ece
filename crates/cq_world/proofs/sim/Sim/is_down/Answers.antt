-- A server that is kept says it.
use Rattle.std.proofs.Common.{◌≡◌, ◌∙◌, ap, sym, subst, true}
use Rattle.cq_base.specs.declared.party.Party.TheVariants as parties
use Rattle.cq_events.specs.Events.{has_party, is_down}
use Rattle.cq_world.specs.within.Kept.{server_at}
use Rattle.cq_events.specs.Worlds.{is_in}
use Rattle.cq_world.proofs.OfSim.Stands.{holds, known, unknown}
use Rattle.cq_world.proofs.OfSim.Taking.{true_false}
use Rattle.cq_world.proofs.sim.Sim.is_down.Goals as goal

pub returns-in-Some : goal.returns-in-Some
returns-in-Some c = λ w h there.
    let id = c.in-Server.id in
    let own = known (server_at c.args.self.now.servers id) c.in-Some.server.now (is_in w.master.used id) (w.server id) (w.outbox (parties.Server id)) (sym c.in-Some.ensures.value) ((holds c.args.self.now w h).servers id) in
    c.is_down.ensures (w.server id) (w.outbox (parties.Server id)) own.1 ∙ ap (λ p. is_down w p) (sym c.in-Server.is)

pub returns-in-None : goal.returns-in-None
returns-in-None c = λ w h there.
    let id = c.in-Server.id in
    let none = unknown (server_at c.args.self.now.servers id) (is_in w.master.used id) (w.server id) (w.outbox (parties.Server id)) (sym c.in-None.ensures.value) ((holds c.args.self.now w h).servers id) in
    absurd (true_false (sym (subst (λ p. has_party w p ≡ true) c.in-Server.is there) ∙ none.0))
