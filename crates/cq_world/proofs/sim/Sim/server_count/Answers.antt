-- Nothing waits at a server that isn't there.
use Rattle.std.proofs.Common.{ap, sym, length}
use Rattle.cq_base.specs.declared.party.Party.TheVariants as parties
use Rattle.cq_world.specs.within.Kept.{server_at}
use Rattle.cq_events.specs.Worlds.{is_in}
use Rattle.cq_world.proofs.OfSim.Stands.{holds, known, unknown}
use Rattle.cq_world.proofs.sim.Sim.server_count.Goals as goal

pub returns-in-Some : goal.returns-in-Some
returns-in-Some c = λ w h.
    let own = known (server_at c.args.self.now.servers c.args.at) c.in-Some.server.now (is_in w.master.used c.args.at) (w.server c.args.at) (w.outbox (parties.Server c.args.at)) (sym c.in-Some.ensures.value) ((holds c.args.self.now w h).servers c.args.at) in
    c.waiting.ensures (w.server c.args.at) (w.outbox (parties.Server c.args.at)) own.1

pub returns-in-None : goal.returns-in-None
returns-in-None c = λ w h.
    let none = unknown (server_at c.args.self.now.servers c.args.at) (is_in w.master.used c.args.at) (w.server c.args.at) (w.outbox (parties.Server c.args.at)) (sym c.in-None.ensures.value) ((holds c.args.self.now w h).servers c.args.at) in
    sym (ap length (none.2 c.args.to))
