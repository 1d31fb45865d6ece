-- A server that is kept says it.
use Rattle.std.proofs.Common.{◌≡◌, ◌&&◌, ◌∙◌, ap, sym, refl, not, true, false, Bool}
use Rattle.cq_base.specs.declared.party.Party.TheVariants as parties
use Rattle.cq_world.specs.within.Kept.{server_at}
use Rattle.cq_events.specs.Worlds.{is_in}
use Rattle.cq_world.proofs.OfSim.Stands.{holds, known, unknown}
use Rattle.cq_world.proofs.sim.Sim.serves.Goals as goal

three : (a b c : Bool) → a ≡ true → b ≡ true → c ≡ (a && b && c)
three true true c h k = refl
three true false c h k = absurd cc
three false b c h k = absurd cc

second : (a b c : Bool) → b ≡ false → false ≡ (a && b && c)
second true true c k = absurd cc
second true false c k = refl
second false b c k = refl

pub returns-then-is_full : goal.returns-then-is_full
returns-then-is_full c = λ w h.
    let id = c.args.id.now in
    let own = known (server_at c.args.self.now.servers id) c.in-Some.server.now (is_in w.master.used id) (w.server id) (w.outbox (parties.Server id)) (sym c.in-Some.ensures.value) ((holds c.args.self.now w h).servers id) in
    ap not (c.is_down.ensures (w.server id) (w.outbox (parties.Server id)) own.1) ∙ three (is_in w.master.used id) (w.server id).full (not (w.server id).down) own.0 (sym (c.is_full.ensures (w.server id) (w.outbox (parties.Server id)) own.1) ∙ c.if-is_full.true)

pub returns-else-is_full : goal.returns-else-is_full
returns-else-is_full c = λ w h.
    let id = c.args.id.now in
    let own = known (server_at c.args.self.now.servers id) c.in-Some.server.now (is_in w.master.used id) (w.server id) (w.outbox (parties.Server id)) (sym c.in-Some.ensures.value) ((holds c.args.self.now w h).servers id) in
    c.if-is_full.false ∙ second (is_in w.master.used id) (w.server id).full (not (w.server id).down) (sym (c.is_full.ensures (w.server id) (w.outbox (parties.Server id)) own.1) ∙ c.if-is_full.false)

pub returns-in-None : goal.returns-in-None
returns-in-None c = λ w h.
    let id = c.args.id.now in
    let none = unknown (server_at c.args.self.now.servers id) (is_in w.master.used id) (w.server id) (w.outbox (parties.Server id)) (sym c.in-None.ensures.value) ((holds c.args.self.now w h).servers id) in
    sym (ap (λ b. b && (w.server id).full && not (w.server id).down) none.0)
