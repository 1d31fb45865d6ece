-- The master learns of it, or refuses.
use Rattle.std.proofs.Common.{◌∙◌, sym, refl, subst}
use Rattle.cq_base.specs.declared.party.Party.TheVariants as parties
use Rattle.cq_chain.specs.Masters.{detected, refusal_of_detection}
use Rattle.cq_world.specs.within.Kept.{server_at}
use Rattle.cq_world.specs.Stands.{StandsFor}
use Rattle.cq_events.specs.Worlds.{ordered, is_in}
use Rattle.cq_world.specs.declared.sim.Sim.{Sim}
use Rattle.cq_world.proofs.OfSim.Refused.{detect-known, detect-unknown, detect-dead, detect-living, next-detect}
use Rattle.cq_world.proofs.OfSim.Stands.{holds, stands, known, unknown, ordered-same, detected-used, remains-master}
use Rattle.cq_world.proofs.OfSim.Calls.{ok-step, err-step}
use Rattle.cq_world.proofs.sim.Sim.detect.Goals as goal

pub returns-then-not-is_down-clause-err : goal.returns-then-not-is_down-clause-err
returns-then-not-is_down-clause-err c = λ w h.
    let id = c.args.id in
    let own = known (server_at c.args.self.now.servers id) c.in-Some.server.now (is_in w.master.used id) (w.server id) (w.outbox (parties.Server id)) (sym c.in-Some.ensures.value) ((holds c.args.self.now w h).servers id) in
    let lives = sym (c.is_down.ensures (w.server id) (w.outbox (parties.Server id)) own.1) ∙ c.if-not-is_down.true in
    (detect-known w id own.0 ∙ detect-living w id lives, h)

pub returns-else-not-is_down-clause-ok : goal.returns-else-not-is_down-clause-ok
returns-else-not-is_down-clause-ok c = λ w h.
    let id = c.args.id in
    let old = c.args.self.now in
    let new : Sim = record { alloc = old.alloc; servers = old.servers; links = old.links; master = c.detect.new.self } in
    let own = known (server_at c.args.self.now.servers id) c.in-Some.server.now (is_in w.master.used id) (w.server id) (w.outbox (parties.Server id)) (sym c.in-Some.ensures.value) ((holds c.args.self.now w h).servers id) in
    let down = sym (c.is_down.ensures (w.server id) (w.outbox (parties.Server id)) own.1) ∙ c.if-not-is_down.false in
    ok-step (refusal_of_detection id w.master) c.detect.result (c.detect.ensures.refused w.master (w.outbox parties.Master) (holds old w h).master)
    (λ none. detect-known w id own.0 ∙ detect-dead w id down ∙ none)
    (λ orders. subst (λ v. StandsFor new v) (sym (next-detect w id)) (stands new (ordered w (detected id w.master))
    (ordered-same old new w w (detected id w.master) refl (detected-used id w.master) refl refl (holds old w h) (holds old w h).links (orders w.master (w.outbox parties.Master) (holds old w h).master))))
    c.detect.ensures.ok

pub returns-else-not-is_down-clause-err : goal.returns-else-not-is_down-clause-err
returns-else-not-is_down-clause-err c = λ w h.
    let id = c.args.id in
    let old = c.args.self.now in
    let new : Sim = record { alloc = old.alloc; servers = old.servers; links = old.links; master = c.detect.new.self } in
    let own = known (server_at c.args.self.now.servers id) c.in-Some.server.now (is_in w.master.used id) (w.server id) (w.outbox (parties.Server id)) (sym c.in-Some.ensures.value) ((holds c.args.self.now w h).servers id) in
    let down = sym (c.is_down.ensures (w.server id) (w.outbox (parties.Server id)) own.1) ∙ c.if-not-is_down.false in
    err-step (refusal_of_detection id w.master) _ c.detect.result (c.detect.ensures.refused w.master (w.outbox parties.Master) (holds old w h).master)
    (detect-known w id own.0 ∙ detect-dead w id down)
    (λ keeps. stands new w (remains-master old new w refl refl (holds old w h) (keeps w.master (w.outbox parties.Master) (holds old w h).master)))
    c.detect.ensures.err

pub returns-in-None-clause-err : goal.returns-in-None-clause-err
returns-in-None-clause-err c = λ w h.
    let id = c.args.id in
    let none = unknown (server_at c.args.self.now.servers id) (is_in w.master.used id) (w.server id) (w.outbox (parties.Server id)) (sym c.in-None.ensures.value) ((holds c.args.self.now w h).servers id) in
    (detect-unknown w id none.0, h)
