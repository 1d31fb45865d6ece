-- A server puts its first message.
use Rattle.std.proofs.Common.{ap, sym, refl, subst}
use Rattle.std.specs.Option.{is_some}
use Rattle.cq_base.specs.declared.party.Party.TheVariants as parties
use Rattle.cq_world.specs.within.Kept.{server_at, after_popping}
use Rattle.cq_world.specs.Stands.{StandsFor}
use Rattle.cq_events.specs.Worlds.{is_in}
use Rattle.cq_world.specs.declared.sim.Sim.{Sim}
use Rattle.cq_world.proofs.OfSim.Stands.{IsAt, holds, stands, known, unknown, drawn-stands, drawn-nothing}
use Rattle.cq_world.proofs.sim.Sim.pop_at_server.Goals as goal

pub returns-in-Some-clause-first : goal.returns-in-Some-clause-first
returns-in-Some-clause-first c = λ w h.
    let id = c.args.id in
    let own = known (server_at c.args.self.now.servers id) c.in-Some.server.now (is_in w.master.used id) (w.server id) (w.outbox (parties.Server id)) (sym c.in-Some.ensures.value) ((holds c.args.self.now w h).servers id) in
    c.put.ensures.first (w.server id) (w.outbox (parties.Server id)) own.1

pub returns-in-Some-clause-drawn : goal.returns-in-Some-clause-drawn
returns-in-Some-clause-drawn c = λ w h.
    let id = c.args.id in
    let old = c.args.self.now in
    let u = (c.get_mut.follows.holds c.put.new.self).3 (sym (ap is_some c.in-Some.ensures.value)) in
    let new : Sim = record { alloc = old.alloc; servers = c.get_mut.follows.lender c.put.new.self; links = old.links; master = old.master } in
    let all = holds old w h in
    let own = known (server_at old.servers id) c.in-Some.server.now (is_in w.master.used id) (w.server id) (w.outbox (parties.Server id)) (sym c.in-Some.ensures.value) (all.servers id) in
    let changed : IsAt old new id c.put.new.self = record { here = u.1; others = u.2; master = refl } in
    stands new (after_popping w (parties.Server id) c.args.to)
    (drawn-stands old new w id c.put.new.self c.args.to changed refl all own.0 (c.put.ensures.drained (w.server id) (w.outbox (parties.Server id)) own.1))

pub returns-in-None-clause-first : goal.returns-in-None-clause-first
returns-in-None-clause-first c = λ w h.
    let id = c.args.id in
    let none = unknown (server_at c.args.self.now.servers id) (is_in w.master.used id) (w.server id) (w.outbox (parties.Server id)) (sym c.in-None.ensures.value) ((holds c.args.self.now w h).servers id) in
    none.2 c.args.to

pub returns-in-None-clause-drawn : goal.returns-in-None-clause-drawn
returns-in-None-clause-drawn c = λ w h.
    let id = c.args.id in
    let old = c.args.self.now in
    let none = unknown (server_at c.args.self.now.servers id) (is_in w.master.used id) (w.server id) (w.outbox (parties.Server id)) (sym c.in-None.ensures.value) ((holds c.args.self.now w h).servers id) in
    subst (λ v. StandsFor (record { alloc = old.alloc; servers = c.get_mut.follows.lender-at-none; links = old.links; master = old.master }) v) (sym (drawn-nothing w (parties.Server id) c.args.to (none.2 c.args.to)))
    (subst (λ s. StandsFor (record { alloc = old.alloc; servers = s; links = old.links; master = old.master }) w) (sym c.get_mut.follows.holds-at-none) h)
