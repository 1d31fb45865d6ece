-- The server crashes, unless it is the last one.
use Rattle.std.proofs.Common.{◌∙◌, ap, sym, refl, subst}
use Rattle.std.specs.Option.{is_some}
use Rattle.cq_base.specs.declared.party.Party.TheVariants as parties
use Rattle.cq_chain.specs.Steps.{crashed}
use Rattle.cq_events.specs.Events.{refusal_of_crash}
use Rattle.cq_world.specs.within.Kept.{server_at}
use Rattle.cq_world.specs.Stands.{StandsFor}
use Rattle.cq_events.specs.Worlds.{stepped, is_in}
use Rattle.cq_world.specs.declared.sim.Sim.{Sim}
use Rattle.cq_world.proofs.OfSim.Refused.{at-living, at-dead, at-none, refused-crash, next-crash}
use Rattle.cq_world.proofs.OfSim.Remaining.{crash-allowed, crash-refused}
use Rattle.cq_world.proofs.OfSim.Stands.{IsAt, holds, stands, known, unknown, stepped-stands, restands}
use Rattle.cq_world.proofs.sim.Sim.crash.Goals as goal

pub returns-then-is_down-clause-err : goal.returns-then-is_down-clause-err
returns-then-is_down-clause-err c = λ w h.
    let old = c.args.self.now in
    let u = (c.get_mut.follows.holds c.in-Some.server.now).3 (sym (ap is_some c.in-Some.ensures.value)) in
    let new : Sim = record { alloc = old.alloc; servers = c.get_mut.follows.lender c.in-Some.server.now; links = old.links; master = old.master } in
    let all = holds old w h in
    let own = known (server_at old.servers c.args.id) c.in-Some.server.now (is_in w.master.used c.args.id) (w.server c.args.id) (w.outbox (parties.Server c.args.id)) (sym c.in-Some.ensures.value) (all.servers c.args.id) in
    let changed : IsAt old new c.args.id c.in-Some.server.now = record { here = u.1; others = u.2; master = refl } in
    let down = sym (c.is_down.ensures (w.server c.args.id) (w.outbox (parties.Server c.args.id)) own.1) ∙ c.if-is_down.true in
    (refused-crash w c.args.id ∙ at-dead w c.args.id (refusal_of_crash w c.args.id) own.0 down, stands new w (restands old new w c.args.id c.in-Some.server.now changed refl all own.0 own.1))

pub returns-then-is_last-clause-err : goal.returns-then-is_last-clause-err
returns-then-is_last-clause-err c = λ w h.
    let old = c.args.self.now in
    let u = (c.get_mut.follows.holds c.in-Some.server.now).3 (sym (ap is_some c.in-Some.ensures.value)) in
    let new : Sim = record { alloc = old.alloc; servers = c.get_mut.follows.lender c.in-Some.server.now; links = old.links; master = old.master } in
    let all = holds old w h in
    let own = known (server_at old.servers c.args.id) c.in-Some.server.now (is_in w.master.used c.args.id) (w.server c.args.id) (w.outbox (parties.Server c.args.id)) (sym c.in-Some.ensures.value) (all.servers c.args.id) in
    let changed : IsAt old new c.args.id c.in-Some.server.now = record { here = u.1; others = u.2; master = refl } in
    let lives = sym (c.is_down.ensures (w.server c.args.id) (w.outbox (parties.Server c.args.id)) own.1) ∙ c.if-is_down.false in
    let last = sym (c.has_another_full-is_last.ensures w h) ∙ c.if-is_last.true in
    (refused-crash w c.args.id ∙ at-living w c.args.id (refusal_of_crash w c.args.id) own.0 lives ∙ crash-refused w c.args.id last, stands new w (restands old new w c.args.id c.in-Some.server.now changed refl all own.0 own.1))

pub returns-else-is_last-clause-ok : goal.returns-else-is_last-clause-ok
returns-else-is_last-clause-ok c = λ w h.
    let old = c.args.self.now in
    let u = (c.get_mut.follows.holds c.crash.new.self).3 (sym (ap is_some c.in-Some.ensures.value)) in
    let new : Sim = record { alloc = old.alloc; servers = c.get_mut.follows.lender c.crash.new.self; links = old.links; master = old.master } in
    let all = holds old w h in
    let own = known (server_at old.servers c.args.id) c.in-Some.server.now (is_in w.master.used c.args.id) (w.server c.args.id) (w.outbox (parties.Server c.args.id)) (sym c.in-Some.ensures.value) (all.servers c.args.id) in
    let changed : IsAt old new c.args.id c.crash.new.self = record { here = u.1; others = u.2; master = refl } in
    let lives = sym (c.is_down.ensures (w.server c.args.id) (w.outbox (parties.Server c.args.id)) own.1) ∙ c.if-is_down.false in
    let other = sym (c.has_another_full-is_last.ensures w h) ∙ c.if-is_last.false in (
      refused-crash w c.args.id ∙ at-living w c.args.id (refusal_of_crash w c.args.id) own.0 lives ∙ crash-allowed w c.args.id other,
      subst (λ v. StandsFor new v) (sym (next-crash w c.args.id)) (stands new (stepped w c.args.id (crashed (w.server c.args.id)))
          (stepped-stands old new w w c.args.id c.crash.new.self (crashed (w.server c.args.id)) changed all own.0 refl refl refl all.links (c.crash.ensures (w.server c.args.id) (w.outbox (parties.Server c.args.id)) own.1))),
    )

pub returns-in-None-clause-err : goal.returns-in-None-clause-err
returns-in-None-clause-err c = λ w h.
    let old = c.args.self.now in
    let none = unknown (server_at c.args.self.now.servers c.args.id) (is_in w.master.used c.args.id) (w.server c.args.id) (w.outbox (parties.Server c.args.id)) (sym c.in-None.ensures.value) ((holds c.args.self.now w h).servers c.args.id) in (
      refused-crash w c.args.id ∙ at-none w c.args.id (refusal_of_crash w c.args.id) none.0,
      subst (λ s. StandsFor (record { alloc = old.alloc; servers = s; links = old.links; master = old.master }) w) (sym c.get_mut.follows.holds-at-none) h,
    )
