-- The server steps, or refuses.
use Rattle.std.proofs.Common.{◌∙◌, ap, sym, refl, subst}
use Rattle.std.specs.Option.{is_some}
use Rattle.cq_base.specs.declared.party.Party.TheVariants as parties
use Rattle.cq_chain.specs.Refusals.{refusal_of_query}
use Rattle.cq_chain.specs.Steps.{asked}
use Rattle.cq_world.specs.within.Kept.{server_at}
use Rattle.cq_world.specs.Stands.{StandsFor}
use Rattle.cq_events.specs.Worlds.{stepped, is_in}
use Rattle.cq_world.specs.declared.sim.Sim.{Sim}
use Rattle.cq_world.proofs.OfSim.Refused.{at-living, at-dead, at-none, refused-ask, next-ask}
use Rattle.cq_world.proofs.OfSim.Stands.{IsAt, holds, stands, known, unknown, stepped-stands, restands}
use Rattle.cq_world.proofs.OfSim.Calls.{ok-step, err-step}
use Rattle.cq_world.proofs.sim.Sim.ask.Goals as goal

pub returns-then-is_down-clause-err : goal.returns-then-is_down-clause-err
returns-then-is_down-clause-err c = λ w h.
    let old = c.args.self.now in
    let u = (c.get_mut.follows.holds c.in-Some.server.now).3 (sym (ap is_some c.in-Some.ensures.value)) in
    let new : Sim = record { alloc = old.alloc; servers = c.get_mut.follows.lender c.in-Some.server.now; links = old.links; master = old.master } in
    let all = holds old w h in
    let own = known (server_at old.servers c.args.at) c.in-Some.server.now (is_in w.master.used c.args.at) (w.server c.args.at) (w.outbox (parties.Server c.args.at)) (sym c.in-Some.ensures.value) (all.servers c.args.at) in
    let changed : IsAt old new c.args.at c.in-Some.server.now = record { here = u.1; others = u.2; master = refl } in
    let down = sym (c.is_down.ensures (w.server c.args.at) (w.outbox (parties.Server c.args.at)) own.1) ∙ c.if-is_down.true in
    (refused-ask w c.args.at c.args.query.now ∙ at-dead w c.args.at (refusal_of_query (w.server c.args.at)) own.0 down, stands new w (restands old new w c.args.at c.in-Some.server.now changed refl all own.0 own.1))

pub returns-else-is_down-clause-ok : goal.returns-else-is_down-clause-ok
returns-else-is_down-clause-ok c = λ w h.
    let old = c.args.self.now in
    let u = (c.get_mut.follows.holds c.ask.new.self).3 (sym (ap is_some c.in-Some.ensures.value)) in
    let new : Sim = record { alloc = old.alloc; servers = c.get_mut.follows.lender c.ask.new.self; links = old.links; master = old.master } in
    let all = holds old w h in
    let own = known (server_at old.servers c.args.at) c.in-Some.server.now (is_in w.master.used c.args.at) (w.server c.args.at) (w.outbox (parties.Server c.args.at)) (sym c.in-Some.ensures.value) (all.servers c.args.at) in
    let changed : IsAt old new c.args.at c.ask.new.self = record { here = u.1; others = u.2; master = refl } in
    let lives = sym (c.is_down.ensures (w.server c.args.at) (w.outbox (parties.Server c.args.at)) own.1) ∙ c.if-is_down.false in
    ok-step (refusal_of_query (w.server c.args.at)) c.ask.result (c.ask.ensures.refused (w.server c.args.at) (w.outbox (parties.Server c.args.at)) own.1)
    (λ none. refused-ask w c.args.at c.args.query.now ∙ at-living w c.args.at (refusal_of_query (w.server c.args.at)) own.0 lives ∙ none)
    (λ does. subst (λ v. StandsFor new v) (sym (next-ask w c.args.at c.args.query.now)) (stands new (stepped w c.args.at (asked c.args.query.now (w.server c.args.at)))
    (stepped-stands old new w w c.args.at c.ask.new.self (asked c.args.query.now (w.server c.args.at)) changed all own.0 refl refl refl all.links (does (w.server c.args.at) (w.outbox (parties.Server c.args.at)) own.1))))
    c.ask.ensures.ok

pub returns-else-is_down-clause-err : goal.returns-else-is_down-clause-err
returns-else-is_down-clause-err c = λ w h.
    let old = c.args.self.now in
    let u = (c.get_mut.follows.holds c.ask.new.self).3 (sym (ap is_some c.in-Some.ensures.value)) in
    let new : Sim = record { alloc = old.alloc; servers = c.get_mut.follows.lender c.ask.new.self; links = old.links; master = old.master } in
    let all = holds old w h in
    let own = known (server_at old.servers c.args.at) c.in-Some.server.now (is_in w.master.used c.args.at) (w.server c.args.at) (w.outbox (parties.Server c.args.at)) (sym c.in-Some.ensures.value) (all.servers c.args.at) in
    let changed : IsAt old new c.args.at c.ask.new.self = record { here = u.1; others = u.2; master = refl } in
    let lives = sym (c.is_down.ensures (w.server c.args.at) (w.outbox (parties.Server c.args.at)) own.1) ∙ c.if-is_down.false in
    err-step (refusal_of_query (w.server c.args.at)) _ c.ask.result (c.ask.ensures.refused (w.server c.args.at) (w.outbox (parties.Server c.args.at)) own.1)
    (refused-ask w c.args.at c.args.query.now ∙ at-living w c.args.at (refusal_of_query (w.server c.args.at)) own.0 lives)
    (λ keeps. stands new w (restands old new w c.args.at c.ask.new.self changed refl all own.0 (keeps (w.server c.args.at) (w.outbox (parties.Server c.args.at)) own.1)))
    c.ask.ensures.err

pub returns-in-None-clause-err : goal.returns-in-None-clause-err
returns-in-None-clause-err c = λ w h.
    let old = c.args.self.now in
    let none = unknown (server_at old.servers c.args.at) (is_in w.master.used c.args.at) (w.server c.args.at) (w.outbox (parties.Server c.args.at)) (sym c.in-None.ensures.value) ((holds old w h).servers c.args.at) in (
      refused-ask w c.args.at c.args.query.now ∙ at-none w c.args.at (refusal_of_query (w.server c.args.at)) none.0,
      subst (λ s. StandsFor (record { alloc = old.alloc; servers = s; links = old.links; master = old.master }) w) (sym c.get_mut.follows.holds-at-none) h,
    )
