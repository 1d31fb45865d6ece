-- The server takes the first message, or refuses it.
use Rattle.std.proofs.Common.{◌∙◌, ap, sym, refl, subst}
use Rattle.std.specs.Option.{is_some}
use Rattle.cq_base.specs.declared.party.Party.TheVariants as parties
use Rattle.cq_events.specs.Events.{refusal_of_take}
use Rattle.cq_world.specs.within.Kept.{server_at, messages_at}
use Rattle.cq_world.specs.Stands.{StandsFor}
use Rattle.cq_events.specs.Worlds.{is_in}
use Rattle.cq_world.specs.declared.sim.Sim.{Sim}
use Rattle.cq_world.proofs.OfSim.Meanings.{first-mean, first-none}
use Rattle.cq_world.proofs.OfSim.Refused.{next-take}
use Rattle.cq_world.proofs.OfSim.Stands.{IsAt, holds, stands, known, unknown}
use Rattle.cq_world.proofs.OfSim.Calls.{no-ok, err-same}
use Rattle.cq_world.proofs.OfSim.Taking.{Took, refused-by, took-stands, kept-stands, true_false}
use Rattle.cq_world.proofs.sim.Sim.take_at.Goals as goal

pub returns-in_err-take-in-Some-get_mut-clause-ok : goal.returns-in_err-take-in-Some-get_mut-clause-ok
returns-in_err-take-in-Some-get_mut-clause-ok c = λ w h. no-ok _ c.from_residual.result c.from_residual.ensures.0

pub returns-in_err-take-in-Some-get_mut-clause-err : goal.returns-in_err-take-in-Some-get_mut-clause-err
returns-in_err-take-in-Some-get_mut-clause-err c = λ w h there.
    let from = c.args.pair.now.from in
    let to = c.args.pair.now.to in
    let id = c.args.id in
    let old = c.args.self.now in
    let u = (c.get_mut.follows.holds c.take.new.self).3 (sym (ap is_some c.in-Some-get_mut.ensures.value)) in
    let new : Sim = record { alloc = old.alloc; servers = c.get_mut.follows.lender c.take.new.self; links = old.links; master = old.master } in
    let all = holds old w h in
    let own = known (server_at old.servers id) c.in-Some-get_mut.server.now (is_in w.master.used id) (w.server id) (w.outbox (parties.Server id)) (sym c.in-Some-get_mut.ensures.value) (all.servers id) in
    let changed : IsAt old new id c.take.new.self = record { here = u.1; others = u.2; master = refl } in
    let first = first-mean c.in-Some.message.now (messages_at old.links from to) (w.link from to) (all.links from to) (sym c.in-Some.ensures) in
    let took : Took old new w from to id c.in-Some.message.now c.in-Some-get_mut.server.now c.take.new.self = record { ends = c.requires; changed = changed; holds = all; there = own.0; stood = own.1; first = first } in
    err-same (refusal_of_take w from to (w.link from to)) c.in_err-take-in-Some-get_mut.field-0.0 c.from_residual.result c.from_residual.ensures.1
    (refused-by old new w from to id c.in-Some.message.now c.in-Some-get_mut.server.now c.take.new.self took c.in_err-take-in-Some-get_mut.field-0.0 c.in_err-take-in-Some-get_mut.ensures.refused)
    (stands new w (kept-stands old new w from to id c.in-Some.message.now c.in-Some-get_mut.server.now c.take.new.self took refl c.in_err-take-in-Some-get_mut.ensures.err))

pub returns-in_ok-take-in-Some-get_mut-clause-ok : goal.returns-in_ok-take-in-Some-get_mut-clause-ok
returns-in_ok-take-in-Some-get_mut-clause-ok c = λ w h.
    let from = c.args.pair.now.from in
    let to = c.args.pair.now.to in
    let id = c.args.id in
    let old = c.args.self.now in
    let u = (c.get_mut.follows.holds c.take.new.self).3 (sym (ap is_some c.in-Some-get_mut.ensures.value)) in
    let new : Sim = record { alloc = old.alloc; servers = c.get_mut.follows.lender c.take.new.self; links = c.pop.new.self; master = old.master } in
    let all = holds old w h in
    let own = known (server_at old.servers id) c.in-Some-get_mut.server.now (is_in w.master.used id) (w.server id) (w.outbox (parties.Server id)) (sym c.in-Some-get_mut.ensures.value) (all.servers id) in
    let changed : IsAt old new id c.take.new.self = record { here = u.1; others = u.2; master = refl } in
    let first = first-mean c.in-Some.message.now (messages_at old.links from to) (w.link from to) (all.links from to) (sym c.in-Some.ensures) in
    let took : Took old new w from to id c.in-Some.message.now c.in-Some-get_mut.server.now c.take.new.self = record { ends = c.requires; changed = changed; holds = all; there = own.0; stood = own.1; first = first } in
    let done = took-stands old new w from to id c.in-Some.message.now c.in-Some-get_mut.server.now c.take.new.self took c.in_ok-take-in-Some-get_mut.ensures.refused c.in_ok-take-in-Some-get_mut.ensures.ok c.pop.ensures in
    (done.0, subst (λ v. StandsFor new v) (sym (next-take w from to)) (stands new _ done.1))

pub returns-in-None-get_mut-clause-err : goal.returns-in-None-get_mut-clause-err
returns-in-None-get_mut-clause-err c = λ w h there.
    let id = c.args.id in
    let none = unknown (server_at c.args.self.now.servers id) (is_in w.master.used id) (w.server id) (w.outbox (parties.Server id)) (sym c.in-None-get_mut.ensures.value) ((holds c.args.self.now w h).servers id) in
    absurd (true_false (sym there ∙ none.0))

pub returns-in-None-clause-err : goal.returns-in-None-clause-err
returns-in-None-clause-err c = λ w h there.
    let from = c.args.pair.now.from in
    let to = c.args.pair.now.to in
    (ap (λ ms. refusal_of_take w from to ms) (first-none (messages_at c.args.self.now.links from to) (w.link from to) ((holds c.args.self.now w h).links from to) (sym c.in-None.ensures)), h)
