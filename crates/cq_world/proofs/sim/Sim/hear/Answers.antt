-- The master hears the first message.
use Rattle.std.proofs.Common.{ap, sym, refl, subst}
use Rattle.cq_base.specs.declared.party.Party.TheVariants as parties
use Rattle.cq_events.specs.Events.{refusal_of_take}
use Rattle.cq_world.specs.within.Kept.{messages_at}
use Rattle.cq_world.specs.Stands.{StandsFor}
use Rattle.cq_world.specs.declared.sim.Sim.{Sim}
use Rattle.cq_world.proofs.OfSim.Meanings.{first-mean, first-none}
use Rattle.cq_world.proofs.OfSim.Refused.{next-take}
use Rattle.cq_world.proofs.OfSim.Stands.{holds, stands, remains-master}
use Rattle.cq_world.proofs.OfSim.Calls.{err-none}
use Rattle.cq_world.proofs.OfSim.Taking.{heard-stands, heard-none}
use Rattle.cq_world.proofs.sim.Sim.hear.Goals as goal

pub returns-in_err-take-in-Some-clause-err : goal.returns-in_err-take-in-Some-clause-err
returns-in_err-take-in-Some-clause-err c = λ w h.
    let from = c.args.pair.now.from in
    let to = c.args.pair.now.to in
    let old = c.args.self.now in
    let new : Sim = record { alloc = old.alloc; servers = old.servers; links = old.links; master = c.take.new.self } in
    let first = first-mean c.in-Some.message.now (messages_at old.links from to) (w.link from to) ((holds old w h).links from to) (sym c.in-Some.ensures) in
    err-none (refusal_of_take w from to (w.link from to)) c.from_residual.result c.from_residual.ensures.1 (heard-none w from to c.in-Some.message.now (w.link from to) c.requires.to first)
    (stands new w (remains-master old new w refl refl (holds old w h) (c.in_err-take-in-Some.ensures.err w.master (w.outbox parties.Master) (holds old w h).master)))

pub returns-in_ok-take-in-Some-clause-ok : goal.returns-in_ok-take-in-Some-clause-ok
returns-in_ok-take-in-Some-clause-ok c = λ w h.
    let from = c.args.pair.now.from in
    let to = c.args.pair.now.to in
    let old = c.args.self.now in
    let new : Sim = record { alloc = old.alloc; servers = old.servers; links = c.pop.new.self; master = c.take.new.self } in
    let first = first-mean c.in-Some.message.now (messages_at old.links from to) (w.link from to) ((holds old w h).links from to) (sym c.in-Some.ensures) in
    let done = heard-stands old new w from to c.args.id c.in-Some.message.now c.requires.from c.requires.to (holds old w h) refl c.in_ok-take-in-Some.ensures.ok c.pop.ensures first in
    (done.0, subst (λ v. StandsFor new v) (sym (next-take w from to)) (stands new _ done.1))

pub returns-in-None-clause-err : goal.returns-in-None-clause-err
returns-in-None-clause-err c = λ w h.
    let from = c.args.pair.now.from in
    let to = c.args.pair.now.to in
    (ap (λ ms. refusal_of_take w from to ms) (first-none (messages_at c.args.self.now.links from to) (w.link from to) ((holds c.args.self.now w h).links from to) (sym c.in-None.ensures)), h)
