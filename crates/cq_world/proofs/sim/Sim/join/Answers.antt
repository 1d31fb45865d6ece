-- All that wants memory comes before the first change.
use Rattle.std.proofs.Common.{◌∙◌, sym, refl, subst}
use Rattle.cq_base.specs.declared.party.Party.TheVariants as parties
use Rattle.cq_chain.specs.Faults.{IsRefusal}
use Rattle.cq_chain.specs.Masters.{joined}
use Rattle.cq_events.specs.Events.{refusal_of}
use Rattle.cq_world.specs.Stands.{StandsFor}
use Rattle.cq_events.specs.Worlds.{ordered}
use Rattle.cq_events.specs.declared.event.Event.TheVariants as events
use Rattle.cq_world.specs.declared.sim.Sim.{Sim}
use Rattle.cq_world.proofs.OfSim.Joining.{new-number, joined-stands}
use Rattle.cq_world.proofs.OfSim.Refused.{refused-join, next-join}
use Rattle.cq_world.proofs.OfSim.Stands.{holds, stands, remains-master}
use Rattle.cq_world.proofs.OfSim.Calls.{err-none, err-same}
use Rattle.cq_world.proofs.sim.Sim.join.Goals as goal

pub returns-in_err-check_join-clause-err : goal.returns-in_err-check_join-clause-err
returns-in_err-check_join-clause-err c = λ w h. err-same (refusal_of w (events.Join c.args.id)) c.in_err-check_join.field-0.0 c.from_residual.result c.from_residual.ensures.1
    (subst (λ r. IsRefusal c.in_err-check_join.field-0.0 r) (sym (refused-join w c.args.id)) (c.in_err-check_join.ensures.refused w.master (w.outbox parties.Master) (holds c.args.self.now w h).master)) h

pub returns-in_err-server-clause-err : goal.returns-in_err-server-clause-err
returns-in_err-server-clause-err c = λ w h. err-none (refusal_of w (events.Join c.args.id)) c.from_residual-in_err-server.result c.from_residual-in_err-server.ensures.1
    (refused-join w c.args.id ∙ c.in_ok-check_join.ensures.refused w.master (w.outbox parties.Master) (holds c.args.self.now w h).master) (c.in_err-server.ensures.same w h)

pub returns-in_err-join-clause-err : goal.returns-in_err-join-clause-err
returns-in_err-join-clause-err c = λ w h.
    let made = c.make_joining.new.self in
    let new : Sim = record { alloc = made.alloc; servers = made.servers; links = made.links; master = c.join.new.self } in
    let all = holds made w (c.in_ok-server.ensures.same w h) in
    err-same (refusal_of w (events.Join c.args.id)) c.in_err-join.field-0.0 c.from_residual-in_err-join.result c.from_residual-in_err-join.ensures.1
    (subst (λ r. IsRefusal c.in_err-join.field-0.0 r) (sym (refused-join w c.args.id)) (c.in_err-join.ensures.refused w.master (w.outbox parties.Master) all.master))
    (stands new w (remains-master made new w refl refl all (c.in_err-join.ensures.err w.master (w.outbox parties.Master) all.master)))

pub returns-clause-ok : goal.returns-clause-ok
returns-clause-ok c = λ w h.
    let id = c.args.id in
    let made = c.make_joining.new.self in
    let new : Sim = record { alloc = made.alloc; servers = c.insert.new.self; links = made.links; master = c.join.new.self } in
    let all = holds made w (c.in_ok-server.ensures.same w h) in
    let none = c.in_ok-check_join.ensures.refused w.master (w.outbox parties.Master) (holds c.args.self.now w h).master in (
      refused-join w id ∙ none,
      subst (λ v. StandsFor new v) (sym (next-join w id)) (stands new (ordered w (joined id w.master))
          (joined-stands made new w id c.in_ok-server.server all (new-number id w.master none) c.in-Ok.ensures.updates.0 refl c.in_ok-server.ensures.server (c.in_ok-join.ensures.ok w.master (w.outbox parties.Master) all.master))),
    )
