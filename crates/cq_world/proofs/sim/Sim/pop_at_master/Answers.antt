-- The master puts its first message to a server. It has none for others.
use Rattle.std.proofs.Common.{sym, refl, subst}
use Rattle.cq_base.specs.declared.party.Party.TheVariants as parties
use Rattle.cq_chain.specs.Stands.{IsFirst}
use Rattle.cq_world.specs.within.Kept.{after_popping}
use Rattle.cq_world.specs.Stands.{StandsFor}
use Rattle.cq_world.specs.declared.sim.Sim.{Sim}
use Rattle.cq_world.proofs.OfSim.Stands.{holds, stands, nothing-for, drawn-master, drawn-nothing}
use Rattle.cq_world.proofs.sim.Sim.pop_at_master.Goals as goal

pub returns-in-Server-clause-first : goal.returns-in-Server-clause-first
returns-in-Server-clause-first c = λ w h. subst (λ p. IsFirst c.put.result (w.outbox parties.Master p)) (sym c.in-Server.is) (c.put.ensures.first w.master (w.outbox parties.Master) (holds c.args.self.now w h).master)

pub returns-in-Server-clause-drawn : goal.returns-in-Server-clause-drawn
returns-in-Server-clause-drawn c = λ w h.
    let old = c.args.self.now in
    let new : Sim = record { alloc = old.alloc; servers = old.servers; links = old.links; master = c.put.new.self } in
    let to = parties.Server c.in-Server.id in
    subst (λ p. StandsFor new (after_popping w parties.Master p)) (sym c.in-Server.is) (stands new (after_popping w parties.Master to)
    (drawn-master old new w to refl refl (holds old w h) (c.put.ensures.drained w.master (w.outbox parties.Master) (holds old w h).master)))

pub returns-in_default : goal.returns-in_default
returns-in_default c = record {
  first = λ w h. nothing-for c.args.self.now.master w.master (w.outbox parties.Master) c.args.to (holds c.args.self.now w h).master c.in_default.not-Server;
  drawn = λ w h. subst (λ v. StandsFor c.args.self.now v) (sym (drawn-nothing w parties.Master c.args.to (nothing-for c.args.self.now.master w.master (w.outbox parties.Master) c.args.to (holds c.args.self.now w h).master c.in_default.not-Server))) h;
  links = refl;
}
