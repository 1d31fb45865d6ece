-- By whose outbox it is. The clients have none.
use Rattle.std.proofs.Common.{◌≡◌, [], ◌∙◌, ap, sym, subst}
use Rattle.cq_world.specs.Stands.{StandsFor}
use Rattle.cq_world.proofs.OfSim.Stands.{holds, drawn-nothing}
use Rattle.cq_world.proofs.sim.Sim.pop.Goals as goal

pub returns-in-Clients-clause-first : goal.returns-in-Clients-clause-first
returns-in-Clients-clause-first c = λ w h. ap (λ p. w.outbox p c.args.pair.now.to) c.in-Clients.is ∙ (holds c.args.self.now w h).clients c.args.pair.now.to

pub returns-in-Clients-clause-drawn : goal.returns-in-Clients-clause-drawn
returns-in-Clients-clause-drawn c = λ w h.
    let none : w.outbox c.args.pair.now.from c.args.pair.now.to ≡ [] = ap (λ p. w.outbox p c.args.pair.now.to) c.in-Clients.is ∙ (holds c.args.self.now w h).clients c.args.pair.now.to in
    subst (λ v. StandsFor c.args.self.now v) (sym (drawn-nothing w c.args.pair.now.from c.args.pair.now.to none)) h
