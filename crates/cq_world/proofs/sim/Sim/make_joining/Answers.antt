-- Room for a server changes nothing.
use Rattle.std.proofs.Common.{ap, refl, ◌==◌}
use Rattle.std.specs.Map.{lookup}
use Rattle.cq_world.specs.declared.sim.Sim.{Sim}
use Rattle.cq_world.proofs.OfSim.Stands.{holds, stands, same-servers}
use Rattle.cq_world.proofs.sim.Sim.make_joining.Goals as goal

pub returns-in_err-reserve-clause-same : goal.returns-in_err-reserve-clause-same
returns-in_err-reserve-clause-same c = λ w h.
    let old = c.args.self.now in
    let new : Sim = record { alloc = old.alloc; servers = c.reserve.new.self; links = old.links; master = old.master } in
    stands new w (same-servers old new w (λ id. ap (λ es. lookup (λ other. id == other) es) c.in_err-reserve.ensures.entries) refl refl (holds old w h))

pub returns-clause-same : goal.returns-clause-same
returns-clause-same c = λ w h.
    let old = c.args.self.now in
    let new : Sim = record { alloc = old.alloc; servers = c.reserve.new.self; links = old.links; master = old.master } in
    stands new w (same-servers old new w (λ id. ap (λ es. lookup (λ other. id == other) es) c.in_ok-reserve.ensures.entries) refl refl (holds old w h))
