-- The servers stand in an extended chain, one after the other.
use Rattle.std.proofs.Common.{◌≡◌, ◌+◌, ◌==◌, ◌∙◌, ap, subst, arith}
use Rattle.std.specs.Map.{lookup}
use Rattle.cq_world.specs.within.Kept.{server_at}
use Rattle.cq_world.specs.declared.sim.Sim.{Sim}
use Rattle.cq_world.proofs.OfSim.FirstWorld.{IsExtended, no-extended, more-extended, first-stands}
use Rattle.cq_world.proofs.OfSim.Calls.{if-no-ok}
use Rattle.cq_world.proofs.sim.Sim.new.Goals as goal

pub loop-before-init : goal.loop-before-init
loop-before-init c = no-extended c.args.size (λ id. server_at c.new-servers.result id) (λ id. ap (λ es. lookup (λ other. id == other) es) c.new-servers.ensures.empty)

pub first-requires : goal.first-requires
first-requires c = omega (arith, c.in-Some.ensures.value, c.from.ensures, c.loop-before-test.true, c.get-before-end.ensures.value)

pub returns-in_err-insert-in-Some : goal.returns-in_err-insert-in-Some
returns-in_err-insert-in-Some c = if-no-ok _ c.from_residual-in_err-insert-in-Some.result c.from_residual-in_err-insert-in-Some.ensures.0

pub loop-before-preserved : goal.loop-before-preserved
loop-before-preserved c = more-extended c.args.size c.loop-before.before c.in-Some.id (λ id. server_at c.loop-before.servers id) (λ id. server_at c.insert.new.self id) c.in_ok-first-in-Some.field-0
    (c.in-Some.ensures.value ∙ ap (λ n. n + 1) c.from.ensures) c.loop-before.invariant c.in_ok-insert-in-Some.ensures.updates.0 c.in_ok-first-in-Some.ensures

pub returns : goal.returns
returns c =
    let sim : Sim = record { alloc = c.args.alloc; servers = c.loop-before.servers; links = c.new-2.result; master = c.in_ok-master.master } in
    let all : c.loop-before.before ≡ c.args.size = omega (arith, c.loop-before-test.false, c.loop-before.auto.before-end, c.get-before-end.ensures.value) in
    first-stands sim c.args.size (subst (λ n. IsExtended c.args.size n (λ id. server_at c.loop-before.servers id)) all c.loop-before.invariant) c.new-2.ensures c.in_ok-master.ensures
