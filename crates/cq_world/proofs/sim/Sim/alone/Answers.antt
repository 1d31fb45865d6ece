-- The server is the only one, and the master is that of a first chain of one.
use Rattle.std.proofs.Common.{◌==◌, ◌∙◌, ap, cond, sym, subst, [], Some, None}
use Rattle.std.specs.Map.{lookup}
use Rattle.cq_chain.specs.Masters.{first_master}
use Rattle.cq_chain.specs.Stands.{MasterStandsFor}
use Rattle.cq_chain.proofs.MasterStands.{with_master_outbox}
use Rattle.cq_world.proofs.OfSim.Alone.{alone-stands}
use Rattle.cq_world.proofs.sim.Sim.alone.Goals as goal

pub returns : goal.returns
returns c = λ entries w own is.
    let master = c.in_ok-master-in-Some-Some.master in
    alone-stands _ w entries c.alone.result is
    (λ id. c.in_ok-insert-in-Some-Some.ensures.updates.0 id ∙ ap (λ o. cond (c.in-Some-Some.id == id) (Some c.alone.result) o) (ap (λ es. lookup (λ other. id == other) es) c.new-servers.ensures.empty)
    ∙ ap (λ j. cond (j == id) (Some c.alone.result) None) c.in-Some-Some.ensures.value)
    (λ outbox. c.alone.ensures entries outbox own)
    c.new-in-Some-Some-2.ensures
    (λ outbox nothing. with_master_outbox master (first_master 1) (λ _. []) outbox
    (subst (λ n. MasterStandsFor master (first_master n) (λ _. [])) c.in-Some-Some.ensures'.value c.in_ok-master-in-Some-Some.ensures) (λ to. sym (nothing to)))
