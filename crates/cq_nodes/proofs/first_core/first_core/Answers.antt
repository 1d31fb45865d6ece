-- It is a member of the first chain, or isn't.
use Rattle.std.proofs.Common.{arith, None, []}
use Rattle.cq_base.specs.declared.party.Party.TheVariants as parties
use Rattle.cq_chain.specs.Servers.{first_member, joining}
use Rattle.cq_chain.specs.Stands.{StandsFor}
use Rattle.cq_nodes.proofs.ActionRuns.{first-member, first-joining}
use Rattle.cq_nodes.proofs.FirstCores.{not_in, if_ok}
use Rattle.cq_events.specs.Actions.{StandsAs}
use Rattle.cq_events.specs.Worlds.{first_world}
use Rattle.cq_events.proofs.Numbers.{in-numbers}
use Rattle.cq_nodes.proofs.first_core.first_core.Goals as goal

pub returns-then-get-from : goal.returns-then-get-from
returns-then-get-from c =
    let size = c.args.size in
    let id = c.args.id in
    if_ok (λ core. StandsFor core (first_member size id) (λ _. [])) (λ core. StandsAs (record { core = core; back = λ _. None }) ((first_world size).server id) ((first_world size).outbox (parties.Server id))) c.first.result
    (λ core h. first-member size id core (in-numbers size 1 id (omega (arith, c.get.ensures.positive, c.get.ensures.value)) (omega (arith, c.if-get-from.true, c.get.ensures.value, c.get-2.ensures.value, c.from.ensures))) h) c.first.ensures

pub returns-else-get-from : goal.returns-else-get-from
returns-else-get-from c =
    let size = c.args.size in
    let id = c.args.id in
    if_ok (λ core. StandsFor core joining (λ _. [])) (λ core. StandsAs (record { core = core; back = λ _. None }) ((first_world size).server id) ((first_world size).outbox (parties.Server id))) c.joining.result
    (λ core h. first-joining size id core (not_in size 1 id (omega (arith, c.if-get-from.false, c.get.ensures.value, c.get-2.ensures.value, c.from.ensures))) h) c.joining.ensures
