-- The server that is found is at rest.
use Rattle.std.proofs.Common.{sym, subst}
use Rattle.cq_store.specs.Stands as stores
use Rattle.cq_world.proofs.sim.Sim.store_at_rest.Goals as goal

pub returns-in-Some : goal.returns-in-Some
returns-in-Some c = (
  c.in-Some.server.now,
  sym c.in-Some.ensures.value,
  record {
    state = λ s outbox h. c.is_alone.ensures.state s outbox h c.if-is_alone.true;
    nothing = λ s outbox h. c.is_alone.ensures.nothing s outbox h c.if-is_alone.true;
    stands = c.store.ensures.stands;
    again = λ entries outbox own nothing. c.is_alone.ensures.again entries outbox c.if-is_alone.true (subst (λ k. stores.StandsFor k entries) c.store.ensures.own own) nothing;
  },
)
