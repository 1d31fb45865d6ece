-- The sim has settled, and its server is at rest.
use Rattle.std.proofs.Common.{refl, subst, option_map}
use Rattle.std.specs.Prelude.{IfSome}
use Rattle.cq_world.proofs.OfSim.Alone.{HasSettled, HasStore, store-again, store-rests}
use Rattle.cq_world.proofs.sim.Sim.store_alone.Goals as goal

has-settled : (c : goal.After-store_at_rest) → HasSettled c.args.self.now
has-settled c = record {
  one = c.if-not-is_settled_alone.ensures.one refl;
  state = λ m outbox. c.if-not-is_settled_alone.ensures.state m outbox refl;
  nothing = λ m outbox. c.if-not-is_settled_alone.ensures.nothing m outbox refl;
  again = λ outbox. c.if-not-is_settled_alone.ensures.again outbox refl;
  links = c.if-not-is_settled_alone.ensures.links refl;
}

has-store : (c : goal.After-store_at_rest) → IfSome (option_map (λ s. s.now) c.store_at_rest.result) (HasStore c.args.self.now 1)
has-store c = subst (λ id. IfSome (option_map (λ s. s.now) c.store_at_rest.result) (HasStore c.args.self.now id)) c.in-Some.ensures.value c.store_at_rest.ensures

pub returns-clause-rests : goal.returns-clause-rests
returns-clause-rests c = λ w h. store-rests c.args.self.now w (option_map (λ s. s.now) c.store_at_rest.result) (has-settled c) (has-store c) h

pub returns-clause-again : goal.returns-clause-again
returns-clause-again c = store-again c.args.self.now (option_map (λ s. s.now) c.store_at_rest.result) (has-settled c) (has-store c)
