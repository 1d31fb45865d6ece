-- The master has nothing.
use Rattle.cq_world.proofs.sim.Sim.is_settled_alone.Goals as goal

pub returns-then-is_alone-clause-nothing : goal.returns-then-is_alone-clause-nothing
returns-then-is_alone-clause-nothing c = λ m outbox is h. c.is_alone.ensures.nothing m outbox h c.if-is_alone.true
