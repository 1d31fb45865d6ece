-- The accepted sends of a window are in order.
use Rattle.std.proofs.Common.{subst}
use Rattle.cq_queue.specs.Parts.{AreInOrder}
use Rattle.cq_queue.proofs.Parts.{in-order}
use Rattle.cq_queue.proofs.window.Window.get.Goals as goal

pub returns-clause-order : goal.returns-clause-order
returns-clause-order c = subst (λ w. AreInOrder w.items) c.self.view_is (in-order 0 c.self.inside.accepted.items c.self.invariant.rising c.self.invariant.distinct)
