-- It is the clause of the core's own call.
use Rattle.cq_nodes.proofs.Moving.{took-done}
use Rattle.cq_nodes.proofs.moves.hand_over.Goals as goal

pub returns-clause-ok : goal.returns-clause-ok
returns-clause-ok c = λ back. took-done c.args.core.now c.take_owned.new.self back c.args.from c.args.message c.take_owned.result c.take_owned.ensures.ok c.take_owned.ensures.taken
