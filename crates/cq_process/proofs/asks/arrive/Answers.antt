-- It is the clause of the core's own call.
use Rattle.cq_process.proofs.Cores.{arrived-done}
use Rattle.cq_process.proofs.asks.arrive.Goals as goal

pub returns-clause-done : goal.returns-clause-done
returns-clause-done c = λ back. arrived-done c.args.core.now c.arrive.new.self back c.args.clock c.args.request.now c.arrive.result c.arrive.ensures.ok c.arrive.ensures.refused
