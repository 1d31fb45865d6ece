-- It is the clause of the core's own call.
use Rattle.cq_process.proofs.Cores.{asked-done}
use Rattle.cq_process.proofs.asks.ask.Goals as goal

pub returns-clause-done : goal.returns-clause-done
returns-clause-done c = λ back. asked-done c.args.core.now c.ask.new.self back c.args.query.now c.ask.result c.ask.ensures.ok c.ask.ensures.refused
