-- It is the clause of the core's own call.
use Rattle.cq_master_process.proofs.Cores.{put-alone}
use Rattle.cq_master_process.proofs.process.MasterProcess.draw.Goals as goal

pub returns-clause-done : goal.returns-clause-done
returns-clause-done c = λ x first. put-alone c.args.self.now.core c.put-message.new.self c.args.to x first c.put-message.ensures.drained
