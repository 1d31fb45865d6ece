use Rattle.cq_process_laws.proofs.Running.{runs-are-actions}
use Rattle.cq_process_laws.proofs.laws.runs_are_actions.Goals as goal

pub returns : goal.returns
returns c = runs-are-actions
