use Rattle.cq_chain_laws.proofs.MasterRuns.{master-runs-are-actions}
use Rattle.cq_chain_laws.proofs.laws.master_runs_are_actions.Goals as goal

pub returns : goal.returns
returns c = master-runs-are-actions
