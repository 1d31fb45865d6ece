use Rattle.cq_chain_laws.proofs.Keeping.{kept-processes-are-runs}
use Rattle.cq_chain_laws.proofs.laws.kept_processes_are_runs.Goals as goal

pub returns : goal.returns
returns c = kept-processes-are-runs
