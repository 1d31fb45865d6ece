-- By the steps of its process.
use Rattle.cq_kept_laws.proofs.Passed.{kept_run}
use Rattle.cq_kept_laws.proofs.laws.kept_servers_run.Goals as goal

pub returns : goal.returns
returns g c = kept_run c.args._first.now c.args._last.now
