-- From the first world on.
use Rattle.cq_real_time.proofs.ByTheLog.{orders_by_the_log_are_runs}
use Rattle.cq_real_time.proofs.laws.orders_by_the_log_are_runs.Goals as goal

pub returns : goal.returns
returns c = orders_by_the_log_are_runs
