-- From any world on in which parties may begin.
use Rattle.cq_real_time.proofs.ByTheLog.{log_orders_from_starts_are_runs}
use Rattle.cq_real_time.proofs.laws.log_orders_from_starts_are_runs.Goals as goal

pub returns : goal.returns
returns c = log_orders_from_starts_are_runs
