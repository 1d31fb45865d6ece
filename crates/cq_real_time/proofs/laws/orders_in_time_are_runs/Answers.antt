-- From the first world on.
use Rattle.cq_real_time.proofs.Enabling.{orders_in_time_are_runs}
use Rattle.cq_real_time.proofs.laws.orders_in_time_are_runs.Goals as goal

pub returns : goal.returns
returns c = orders_in_time_are_runs
