-- From the first world on.
use Rattle.cq_real_time.proofs.Ordering.{to_unknown}
use Rattle.cq_real_time.proofs.laws.nothing_goes_to_unknown_servers.Goals as goal

pub returns : goal.returns
returns c = to_unknown
