-- From what every event keeps.
use Rattle.cq_world.proofs.OfLaws.Dropped.{dropped_stay_out}
use Rattle.cq_world.proofs.laws.dropped_servers_stay_out.Goals as goal

pub returns : goal.returns
returns c = dropped_stay_out
