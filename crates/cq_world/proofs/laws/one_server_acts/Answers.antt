-- One acts.
use Rattle.cq_world.proofs.OfLaws.Headlines.{one_acts}
use Rattle.cq_world.proofs.laws.one_server_acts.Goals as goal

pub returns : goal.returns
returns c = one_acts
