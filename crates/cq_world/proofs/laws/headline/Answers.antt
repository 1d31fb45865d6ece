-- All of it.
use Rattle.cq_world.proofs.OfLaws.Headlines.{headline_holds}
use Rattle.cq_world.proofs.laws.headline.Goals as goal

pub returns : goal.returns
returns c = headline_holds
