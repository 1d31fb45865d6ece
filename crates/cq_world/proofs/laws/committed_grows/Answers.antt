-- The committed list grows.
use Rattle.cq_world.proofs.OfLaws.Headlines.{grows}
use Rattle.cq_world.proofs.laws.committed_grows.Goals as goal

pub returns : goal.returns
returns c = grows
