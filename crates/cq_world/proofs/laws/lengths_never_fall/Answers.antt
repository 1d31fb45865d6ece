-- Lengths rise.
use Rattle.cq_world.proofs.OfLaws.Headlines.{never_fall}
use Rattle.cq_world.proofs.laws.lengths_never_fall.Goals as goal

pub returns : goal.returns
returns c = never_fall
