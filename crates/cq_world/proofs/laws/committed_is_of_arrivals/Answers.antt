-- What is committed arrived.
use Rattle.cq_world.proofs.OfLaws.Headlines.{of_arrivals}
use Rattle.cq_world.proofs.laws.committed_is_of_arrivals.Goals as goal

pub returns : goal.returns
returns c = of_arrivals
