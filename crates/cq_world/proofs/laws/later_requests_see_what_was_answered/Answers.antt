-- What comes later sees what was answered.
use Rattle.cq_world.proofs.OfLaws.Headlines.{later_arrivals, later_queries}
use Rattle.cq_world.proofs.laws.later_requests_see_what_was_answered.Goals as goal

pub returns : goal.returns
returns c = record { arrivals = later_arrivals; queries = later_queries }
