-- Answers are over the committed list.
use Rattle.cq_world.proofs.OfLaws.Giving.{given-of-run}
use Rattle.cq_world.proofs.OfLaws.Headlines.{of_one_object}
use Rattle.cq_world.proofs.laws.answers_are_of_one_object.Goals as goal

pub returns : goal.returns
returns c = record { made = of_one_object; given = given-of-run }
