-- Histories are prefixes of each other.
use Rattle.cq_world.proofs.OfLaws.Headlines.{along_the_chain, of_predecessors, of_messages}
use Rattle.cq_world.proofs.laws.histories_are_prefixes.Goals as goal

pub returns : goal.returns
returns c = record { members = along_the_chain; predecessors = of_predecessors; messages = of_messages }
