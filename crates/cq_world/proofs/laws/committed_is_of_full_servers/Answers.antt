-- What is committed is at each full server.
use Rattle.cq_world.proofs.OfLaws.Headlines.{of_full, of_the_head}
use Rattle.cq_world.proofs.laws.committed_is_of_full_servers.Goals as goal

pub returns : goal.returns
returns c = record { full = of_full; head = of_the_head }
