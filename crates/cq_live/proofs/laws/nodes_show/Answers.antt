-- From the lives that the nodes tell.
use Rattle.cq_live.proofs.Showing.{nodes_show}
use Rattle.cq_live.proofs.laws.nodes_show.Goals as goal

pub returns : goal.returns
returns c = nodes_show
