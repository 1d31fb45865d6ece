-- The open request is one of the asks.
use Rattle.cq_nodes.proofs.ClientAsks.{again_is}
use Rattle.cq_nodes.proofs.client_moves.ask_again.Goals as goal

pub returns : goal.returns
returns c = λ id asks closed h. again_is id asks c.args.core.now closed c.again.result h (c.again.ensures h.client h.stands)
