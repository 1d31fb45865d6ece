use Rattle.cq_chain_wire.proofs.PieceLaws.{of-one}
use Rattle.cq_chain_wire.proofs.laws.two_messages_have_other_pieces.Goals as goal

pub returns : goal.returns
returns c = of-one
