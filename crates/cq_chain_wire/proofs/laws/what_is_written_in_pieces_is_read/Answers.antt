use Rattle.cq_chain_wire.proofs.PieceLaws.{read-back}
use Rattle.cq_chain_wire.proofs.laws.what_is_written_in_pieces_is_read.Goals as goal

pub returns : goal.returns
returns c = read-back
