use Rattle.cq_chain_wire.proofs.PieceLaws.{written-so}
use Rattle.cq_chain_wire.proofs.laws.what_is_read_was_written.Goals as goal

pub returns : goal.returns
returns c = written-so
