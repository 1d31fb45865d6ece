use Rattle.cq_process.proofs.Pieces.{are-read-on}
use Rattle.cq_process.proofs.laws.pieces_are_read_on.Goals as goal

pub returns : goal.returns
returns c = are-read-on
