use Rattle.cq_process.proofs.Pieces.{read-as-written}
use Rattle.cq_process.proofs.laws.no_other_message_is_read.Goals as goal

pub returns : goal.returns
returns c = read-as-written
