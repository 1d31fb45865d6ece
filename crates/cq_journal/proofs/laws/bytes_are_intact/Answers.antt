use Rattle.cq_journal.proofs.Examples.{intact_rows}
use Rattle.cq_journal.proofs.laws.bytes_are_intact.Goals as goal

pub returns : goal.returns
returns c = intact_rows
