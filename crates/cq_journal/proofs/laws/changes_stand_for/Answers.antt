use Rattle.cq_journal.proofs.Examples.{rows}
use Rattle.cq_journal.proofs.laws.changes_stand_for.Goals as goal

pub returns : goal.returns
returns c = rows
