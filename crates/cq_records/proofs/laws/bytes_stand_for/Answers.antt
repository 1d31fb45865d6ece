use Rattle.cq_records.proofs.Examples.{rows}
use Rattle.cq_records.proofs.laws.bytes_stand_for.Goals as goal

pub returns : goal.returns
returns c = rows
