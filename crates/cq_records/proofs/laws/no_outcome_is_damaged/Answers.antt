use Rattle.cq_records.proofs.Outcomes.{none_damaged}
use Rattle.cq_records.proofs.laws.no_outcome_is_damaged.Goals as goal

pub returns : goal.returns
returns c = none_damaged
