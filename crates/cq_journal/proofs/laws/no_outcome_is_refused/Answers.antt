use Rattle.cq_journal.proofs.Refusals.{none_refused}
use Rattle.cq_journal.proofs.laws.no_outcome_is_refused.Goals as goal

pub returns : goal.returns
returns g c = λ times. none_refused times c.args._old.now c.args._mid.now c.args._new.now
