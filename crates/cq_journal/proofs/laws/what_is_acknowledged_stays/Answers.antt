use Rattle.cq_journal.proofs.Changes.{acknowledged}
use Rattle.cq_journal.proofs.laws.what_is_acknowledged_stays.Goals as goal

pub returns : goal.returns
returns g c = λ changes change. acknowledged changes change c.args._old.now c.args._mid.now c.args._new.now
