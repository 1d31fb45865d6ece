use Rattle.cq_journal.proofs.Survival.{survives}
use Rattle.cq_journal.proofs.laws.what_is_left_outlives_openings.Goals as goal

pub returns : goal.returns
returns g c = λ half len rs change. survives g.D.Device.moment g.D.Device.left_since g.D.Device.may_leave g.D.Device.seen half len rs change c.args._old.now c.args._last.now c.args._first.now c.args._new.now
