use Rattle.cq_journal.proofs.Refusals.{stays_unrefused}
use Rattle.cq_journal.proofs.laws.openings_leave_nothing_refused.Goals as goal

pub returns : goal.returns
returns g c = λ half len. stays_unrefused g.D.Device.moment g.D.Device.left_since g.D.Device.may_leave g.D.Device.seen half len c.args._old.now c.args._last.now c.args._first.now c.args._new.now
