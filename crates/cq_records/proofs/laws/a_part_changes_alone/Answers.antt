use Rattle.cq_records.proofs.Outcomes.{changes_alone}
use Rattle.cq_records.proofs.laws.a_part_changes_alone.Goals as goal

pub returns : goal.returns
returns g c = changes_alone g.D.Device.moment g.D.Device.left_since g.D.Device.may_leave g.D.Device.keeps g.D.Device.seen g.met.D.Device.splits c.args._old.now c.args._new.now
