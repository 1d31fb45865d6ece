use Rattle.cq_kept_server.proofs.Chains.{outlives}
use Rattle.cq_kept_server.proofs.laws.what_was_told_outlives_crashes.Goals as goal

pub returns : goal.returns
returns g c = outlives (λ device f. g.met.D.Device.only_now device f) c.args._first.now c.args._settled.now c.args._last.now c.args._left.now
