-- By what every event keeps.
use Rattle.cq_real_time.proofs.Bounds.{histories_may_be_loaded}
use Rattle.cq_real_time.proofs.laws.histories_may_be_loaded.Goals as goal

pub returns : goal.returns
returns c = histories_may_be_loaded
