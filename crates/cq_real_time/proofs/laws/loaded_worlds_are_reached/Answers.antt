-- Entry by entry.
use Rattle.cq_real_time.proofs.Loading.{loaded_reached}
use Rattle.cq_real_time.proofs.laws.loaded_worlds_are_reached.Goals as goal

pub returns : goal.returns
returns c = loaded_reached
