-- One world.
use Rattle.cq_real_time.proofs.Loading.{loaded_none, loaded_alone}
use Rattle.cq_real_time.proofs.laws.loaded_worlds_are_alone.Goals as goal

pub returns : goal.returns
returns c = record { empty = loaded_none; alone = loaded_alone }
