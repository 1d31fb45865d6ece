-- What is deleted stays away.
use Rattle.cq_store.proofs.OfLaws.Flights.{none_deleted}
use Rattle.cq_store.proofs.OfLaws.Lives.{none_removed}
use Rattle.cq_world.proofs.laws.no_handing_after_deletion.Goals as goal

pub returns : goal.returns
returns c = record { deleted = λ size events some before rest e split. none_deleted before e; removed = λ size events some before rest e split. none_removed before e }
