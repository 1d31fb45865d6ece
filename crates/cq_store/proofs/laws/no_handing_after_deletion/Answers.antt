-- What is deleted stays away.
use Rattle.cq_store.proofs.OfLaws.Flights.{none_deleted}
use Rattle.cq_store.proofs.OfLaws.Lives.{none_comes, none_removed}
use Rattle.cq_store.proofs.laws.no_handing_after_deletion.Goals as goal

pub returns : goal.returns
returns c = record { deleted = none_deleted; removed = none_removed; ended = none_comes }
