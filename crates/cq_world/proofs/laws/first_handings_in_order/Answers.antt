-- Groups keep their order.
use Rattle.cq_events.specs.Runs.{committed}
use Rattle.cq_store.proofs.OfLaws.FirstHandings.{first_in_order}
use Rattle.cq_world.proofs.laws.first_handings_in_order.Goals as goal

pub returns : goal.returns
returns c = λ size events some. first_in_order (committed size events)
