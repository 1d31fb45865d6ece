-- Groups keep their order.
use Rattle.cq_store.proofs.OfLaws.FirstHandings.{first_in_order}
use Rattle.cq_store.proofs.laws.first_handings_in_order.Goals as goal

pub returns : goal.returns
returns c = first_in_order
