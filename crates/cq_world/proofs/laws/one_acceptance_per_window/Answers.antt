-- A deduplication id counts for its time.
use Rattle.cq_store.proofs.OfLaws.Windows.{one_acceptance}
use Rattle.cq_world.proofs.laws.one_acceptance_per_window.Goals as goal

pub returns : goal.returns
returns c = λ size events some before rest e split. one_acceptance before e
