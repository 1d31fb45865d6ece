-- A deduplication id counts for its time.
use Rattle.cq_store.proofs.OfLaws.Windows.{one_acceptance, others_accepted}
use Rattle.cq_store.proofs.laws.one_acceptance_per_window.Goals as goal

pub returns : goal.returns
returns c = record { one = one_acceptance; others = others_accepted }
