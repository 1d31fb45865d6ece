-- Receipts count handings.
use Rattle.cq_store.proofs.OfLaws.Receipts.{receipts_count}
use Rattle.cq_store.proofs.laws.receipts_count_handings.Goals as goal

pub returns : goal.returns
returns c = receipts_count
