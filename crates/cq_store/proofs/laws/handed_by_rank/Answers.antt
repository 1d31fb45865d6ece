-- Messages go out by rank.
use Rattle.cq_store.proofs.OfLaws.Ranks.{handed_by_rank, one_list}
use Rattle.cq_store.proofs.laws.handed_by_rank.Goals as goal

pub returns : goal.returns
returns c = record { by_rank = handed_by_rank; one = one_list }
