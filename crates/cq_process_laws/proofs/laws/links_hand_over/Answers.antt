use Rattle.cq_process_laws.proofs.Joining.{links-hand-over}
use Rattle.cq_process_laws.proofs.laws.links_hand_over.Goals as goal

pub returns : goal.returns
returns c = links-hand-over
