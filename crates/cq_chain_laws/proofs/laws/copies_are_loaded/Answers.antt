use Rattle.cq_chain_laws.proofs.Copies.{copies_are_loaded}
use Rattle.cq_chain_laws.proofs.laws.copies_are_loaded.Goals as goal

pub returns : goal.returns
returns c = copies_are_loaded
