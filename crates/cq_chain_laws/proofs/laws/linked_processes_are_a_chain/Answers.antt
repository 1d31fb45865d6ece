use Rattle.cq_chain_laws.proofs.Linking.{linked-processes-are-a-chain, logged-processes-are-a-chain}
use Rattle.cq_chain_laws.proofs.laws.linked_processes_are_a_chain.Goals as goal

pub returns : goal.returns
returns c = record { time = linked-processes-are-a-chain; log = logged-processes-are-a-chain }
