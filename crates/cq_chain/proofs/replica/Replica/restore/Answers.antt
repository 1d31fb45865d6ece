-- No entry is kept.
use Rattle.cq_chain.proofs.Replicas.{recalls-none}
use Rattle.cq_chain.proofs.replica.Replica.restore.Goals as goal

pub returns-clause-stands : goal.returns-clause-stands
returns-clause-stands c = λ history h. recalls-none c.args.store c.clear.new.self.items history h c.clear.ensures.items
