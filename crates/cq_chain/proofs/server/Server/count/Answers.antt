-- The length of the history.
use Rattle.std.proofs.Common.{◌∙◌}
use Rattle.cq_chain.proofs.ServerStands.{parts}
use Rattle.cq_chain.proofs.server.Server.count.Goals as goal

pub returns : goal.returns
returns c = λ s outbox h. c.count.ensures ∙ (parts c.args.self.now s outbox h).entries.store.count
