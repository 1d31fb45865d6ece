-- What is kept is as long as what it stands for.
use Rattle.std.proofs.Common.{◌∙◌}
use Rattle.cq_chain.proofs.ServerStands.{waiting-length}
use Rattle.cq_chain.proofs.server.Server.waiting.Goals as goal

pub returns : goal.returns
returns c = λ s outbox h. c.waiting.ensures ∙ waiting-length c.args.self.now s outbox c.args.to h
