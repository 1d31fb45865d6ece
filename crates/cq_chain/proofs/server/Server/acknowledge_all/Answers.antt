-- All entries of a server that acts are acknowledged.
use Rattle.std.proofs.Common.{◌∙◌, sym}
use Rattle.cq_chain.proofs.ServerStands.{settled-stands}
use Rattle.cq_chain.proofs.server.Server.acknowledge_all.Goals as goal

pub returns-then-is_acting : goal.returns-then-is_acting
returns-then-is_acting c = λ s outbox h. settled-stands c.args.self.now s outbox c.count-self.result c.forget_all.new.self h (sym (c.is_acting.ensures s outbox h) ∙ c.if-is_acting.true) c.count-self.ensures c.forget_all.ensures.stands
