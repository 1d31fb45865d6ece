-- The outbox loses its first message.
use Rattle.cq_chain.specs.Stands.{drained}
use Rattle.cq_chain.proofs.ServerStands.{parts, with_boxes}
use Rattle.cq_chain.proofs.server.Server.put.Goals as goal

pub returns-clause-first : goal.returns-clause-first
returns-clause-first c = λ s outbox h. c.pop.ensures.first outbox (parts c.args.self.now s outbox h).waiting

pub returns-clause-drained : goal.returns-clause-drained
returns-clause-drained c = λ s outbox h. with_boxes c.args.self.now s outbox (drained outbox c.args.to) c.pop.new.self h (c.pop.ensures.rest outbox (parts c.args.self.now s outbox h).waiting)
