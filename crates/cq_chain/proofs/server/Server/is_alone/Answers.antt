-- It has settled alone, and no fifo has a message.
use Rattle.cq_chain.proofs.Alone.{is-server-alone, nothing-means, nothing-waits, stands-alone}
use Rattle.cq_chain.proofs.ServerStands.{parts}
use Rattle.cq_chain.proofs.server.Server.is_alone.Goals as goal

pub returns-then-is_settled_alone-clause-state : goal.returns-then-is_settled_alone-clause-state
returns-then-is_settled_alone-clause-state c = λ s outbox h is. is-server-alone c.args.self.now s outbox h (c.is_settled_alone.ensures.only c.if-is_settled_alone.true) (c.is_settled_alone.ensures.settled c.if-is_settled_alone.true)

pub returns-then-is_settled_alone-clause-nothing : goal.returns-then-is_settled_alone-clause-nothing
returns-then-is_settled_alone-clause-nothing c = λ s outbox h is. nothing-waits c.args.self.now.outboxes outbox c.is_empty.result c.is_empty.ensures is (parts c.args.self.now s outbox h).waiting

pub returns-then-is_settled_alone-clause-again : goal.returns-then-is_settled_alone-clause-again
returns-then-is_settled_alone-clause-again c = λ entries outbox is own nothing. stands-alone c.args.self.now entries outbox (c.is_settled_alone.ensures.only c.if-is_settled_alone.true) (c.is_settled_alone.ensures.settled c.if-is_settled_alone.true) own
    (nothing-means c.args.self.now.outboxes outbox c.is_empty.result c.is_empty.ensures is nothing)
