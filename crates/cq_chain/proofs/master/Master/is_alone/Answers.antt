-- It has settled alone, and no fifo has a message.
use Rattle.cq_chain.proofs.Alone.{is-master-alone, master-stands-alone, nothing-means, nothing-waits}
use Rattle.cq_chain.proofs.MasterStands.{master-parts}
use Rattle.cq_chain.proofs.master.Master.is_alone.Goals as goal

pub returns-then-is_settled_alone-clause-state : goal.returns-then-is_settled_alone-clause-state
returns-then-is_settled_alone-clause-state c = λ m outbox h is. is-master-alone c.args.self.now m outbox h (c.is_settled_alone.ensures.members c.if-is_settled_alone.true) (c.is_settled_alone.ensures.settled c.if-is_settled_alone.true)

pub returns-then-is_settled_alone-clause-nothing : goal.returns-then-is_settled_alone-clause-nothing
returns-then-is_settled_alone-clause-nothing c = λ m outbox h is. nothing-waits c.args.self.now.outboxes outbox c.is_empty.result c.is_empty.ensures is (master-parts c.args.self.now m outbox h).waiting

pub returns-then-is_settled_alone-clause-again : goal.returns-then-is_settled_alone-clause-again
returns-then-is_settled_alone-clause-again c = λ outbox is nothing. master-stands-alone c.args.self.now outbox (c.is_settled_alone.ensures.members c.if-is_settled_alone.true) (c.is_settled_alone.ensures.settled c.if-is_settled_alone.true)
    (nothing-means c.args.self.now.outboxes outbox c.is_empty.result c.is_empty.ensures is nothing) nothing
