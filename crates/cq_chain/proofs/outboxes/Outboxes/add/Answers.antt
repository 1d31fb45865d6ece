-- The new fifo has no message.
use Rattle.std.proofs.Common.{◌∙◌, None, Some, arith}
use Rattle.cq_chain.proofs.Mailing.{written, fifo-kept}
use Rattle.cq_chain.proofs.outboxes.Outboxes.add.Goals as goal

pub returns-clause-keeps : goal.returns-clause-keeps
returns-clause-keeps c =
    fifo-kept c.args.self.now _ c.args.to None c.reserve.new.self c.requires (written c.self.inside.fifos.entries c.args.self.now _ c.args.to (Some c.reserve.new.self) c.self.view_is c.in_ok-insert.ensures.updates.0)
    (c.in_ok-reserve.ensures.messages ∙ c.new-fifo.ensures) (omega arith)
