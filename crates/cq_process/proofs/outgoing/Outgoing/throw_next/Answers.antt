-- Nothing is done where nothing waits; else one message counts.
use Rattle.cq_process.proofs.Throwing.{throws-none}
use Rattle.cq_process.proofs.outgoing.Outgoing.throw_next.Goals as goal

pub returns-then-is_empty-clause-throws : goal.returns-then-is_empty-clause-throws
returns-then-is_empty-clause-throws c = throws-none c.args.core.now c.args.to.now c.args.self.now

pub returns-clause-counts : goal.returns-clause-counts
returns-clause-counts c = λ is back s outbox w. c.throw_first.ensures.counts back s outbox w (c.is_empty.ensures.waits c.if-is_empty.false back s outbox w)
