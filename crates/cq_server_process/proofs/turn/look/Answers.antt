-- By the first message, where none is begun.
use Rattle.std.proofs.Common.{◌∙◌, sym}
use Rattle.cq_server_process.proofs.Sending.{plain-first}
use Rattle.cq_server_process.proofs.turn.look.Goals as goal

pub returns-then-is_plain : goal.returns-then-is_plain
returns-then-is_plain c = (sym c.is_held.ensures ∙ c.if-is_held.false, λ s outbox h. plain-first c.in-Some.message.now (outbox c.args.to.now) (c.is_plain.ensures.plain c.if-is_plain.true) (c.in-Some.ensures s outbox h))
