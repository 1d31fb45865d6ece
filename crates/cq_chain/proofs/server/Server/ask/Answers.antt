-- By whether the server acts.
use Rattle.std.proofs.Common.{◌∙◌, sym}
use Rattle.cq_chain.proofs.ServerRefusals.{no_memory, refused-silent, query-not-refused}
use Rattle.cq_chain.proofs.server.Server.ask.Goals as goal

pub returns-then-not-is_acting-clause-refused : goal.returns-then-not-is_acting-clause-refused
returns-then-not-is_acting-clause-refused c = λ s outbox h. refused-silent s (sym (c.is_acting.ensures s outbox h) ∙ c.if-not-is_acting.true)

pub returns-in_err-answer-clause-refused : goal.returns-in_err-answer-clause-refused
returns-in_err-answer-clause-refused c = λ s outbox h. no_memory c.from_residual.result _ c.from_residual.ensures.1 (query-not-refused s (sym (c.is_acting.ensures s outbox h) ∙ c.if-not-is_acting.false))

pub returns-clause-refused : goal.returns-clause-refused
returns-clause-refused c = λ s outbox h. query-not-refused s (sym (c.is_acting.ensures s outbox h) ∙ c.if-not-is_acting.false)
