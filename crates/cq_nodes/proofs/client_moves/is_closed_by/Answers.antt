-- The core's own test decides.
use Rattle.std.proofs.Common.{◌∙◌, sym}
use Rattle.cq_nodes.proofs.ClientAsks.{answer_closes}
use Rattle.cq_nodes.proofs.client_moves.is_closed_by.Goals as goal

pub returns-then-is_own-clause-closes : goal.returns-then-is_own-clause-closes
returns-then-is_own-clause-closes c = λ asks closed h is.
    let told = c.take.ensures h.client h.stands in
    answer_closes c.args.id asks c.args.core.now c.take.new.self closed c.args.answer.now h told.1 (sym told.0 ∙ is) (c.is_own.ensures.client c.if-is_own.true) (c.is_own.ensures.no_query c.if-is_own.true)
