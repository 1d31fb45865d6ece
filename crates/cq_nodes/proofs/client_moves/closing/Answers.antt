-- The message bears the answer.
use Rattle.std.proofs.Common.{◌∙◌, sym}
use Rattle.cq_nodes.proofs.ClientEnds.{answer_borne}
use Rattle.cq_nodes.proofs.client_moves.closing.Goals as goal

pub returns-then-is_closed_by : goal.returns-then-is_closed_by
returns-then-is_closed_by c = λ asks closed h.
    record {
      bears = answer_borne c.args.message c.in-Some.answer (sym c.into_answer.ensures ∙ c.in-Some.is);
      closes = c.is_closed_by.ensures.closes asks closed h c.if-is_closed_by.true;
    }
