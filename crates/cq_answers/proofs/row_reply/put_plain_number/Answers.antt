use Rattle.std.proofs.Common.{◌++◌, ap, sym, ◌∙◌}
use Rattle.std.proofs.lemmas.Result.{on_ok_weaker}
use Rattle.cq_answers.proofs.Plain.{plain-decimal}
use Rattle.cq_answers.proofs.row_reply.put_plain_number.Goals as goal

pub returns-clause-ok : goal.returns-clause-ok
returns-clause-ok c = on_ok_weaker c.put_number.result (λ is. is ∙ ap (λ t. c.args.row.now.told ++ t) (sym (plain-decimal c.args.number c.ranges.number.fits))) c.put_number.ensures.ok
