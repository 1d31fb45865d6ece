-- The first answer is put, or kept.
use Rattle.std.proofs.Common.{◌∙◌, ap, refl, Some}
use Rattle.cq_nodes.specs.Ends.{back_of}
use Rattle.cq_nodes.proofs.Answering.{answer_put, answer_kept}
use Rattle.cq_nodes.proofs.to_clients.put_first.Goals as goal

pub returns-in-Ok-clause-put : goal.returns-in-Ok-clause-put
returns-in-Ok-clause-put g c = λ outs is.
    answer_put g.P.PutEnd.list c.args.core.now c.first_message.new.core outs c.args.clients.now c.put_for_one.new.clients c.in-Some.message (c.in-Some.ensures.passes (back_of outs c.args.clients.now.kept) refl)
    (c.put_for_one.ensures.kept ∙ c.in-Some.ensures.kept) c.in-Ok.ensures.firsts c.in-Ok.ensures.seconds

pub returns-in-Err-clause-idle : goal.returns-in-Err-clause-idle
returns-in-Err-clause-idle g c = λ outs is.
    answer_kept c.args.core.now c.first_message.new.core outs c.args.clients.now.kept _ (Some c.in-Some.message) (c.in-Some.ensures.passes (back_of outs c.args.clients.now.kept) refl) (ap Some c.in-Err.ensures.full.0)
