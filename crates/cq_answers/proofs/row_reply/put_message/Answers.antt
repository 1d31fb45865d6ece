use Rattle.std.proofs.Common.{refl}
use Rattle.json.specs.Print.{escape_byte}
use Rattle.cq_answers.proofs.Joined.{seven}
use Rattle.cq_answers.proofs.row_reply.put_message.Goals as goal

pub returns-clause-ok : goal.returns-clause-ok
unfolding escape_byte
returns-clause-ok c =
    seven c.put-4.result _ _ _ _ _ _ _ _ _ _ _ _ _ _ _ _
    c.in_ok-put.ensures.ok c.in_ok-put_string.ensures.ok c.in_ok-put-2.ensures.ok c.in_ok-put_string-2.ensures.ok c.in_ok-put-3.ensures.ok c.in_ok-put_receipt.ensures.ok c.put-4.ensures.ok
    refl
