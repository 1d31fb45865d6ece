use Rattle.std.proofs.Common.{refl}
use Rattle.json.specs.Print.{escape_byte}
use Rattle.cq_answers.proofs.Joined.{three}
use Rattle.cq_answers.proofs.row_reply.put_created.Goals as goal

pub returns-clause-ok : goal.returns-clause-ok
unfolding escape_byte
returns-clause-ok c =
    three c.put-2.result _ _ _ _ _ _ _ _
    c.in_ok-put.ensures.ok c.in_ok-put_number.ensures.ok c.put-2.ensures.ok
    refl
