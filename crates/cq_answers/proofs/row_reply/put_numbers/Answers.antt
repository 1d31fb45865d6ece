use Rattle.cq_answers.proofs.Joined.{seven}
use Rattle.cq_answers.proofs.Plain.{quoted-dashes}
use Rattle.cq_answers.proofs.row_reply.put_numbers.Goals as goal

pub returns-clause-ok : goal.returns-clause-ok
returns-clause-ok c =
    seven c.put-4.result _ _ _ _ _ _ _ _ _ _ _ _ _ _ _ _
    c.in_ok-put.ensures.ok c.in_ok-put_plain_number.ensures.ok c.in_ok-put-2.ensures.ok c.in_ok-put_plain_number-2.ensures.ok c.in_ok-put-3.ensures.ok c.in_ok-put_plain_number-3.ensures.ok c.put-4.ensures.ok
    (quoted-dashes _ _ _)
