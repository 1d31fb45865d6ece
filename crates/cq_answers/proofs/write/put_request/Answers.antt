use Rattle.json.specs.Print.{escape_byte}
use Rattle.cq_answers.proofs.Joined.{client-then, six}
use Rattle.cq_answers.proofs.write.put_request.Goals as goal

pub returns-clause-ok : goal.returns-clause-ok
unfolding escape_byte
returns-clause-ok c =
    six c.put-3.result _ _ _ _ _ _ _ _ _ _ _ _ _ _
    c.in_ok-put_client.ensures.ok c.in_ok-put.ensures.ok c.in_ok-put_number.ensures.ok c.in_ok-put-2.ensures.ok c.in_ok-put_reply.ensures.ok c.put-3.ensures.ok
    (client-then c.args.line c.args.answer.now _)
