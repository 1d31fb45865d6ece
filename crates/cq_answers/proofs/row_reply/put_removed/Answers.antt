use Rattle.json.specs.Print.{escape_byte}
use Rattle.cq_answers.proofs.row_reply.put_removed.Goals as goal

pub returns-clause-ok : goal.returns-clause-ok
unfolding escape_byte
returns-clause-ok c = c.put.ensures.ok
