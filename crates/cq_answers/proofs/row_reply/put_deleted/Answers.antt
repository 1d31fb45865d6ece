use Rattle.json.specs.Print.{escape_byte}
use Rattle.cq_answers.proofs.row_reply.put_deleted.Goals as goal

pub returns-then-removed-clause-ok : goal.returns-then-removed-clause-ok
unfolding escape_byte
returns-then-removed-clause-ok c = rw c.if-removed.true c.put.ensures.ok

pub returns-else-removed-clause-ok : goal.returns-else-removed-clause-ok
unfolding escape_byte
returns-else-removed-clause-ok c = rw c.if-removed.false c.put-else-removed.ensures.ok
