-- The core took what it was lent.
use Rattle.cq_nodes.proofs.ActionRuns.{server-took}
use Rattle.cq_nodes.proofs.moves.lend.Goals as goal

pub returns-in-Ok-clause-ok : goal.returns-in-Ok-clause-ok
returns-in-Ok-clause-ok c = λ back.
    server-took c.args.core.now c.take.new.self back c.args.from c.args.message c.in-Ok.ensures.ok (λ m means s outbox stands. c.in-Ok.ensures.refused s outbox m stands means)
