-- The turns come behind what happened.
use Rattle.cq_server_process.specs.Answers.{state}
use Rattle.cq_server_process.proofs.Answering.{goes-told}
use Rattle.cq_server_process.proofs.answer.go_on.Goals as goal

pub returns-in-Ok-clause-tells : goal.returns-in-Ok-clause-tells
returns-in-Ok-clause-tells c =
    goes-told c.args.command.now (state c.args.links.now c.args.core.now) (state c.happen.new.links c.happen.new.core) (state c.turns.new.links c.turns.new.core) c.in-Ok-Ok.field-0 c.in-Ok-Ok.before c.in-Ok.first c.args.out.now.items c.happen.new.out.items c.turns.new.out.items
    c.in-Ok-Ok.field-0-is c.in-Ok-Ok.ensures.tells c.in-Ok.ensures.tells c.turns.ensures.incoming c.turns.ensures.gone
