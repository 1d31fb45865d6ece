-- The end comes behind what was put.
use Rattle.std.proofs.Common.{subst, sym}
use Rattle.cq_server_process.specs.Answers.{TellsBy, state}
use Rattle.cq_server_process.proofs.Answering.{ended-told, told-front}
use Rattle.cq_server_process.proofs.answer.answer_in_time.Goals as goal

pub returns-in-Ok-clause-tells : goal.returns-in-Ok-clause-tells
returns-in-Ok-clause-tells c =
    let p = state c.args.links.now c.args.core.now in
    let q = state c.go_on.new.links c.go_on.new.core in
    subst (λ is_refused. TellsBy is_refused c.args.command.now p q c.args.out.now.items c.go_on.new.out.items c.tell_end.new.end.items) (sym c.is_err-is_refused.ensures.value)
    (ended-told c.args.command.now p q c.in-Ok.happened c.args.out.now.items c.go_on.new.out.items c.tell_end.new.end.items c.in-Ok.ensures.tells c.tell_end.ensures.tells)

pub returns-in-Ok-clause-front : goal.returns-in-Ok-clause-front
returns-in-Ok-clause-front c =
    told-front c.args.command.now (state c.args.links.now c.args.core.now) (state c.go_on.new.links c.go_on.new.core) c.in-Ok.happened c.args.out.now.items c.go_on.new.out.items c.in-Ok.ensures.tells
