-- A command that is late, and one that isn't.
use Rattle.std.proofs.Common.{[], ◌∙◌, ap, append-nil, sym}
use Rattle.cq_server_process.specs.Answers.{has_ended, process}
use Rattle.cq_server_process.proofs.Answering.{late-told}
use Rattle.cq_server_process.proofs.answer.answer_command.Goals as goal

pub returns-then-has_ended-clause-tells : goal.returns-then-has_ended-clause-tells
returns-then-has_ended-clause-tells c =
    late-told c.args.command.now (process c.args.links.now c.args.core.now c.args.streams.now.ended) c.args.out.now.items c.tell_late.new.end.items
    (sym (c.has_ended.ensures ∙ ap (has_ended c.args.streams.now.ended) c.stream.ensures) ∙ c.if-has_ended.true) c.tell_late.ensures.tells

pub returns-then-has_ended-clause-front : goal.returns-then-has_ended-clause-front
returns-then-has_ended-clause-front c = ([], sym (append-nil c.args.out.now.items))
