-- What is told of a command is told of the bytes that it was read of.
use Rattle.cq_server_process.specs.Answers.{process}
use Rattle.cq_server_process.proofs.Answering.{read-told}
use Rattle.cq_server_process.proofs.answer.answer_read.Goals as goal

pub returns-clause-tells : goal.returns-clause-tells
returns-clause-tells c =
    read-told c.answer_command.result c.args._bytes.now c.args.command.now (process c.args.links.now c.args.core.now c.args.streams.now.ended) (process c.answer_command.new.links c.answer_command.new.core c.answer_command.new.streams.ended)
    c.args.out.now.items c.answer_command.new.out.items c.answer_command.new.end.items c.requires.read c.answer_command.ensures.tells
