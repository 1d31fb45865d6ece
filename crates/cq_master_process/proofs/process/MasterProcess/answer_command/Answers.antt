-- It is done, or refused.
use Rattle.std.proofs.Common.{ap, length, arith}
use Rattle.cq_master_process.proofs.Answered.{done-command, refused-command, same-front}
use Rattle.cq_master_process.proofs.process.MasterProcess.answer_command.Goals as goal

pub tell_refused-requires : goal.tell_refused-requires
tell_refused-requires c = let none = ap (λ xs. length xs) c.requires.empty in let long = c.args.end.now.ok.0 in let room = c.requires.room in omega arith

pub returns-in-Ok-clause-told : goal.returns-in-Ok-clause-told
returns-in-Ok-clause-told c =
    done-command c.answer_done.result c.args.self.now c.step.new.self c.answer_done.new.self c.args.command.now c.args.out.now.items _ c.in-Ok.ensures.done c.answer_done.ensures.told

pub returns-in-Err-clause-told : goal.returns-in-Err-clause-told
returns-in-Err-clause-told c =
    refused-command c.args.self.now c.step.new.self c.args.command.now c.in-Err.code c.args.out.now.items c.args.end.now.items c.tell_refused.new.out.items c.in-Err.ensures.refused c.in-Err.ensures.same c.requires.empty c.tell_refused.ensures.items

pub returns-in-Err-clause-front : goal.returns-in-Err-clause-front
returns-in-Err-clause-front c = same-front c.args.out.now.items
