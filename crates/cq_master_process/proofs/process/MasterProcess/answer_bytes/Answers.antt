-- The bytes are a command, or of none.
use Rattle.std.proofs.Common.{ap, length, arith}
use Rattle.cq_master_process.proofs.Answered.{fault-frame, read-frame, same-front}
use Rattle.cq_master_process.proofs.process.MasterProcess.answer_bytes.Goals as goal

pub tell_fault-requires : goal.tell_fault-requires
tell_fault-requires c = let none = ap (λ xs. length xs) c.requires.empty in let long = c.args.end.now.ok.0 in let room = c.requires.room in omega arith

pub returns-in-Ok-clause-told : goal.returns-in-Ok-clause-told
returns-in-Ok-clause-told c = read-frame c.answer_command.result c.args.self.now c.answer_command.new.self c.args.bytes.now c.in-Ok.command c.args.out.now.items _ c.in-Ok.ensures.exact c.answer_command.ensures.told

pub returns-in-Err-clause-told : goal.returns-in-Err-clause-told
returns-in-Err-clause-told c = fault-frame c.args.self.now c.args.bytes.now c.in-Err.fault c.args.out.now.items c.args.end.now.items c.tell_fault.new.end.items c.in-Err.ensures.exact c.requires.empty c.tell_fault.ensures.items

pub returns-in-Err-clause-front : goal.returns-in-Err-clause-front
returns-in-Err-clause-front c = same-front c.args.out.now.items
