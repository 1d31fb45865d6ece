-- A frame that was too long is unread.
use Rattle.std.proofs.Common.{◌∙◌, ap, length, arith}
use Rattle.cq_master_process.proofs.Answered.{long-frame, same-front}
use Rattle.cq_master_process.proofs.process.MasterProcess.answer_frame.Goals as goal

pub tell_unread-requires : goal.tell_unread-requires
tell_unread-requires c = let none = ap (λ xs. length xs) c.requires.empty in let long = c.args.end.now.ok.0 in let room = c.requires.room in omega arith

pub returns-in-Some-clause-answers : goal.returns-in-Some-clause-answers
returns-in-Some-clause-answers c = rw c.in-Some.is c.answer_bytes.ensures.told

pub returns-in-None-clause-answers : goal.returns-in-None-clause-answers
returns-in-None-clause-answers c =
    rw c.in-None.is (long-frame c.args.self.now c.from.result c.args.out.now.items c.args.end.now.items c.tell_unread.new.out.items (c.from.ensures ∙ c.code.ensures) c.requires.empty c.tell_unread.ensures.items)

pub returns-in-None-clause-front : goal.returns-in-None-clause-front
returns-in-None-clause-front c = same-front c.args.out.now.items
