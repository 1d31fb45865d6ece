-- The turns, and what is told behind them.
use Rattle.std.proofs.Common.{ap, length, arith}
use Rattle.cq_master_process.proofs.Answered.{tells-turns}
use Rattle.cq_master_process.proofs.process.MasterProcess.answer_done.Goals as goal

pub tell_behind-requires : goal.tell_behind-requires
tell_behind-requires c = let none = ap (λ xs. length xs) c.requires.empty in let long = c.args.end.now.ok.0 in let room = c.requires.room in omega arith

pub returns-in-Ok-clause-told : goal.returns-in-Ok-clause-told
returns-in-Ok-clause-told c =
    tells-turns c.args.self.now c.turns.new.self c.in-Ok.waits c.args.out.now.items c.turns.new.out.items c.args.end.now.items c.tell_behind.new.end.items c.in-Ok.ensures.turns c.requires.empty c.tell_behind.ensures.items
