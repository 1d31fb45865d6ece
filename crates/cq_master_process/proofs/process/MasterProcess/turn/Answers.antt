-- Room is made before.
use Rattle.std.proofs.Common.{refl}
use Rattle.std.proofs.lemmas.Result.{on_ok_weaker}
use Rattle.cq_master_process.specs.declared.process.MasterProcess.{MasterProcess}
use Rattle.cq_master_process.proofs.Answered.{same-front}
use Rattle.cq_master_process.proofs.Counting.{gone-open}
use Rattle.cq_master_process.proofs.Left.{turn-behind, turn-here}
use Rattle.cq_master_process.proofs.Puts.{none-for}
use Rattle.cq_master_process.proofs.process.MasterProcess.turn.Goals as goal

pub returns-in-Ok-clause-turn : goal.returns-in-Ok-clause-turn
returns-in-Ok-clause-turn c =
    let mid : MasterProcess = record c.args.self.now { links = c.open.new.self } in
    on_ok_weaker c.put_all.result
    (turn-behind c.args.self.now mid c.put_all.new.self c.args.to c.args.out.now.items c.put_all.new.out.items (record { core = λ m outbox h. h; taken = c.in-Ok.ensures.taken; put = c.in-Ok.ensures.put; gone = c.in-Ok.ensures.gone })) c.put_all.ensures.turn

pub returns-in-Err-clause-turn : goal.returns-in-Err-clause-turn
returns-in-Err-clause-turn c =
    let mid : MasterProcess = record c.args.self.now { links = c.open.new.self } in
    turn-here c.args.self.now c.args.self.now mid c.args.to c.args.out.now.items c.args.out.now.items c.args.out.now.items (none-for c.args.self.now c.args.to c.args.out.now.items)
    (record { core = λ m outbox h. h; taken = c.in-Err.ensures.taken; put = c.in-Err.ensures.put; gone = c.in-Err.ensures.gone }) refl (gone-open c.args.self.now.links c.args.to c.in-Err.ensures.absent)

pub returns-in-Err-clause-front : goal.returns-in-Err-clause-front
returns-in-Err-clause-front c = same-front c.args.out.now.items
