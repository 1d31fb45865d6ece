-- Room for its number is made before.
use Rattle.std.proofs.Common.{◌<◌, ℕ, subst, sym}
use Rattle.cq_master_process.specs.declared.process.MasterProcess.{MasterProcess}
use Rattle.cq_master_process.proofs.Steps.{keeps-behind, takes-behind}
use Rattle.cq_process.specs.declared.outgoing.TheConstants.{LINK_LIMIT}
use Rattle.cq_master_process.proofs.process.MasterProcess.take_message.Goals as goal

pub take_counted-requires-clause-room : goal.take_counted-requires-clause-room
take_counted-requires-clause-room c = subst (λ (f : ℕ → ℕ). f c.args.from < LINK_LIMIT) (sym c.in-Ok.ensures.taken) c.requires

pub returns-in-Ok-clause-took : goal.returns-in-Ok-clause-took
returns-in-Ok-clause-took c =
    let mid : MasterProcess = record c.args.self.now { links = c.open.new.self } in
    takes-behind c.take_counted.result c.args.self.now mid c.take_counted.new.self c.args.from c.args.message.now (record { core = λ m outbox h. h; taken = c.in-Ok.ensures.taken; put = c.in-Ok.ensures.put; gone = c.in-Ok.ensures.gone }) c.take_counted.ensures.took

pub returns-in-Ok-clause-same : goal.returns-in-Ok-clause-same
returns-in-Ok-clause-same c =
    let mid : MasterProcess = record c.args.self.now { links = c.open.new.self } in
    keeps-behind c.take_counted.result c.args.self.now mid c.take_counted.new.self (record { core = λ m outbox h. h; taken = c.in-Ok.ensures.taken; put = c.in-Ok.ensures.put; gone = c.in-Ok.ensures.gone }) c.take_counted.ensures.same

pub returns-in-Err-clause-same : goal.returns-in-Err-clause-same
returns-in-Err-clause-same c = record { core = λ m outbox h. h; taken = c.in-Err.ensures.taken; put = c.in-Err.ensures.put; gone = c.in-Err.ensures.gone }
