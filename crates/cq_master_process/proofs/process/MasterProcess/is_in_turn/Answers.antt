-- Out of turn is what comes of a server that is gone.
use Rattle.std.proofs.Common.{◌∙◌, sym}
use Rattle.cq_master_process.proofs.Steps.{turn-gone, turn-here}
use Rattle.cq_master_process.proofs.process.MasterProcess.is_in_turn.Goals as goal

pub returns-then-is_gone-clause-is : goal.returns-then-is_gone-clause-is
returns-then-is_gone-clause-is c = turn-gone c.args.self.now c.args.from c.args.number (sym c.is_gone.ensures ∙ c.if-is_gone.true)

pub returns-clause-is : goal.returns-clause-is
returns-clause-is c = turn-here c.args.self.now c.args.from c.args.number c.is_next.result (sym c.is_gone.ensures ∙ c.if-is_gone.false) c.is_next.ensures.is
