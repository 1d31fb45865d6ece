-- It is the clause of the core's own call.
use Rattle.std.proofs.Common.{◌∙◌, sym}
use Rattle.cq_master_process.proofs.Turns.{never-next}
use Rattle.cq_master_process.proofs.process.turns.next_behind.Goals as goal

pub returns-else-is_above-clause-next : goal.returns-else-is_above-clause-next
returns-else-is_above-clause-next c = never-next c.args.core.now c.args.after.now c.in-Some.id c.in-Some.ensures (sym c.is_above.ensures ∙ c.if-is_above.false)

pub returns-then-is_above-clause-next : goal.returns-then-is_above-clause-next
returns-then-is_above-clause-next c = c.in-Some.ensures

pub returns-then-is_above-clause-above : goal.returns-then-is_above-clause-above
returns-then-is_above-clause-above c = sym c.is_above.ensures ∙ c.if-is_above.true

pub returns-in-None-clause-next : goal.returns-in-None-clause-next
returns-in-None-clause-next c = c.in-None.ensures
