-- One of them lives.
use Rattle.std.proofs.Common.{sym, arith, ◌<◌}
use Rattle.cq_live_plan.proofs.Ranges.{one_lives}
use Rattle.cq_live_plan.proofs.bad_steps.are_crashed.Goals as goal

pub returns-then-not-is_gone : goal.returns-then-not-is_gone
returns-then-not-is_gone c = sym (one_lives c.args.steps.now c.args.id c.loop-number.number c.args.size (omega (arith, c.loop-number-test.true, c.loop-number.auto.number-end, c.from-number-end.ensures, c.get.ensures.value))
    (sym c.if-not-is_gone.ensures))
