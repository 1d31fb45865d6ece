-- None before this one was bad.
use Rattle.std.proofs.Common.{◌≡◌, [], take, drop}
use Rattle.cq_live_plan.specs.Steps.{first_bad}
use Rattle.cq_live_plan.proofs.bad_steps.first_bad_step.Given as goal

abbrev pub invariant-loop-i : goal.invariant-loop-i
invariant-loop-i l = first_bad l.size (take l.i l.steps) (drop l.i l.steps) ≡ first_bad l.size [] l.steps
