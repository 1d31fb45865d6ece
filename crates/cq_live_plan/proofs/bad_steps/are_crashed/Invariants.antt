-- Each server before this one is that server, or crashed.
use Rattle.std.proofs.Common.{◌≡◌, true}
use Rattle.cq_live_plan.specs.Steps.{are_crashed}
use Rattle.cq_live_plan.proofs.bad_steps.are_crashed.Given as goal

abbrev pub invariant-loop-number : goal.invariant-loop-number
invariant-loop-number l = are_crashed l.steps l.id l.number ≡ true
