-- No step before this one says a number.
use Rattle.std.proofs.Common.{◌≡◌, drop}
use Rattle.cq_live_plan.specs.Steps.{crash_of}
use Rattle.cq_live_plan.proofs.asked.crash_of.Given as goal

abbrev pub invariant-loop-step : goal.invariant-loop-step
invariant-loop-step l = crash_of l.id (drop l.step-index l.steps) ≡ crash_of l.id l.steps
