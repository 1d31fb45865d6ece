-- The joins that the steps before this one ask for.
use Rattle.std.proofs.Common.{◌≡◌, take}
use Rattle.cq_live_plan.specs.Steps.{joins_of}
use Rattle.cq_live_plan.proofs.joins.joins_of.Given as goal

abbrev pub invariant-loop-step : goal.invariant-loop-step
invariant-loop-step l = l.joins.items ≡ joins_of (take l.step-index l.steps)
