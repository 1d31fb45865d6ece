-- What the client asks by the steps before this one.
use Rattle.std.proofs.Common.{◌≡◌, take}
use Rattle.cq_live_plan.specs.Steps.{asks_of}
use Rattle.cq_live_plan.proofs.asked.asks_of.Given as goal

abbrev pub invariant-loop-step : goal.invariant-loop-step
invariant-loop-step l = l.asks.items ≡ asks_of l.client (take l.step-index l.steps)
