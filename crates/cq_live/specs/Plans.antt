-- What the steps of a live run ask of it.
use Rattle.std.specs.Prelude.{ℕ, List, [], ◌∷◌}
use Rattle.cq_live.specs.Lives.{Plan}
use Rattle.cq_live_plan.specs.declared.step.LiveStep.{LiveStep}
use Rattle.cq_live_plan.specs.declared.step.LiveStep.TheVariants.{Client, Crash, Join}
use Rattle.cq_live_plan.specs.Steps.{asks_of, joiners_of}

-- which servers crash by the steps, each with the number of entries at which it does, in order
abbrev pub crashes_of : List LiveStep → List (ℕ × ℕ)
crashes_of [] = []
crashes_of (Client client ask ∷ steps) = crashes_of steps
crashes_of (Crash server after ∷ steps) = (server, after) ∷ crashes_of steps
crashes_of (Join server after ∷ steps) = crashes_of steps

-- the plan of the steps
abbrev pub plan_of : List LiveStep → Plan
plan_of steps = record { asks = λ c. asks_of c steps; crashes = crashes_of steps; joins = joiners_of steps }
