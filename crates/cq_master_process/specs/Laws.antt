-- The statements of the laws on answers.
use Rattle.std.specs.Prelude.{ℕ, List, Option}
use Rattle.cq_events.specs.Actions.{Action}
use Rattle.cq_master_process.specs.declared.process.MasterProcess.{MasterProcess}
use Rattle.cq_master_process.specs.Answering.{Answers}
use Rattle.cq_master_process.specs.Cores.{ActsAll}

-- What the process does of a frame is a list of actions of its core, none of which the core refuses.
abbrev pub AreActions : Type 0
AreActions = (p q : MasterProcess) (frame : Option (List ℕ)) (told : List ℕ) → Answers p frame told q → (actions : List Action) × ActsAll actions p.core q.core
