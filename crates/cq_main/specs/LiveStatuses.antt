-- The line of a fault of a live run, and the status with which the program ends.
use Rattle.std.specs.Prelude.{ℕ, List, [], ◌∷◌, ◌++◌, codes, decimal, Option, Some, None}
use Rattle.cq_live.specs.Faults.{code_of, name_of}
use Rattle.cq_live.specs.declared.fault.LiveFault.{LiveFault}
use Rattle.cq_live.specs.declared.fault.LiveFault.TheVariants.{TurnLimit, AuditRefused, SpawnFailed, BadScript, NoMemory}

-- 1 where the audit refused the run, 2 where the script is at fault, and else 3
abbrev pub live_status_of : LiveFault → ℕ
live_status_of TurnLimit = 3
live_status_of (AuditRefused fault) = 1
live_status_of SpawnFailed = 3
live_status_of (BadScript step) = 2
live_status_of NoMemory = 3

-- the step that can't be done, if the fault is that
abbrev pub fault_step : LiveFault → Option ℕ
fault_step (BadScript step) = Some step
fault_step TurnLimit = None
fault_step (AuditRefused fault) = None
fault_step SpawnFailed = None
fault_step NoMemory = None

-- it, as it is told
abbrev pub step_text : Option ℕ → List ℕ
step_text (Some n) = codes " step " ++ decimal n
step_text None = []

-- the line of a fault
abbrev pub live_fault_text : LiveFault → List ℕ
live_fault_text fault = codes "cq: " ++ (decimal (code_of fault) ++ (codes " " ++ (name_of fault ++ (step_text (fault_step fault) ++ 10 ∷ []))))
