-- The number and the name of each fault of a live run.
use Rattle.std.specs.Prelude.{ℕ, List, codes, Bool, true, false}
use Rattle.cq_live.specs.declared.fault.LiveFault.{LiveFault}
use Rattle.cq_threads.specs.declared.fault.ThreadFault.{ThreadFault}
use Rattle.cq_threads.specs.declared.fault.ThreadFault.TheVariants as threads
use Rattle.cq_trace.specs.declared.fault.AuditFault.{AuditFault}
use Rattle.cq_trace.specs.declared.fault.AuditFault.TheVariants as audits
use Rattle.cq_live.specs.declared.fault.LiveFault.TheVariants.{TurnLimit, AuditRefused, SpawnFailed, BadScript, NoMemory}

-- the number of a fault
abbrev pub code_of : LiveFault → ℕ
code_of TurnLimit = 71
code_of (AuditRefused fault) = 72
code_of SpawnFailed = 73
code_of (BadScript step) = 74
code_of NoMemory = 20

-- its name
abbrev pub name_of : LiveFault → List ℕ
name_of TurnLimit = codes "TurnLimit"
name_of (AuditRefused fault) = codes "AuditRefused"
name_of SpawnFailed = codes "SpawnFailed"
name_of (BadScript step) = codes "BadScript"
name_of NoMemory = codes "NoMemory"

-- it says that a step can't be done
abbrev pub is_of_steps : LiveFault → Bool
is_of_steps (BadScript step) = true
is_of_steps fault = false

-- it says that an audit found no order, where it was memory that was wanting
abbrev pub hides_memory : LiveFault → Bool
hides_memory (AuditRefused audits.NoMemory) = true
hides_memory fault = false

-- a fault of threads, as one of a live run
abbrev pub of_threads : ThreadFault → LiveFault
of_threads threads.SpawnFailed = SpawnFailed
of_threads threads.NoMemory = NoMemory

-- a fault of an audit, of which want of memory is told as that
abbrev pub of_audit : AuditFault → LiveFault
of_audit (audits.NoNextEvent parties) = AuditRefused (audits.NoNextEvent parties)
of_audit (audits.BadTrace number) = AuditRefused (audits.BadTrace number)
of_audit audits.NoMemory = NoMemory
