-- The numbers and names of the faults of audits.
use Rattle.std.specs.Prelude.{ℕ, List, codes}
use Rattle.cq_trace.specs.declared.fault.AuditFault.{AuditFault}
use Rattle.cq_trace.specs.declared.fault.AuditFault.TheVariants.{NoNextEvent, BadTrace, NoMemory}

-- the number of a fault
abbrev pub code_of : AuditFault → ℕ
code_of (NoNextEvent parties) = 51
code_of (BadTrace number) = 52
code_of NoMemory = 20

-- its name
abbrev pub name_of : AuditFault → List ℕ
name_of (NoNextEvent parties) = codes "NoNextEvent"
name_of (BadTrace number) = codes "BadTrace"
name_of NoMemory = codes "NoMemory"
