-- The numbers and names under which the faults of the base types are told.
use Rattle.std.specs.Prelude.{ℕ, List, codes}
use Rattle.cq_base.specs.declared.fault.BaseFault.{BaseFault}
use Rattle.cq_base.specs.declared.fault.BaseFault.TheVariants.{BadQueueName, BadGroup, BadDedup, InvalidMessageContents, BodyLength, NoMemory}

-- the number of a fault
abbrev pub code_of : BaseFault → ℕ
code_of BadQueueName = 11
code_of BadGroup = 12
code_of BadDedup = 13
code_of InvalidMessageContents = 14
code_of BodyLength = 15
code_of NoMemory = 20

-- its name
abbrev pub name_of : BaseFault → List ℕ
name_of BadQueueName = codes "BadQueueName"
name_of BadGroup = codes "BadGroup"
name_of BadDedup = codes "BadDedup"
name_of InvalidMessageContents = codes "InvalidMessageContents"
name_of BodyLength = codes "BodyLength"
name_of NoMemory = codes "NoMemory"
