-- The numbers and names of the faults of links and inboxes, and the capacities that they may have.
use Rattle.std.specs.Prelude.{◌≡◌, ◌⊎◌, ◌<◌, ℕ, List, codes}
use Rattle.cq_link.specs.declared.fault.LinkFault.{LinkFault}
use Rattle.cq_link.specs.declared.fault.LinkFault.TheVariants.{BadCapacity, NoMemory}

-- the number of a fault
abbrev pub code_of : LinkFault → ℕ
code_of BadCapacity = 81
code_of NoMemory = 20

-- its name
abbrev pub name_of : LinkFault → List ℕ
name_of BadCapacity = codes "BadCapacity"
name_of NoMemory = codes "NoMemory"

-- no link and no inbox has such a capacity
abbrev pub IsBadCapacity : ℕ → Type 0
IsBadCapacity capacity = (capacity ≡ 0) ⊎ (65536 < capacity)
