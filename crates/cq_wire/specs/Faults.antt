-- The numbers and names under which the faults of bytes are told.
use Rattle.std.specs.Prelude.{ℕ, List, codes}
use Rattle.cq_wire.specs.declared.fault.WireFault.{WireFault}
use Rattle.cq_wire.specs.declared.fault.WireFault.TheVariants.{Truncated, BadTag, BadText, BadNumber, BytesLeft, OtherVersion}
use Rattle.cq_wire.specs.declared.fault.ReadFault.{ReadFault}
use Rattle.cq_wire.specs.declared.fault.ReadFault.TheVariants as read

abbrev pub wire_code : WireFault → ℕ
wire_code Truncated = 91
wire_code BadTag = 92
wire_code BadText = 93
wire_code BadNumber = 94
wire_code BytesLeft = 95
wire_code OtherVersion = 96

abbrev pub wire_name : WireFault → List ℕ
wire_name Truncated = codes "Truncated"
wire_name BadTag = codes "BadTag"
wire_name BadText = codes "BadText"
wire_name BadNumber = codes "BadNumber"
wire_name BytesLeft = codes "BytesLeft"
wire_name OtherVersion = codes "OtherVersion"

-- the number of a fault
abbrev pub code_of : ReadFault → ℕ
code_of read.NoMemory = 20
code_of (read.Bad fault) = wire_code fault

-- its name
abbrev pub name_of : ReadFault → List ℕ
name_of read.NoMemory = codes "NoMemory"
name_of (read.Bad fault) = wire_name fault
