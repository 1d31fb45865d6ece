-- Why a journal of entries isn't opened.
use Rattle.std.specs.Prelude.{⊤}
use Rattle.cq_journal.specs.declared.fault.OpenFault.{OpenFault}
use Rattle.cq_journal.specs.declared.fault.OpenFault.TheVariants as opens
use Rattle.cq_journal.specs.declared.fault.RegionFault.{RegionFault}
use Rattle.cq_journal.specs.declared.fault.RegionFault.TheVariants as regions
use Rattle.cq_wire.specs.declared.fault.ReadFault.{ReadFault}
use Rattle.cq_wire.specs.declared.fault.ReadFault.TheVariants as reads
use Rattle.cq_kept_entries.specs.declared.fault.StartFault.{StartFault}
use Rattle.cq_kept_entries.specs.declared.fault.StartFault.TheVariants as faults

-- what the fault of a reader is to those who open
abbrev pub start_fault_of_read : ReadFault → StartFault
start_fault_of_read reads.NoMemory = faults.NoMemory
start_fault_of_read (reads.Bad fault) = faults.NoEntries

abbrev pub HasOpenReason : OpenFault → Type 0 → Type 0
HasOpenReason opens.NoJournal intact = intact → ⊥
HasOpenReason opens.Damaged intact = intact → ⊥
HasOpenReason opens.Full intact = ⊤
HasOpenReason opens.NoMemory intact = ⊤
HasOpenReason opens.Failed intact = ⊤

abbrev pub HasRegionReason : RegionFault → Type 0 → Type 0
HasRegionReason (regions.Damaged place) intact = intact → ⊥
HasRegionReason regions.NoMemory intact = ⊤
HasRegionReason regions.Failed intact = ⊤

-- Bytes are refused as none of a journal, or as damaged ones, only where they aren't intact; and as something else than entries only where
-- they stand for none that a store takes. All other faults are of calls, of memory and of space.
abbrev pub HasReason : StartFault → Type 0 → Type 0 → Type 0
HasReason (faults.Open fault) intact taken = HasOpenReason fault intact
HasReason (faults.Read fault) intact taken = HasRegionReason fault intact
HasReason faults.NoEntries intact taken = taken → ⊥
HasReason faults.NoMemory intact taken = ⊤
HasReason (faults.Write fault) intact taken = ⊤

-- it is of a call or of memory
abbrev pub IsOfCall : StartFault → Type 0
IsOfCall (faults.Open fault) = ⊥
IsOfCall (faults.Read fault) = ⊥
IsOfCall faults.NoEntries = ⊥
IsOfCall faults.NoMemory = ⊤
IsOfCall (faults.Write fault) = ⊤
