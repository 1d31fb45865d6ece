-- The line of a fault of a journal.
use Rattle.std.specs.Prelude.{ℕ, List, [], ◌∷◌, ◌++◌, codes, decimal, Option, Some, None}
use Rattle.cq_kept_run.specs.Faults.{code_of, name_of}
use Rattle.cq_kept_run.specs.declared.fault.JournalFault.{JournalFault}
use Rattle.cq_kept_run.specs.declared.fault.JournalFault.TheVariants.{Failed, Damaged, Busy, NotAJournal, OtherJournal}

-- at which byte the fault is, if that is known
abbrev pub fault_place : JournalFault → Option ℕ
fault_place Failed = None
fault_place (Damaged place) = place
fault_place Busy = None
fault_place NotAJournal = None
fault_place OtherJournal = None

-- it, as it is told
abbrev pub place_text : Option ℕ → List ℕ
place_text (Some n) = codes " byte " ++ decimal n
place_text None = []

-- the line of a fault
abbrev pub journal_fault_text : JournalFault → List ℕ
journal_fault_text fault = codes "cq: " ++ (decimal (code_of fault) ++ (codes " " ++ (name_of fault ++ (place_text (fault_place fault) ++ 10 ∷ []))))
