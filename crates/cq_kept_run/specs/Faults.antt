-- The numbers and names of a journal's faults.
use Rattle.std.specs.Prelude.{ℕ, List, codes}
use Rattle.cq_kept_run.specs.declared.fault.JournalFault.{JournalFault}
use Rattle.cq_kept_run.specs.declared.fault.JournalFault.TheVariants.{Failed, Damaged, Busy, NotAJournal, OtherJournal}

abbrev pub code_of : JournalFault → ℕ
code_of Failed = 66
code_of (Damaged place) = 67
code_of Busy = 68
code_of NotAJournal = 69
code_of OtherJournal = 79

abbrev pub name_of : JournalFault → List ℕ
name_of Failed = codes "JournalFailed"
name_of (Damaged place) = codes "JournalDamaged"
name_of Busy = codes "JournalBusy"
name_of NotAJournal = codes "NotAJournal"
name_of OtherJournal = codes "OtherJournal"
