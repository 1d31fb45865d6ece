-- Why a server isn't begun.
use Rattle.std.specs.Prelude.{◌≡◌, None, Some, ⊤}
use Rattle.cq_disk.specs.declared.fault.DeviceFault.{DeviceFault}
use Rattle.cq_disk.specs.declared.fault.DeviceFault.TheVariants as devices
use Rattle.cq_journal.specs.declared.fault.OpenFault.{OpenFault}
use Rattle.cq_journal.specs.declared.fault.OpenFault.TheVariants as opens
use Rattle.cq_journal.specs.declared.fault.RegionFault.{RegionFault}
use Rattle.cq_journal.specs.declared.fault.RegionFault.TheVariants as regions
use Rattle.cq_records.specs.declared.fault.LogFault.{LogFault}
use Rattle.cq_records.specs.declared.fault.LogFault.TheVariants as logs
use Rattle.cq_lines.specs.declared.fault.ScriptFault.TheVariants as scripts
use Rattle.cq_kept_entries.specs.declared.fault.StartFault.{StartFault}
use Rattle.cq_kept_entries.specs.declared.fault.StartFault.TheVariants as starts
use Rattle.cq_kept_run.specs.declared.fault.JournalFault.{JournalFault}
use Rattle.cq_kept_run.specs.declared.fault.JournalFault.TheVariants as journals
use Rattle.cq_kept_run.specs.declared.fault.KeptFault.{KeptFault}
use Rattle.cq_kept_run.specs.declared.fault.KeptFault.TheVariants as kept
use Rattle.cq_kept_run.specs.declared.fault.ServerFault.{ServerFault}
use Rattle.cq_kept_run.specs.declared.fault.ServerFault.TheVariants as servers

-- ---- what faults are to those who run a server

abbrev pub kept_of_device : DeviceFault → KeptFault
kept_of_device devices.NoMemory = kept.Script scripts.NoMemory
kept_of_device devices.Failed = kept.Journal journals.Failed

abbrev pub kept_of_open : OpenFault → KeptFault
kept_of_open opens.NoJournal = kept.Journal journals.NotAJournal
kept_of_open opens.Damaged = kept.Journal (journals.Damaged None)
kept_of_open opens.NoMemory = kept.Script scripts.NoMemory
kept_of_open opens.Full = kept.Journal journals.Failed
kept_of_open opens.Failed = kept.Journal journals.Failed

abbrev pub kept_of_region : RegionFault → KeptFault
kept_of_region (regions.Damaged place) = kept.Journal (journals.Damaged (Some place))
kept_of_region regions.NoMemory = kept.Script scripts.NoMemory
kept_of_region regions.Failed = kept.Journal journals.Failed

abbrev pub kept_of_log : LogFault → KeptFault
kept_of_log logs.NoMemory = kept.Script scripts.NoMemory
kept_of_log logs.Full = kept.Journal journals.Failed
kept_of_log logs.Failed = kept.Journal journals.Failed

abbrev pub kept_of_start : StartFault → KeptFault
kept_of_start (starts.Open fault) = kept_of_open fault
kept_of_start (starts.Read fault) = kept_of_region fault
kept_of_start starts.NoEntries = kept.Journal (journals.Damaged None)
kept_of_start starts.NoMemory = kept.Script scripts.NoMemory
kept_of_start (starts.Write fault) = kept_of_log fault

-- it isn't of the journal
abbrev pub IsOfLoop : ServerFault → Type 0
IsOfLoop (servers.Loop fault) = ⊤
IsOfLoop (servers.Journal fault) = ⊥

abbrev pub IsOfKept : KeptFault → ServerFault → Type 0
IsOfKept (kept.Script fault) it = IsOfLoop it
IsOfKept (kept.Journal fault) it = it ≡ servers.Journal fault

abbrev pub IsOfStart : StartFault → ServerFault → Type 0
IsOfStart (starts.Open fault) it = IsOfKept (kept_of_open fault) it
IsOfStart (starts.Read fault) it = IsOfKept (kept_of_region fault) it
IsOfStart starts.NoEntries it = it ≡ servers.Journal journals.OtherJournal
IsOfStart starts.NoMemory it = IsOfLoop it
IsOfStart (starts.Write fault) it = IsOfKept (kept_of_log fault) it

-- ---- reasons

-- Bytes are refused as damaged or as none of a journal only where they aren't intact, and as something else only where they stand for no
-- entries that a store takes. All else is of calls, of memory and of space.
abbrev pub HasJournalReason : JournalFault → Type 0 → Type 0 → Type 0
HasJournalReason journals.Failed intact taken = ⊤
HasJournalReason (journals.Damaged place) intact taken = intact → ⊥
HasJournalReason journals.Busy intact taken = ⊤
HasJournalReason journals.NotAJournal intact taken = intact → ⊥
HasJournalReason journals.OtherJournal intact taken = taken → ⊥

abbrev pub HasServerReason : ServerFault → Type 0 → Type 0 → Type 0
HasServerReason (servers.Loop fault) intact taken = ⊤
HasServerReason (servers.Journal fault) intact taken = HasJournalReason fault intact taken
