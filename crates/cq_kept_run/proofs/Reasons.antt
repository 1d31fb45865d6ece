-- Why a server wasn't begun.
use Rattle.std.proofs.Common.{◌≡◌, sym, subst}
use Rattle.cq_disk.specs.declared.fault.DeviceFault.{DeviceFault}
use Rattle.cq_disk.specs.declared.fault.DeviceFault.TheVariants as devices
use Rattle.cq_journal.specs.declared.fault.OpenFault.{OpenFault}
use Rattle.cq_journal.specs.declared.fault.OpenFault.TheVariants as opens
use Rattle.cq_journal.specs.declared.fault.RegionFault.{RegionFault}
use Rattle.cq_journal.specs.declared.fault.RegionFault.TheVariants as regions
use Rattle.cq_records.specs.declared.fault.LogFault.{LogFault}
use Rattle.cq_records.specs.declared.fault.LogFault.TheVariants as logs
use Rattle.cq_kept_entries.specs.Faults.{HasOpenReason, HasReason, HasRegionReason, IsOfCall}
use Rattle.cq_kept_entries.specs.declared.fault.StartFault.{StartFault}
use Rattle.cq_kept_entries.specs.declared.fault.StartFault.TheVariants as starts
use Rattle.cq_kept_run.specs.declared.fault.JournalFault.{JournalFault}
use Rattle.cq_kept_run.specs.declared.fault.ServerFault.{ServerFault}
use Rattle.cq_kept_run.specs.declared.fault.ServerFault.TheVariants as servers
use Rattle.cq_kept_run.specs.Reasons.{HasJournalReason, HasServerReason, IsOfKept, IsOfLoop, IsOfStart, kept_of_device, kept_of_log, kept_of_open, kept_of_region}

loop_reason : (A B : Type 0) (it : ServerFault) → IsOfLoop it → HasServerReason it A B
loop_reason A B (servers.Loop fault) is = tt
loop_reason A B (servers.Journal fault) is = absurd is

journal_reason : (A B : Type 0) (fault : JournalFault) (it : ServerFault) → it ≡ servers.Journal fault → HasJournalReason fault A B → HasServerReason it A B
journal_reason A B fault it is why = subst (λ f. HasServerReason f A B) (sym is) why

pub device_reason : (A B : Type 0) (f : DeviceFault) (it : ServerFault) → IsOfKept (kept_of_device f) it → HasServerReason it A B
device_reason A B devices.NoMemory it is = loop_reason A B it is
device_reason A B devices.Failed it is = journal_reason A B _ it is tt

open_reason : (A B : Type 0) (f : OpenFault) (it : ServerFault) → IsOfKept (kept_of_open f) it → HasOpenReason f A → HasServerReason it A B
open_reason A B opens.NoJournal it is why = journal_reason A B _ it is why
open_reason A B opens.Damaged it is why = journal_reason A B _ it is why
open_reason A B opens.Full it is why = journal_reason A B _ it is tt
open_reason A B opens.NoMemory it is why = loop_reason A B it is
open_reason A B opens.Failed it is why = journal_reason A B _ it is tt

region_reason : (A B : Type 0) (f : RegionFault) (it : ServerFault) → IsOfKept (kept_of_region f) it → HasRegionReason f A → HasServerReason it A B
region_reason A B (regions.Damaged place) it is why = journal_reason A B _ it is why
region_reason A B regions.NoMemory it is why = loop_reason A B it is
region_reason A B regions.Failed it is why = journal_reason A B _ it is tt

log_reason : (A B : Type 0) (f : LogFault) (it : ServerFault) → IsOfKept (kept_of_log f) it → HasServerReason it A B
log_reason A B logs.Full it is = journal_reason A B _ it is tt
log_reason A B logs.NoMemory it is = loop_reason A B it is
log_reason A B logs.Failed it is = journal_reason A B _ it is tt

pub start_reason : (A B : Type 0) (f : StartFault) (it : ServerFault) → IsOfStart f it → HasReason f A B → HasServerReason it A B
start_reason A B (starts.Open f) it is why = open_reason A B f it is why
start_reason A B (starts.Read f) it is why = region_reason A B f it is why
start_reason A B starts.NoEntries it is why = journal_reason A B _ it is why
start_reason A B starts.NoMemory it is why = loop_reason A B it is
start_reason A B (starts.Write f) it is why = log_reason A B f it is

pub call_reason : (A B : Type 0) (f : StartFault) (it : ServerFault) → IsOfStart f it → IsOfCall f → HasServerReason it A B
call_reason A B (starts.Open f) it is call = absurd call
call_reason A B (starts.Read f) it is call = absurd call
call_reason A B starts.NoEntries it is call = absurd call
call_reason A B starts.NoMemory it is call = loop_reason A B it is
call_reason A B (starts.Write f) it is call = log_reason A B f it is
