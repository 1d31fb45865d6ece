-- What a fault of a log is told as.
use Rattle.std.proofs.Common.{◌≡◌, Result, Ok, Err}
use Rattle.std.specs.Prelude.{IsErrAnd, IsErrOf}
use Rattle.cq_records.specs.declared.fault.LogFault.{LogFault}
use Rattle.cq_records.specs.declared.fault.LogFault.TheVariants.{Failed, Full, NoMemory}
use Rattle.cq_journal.specs.declared.fault.OpenFault.{OpenFault}
use Rattle.cq_journal.specs.declared.fault.OpenFault.TheVariants as faults
use Rattle.cq_journal.specs.Faults.{open_fault_of_log}

pub full_from : {T U : Type 0} (told : Result T OpenFault) (was : Result U LogFault) (fault : LogFault) → was ≡ Err fault → IsErrAnd told (λ e. e ≡ open_fault_of_log fault) → IsErrOf told faults.Full → IsErrOf was Full
full_from (Ok x) was fault is tells full = absurd tells
full_from (Err e) was Full is tells full = is
full_from (Err e) was NoMemory is tells full = absurd cc
full_from (Err e) was Failed is tells full = absurd cc

pub failed_from : {T U : Type 0} (told : Result T OpenFault) (was : Result U LogFault) (fault : LogFault) → was ≡ Err fault → IsErrAnd told (λ e. e ≡ open_fault_of_log fault) → IsErrOf told faults.Failed → IsErrOf was Failed
failed_from (Ok x) was fault is tells failed = absurd tells
failed_from (Err e) was Full is tells failed = absurd cc
failed_from (Err e) was NoMemory is tells failed = absurd cc
failed_from (Err e) was Failed is tells failed = is
