-- What the faults of devices and logs are to those who open a journal.
use Rattle.cq_disk.specs.declared.fault.DeviceFault.{DeviceFault}
use Rattle.cq_disk.specs.declared.fault.DeviceFault.TheVariants as device
use Rattle.cq_records.specs.declared.fault.LogFault.{LogFault}
use Rattle.cq_records.specs.declared.fault.LogFault.TheVariants as log
use Rattle.cq_records.specs.declared.fault.ReadFault.{ReadFault}
use Rattle.cq_records.specs.declared.fault.ReadFault.TheVariants as read
use Rattle.cq_journal.specs.declared.fault.OpenFault.{OpenFault}
use Rattle.cq_journal.specs.declared.fault.OpenFault.TheVariants as faults

abbrev pub open_fault_of_device : DeviceFault → OpenFault
open_fault_of_device device.NoMemory = faults.NoMemory
open_fault_of_device device.Failed = faults.Failed

abbrev pub open_fault_of_log : LogFault → OpenFault
open_fault_of_log log.Full = faults.Full
open_fault_of_log log.NoMemory = faults.NoMemory
open_fault_of_log log.Failed = faults.Failed

abbrev pub open_fault_of_read : ReadFault → OpenFault
open_fault_of_read read.Damaged = faults.Damaged
open_fault_of_read read.NoMemory = faults.NoMemory
open_fault_of_read read.Failed = faults.Failed
