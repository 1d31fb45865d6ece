-- What the faults of a device are to those who write and read records.
use Rattle.cq_disk.specs.declared.fault.DeviceFault.{DeviceFault}
use Rattle.cq_disk.specs.declared.fault.DeviceFault.TheVariants as device
use Rattle.cq_records.specs.declared.fault.LogFault.{LogFault}
use Rattle.cq_records.specs.declared.fault.LogFault.TheVariants as log
use Rattle.cq_records.specs.declared.fault.ReadFault.{ReadFault}
use Rattle.cq_records.specs.declared.fault.ReadFault.TheVariants as read

abbrev pub log_fault_of : DeviceFault → LogFault
log_fault_of device.NoMemory = log.NoMemory
log_fault_of device.Failed = log.Failed

abbrev pub read_fault_of : DeviceFault → ReadFault
read_fault_of device.NoMemory = read.NoMemory
read_fault_of device.Failed = read.Failed
