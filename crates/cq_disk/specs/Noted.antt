-- The event that a call is.
use Rattle.cq_disk.specs.Events.{Event, wrote, write_failed, synced, sync_failed_event, read, read_failed}
use Rattle.cq_disk.specs.declared.record.Call.{Call}
use Rattle.cq_disk.specs.declared.record.Call.TheVariants as call

abbrev pub event_of : Call → Event
event_of (call.Wrote at bytes) = wrote at bytes.now
event_of (call.WriteFailed at bytes) = write_failed at bytes.now
event_of call.Synced = synced
event_of call.SyncFailed = sync_failed_event
event_of (call.Read at bytes) = read at bytes.now
event_of call.ReadFailed = read_failed
