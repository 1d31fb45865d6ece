-- A file as it was opened.
use Rattle.std.specs.Prelude.{◌≡◌, []}
use Rattle.cq_disk.specs.declared.device.TornWrites.{TornWrites}
use Rattle.cq_disk.specs.declared.modelled.Modelled.{Modelled}
use Rattle.cq_disk.specs.declared.host.Host.{Host}
use Rattle.cq_disk.specs.declared.calls.Calls as calls
use Rattle.cq_disk.specs.declared.start.Start as start

module _ {S : Type 0} {g : calls.Ghosts Host} {s : start.Ghosts S} where
  -- no call has been made, and this is supposed of torn writes
  abbrev pub IsOpened : TornWrites → Modelled Host S g s → Type 0
  IsOpened torn device = (device.calls.made.calls ≡ []) × (device.torn ≡ torn)
