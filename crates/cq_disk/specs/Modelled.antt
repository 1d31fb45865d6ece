-- What a new modelled device is.
use Rattle.std.specs.Prelude.{◌≡◌, ℕ}
use Rattle.cq_disk.specs.declared.device.TornWrites.{TornWrites}
use Rattle.cq_disk.specs.declared.modelled.Modelled.{Modelled}
use Rattle.cq_disk.specs.declared.calls.Calls as calls
use Rattle.cq_disk.specs.declared.start.Start as start

module _ {C S : Type 0} {g : calls.Ghosts C} {s : start.Ghosts S} where
  abbrev pub IsNew : C → ℕ → TornWrites → Modelled C S g s → Type 0
  IsNew made len torn device = (device.calls ≡ made) × (device.len ≡ len) × (device.torn ≡ torn)

  abbrev pub calls_of : Modelled C S g s → C
  calls_of device = device.calls
