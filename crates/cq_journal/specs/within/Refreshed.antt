-- What a crash leaves while a range of a device is written again.
use Rattle.std.specs.Prelude.{◌≡◌, ◌⊎◌, ℕ, List}
use Rattle.cq_disk.specs.declared.device.TornWrites.TheVariants.{OldOrNew}
use Rattle.cq_disk.specs.Device.{Torn}

-- it was possible before, or is that with some bytes of the range as these are
abbrev pub IsRefreshed : (List ℕ → Type 0) → ℕ → List ℕ → List ℕ → Type 0
IsRefreshed before at bytes c = (d : List ℕ) × before d × ((c ≡ d) ⊎ Torn OldOrNew at bytes d c)
