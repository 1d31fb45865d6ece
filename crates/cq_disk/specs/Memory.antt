-- What a device in memory holds.
use Rattle.std.specs.Prelude.{ℕ, List}
use Rattle.cq_disk.specs.declared.device.TornWrites.{TornWrites}
use Rattle.cq_disk.specs.declared.memory.Memory.{Memory}

abbrev pub memory_bytes : Memory → List ℕ
memory_bytes m = m.bytes.items

abbrev pub memory_torn : Memory → TornWrites
memory_torn m = m.torn
