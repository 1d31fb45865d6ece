-- The calls that were made on a file.
use Rattle.std.specs.Prelude.{List}
use Rattle.cq_disk.specs.Events.{Event}
use Rattle.cq_disk.specs.declared.host.Host.{Host}

abbrev pub calls_on : Host → List Event
calls_on host = host.made.calls
