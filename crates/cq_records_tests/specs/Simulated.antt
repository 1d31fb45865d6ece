-- The calls that were made on a simulated file.
use Rattle.std.specs.Prelude.{List}
use Rattle.cq_disk.specs.Events.{Event}
use Rattle.cq_records_tests.specs.declared.simulated.Simulated.{Simulated}

abbrev pub calls_on : Simulated → List Event
calls_on file = file.made.calls
