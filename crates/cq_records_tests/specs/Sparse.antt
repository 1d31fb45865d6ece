-- The calls that were made on a sparse file.
use Rattle.std.specs.Prelude.{List}
use Rattle.cq_disk.specs.Events.{Event}
use Rattle.cq_records_tests.specs.declared.sparse.Sparse.{Sparse}

abbrev pub calls_on : Sparse → List Event
calls_on file = file.made.calls
