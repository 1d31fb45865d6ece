-- The bytes that a batch writes.
use Rattle.std.specs.Prelude.{ℕ, List}
use Rattle.cq_records.specs.declared.batch.Batch.{Batch}

abbrev pub batch_bytes : Batch → List ℕ
batch_bytes batch = batch.bytes.items
