-- A base whose last records wait.
use Rattle.std.specs.Prelude.{ℕ, List, ◌++◌}
use Rattle.cq_disk.specs.declared.device.Device.{Ghosts}
use Rattle.cq_journal.specs.declared.journal.Journal.{Journal}
use Rattle.cq_journal.specs.Base.{base_records}
use Rattle.cq_records.specs.Batch.{batch_bytes}
use Rattle.cq_records.specs.Frames.{records}
use Rattle.cq_kept_base.specs.declared.writer.BaseWriter.{BaseWriter}

module _ {D : Type 0} {g : Ghosts D} where
  -- the records that it has, and behind them those that wait
  abbrev pub writer_records : Journal D g → BaseWriter → List (List ℕ)
  writer_records j w = base_records j w.base ++ records (batch_bytes w.batch)
