-- What was read so far is all.
use Rattle.std.proofs.Common.{refl}
use Rattle.cq_records.specs.Frames.{joined}
use Rattle.cq_kept_entries.specs.Pieces.{read, start}
use Rattle.cq_kept_entries.proofs.Gathered.{store_of_all}
use Rattle.cq_kept_entries.proofs.contents.ContentsReader.finish.Goals as goal

pub returns : goal.returns
returns c = λ all s. record {
  regions_are = refl;
  records_are = s.records_are;
  bytes_are = s.bytes_are;
  store = store_of_all all c.in_ok-store.store (c.in_ok-store.ensures.made (read start (joined all)) s.read_so).1;
}
