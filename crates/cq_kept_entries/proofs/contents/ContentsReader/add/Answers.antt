-- More records were read.
use Rattle.std.proofs.Common.{List, ℕ, ◌++◌, ap, subst, arith, length-append}
use Rattle.std.specs.Prelude.{length}
use Rattle.cq_records.specs.Frames.{joined}
use Rattle.cq_records.proofs.Frames.{joined_append}
use Rattle.cq_kept_entries.specs.Pieces.{At, read, start}
use Rattle.cq_kept_entries.specs.within.Readers.{IsReader}
use Rattle.cq_kept_entries.proofs.Gathered.{read_more}
use Rattle.cq_kept_entries.proofs.contents.ContentsReader.add.Goals as goal

pub returns : goal.returns
returns c = λ before more s count_is text_is. record {
  records_are = omega (arith, c.in_ok-records.ensures, s.records_are, count_is, length-append before more);
  bytes_are = omega (arith, c.in_ok-bytes.ensures, s.bytes_are, ap length text_is, ap length (joined_append before more), length-append (joined before) (joined more));
  read_so = subst (λ (a : At). IsReader a c.in_ok-reader.reader) (read_more before more c.args.text.now text_is) (c.in_ok-reader.ensures.made (read start (joined before)) s.read_so);
}
