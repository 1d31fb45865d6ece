-- What was read leads to where the reader is.
use Rattle.std.proofs.Common.{◌≡◌, length}
use Rattle.cq_kept_entries.specs.Pieces.{At, read}
use Rattle.cq_kept_entries.specs.within.Readers.{IsReader}
use Rattle.cq_kept_entries.proofs.reader.EntriesReader.feed.Given as goal

abbrev pub invariant-loop-front : goal.invariant-loop-front
invariant-loop-front l = (a : At) → IsReader a l.initial.reader → (b : At) × IsReader b l.reader × (read a l.initial.rest ≡ read b l.rest)

abbrev pub decreases-loop-front : goal.decreases-loop-front
decreases-loop-front l = length l.rest
