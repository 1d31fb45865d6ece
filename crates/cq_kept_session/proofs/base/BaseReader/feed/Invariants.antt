-- What was read leads to where the reader is.
use Rattle.std.proofs.Common.{◌≡◌, length}
use Rattle.cq_kept_session.specs.Bases.{read}
use Rattle.cq_kept_session.specs.within.Readers.{reader_stage}
use Rattle.cq_kept_session.proofs.base.BaseReader.feed.Given as goal

abbrev pub invariant-loop-front : goal.invariant-loop-front
invariant-loop-front l = read (reader_stage l.initial.reader) l.initial.rest ≡ read (reader_stage l.reader) l.rest

abbrev pub decreases-loop-front : goal.decreases-loop-front
decreases-loop-front l = length l.rest
