-- All lines before the rest have been read.
use Rattle.std.proofs.Common.{length}
use Rattle.cq_lines.proofs.Chunks.{StandsAt}
use Rattle.cq_lines.proofs.reader.LineReader.feed.Given as goal

abbrev pub invariant-loop-line : goal.invariant-loop-line
invariant-loop-line g l = StandsAt g.P.LineParser.grammar l.initial.self l.chunk l.self l.rest

abbrev pub decreases-loop-line : goal.decreases-loop-line
decreases-loop-line g l = length l.rest
