-- The input so far has been read, and each read took a byte of it at least.
use Rattle.std.proofs.Common.{◌≤◌, List, ℕ, length}
use Rattle.std.specs.Io.KnownBytes.{Consumes}
use Rattle.cq_lines.specs.Progress.{HasRead}
use Rattle.cq_lines.proofs.text.read_lines.Given as goal

abbrev pub invariant-loop : goal.invariant-loop
invariant-loop g l =
    (input : List ℕ) × Consumes (g.R.Read.remaining l.initial.reader) (g.R.Read.remaining l.reader) input
    × HasRead g.P.LineParser.grammar l.fn.limits input l.lines × l.counter ≤ length input
