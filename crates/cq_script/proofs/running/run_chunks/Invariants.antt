-- The lines that have ended in the input so far are run and written, behind those from before, and each read took a byte of it at least.
use Rattle.std.proofs.Common.{◌≤◌, List, ◌++◌, ℕ, length}
use Rattle.std.specs.Io.KnownBytes.{Consumes, Appends}
use Rattle.cq_lines.specs.declared.limits.Limits.{Limits}
use Rattle.cq_script.specs.within.Played.{IsPlayed}
use Rattle.cq_script.proofs.running.run_chunks.Given as goal

abbrev pub invariant-loop : goal.invariant-loop
invariant-loop g l =
    (limits : Limits) (size : ℕ) (before written : List ℕ) → IsPlayed g.P.LineParser.grammar limits size before l.fn.lines l.fn.sim written
    → (input output : List ℕ) × Consumes (g.R.Read.remaining l.initial.reader) (g.R.Read.remaining l.reader) input
    × Appends (g.W.Write.contents l.initial.writer) (g.W.Write.contents l.writer) output
    × IsPlayed g.P.LineParser.grammar limits size (before ++ input) l.lines l.sim (written ++ output) × l.counter ≤ length input
