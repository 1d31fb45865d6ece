-- All lines before the rest were run.
use Rattle.std.proofs.Common.{◌≡◌, ℕ, List, ◌++◌, length}
use Rattle.std.specs.Io.KnownBytes.{Appends}
use Rattle.cq_watching.specs.Coming.{Come, after_bytes}
use Rattle.cq_watching.specs.Watching.{Keeps, watched_behind}
use Rattle.cq_watching.proofs.watcher.Watcher.run_chunk.Given as goal

abbrev pub invariant-loop-line : goal.invariant-loop-line
invariant-loop-line g l =
    (size : ℕ) (come : Come) → Keeps size come l.initial.self
    → (done : List ℕ) × Appends (g.W.Write.contents l.initial.writer) (g.W.Write.contents l.writer) (watched_behind size come done)
    × Keeps size (after_bytes come done) l.self × (l.chunk ≡ done ++ l.rest)

abbrev pub decreases-loop-line : goal.decreases-loop-line
decreases-loop-line g l = length l.rest
