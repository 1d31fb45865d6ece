-- All that was read was run.
use Rattle.std.proofs.Common.{◌≡◌, ℕ, List}
use Rattle.std.specs.Io.KnownBytes.{Appends, Consumes}
use Rattle.cq_watching.specs.Coming.{after_bytes, nothing_yet}
use Rattle.cq_watching.specs.Watching.{Keeps, watched_behind}
use Rattle.cq_watching.proofs.watching.run_chunks.Given as goal

abbrev pub invariant-loop : goal.invariant-loop
invariant-loop g l =
    (size : ℕ) → Keeps size nothing_yet l.initial.watcher
    → (input : List ℕ) × Consumes (g.R.Read.remaining l.initial.reader) (g.R.Read.remaining l.reader) input
    × Appends (g.W.Write.contents l.initial.writer) (g.W.Write.contents l.writer) (watched_behind size nothing_yet input)
    × Keeps size (after_bytes nothing_yet input) l.watcher
