-- The lines so far have happened. What came of them was written, but for the text that is kept, and the others write the
-- rest.
use Rattle.std.proofs.Common.{◌≡◌, ◌++◌, List, ℕ, drop}
use Rattle.std.specs.Io.KnownBytes.{Appends}
use Rattle.cq_world.specs.Stands.{StandsFor}
use Rattle.cq_events.specs.Worlds.{World}
use Rattle.cq_script.specs.Output.{text_from}
use Rattle.cq_script.specs.within.Played.{after_lines}
use Rattle.cq_script.proofs.outcome.run_batch.Given as goal

abbrev pub invariant-loop-line : goal.invariant-loop-line
invariant-loop-line g l =
    (first : World) → StandsFor l.initial.sim first
    → (w : World) × (written : List ℕ) × StandsFor l.sim w
    × Appends (g.W.Write.contents l.initial.writer) (g.W.Write.contents l.writer) written
    × (text_from first l.lines ≡ (written ++ l.text.items) ++ text_from w (drop l.line-index l.lines))
    × (after_lines first l.lines ≡ after_lines w (drop l.line-index l.lines))
