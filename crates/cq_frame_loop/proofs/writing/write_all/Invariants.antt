-- A prefix of the text was written, and the rest of it is left.
use Rattle.std.proofs.Common.{◌≡◌, ◌++◌, List, ℕ, length}
use Rattle.std.specs.Io.KnownBytes.{Appends}
use Rattle.cq_frame_loop.proofs.writing.write_all.Given as goal

abbrev pub invariant-loop-rest : goal.invariant-loop-rest
invariant-loop-rest g l =
    (prefix : List ℕ) × Appends (g.W.Write.contents l.initial.writer) (g.W.Write.contents l.writer) prefix × (l.text ≡ prefix ++ l.rest)

abbrev pub decreases-loop-rest : goal.decreases-loop-rest
decreases-loop-rest g l = length l.rest
