-- What was read is taken, but for the partial line.
use Rattle.std.proofs.Common.{◌≡◌, ◌≤◌, List, ℕ, ◌++◌, length}
use Rattle.std.specs.Io.KnownBytes.{Consumes}
use Rattle.cq_lines.specs.declared.limits.TheConstants.{LINE_LIMIT}
use Rattle.cq_kept_session.specs.Kept.{IsKept, session_size}
use Rattle.cq_kept_session.specs.Served.{Serves}
use Rattle.cq_kept_session.specs.Texts.{as_kept}
use Rattle.cq_kept_session.proofs.kept.KeptSession.serve.Given as goal

abbrev pub invariant-loop : goal.invariant-loop
invariant-loop g l =
    IsKept l.self × (length l.partial.items ≤ LINE_LIMIT) × (session_size l.self ≡ session_size l.initial.self)
    × ((input : List ℕ) × Consumes (g.R.Read.remaining l.initial.reader) (g.R.Read.remaining l.reader) input
    × ((done : List ℕ) × (done ++ l.partial.items ≡ input)
    × Serves l.initial.self l.self (g.W.KeptSink.taken l.initial.writer) (g.W.KeptSink.taken l.writer) (as_kept done)))
