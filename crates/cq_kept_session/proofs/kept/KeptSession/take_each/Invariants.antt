-- The lines before the rest were taken or refused.
use Rattle.std.proofs.Common.{◌≡◌, ◌≤◌, List, ℕ, ◌++◌, length}
use Rattle.cq_records.specs.declared.frame.TheConstants.{TEXT_LIMIT}
use Rattle.cq_kept_session.specs.Kept.{IsKept, session_size}
use Rattle.cq_kept_session.specs.Served.{Serves}
use Rattle.cq_kept_session.specs.Texts.{as_kept}
use Rattle.cq_kept_session.proofs.kept.KeptSession.take_each.Given as goal

abbrev pub invariant-loop-line : goal.invariant-loop-line
invariant-loop-line g l =
    IsKept l.self × (length l.rest ≤ TEXT_LIMIT) × (session_size l.self ≡ session_size l.initial.self)
    × ((done : List ℕ) × (done ++ l.rest ≡ l.initial.rest)
    × Serves l.initial.self l.self (g.W.KeptSink.taken l.initial.writer) (g.W.KeptSink.taken l.writer) (as_kept done))

abbrev pub decreases-loop-line : goal.decreases-loop-line
decreases-loop-line g l = length l.rest
