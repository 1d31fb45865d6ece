use Rattle.cq_kept_session.specs.Kept.{IsKept}
use Rattle.cq_kept_session_tests.proofs.filled.fill.Given as goal

abbrev pub invariant-loop-count : goal.invariant-loop-count
invariant-loop-count g l = record { kept : IsKept l.kept }
