use Rattle.cq_kept_session.specs.Kept.{IsKept}
use Rattle.cq_kept_session_tests.proofs.taking.take_pieces.Given as goal

abbrev pub invariant-loop-piece : goal.invariant-loop-piece
invariant-loop-piece g l = record { kept : IsKept l.kept }
