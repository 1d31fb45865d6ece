use Rattle.cq_kept_session.specs.Kept.{IsKept}
use Rattle.cq_kept_session_tests.proofs.filled.receive_all.Given as goal

abbrev pub invariant-loop : goal.invariant-loop
invariant-loop g l = record { kept : IsKept l.kept }
