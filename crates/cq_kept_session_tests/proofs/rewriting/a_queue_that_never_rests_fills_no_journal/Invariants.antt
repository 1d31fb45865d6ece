use Rattle.cq_kept_session.specs.Kept.{IsKept}
use Rattle.cq_kept_session_tests.proofs.rewriting.a_queue_that_never_rests_fills_no_journal.Given as goal

abbrev pub invariant-loop-number : goal.invariant-loop-number
invariant-loop-number g l = record { kept : IsKept l.kept }
