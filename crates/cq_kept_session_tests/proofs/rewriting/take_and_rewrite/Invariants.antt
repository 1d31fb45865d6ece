use Rattle.std.proofs.Common.{length}
use Rattle.cq_kept_session.specs.Kept.{IsKept}
use Rattle.cq_kept_session_tests.proofs.rewriting.take_and_rewrite.Given as goal

abbrev pub invariant-loop-line : goal.invariant-loop-line
invariant-loop-line g l = record { kept : IsKept l.kept }

abbrev pub decreases-loop-line : goal.decreases-loop-line
decreases-loop-line g l = length l.rest
