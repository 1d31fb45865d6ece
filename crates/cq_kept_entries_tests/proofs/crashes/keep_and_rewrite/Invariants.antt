use Rattle.cq_kept_entries.specs.Kept.{IsKept}
use Rattle.cq_kept_entries_tests.proofs.crashes.keep_and_rewrite.Given as goal

abbrev pub invariant-loop-pair : goal.invariant-loop-pair
invariant-loop-pair g l = record { kept : IsKept l.kept }
