use Rattle.cq_kept_entries.specs.Kept.{IsKept}
use Rattle.cq_kept_entries_tests.proofs.keeping.add_all.Given as goal

abbrev pub invariant-loop-number : goal.invariant-loop-number
invariant-loop-number g l = record { kept : IsKept l.kept }
