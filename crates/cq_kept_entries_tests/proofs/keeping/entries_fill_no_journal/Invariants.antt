use Rattle.cq_kept_entries.specs.Kept.{IsKept}
use Rattle.cq_kept_entries_tests.proofs.keeping.entries_fill_no_journal.Given as goal

abbrev pub invariant-loop-number : goal.invariant-loop-number
invariant-loop-number g l = record { kept : IsKept l.kept }
