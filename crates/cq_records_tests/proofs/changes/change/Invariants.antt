use Rattle.cq_journal.specs.Root.{IsRoot}
use Rattle.cq_records_tests.proofs.changes.change.Given as goal

abbrev pub invariant-loop-number : goal.invariant-loop-number
invariant-loop-number g l = record { root : IsRoot l.root }
