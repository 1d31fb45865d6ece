use Rattle.cq_journal.specs.Journal.{IsJournal}
use Rattle.cq_records_tests.proofs.writing.write.Given as goal

abbrev pub invariant-loop : goal.invariant-loop
invariant-loop g l = record { journal : IsJournal l.journal }
