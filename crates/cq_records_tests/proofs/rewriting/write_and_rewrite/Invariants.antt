use Rattle.cq_journal.specs.Journal.{IsJournal}
use Rattle.cq_records_tests.proofs.rewriting.write_and_rewrite.Given as goal

abbrev pub invariant-loop : goal.invariant-loop
invariant-loop g l = record { journal : IsJournal l.journal }
