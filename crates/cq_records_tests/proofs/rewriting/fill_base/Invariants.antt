use Rattle.cq_journal.specs.Base.{IsBase}
use Rattle.cq_journal.specs.Journal.{IsJournal}
use Rattle.cq_records_tests.proofs.rewriting.fill_base.Given as goal

abbrev pub invariant-loop-number : goal.invariant-loop-number
invariant-loop-number g l = record { journal : IsJournal l.journal; base : IsBase l.journal l.base }
