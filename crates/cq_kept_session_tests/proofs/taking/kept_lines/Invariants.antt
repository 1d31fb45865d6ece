use Rattle.cq_journal.specs.Journal.{IsJournal}
use Rattle.cq_kept_session_tests.proofs.taking.kept_lines.Given as goal

abbrev pub invariant-loop-index : goal.invariant-loop-index
invariant-loop-index g l = record { journal : IsJournal l.journal }
