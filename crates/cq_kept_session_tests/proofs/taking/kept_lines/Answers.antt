-- A region that counts was read, or none was.
use Rattle.std.proofs.Common.{sym, subst}
use Rattle.cq_journal.specs.Journal.{IsJournal}
use Rattle.cq_kept_session_tests.proofs.taking.kept_lines.Goals as goal
use Rattle.cq_kept_session_tests.proofs.taking.kept_lines.Goals.{then-index-region_count+in_ok-read_region, else-index-region_count}

pub loop-index-preserved : goal.loop-index-preserved
loop-index-preserved g c =
    let i = c.loop-index.invariant in
    record {
      journal = elim c.if-index-region_count.branch [
        | then-index-region_count+in_ok-read_region w ↦ subst IsJournal (sym w.journal-is) (w.read_region.ensures.journal.journal i.journal)
        | else-index-region_count w ↦ subst IsJournal (sym w.journal-is) i.journal
      ];
    }
