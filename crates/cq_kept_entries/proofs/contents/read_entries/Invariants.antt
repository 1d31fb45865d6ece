-- The regions before this one were read.
use Rattle.std.proofs.Common.{◌≡◌, ◌-◌, ◌≤◌, IsTrue, length, take}
use Rattle.cq_journal.specs.Journal.{StaysJournal, journal_device, journal_regions}
use Rattle.cq_journal.specs.Regions.{all_records}
use Rattle.cq_journal.specs.Rests.{Rests}
use Rattle.cq_kept_entries.specs.within.Readers.{IsSoFar}
use Rattle.cq_kept_entries.proofs.contents.read_entries.Given as goal

abbrev pub invariant-loop-index : goal.invariant-loop-index
invariant-loop-index g l = record {
  within : l.index ≤ length (journal_regions l.fn.journal);
  journal : StaysJournal l.fn.journal l.journal;
  rests : Rests l.fn.journal l.journal;
  regions : journal_regions l.journal ≡ journal_regions l.fn.journal;
  read : IsTrue (g.D.Device.is_honest (journal_device l.journal)) → IsSoFar (all_records (take l.index (journal_regions l.fn.journal))) l.reader;
}

abbrev pub decreases-loop-index : goal.decreases-loop-index
decreases-loop-index g l = length (journal_regions l.fn.journal) - l.index
