-- The regions before this one were read.
use Rattle.std.proofs.Common.{◌≡◌, ◌-◌, ◌≤◌, IsTrue, length, take}
use Rattle.cq_records.specs.Frames.{joined}
use Rattle.cq_journal.specs.Journal.{IsJournal, journal_regions}
use Rattle.cq_journal.specs.Regions.{all_records}
use Rattle.cq_journal.specs.Rests.{Rests}
use Rattle.cq_kept_entries.specs.Kept.{added_text, entries_device, entries_journal}
use Rattle.cq_kept_entries.specs.Pieces.{read, start}
use Rattle.cq_kept_entries.specs.within.Readers.{IsReader}
use Rattle.cq_kept_entries.proofs.kept.KeptEntries.read_all.Given as goal

abbrev pub invariant-loop-index : goal.invariant-loop-index
invariant-loop-index g l = record {
  within : l.index ≤ length (journal_regions (entries_journal l.fn.self));
  journal : IsJournal (entries_journal l.self);
  rests : Rests (entries_journal l.fn.self) (entries_journal l.self);
  regions : journal_regions (entries_journal l.self) ≡ journal_regions (entries_journal l.fn.self);
  text : added_text l.self ≡ added_text l.fn.self;
  read : IsTrue (g.D.Device.is_honest (entries_device l.self)) → IsReader (read start (joined (all_records (take l.index (journal_regions (entries_journal l.fn.self)))))) l.reader;
}

abbrev pub decreases-loop-index : goal.decreases-loop-index
decreases-loop-index g l = length (journal_regions (entries_journal l.fn.self)) - l.index
