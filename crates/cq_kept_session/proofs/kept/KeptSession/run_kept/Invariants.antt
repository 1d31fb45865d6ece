-- The regions before this one were read, and run.
use Rattle.std.proofs.Common.{◌≡◌, ◌-◌, ◌≤◌, IsTrue, length, take}
use Rattle.cq_records.specs.Frames.{joined}
use Rattle.cq_journal.specs.Journal.{IsJournal, journal_regions}
use Rattle.cq_journal.specs.Regions.{all_records}
use Rattle.cq_journal.specs.Rests.{Rests}
use Rattle.cq_kept_session.specs.Bases.{fresh, read}
use Rattle.cq_kept_session.specs.Kept.{session_device, session_journal, session_size}
use Rattle.cq_kept_session.specs.Texts.{is_ended}
use Rattle.cq_kept_session.specs.within.Readers.{IsRead}
use Rattle.cq_kept_session.proofs.kept.KeptSession.run_kept.Given as goal

abbrev pub invariant-loop-index : goal.invariant-loop-index
invariant-loop-index g l = record {
  within : l.index ≤ length (journal_regions (session_journal l.fn.self));
  journal : IsJournal (session_journal l.self);
  rests : Rests (session_journal l.fn.self) (session_journal l.self);
  regions : journal_regions (session_journal l.self) ≡ journal_regions (session_journal l.fn.self);
  size : session_size l.self ≡ session_size l.fn.self;
  run : IsTrue (g.D.Device.is_honest (session_device l.self)) → IsRead (session_size l.fn.self) (read fresh (joined (all_records (take l.index (journal_regions (session_journal l.fn.self)))))) l.reading l.self.session;
  ended : IsTrue (g.D.Device.is_honest (session_device l.self)) → l.self.ended ≡ is_ended (joined (all_records (take l.index (journal_regions (session_journal l.fn.self)))));
}

abbrev pub decreases-loop-index : goal.decreases-loop-index
decreases-loop-index g l = length (journal_regions (session_journal l.fn.self)) - l.index
