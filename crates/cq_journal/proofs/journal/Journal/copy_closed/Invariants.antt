-- The records of the regions before this one were added.
use Rattle.std.proofs.Common.{◌≡◌, ◌++◌, ◌-◌, ◌≤◌, IsTrue, length, take}
use Rattle.cq_journal.specs.Base.{IsBase, base_records}
use Rattle.cq_journal.specs.Journal.{IsJournal, StaysJournal, journal_device, region_len}
use Rattle.cq_journal.specs.Regions.{records_at}
use Rattle.cq_journal.specs.Rests.{Rests}
use Rattle.cq_journal.specs.within.Reads.{IsRead, closed_places}
use Rattle.cq_journal.proofs.journal.Journal.copy_closed.Given as goal

abbrev pub invariant-loop-at : goal.invariant-loop-at
invariant-loop-at g l = record {
  within : l.at ≤ length (closed_places l.self);
  read : IsRead l.fn.self l.self;
  journal : StaysJournal l.fn.self l.self;
  rests : Rests l.fn.self l.self;
  there : IsJournal l.to;
  base : IsBase l.to l.base;
  rests_there : Rests l.fn.to l.to;
  copied : IsTrue (g.D.Device.is_honest (journal_device l.self))
      → base_records l.to l.base ≡ base_records l.fn.to l.fn.base ++ records_at (region_len l.fn.self) (take l.at (closed_places l.fn.self)) (g.D.Device.seen (journal_device l.fn.self));
}

abbrev pub decreases-loop-at : goal.decreases-loop-at
decreases-loop-at g l = length (closed_places l.self) - l.at
