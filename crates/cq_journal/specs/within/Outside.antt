-- What is done to a region that doesn't count.
use Rattle.std.specs.Prelude.{◌≡◌, ℕ, ◌+◌, ◌≤◌, length, IsTrue}
use Rattle.cq_disk.specs.Region.{Beside}
use Rattle.cq_disk.specs.declared.device.Device.{Ghosts}
use Rattle.cq_journal.specs.declared.journal.Journal.{Journal}
use Rattle.cq_journal.specs.Journal.{journal_device, journal_half, journal_places}
use Rattle.cq_journal.specs.Regions.{Each, AreApart}
use Rattle.cq_journal.specs.Root.{root_number}

module _ {D : Type 0} {g : Ghosts D} where
  -- a region at this place lies behind the root, in the device and apart from all that count
  pub record IsOutside (j : Journal D g) (place : ℕ) : Type 0 where
    pub behind : journal_half j + journal_half j ≤ place
    pub within : place + j.len ≤ length (g.seen (journal_device j))
    pub apart : Each (λ n. AreApart j.len n place) (journal_places j)

  -- the journal is the same, and so are all bytes beside the region at this place
  pub record ChangesOutside (place : ℕ) (old new : Journal D g) : Type 0 where
    pub closed : new.closed ≡ old.closed
    pub growing : new.growing ≡ old.growing
    pub torn : new.torn ≡ old.torn
    pub end : new.end ≡ old.end
    pub len : new.len ≡ old.len
    pub half : journal_half new ≡ journal_half old
    pub number : root_number new.root ≡ root_number old.root
    pub length : length (g.seen (journal_device new)) ≡ length (g.seen (journal_device old))
    pub beside : Beside place old.len (g.seen (journal_device old)) (g.seen (journal_device new))
    pub honest : IsTrue (g.is_honest (journal_device new)) → IsTrue (g.is_honest (journal_device old))
