-- A journal whose device was read.
use Rattle.std.specs.Prelude.{◌≡◌, ℕ, List}
use Rattle.cq_disk.specs.declared.device.Device.{Ghosts}
use Rattle.cq_journal.specs.declared.journal.Journal.{Journal}
use Rattle.cq_journal.specs.Journal.{journal_device}

module _ {D : Type 0} {g : Ghosts D} where
  -- the places of the regions that don't grow
  abbrev pub closed_places : Journal D g → List ℕ
  closed_places j = j.closed.items

  -- its regions are the same, and so are its bytes
  pub record IsRead (old new : Journal D g) : Type 0 where
    pub closed : new.closed ≡ old.closed
    pub growing : new.growing ≡ old.growing
    pub torn : new.torn ≡ old.torn
    pub len : new.len ≡ old.len
    pub seen : g.seen (journal_device new) ≡ g.seen (journal_device old)
