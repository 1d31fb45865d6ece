-- A region that neither counts nor is a base's.
use Rattle.std.specs.Prelude.{ℕ, ◌+◌, ◌<◌, length}
use Rattle.cq_disk.specs.declared.device.Device.{Ghosts}
use Rattle.cq_journal.specs.declared.base.Base.{Base}
use Rattle.cq_journal.specs.declared.journal.Journal.{Journal}
use Rattle.cq_journal.specs.declared.journal.TheConstants.{REGION_LIMIT}
use Rattle.cq_journal.specs.Journal.{IsFree}
use Rattle.cq_journal.specs.Regions.{Each, AreApart}

-- it is free and apart from the base's regions, and the base may have one more
pub record IsFreeBeside {D : Type 0} {g : Ghosts D} (j : Journal D g) (b : Base) (place : ℕ) : Type 0 where
  pub free : IsFree j place
  pub apart : Each (λ n. AreApart j.len n place) b.closed.items
  pub apart_growing : AreApart j.len b.growing place
  pub few : length b.closed.items + 2 < REGION_LIMIT
