-- A root that was found on a device, of which nothing was changed.
use Rattle.std.specs.Prelude.{◌≡◌, ◌⊎◌, ◌+◌, ◌≤◌, length, IsTrue}
use Rattle.cq_disk.specs.Device.{Only}
use Rattle.cq_disk.specs.declared.device.Device.{Ghosts}
use Rattle.cq_disk.specs.declared.region.Region.{Region}
use Rattle.cq_journal.specs.Found.{IsRootAt}
use Rattle.cq_journal.specs.declared.opening.Found.{Found}
use Rattle.cq_kept_run.specs.declared.sizes.TheConstants.{HALF}

module _ {D : Type 0} {g : Ghosts D} where
  pub record IsFoundIn (device : D) (region : Region D g) (found : Found) : Type 0 where
    pub half : region.len ≡ HALF
    pub start : (found.start ≡ 0) ⊎ (found.start ≡ region.len)
    pub room : region.len + region.len ≤ length (g.seen region.device)
    pub durable : Only (g.seen region.device) (g.may_leave region.device)
    pub root : IsTrue (g.is_honest region.device) → IsRootAt region.len (g.seen region.device) found
    pub seen : g.seen region.device ≡ g.seen device
    pub honest : IsTrue (g.is_honest region.device) → IsTrue (g.is_honest device)
