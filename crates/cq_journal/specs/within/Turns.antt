-- A root that has turned to its other half, which is blank.
use Rattle.std.specs.Prelude.{◌≡◌, ◌-◌, replicate}
use Rattle.cq_disk.specs.Device.{Only}
use Rattle.cq_disk.specs.Region.{part, Beside}
use Rattle.cq_disk.specs.declared.device.Device.{Ghosts}
use Rattle.cq_journal.specs.declared.root.Root.{Root}
use Rattle.cq_journal.specs.Root.{root_device, root_half, root_start}

pub record IsTurned {D : Type 0} {g : Ghosts D} (old new : Root D g) : Type 0 where
  pub number : new.number ≡ old.number
  pub half : root_half new ≡ root_half old
  pub start : root_start new ≡ root_half old - root_start old
  pub end : new.log.end ≡ 0
  pub blank : part (root_start new) (root_half new) (g.seen (root_device new)) ≡ replicate (root_half new) 0
  pub beside : Beside (root_start new) (root_half new) (g.seen (root_device old)) (g.seen (root_device new))
  pub durable : Only (g.seen (root_device new)) (g.may_leave (root_device new))
