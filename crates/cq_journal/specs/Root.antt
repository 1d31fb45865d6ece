-- A root on its device.
use Rattle.std.specs.Prelude.{◌≡◌, ◌⊎◌, ℕ, ◌+◌, ◌-◌, ◌<◌, ◌≤◌, length, IsTrue}
use Rattle.cq_disk.specs.Device.{Only}
use Rattle.cq_disk.specs.declared.device.Device.{Ghosts}
use Rattle.cq_journal.specs.declared.number.TheConstants.{NUMBER_LIMIT}
use Rattle.cq_journal.specs.declared.root.Root.{Root}
use Rattle.cq_journal.specs.Roots.{number_in, half_of}

module _ {D : Type 0} {g : Ghosts D} where
  abbrev pub root_device : Root D g → D
  root_device root = root.log.device.device

  -- the length of a half
  abbrev pub root_half : Root D g → ℕ
  root_half root = root.log.device.len

  abbrev pub root_number : Root D g → ℕ
  root_number root = root.number

  -- where the log ends to which was written last
  abbrev pub log_end : Root D g → ℕ
  log_end root = root.log.end

  -- where the half in use begins
  abbrev pub root_start : Root D g → ℕ
  root_start root = root.log.device.start

  -- there is a number left, and a half has room for a record with a text of this length
  abbrev pub HasRoom : Root D g → ℕ → Type 0
  HasRoom root len = (root.number + 1 < NUMBER_LIMIT) × (len + 14 ≤ root_half root)

  -- Both halves lie in the device, which is on the medium as it is seen. If reads gave what was seen, the half in use has the root's
  -- number, and the other one a lower one.
  pub record IsRoot (root : Root D g) : Type 0 where
    pub place : (root_start root ≡ 0) ⊎ (root_start root ≡ root_half root)
    pub room : root_half root + root_half root ≤ length (g.seen (root_device root))
    pub current : IsTrue (g.is_honest (root_device root)) → number_in (half_of (root_start root) (root_half root) (g.seen (root_device root))) ≡ root.number
    pub other : IsTrue (g.is_honest (root_device root)) → number_in (half_of (root_half root - root_start root) (root_half root) (g.seen (root_device root))) < root.number
    pub durable : Only (g.seen (root_device root)) (g.may_leave (root_device root))

  -- The same but for what is on the medium, as a call that failed leaves it.
  pub record HasHalves (root : Root D g) : Type 0 where
    pub place : (root_start root ≡ 0) ⊎ (root_start root ≡ root_half root)
    pub room : root_half root + root_half root ≤ length (g.seen (root_device root))
    pub current : IsTrue (g.is_honest (root_device root)) → number_in (half_of (root_start root) (root_half root) (g.seen (root_device root))) ≡ root.number
    pub other : IsTrue (g.is_honest (root_device root)) → number_in (half_of (root_half root - root_start root) (root_half root) (g.seen (root_device root))) < root.number
