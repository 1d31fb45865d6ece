-- No outcome of a crash is refused: over calls, crashes and openings.
use Rattle.std.specs.Prelude.{◌≡◌, ◌⊎◌, ℕ, zero, suc, List, IsTrue}
use Rattle.cq_disk.specs.Device.{LeavesOnly}
use Rattle.cq_disk.specs.declared.device.Device.{Ghosts}
use Rattle.cq_journal.specs.declared.journal.Journal.{Journal}
use Rattle.cq_journal.specs.Histories.{Inherits}
use Rattle.cq_journal.specs.Intact.{IsIntact, LeavesIntact, StaysIntact}
use Rattle.cq_journal.specs.Journal.{journal_device, journal_half, region_len}

module _ {D : Type 0} {g : Ghosts D} where
  -- A call is under way, or has ended in any way.
  pub record LeavesWhole (old new : Journal D g) : Type 0 where
    pub honest : IsTrue (g.is_honest (journal_device new)) → IsTrue (g.is_honest (journal_device old))
    pub moments : LeavesIntact old new

  -- It has ended well, or found no room.
  pub record GoesOn (old new : Journal D g) : Type 0 where
    pub half : journal_half new ≡ journal_half old
    pub len : region_len new ≡ region_len old
    pub honest : IsTrue (g.is_honest (journal_device new)) → IsTrue (g.is_honest (journal_device old))
    pub stays : StaysIntact old new

  -- so many such calls, one behind the other
  abbrev pub AllGoOn : ℕ → Journal D g → Journal D g → Type 0
  AllGoOn zero old new = new ≡ old
  AllGoOn (suc times) old new = (mid : Journal D g) × GoesOn old mid × AllGoOn times mid new

  -- Behind them comes one that is under way, or has failed. A crash at each moment of it leaves intact bytes, if those of old are intact.
  abbrev pub NoneRefused : ℕ → Journal D g → Journal D g → Journal D g → Type 0
  NoneRefused times old mid new = AllGoOn times old mid → LeavesWhole mid new → IsTrue (g.is_honest (journal_device new)) → IsIntact (journal_half old) (region_len old) (g.seen (journal_device old))
      → LeavesOnly g.moment g.left_since (journal_device mid) (journal_device new) (IsIntact (journal_half old) (region_len old))

-- ---- openings

module _ {D : Type 0} (moment : D → ℕ) (left_since : D → ℕ → List ℕ → Type 0) (may_leave : D → List ℕ → Type 0) (seen : D → List ℕ) where
  -- A crash at a moment of the opening of a device leaves what it might have left before, or intact bytes, if those that are seen are intact.
  abbrev pub OpensIntact : ℕ → ℕ → D → D → Type 0
  OpensIntact half len first last = IsIntact half len (seen first) → LeavesOnly moment left_since first last (λ c. may_leave first c ⊎ IsIntact half len c)

  -- so many openings, each of them cut short by a crash
  abbrev pub IsOpenedIntact : ℕ → ℕ → ℕ → D → D → Type 0
  IsOpenedIntact half len zero first new = new ≡ first
  IsOpenedIntact half len (suc times) first new = (last : D) × (next : D) × OpensIntact half len first last × Inherits moment left_since may_leave seen last (moment first) next × IsOpenedIntact half len times next new

  -- After a crash in a call that leaves intact bytes, and any number of crashes in openings, the bytes are intact.
  abbrev pub StaysUnrefused : ℕ → ℕ → D → D → D → D → Type 0
  StaysUnrefused half len old last first new = LeavesOnly moment left_since old last (IsIntact half len) → Inherits moment left_since may_leave seen last (moment old) first → (times : ℕ) → IsOpenedIntact half len times first new → IsIntact half len (seen new)
