-- A journal over its calls, its crashes and its openings.
use Rattle.std.specs.Prelude.{◌≡◌, ◌⊎◌, ℕ, zero, suc, List, [], ◌∷◌, ◌++◌, take, Some, IsTrue}
use Rattle.cq_disk.specs.Device.{LeavesOnly}
use Rattle.cq_disk.specs.declared.device.Device.{Ghosts}
use Rattle.cq_journal.specs.declared.journal.Journal.{Journal}
use Rattle.cq_journal.specs.Changes.{Change, after, after_all, MayBeLeft, HasLeft, told, added, TellTheSame}
use Rattle.cq_journal.specs.Journal.{journal_device, journal_half, journal_records, region_len}
use Rattle.cq_journal.specs.Regions.{kept}

module _ {D : Type 0} {g : Ghosts D} where
  -- A call is to make this change to the records of old. It is under way, or has ended in any way.
  pub record Tries (change : Change) (old new : Journal D g) : Type 0 where
    pub honest : IsTrue (g.is_honest (journal_device new)) → IsTrue (g.is_honest (journal_device old))
    pub moments : IsTrue (g.is_honest (journal_device new)) → LeavesOnly g.moment g.left_since (journal_device old) (journal_device new) (HasLeft (journal_half old) (region_len old) (journal_records old) change)

  -- It has ended well.
  pub record Makes (change : Change) (old new : Journal D g) : Type 0 where
    pub half : journal_half new ≡ journal_half old
    pub len : region_len new ≡ region_len old
    pub records : IsTrue (g.is_honest (journal_device new)) → journal_records new ≡ after (journal_records old) change
    pub tries : Tries change old new

  -- such calls, one behind the other
  abbrev pub MakesAll : List Change → Journal D g → Journal D g → Type 0
  MakesAll [] old new = new ≡ old
  MakesAll (change ∷ changes) old new = (mid : Journal D g) × Makes change old mid × MakesAll changes mid new

  -- Behind calls that have ended well comes one that is under way, or has failed. A crash at each moment of it leaves what the
  -- others have made, but for what it does itself.
  abbrev pub Acknowledges : List Change → Change → Journal D g → Journal D g → Journal D g → Type 0
  Acknowledges changes change old mid new = MakesAll changes old mid → Tries change mid new → IsTrue (g.is_honest (journal_device new))
      → LeavesOnly g.moment g.left_since (journal_device mid) (journal_device new) (HasLeft (journal_half old) (region_len old) (after_all (journal_records old) changes) change)

-- Where new records tell the same as those in whose place they come, all tell what those tell that were added.
abbrev pub Rewrites : Type 0
Rewrites = (read : List ℕ → List ℕ → List ℕ) (known : List ℕ) (rs : List (List ℕ)) (changes : List Change) → TellTheSame read known rs changes
    → told read known (after_all rs changes) ≡ told read known (rs ++ added changes)

-- And so do those that a crash leaves, with a prefix of the batch under way.
abbrev pub RewritesAtAnyMoment : Type 0
RewritesAtAnyMoment = (read : List ℕ → List ℕ → List ℕ) (known : List ℕ) (rs : List (List ℕ)) (changes : List Change) (change : Change) (left : List (List ℕ)) → TellTheSame read known rs (changes ++ change ∷ [])
    → MayBeLeft (after_all rs changes) change left → (many : ℕ) × (told read known left ≡ told read known ((rs ++ added changes) ++ take many (added (change ∷ []))))

-- ---- openings

module _ {D : Type 0} (moment : D → ℕ) (left_since : D → ℕ → List ℕ → Type 0) (may_leave : D → List ℕ → Type 0) (seen : D → List ℕ) where
  -- A crash at a moment of the opening of a device leaves what it might have left before, or bytes that stand for what is seen.
  abbrev pub OpensTo : ℕ → ℕ → D → D → Type 0
  OpensTo half len first last = LeavesOnly moment left_since first last (λ c. may_leave first c ⊎ (kept half len c ≡ kept half len (seen first)))

  -- A device begins on what a crash since that moment has left of another one: so is what reads give, and what is on the medium.
  pub record Inherits (old : D) (since : ℕ) (new : D) : Type 0 where
    pub shown : left_since old since (seen new)
    pub medium : (c : List ℕ) → may_leave new c → left_since old since c

  -- so many openings, each of them cut short by a crash
  abbrev pub IsOpenedAgain : ℕ → ℕ → ℕ → D → D → Type 0
  IsOpenedAgain half len zero first new = new ≡ first
  IsOpenedAgain half len (suc times) first new = (last : D) × (next : D) × OpensTo half len first last × Inherits last (moment first) next × IsOpenedAgain half len times next new

  -- After a crash in a call, and any number of crashes in openings, a journal is found that has what the call may leave.
  abbrev pub Survives : ℕ → ℕ → List (List ℕ) → Change → D → D → D → D → Type 0
  Survives half len rs change old last first new = LeavesOnly moment left_since old last (HasLeft half len rs change) → Inherits last (moment old) first → (times : ℕ) → IsOpenedAgain half len times first new
      → (found : List (List ℕ)) → kept half len (seen new) ≡ Some found → MayBeLeft rs change found
