-- Which bytes an opening never refuses, and the calls that leave only such bytes.
use Rattle.std.specs.Prelude.{◌≡◌, ℕ, ◌+◌, ◌<◌, ◌≤◌, true, List, [], ◌∷◌, ◌++◌, length, Some, IsTrue}
use Rattle.cq_disk.specs.Device.{LeavesOnly}
use Rattle.cq_disk.specs.declared.device.Device.{Ghosts}
use Rattle.cq_disk.specs.Region.{part}
use Rattle.cq_disk.specs.declared.device.TornWrites.{TornWrites}
use Rattle.cq_records.specs.Frames.{ends_with}
use Rattle.cq_journal.specs.declared.journal.Journal.{Journal}
use Rattle.cq_journal.specs.declared.number.TheConstants.{NUMBER_LIMIT}
use Rattle.cq_journal.specs.Journal.{journal_device, journal_half, region_len}
use Rattle.cq_journal.specs.Free.{HasRoomToOpen}
use Rattle.cq_journal.specs.Regions.{Each, AreApart, AreSound, AreClosed, behind_of, regions_text}
use Rattle.cq_journal.specs.Roots.{root_of, numbered, HasSoundHalves}

-- The root has this number and names these regions, of which the last one grows. They lie behind the root and in the device, and the one
-- that grows is apart from the others. All records have their checksums, those of both halves of the root and those of the regions. Behind
-- those of the regions that don't grow there are zeros, and behind those of the one that grows what the root's kind lets be.
pub record IsIntactAt (half len number : ℕ) (closed : List ℕ) (growing : ℕ) (torn : TornWrites) (bytes : List ℕ) : Type 0 where
  pub names : root_of half bytes ≡ Some (numbered number (regions_text torn (closed ++ growing ∷ [])))
  pub small_number : number < NUMBER_LIMIT
  pub small : Each (λ n. n < NUMBER_LIMIT) (closed ++ growing ∷ [])
  pub behind : Each (λ n. half + half ≤ n) (closed ++ growing ∷ [])
  pub within : Each (λ n. n + len ≤ length bytes) (closed ++ growing ∷ [])
  pub apart : Each (λ n. AreApart len n growing) closed
  pub halves : HasSoundHalves half bytes
  pub regions : AreSound len (closed ++ growing ∷ []) bytes
  pub closed_logs : AreClosed len closed bytes
  pub grown : ends_with (behind_of torn) (part growing len bytes) ≡ true

-- so it is with some number and some regions
abbrev pub IsIntact : ℕ → ℕ → List ℕ → Type 0
IsIntact half len bytes = (number : ℕ) × (closed : List ℕ) × (growing : ℕ) × (torn : TornWrites) × IsIntactAt half len number closed growing torn bytes

-- so it is, and there is room to open them
abbrev pub HasRoomBehind : ℕ → ℕ → List ℕ → Type 0
HasRoomBehind half len bytes = (number : ℕ) × (closed : List ℕ) × (growing : ℕ) × (torn : TornWrites) × IsIntactAt half len number closed growing torn bytes × HasRoomToOpen half len (length bytes) number (closed ++ growing ∷ [])

module _ {D : Type 0} {g : Ghosts D} where
  -- A crash at each moment from old to new leaves intact bytes, if those of old are intact.
  abbrev pub LeavesIntact : Journal D g → Journal D g → Type 0
  LeavesIntact old new = IsTrue (g.is_honest (journal_device new)) → IsIntact (journal_half old) (region_len old) (g.seen (journal_device old))
      → LeavesOnly g.moment g.left_since (journal_device old) (journal_device new) (IsIntact (journal_half old) (region_len old))

  -- The bytes of new are intact, if those of old are.
  abbrev pub StaysIntact : Journal D g → Journal D g → Type 0
  StaysIntact old new = IsTrue (g.is_honest (journal_device new)) → IsIntact (journal_half old) (region_len old) (g.seen (journal_device old))
      → IsIntact (journal_half old) (region_len old) (g.seen (journal_device new))

-- ---- rows that compute: halves of 20 bytes, of which the first one names a region of 20 bytes at 40

-- such a device, whose root says that torn writes leave old or written bytes
abbrev pub example : List ℕ → List ℕ
example region =
    2 ∷ 13 ∷ 2 ∷ 2 ∷ 143 ∷ 253 ∷ 92 ∷ 197 ∷ 1 ∷ 3 ∷ 2 ∷ 2 ∷ 2 ∷ 2 ∷ 2 ∷ 42 ∷ 2 ∷ 2 ∷ 2 ∷ 2
    ∷ 0 ∷ 0 ∷ 0 ∷ 0 ∷ 0 ∷ 0 ∷ 0 ∷ 0 ∷ 0 ∷ 0 ∷ 0 ∷ 0 ∷ 0 ∷ 0 ∷ 0 ∷ 0 ∷ 0 ∷ 0 ∷ 0 ∷ 0 ∷ region

-- one whose root supposes nothing of them
abbrev pub example_of_any : List ℕ → List ℕ
example_of_any region =
    2 ∷ 13 ∷ 2 ∷ 2 ∷ 238 ∷ 39 ∷ 90 ∷ 122 ∷ 1 ∷ 3 ∷ 2 ∷ 2 ∷ 2 ∷ 2 ∷ 3 ∷ 42 ∷ 2 ∷ 2 ∷ 2 ∷ 2
    ∷ 0 ∷ 0 ∷ 0 ∷ 0 ∷ 0 ∷ 0 ∷ 0 ∷ 0 ∷ 0 ∷ 0 ∷ 0 ∷ 0 ∷ 0 ∷ 0 ∷ 0 ∷ 0 ∷ 0 ∷ 0 ∷ 0 ∷ 0 ∷ region

-- a region with the frames of two commits, of one byte each
abbrev pub two_records : ℕ → ℕ → List ℕ
two_records first second = 2 ∷ 3 ∷ 2 ∷ 2 ∷ 219 ∷ 15 ∷ 229 ∷ 218 ∷ 1 ∷ first ∷ 2 ∷ 3 ∷ 2 ∷ 2 ∷ 111 ∷ 158 ∷ 153 ∷ 78 ∷ 1 ∷ second ∷ []

pub record IntactExamples : Type 0 where
  -- with both records
  pub whole : IsIntact 20 20 (example (two_records 65 66))
  -- a crash has lost the last byte
  pub torn : IsIntact 20 20 (example (two_records 65 0))
  -- the last byte is another one
  pub rotten : IsIntact 20 20 (example (two_records 65 67)) → ⊥
  -- the first record lost its byte, and no crash has done so, since the second commit began later
  pub lost : IsIntact 20 20 (example (two_records 0 66)) → ⊥
  -- a crash may leave any bytes behind the records
  pub lost_to_any : IsIntact 20 20 (example_of_any (two_records 0 66))
  -- a device that ends inside its region
  pub short : IsIntact 20 20 (example (2 ∷ 3 ∷ 2 ∷ 2 ∷ 219 ∷ 15 ∷ 229 ∷ 218 ∷ 1 ∷ 65 ∷ [])) → ⊥
