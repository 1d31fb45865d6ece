-- A journal on its device.
use Rattle.std.specs.Prelude.{◌≡◌, ◌⊎◌, ◌&&◌, Bool, if◌then◌else◌, nat_lt, ℕ, ◌+◌, ◌<◌, ◌≤◌, List, [], ◌∷◌, ◌++◌, length, drop, get_or, Some, IsTrue}
use Rattle.cq_disk.specs.Region.{part}
use Rattle.cq_disk.specs.declared.device.Device.{Ghosts}
use Rattle.cq_records.specs.declared.behind.Behind.{Behind}
use Rattle.cq_records.specs.declared.behind.Behind.TheVariants.{Zeros}
use Rattle.cq_records.specs.Frames.{frames, all_sound, ends_with, HasMore, IsDamaged}
use Rattle.cq_records.specs.Layout.{IsLog}
use Rattle.cq_journal.specs.declared.journal.Journal.{Journal}
use Rattle.cq_journal.specs.declared.number.TheConstants.{NUMBER_LIMIT}
use Rattle.cq_journal.specs.Free.{HasRoomToOpen, IsFreeIn}
use Rattle.cq_journal.specs.Regions.{Each, AreApart, behind_of, regions_text, records_at, regions_at}
use Rattle.cq_journal.specs.Root.{IsRoot, root_device, root_half, root_number}
use Rattle.cq_journal.specs.Roots.{root_of, numbered}

module _ {D : Type 0} {g : Ghosts D} where
  abbrev pub journal_device : Journal D g → D
  journal_device j = root_device j.root

  -- the length of a half of the root
  abbrev pub journal_half : Journal D g → ℕ
  journal_half j = root_half j.root

  abbrev pub region_len : Journal D g → ℕ
  region_len j = j.len

  -- where the log of the region that grows ends in it
  abbrev pub journal_end : Journal D g → ℕ
  journal_end j = j.end

  -- the places of all regions that count, in order
  abbrev pub journal_places : Journal D g → List ℕ
  journal_places j = j.closed.items ++ j.growing ∷ []

  -- the journal's records, in order
  abbrev pub journal_records : Journal D g → List (List ℕ)
  journal_records j = records_at j.len (journal_places j) (g.seen (journal_device j))

  -- the records of each of its regions, in order
  abbrev pub journal_regions : Journal D g → List (List (List ℕ))
  journal_regions j = regions_at j.len (journal_places j) (g.seen (journal_device j))

  -- each record of the region that grows has its checksum, and what comes behind them may do so
  abbrev pub grows_soundly : Journal D g → Bool
  grows_soundly j = all_sound (frames (part j.growing j.len (g.seen (journal_device j)))) && ends_with (behind_of j.torn) (part j.growing j.len (g.seen (journal_device j)))

  -- what may come behind the records of this region
  abbrev pub behind_in : Journal D g → ℕ → Behind
  behind_in j index = if nat_lt index (length j.closed.items) then Zeros else behind_of j.torn

  -- All regions lie behind the root and in the device, the one that grows apart from the others. If reads gave what was seen, the
  -- root names them.
  pub record HasRegions (j : Journal D g) : Type 0 where
    pub root : IsRoot j.root
    pub behind : Each (λ n. journal_half j + journal_half j ≤ n) (journal_places j)
    pub within : Each (λ n. n + j.len ≤ length (g.seen (journal_device j))) (journal_places j)
    pub apart : Each (λ n. AreApart j.len n j.growing) j.closed.items
    pub small : Each (λ n. n < NUMBER_LIMIT) (journal_places j)
    pub names : IsTrue (g.is_honest (journal_device j)) → root_of (journal_half j) (g.seen (journal_device j)) ≡ Some (numbered (root_number j.root) (regions_text j.torn (journal_places j)))

  -- and the region that grows is a log
  pub record IsJournal (j : Journal D g) : Type 0 where
    pub regions : HasRegions j
    pub log : IsLog (part j.growing j.len (g.seen (journal_device j))) j.end

  -- where its regions were read: it has them, and is a journal if it was one
  pub record StaysJournal (old new : Journal D g) : Type 0 where
    pub regions : HasRegions new
    pub journal : IsJournal old → IsJournal new

  -- a region at this place lies behind the root, in the device and apart from all that count, and the root may name it
  abbrev pub IsFree : Journal D g → ℕ → Type 0
  IsFree j place = IsFreeIn (journal_half j) j.len (length (g.seen (journal_device j))) (journal_places j) place

  -- there is room to open it again
  abbrev pub HasRoomAgain : Journal D g → Type 0
  HasRoomAgain j = HasRoomToOpen (journal_half j) j.len (length (g.seen (journal_device j))) (root_number j.root) (journal_places j)

  -- two regions that share no byte are free
  pub record HasSpare (j : Journal D g) : Type 0 where
    pub first : ℕ
    pub second : ℕ
    pub free : IsFree j first × IsFree j second
    pub apart : first + j.len ≤ second

  -- At this place of the device a frame of this region begins whose text has another checksum. Or the records of this region end there, and
  -- something comes behind them that may not: one of them was lost.
  pub record IsDamagedAt (j : Journal D g) (index place : ℕ) : Type 0 where
    pub at : ℕ
    pub is : place ≡ get_or (journal_places j) index 0 + at
    pub damaged :
        IsDamaged (drop at (part (get_or (journal_places j) index 0) j.len (g.seen (journal_device j))))
        ⊎ HasMore (behind_in j index) at (part (get_or (journal_places j) index 0) j.len (g.seen (journal_device j)))
