-- A journal of entries.
use Rattle.std.specs.Prelude.{◌≡◌, ℕ, List, [], ◌∷◌, ◌++◌, Some, IsTrue, if◌then◌else◌}
use Rattle.cq_base.specs.declared.ask.Entry.{Entry}
use Rattle.cq_disk.specs.declared.device.Device.{Ghosts}
use Rattle.cq_journal.specs.declared.journal.Journal.{Journal}
use Rattle.cq_journal.specs.Journal.{IsJournal, journal_device, journal_half, journal_records, region_len}
use Rattle.cq_journal.specs.Regions.{kept}
use Rattle.cq_records.specs.Frames.{joined}
use Rattle.cq_kept_entries.specs.declared.kept.KeptEntries.{KeptEntries}
use Rattle.cq_kept_entries.specs.Pieces.{AreOf, ArePiecesOf, AreTaken, IsListing, is_fresh, read, start}

-- the record with which entries begin that have no base
abbrev pub head : List ℕ
head = 2 ∷ 69 ∷ 10 ∷ []

-- the records with it, where no piece has come
abbrev pub headed : List (List ℕ) → List (List ℕ)
headed rs = if is_fresh (read start (joined rs)).stage then rs ++ head ∷ [] else rs

-- The bytes of a device have records that stand for these entries, with halves of the root and regions of these lengths.
pub record BytesStandFor (half len : ℕ) (bytes : List ℕ) (all : List Entry) : Type 0 where
  pub records : List (List ℕ)
  pub has : kept half len bytes ≡ Some records
  pub are : AreOf (joined records) all

-- they have records that stand for some entries which a store takes
abbrev pub StandForSome : ℕ → ℕ → List ℕ → Type 0
StandForSome half len bytes = (all : List Entry) × (BytesStandFor half len bytes all × AreTaken all)

-- a text as a record; none, if it is empty
abbrev pub text_records : List ℕ → List (List ℕ)
text_records [] = []
text_records (b ∷ text) = (b ∷ text) ∷ []

module _ {D : Type 0} {g : Ghosts D} where
  abbrev pub entries_journal : KeptEntries D g → Journal D g
  entries_journal k = k.journal

  abbrev pub entries_device : KeptEntries D g → D
  entries_device k = journal_device k.journal

  -- the lengths of a half of the root and of a region
  abbrev pub entries_half : KeptEntries D g → ℕ
  entries_half k = journal_half k.journal

  abbrev pub entries_len : KeptEntries D g → ℕ
  entries_len k = region_len k.journal

  -- the records that it has kept, in order
  abbrev pub kept_records : KeptEntries D g → List (List ℕ)
  kept_records k = journal_records k.journal

  -- their bytes, one record behind the other
  abbrev pub kept_bytes : KeptEntries D g → List ℕ
  kept_bytes k = joined (kept_records k)

  -- they stand for these entries
  abbrev pub StandsFor : KeptEntries D g → List Entry → Type 0
  StandsFor k all = AreOf (kept_bytes k) all

  -- they stand for some entries which a store takes
  abbrev pub StandsForSome : KeptEntries D g → Type 0
  StandsForSome k = (all : List Entry) × (StandsFor k all × AreTaken all)

  -- the pieces of those that were added and aren't kept yet
  abbrev pub added_text : KeptEntries D g → List ℕ
  added_text k = k.text.items

  -- they are of these entries
  abbrev pub HasAdded : KeptEntries D g → List Entry → Type 0
  HasAdded k more = ArePiecesOf (added_text k) more

  -- the record that they make, if there is one
  abbrev pub added_records : KeptEntries D g → List (List ℕ)
  added_records k = text_records (added_text k)

  -- It is a journal, which has its records on the medium. Entries may come next, and what was added are some.
  pub record IsKept (k : KeptEntries D g) : Type 0 where
    pub journal : IsJournal k.journal
    pub listing : IsTrue (g.is_honest (entries_device k)) → IsListing (read start (kept_bytes k))
    pub added : List Entry
    pub are : HasAdded k added
