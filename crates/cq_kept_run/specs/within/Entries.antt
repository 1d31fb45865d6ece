-- What a journal of entries has, and the lines that tell it.
use Rattle.std.specs.Prelude.{◌≡◌, ℕ, List, [], ◌∷◌, ◌++◌, Option, None, Some, codes, decimal, length}
use Rattle.std.specs.Io.KnownBytes.{Appends}
use Rattle.cq_store.specs.Stands as stores
use Rattle.cq_journal.specs.Regions.{all_records, kept, kept_regions}
use Rattle.cq_kept_entries.specs.Contents.{Holds}
use Rattle.cq_kept_entries.specs.declared.contents.EntriesContents.{EntriesContents}
use Rattle.cq_kept_run.specs.declared.sizes.TheConstants.{HALF, REGION}
use Rattle.cq_kept_run.specs.within.Told.{TellsStore}

-- These bytes have a root that names such regions, in order, and what is told is of their records.
pub record IsEntriesOf (bytes : List ℕ) (told : EntriesContents) : Type 0 where
  pub regions : List (List (List ℕ))
  pub named : kept_regions HALF REGION bytes ≡ Some regions
  pub records : kept HALF REGION bytes ≡ Some (all_records regions)
  pub holds : Holds (all_records regions) (length regions) told

-- how many entries a store has, if there is one
abbrev pub entry_count : Option stores.StoreKept → ℕ
entry_count None = 0
entry_count (Some store) = store.count

-- the line of these numbers of a journal
abbrev pub entries_text : ℕ → ℕ → ℕ → ℕ → List ℕ
entries_text bytes entries records regions =
    codes "{\"bytes\":" ++ (decimal bytes ++ (codes ",\"entries\":" ++ (decimal entries
    ++ (codes ",\"kind\":\"entries\",\"records\":" ++ (decimal records ++ (codes ",\"regions\":" ++ (decimal regions ++ (codes "}" ++ 10 ∷ []))))))))

-- the line that tells what a journal has
abbrev pub entries_line : EntriesContents → List ℕ
entries_line told = entries_text told.bytes (entry_count told.store) told.records told.regions

-- the line of so many entries
abbrev pub count_text : ℕ → List ℕ
count_text entries = codes "{\"entries\":" ++ (decimal entries ++ (codes ",\"kind\":\"entries\"}" ++ 10 ∷ []))

-- the chunks of a store, if there is one
abbrev pub TellsStoreOf : Option stores.StoreKept → Option (List ℕ) → Option (List ℕ) → Type 0
TellsStoreOf None before after = Appends before after []
TellsStoreOf (Some store) before after = TellsStore store before after

-- and then the count
pub record DumpsEntries (told : EntriesContents) (before after : Option (List ℕ)) : Type 0 where
  pub stored : Option (List ℕ)
  pub store : TellsStoreOf told.store before stored
  pub count : Appends stored after (count_text (entry_count told.store))
