-- What a journal of entries has, as it is told of it.
use Rattle.std.specs.Prelude.{◌≡◌, ℕ, List, length, MatchOption}
use Rattle.cq_base.specs.declared.ask.Entry.{Entry}
use Rattle.cq_records.specs.Frames.{joined}
use Rattle.cq_store.specs.Stands as stores
use Rattle.cq_kept_entries.specs.declared.contents.EntriesContents.{EntriesContents}
use Rattle.cq_kept_entries.specs.Pieces.{AreOf, fresh, read, start}

-- A journal of so many regions has these records. The store that is told stands for whatever entries they stand for; where none is told, no
-- piece has come.
pub record Holds (all : List (List ℕ)) (regions : ℕ) (told : EntriesContents) : Type 0 where
  pub regions_are : told.regions ≡ regions
  pub records_are : told.records ≡ length all
  pub bytes_are : told.bytes ≡ length (joined all)
  pub store : MatchOption told.store ((read start (joined all)).stage ≡ fresh) (λ s. (entries : List Entry) → AreOf (joined all) entries → stores.StandsFor s entries)
