-- What has been read of what is kept.
use Rattle.std.specs.Prelude.{◌≡◌, ℕ, List, Option, length, ⊤}
use Rattle.cq_base.specs.declared.ask.Entry.{Entry}
use Rattle.cq_records.specs.Frames.{joined}
use Rattle.cq_store.specs.Stands as stores
use Rattle.cq_wire.specs.declared.fault.ReadFault.{ReadFault}
use Rattle.cq_wire.specs.declared.fault.ReadFault.TheVariants as faults
use Rattle.cq_kept_entries.specs.Pieces.{AreEntries, AreTaken, At, MeansAt, Stage, fresh, listing, read, start, storing}
use Rattle.cq_kept_entries.specs.declared.contents.ContentsReader.{ContentsReader}
use Rattle.cq_kept_entries.specs.declared.reader.EntriesReader.{EntriesReader}
use Rattle.cq_kept_entries.specs.declared.reader.Progress.{Progress}
use Rattle.cq_kept_entries.specs.declared.reader.Progress.TheVariants as progress

-- the store stands for the entries that were read, whatever the base stands for
pub record IsListed (stage : Stage) (store : stores.StoreKept) : Type 0 where
  pub base : Option stores.StoreKept
  pub entries : List Entry
  pub is : stage ≡ listing base entries
  pub stands : (all : List Entry) → AreEntries base entries all → stores.StandsFor store all

-- what pieces have made of it
abbrev pub IsMade : Stage → Progress → Type 0
IsMade stage progress.Fresh = stage ≡ fresh
IsMade stage (progress.Storing reader) = stage ≡ storing reader
IsMade stage (progress.Listing store) = IsListed stage store

pub record IsReader (a : At) (reader : EntriesReader) : Type 0 where
  pub piece : a.piece ≡ reader.piece.items
  pub made : IsMade a.stage reader.progress

-- whatever bytes come behind these, no entries that a store takes are what all of them stand for
abbrev pub IsRefused : At → Type 0
IsRefused a = (rest : List ℕ) (all : List Entry) → MeansAt (read a rest) all → AreTaken all → ⊥

-- where the bytes are at fault, and not memory
abbrev pub IfBad : ReadFault → Type 0 → Type 0
IfBad faults.NoMemory P = ⊤
IfBad (faults.Bad fault) P = P

-- these records were read
pub record IsSoFar (before : List (List ℕ)) (so_far : ContentsReader) : Type 0 where
  pub records_are : so_far.records ≡ length before
  pub bytes_are : so_far.bytes ≡ length (joined before)
  pub read_so : IsReader (read start (joined before)) so_far.reader
