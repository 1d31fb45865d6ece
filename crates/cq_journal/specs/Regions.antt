-- What a journal's file stands for. Behind the root lie regions of one length, each of them a log. The root's text names the places
-- of those that count, in order, and their records are the journal's.
use Rattle.std.specs.Prelude.{◌≡◌, ◌⊎◌, ℕ, ◌+◌, ◌-◌, ◌%◌, ◌≤◌, true, List, [], ◌∷◌, ◌++◌, take, drop, Option, Some, None, ⊤, ◌==◌, if◌then◌else◌, slice_index}
use Rattle.cq_disk.specs.Region.{part}
use Rattle.cq_disk.specs.declared.device.TornWrites.{TornWrites}
use Rattle.cq_disk.specs.declared.device.TornWrites.TheVariants.{OldOrNew, Any}
use Rattle.cq_records.specs.declared.behind.Behind.{Behind}
use Rattle.cq_records.specs.declared.behind.Behind.TheVariants.{TornBatch, Anything}
use Rattle.cq_records.specs.Frames.{frames, is_closed, records, all_sound}
use Rattle.cq_journal.specs.Numbers.{digits, number_of}
use Rattle.cq_journal.specs.Roots.{root_of}

-- What may come behind the records of the region that grows, where this is supposed of torn writes: a crash leaves one torn batch there.
abbrev pub behind_of : TornWrites → Behind
behind_of OldOrNew = TornBatch
behind_of Any = Anything

-- what is supposed of torn writes in the region that grows, as a byte of the root
abbrev pub kind_of : TornWrites → ℕ
kind_of OldOrNew = 2
kind_of Any = 3

-- what a root's record says of that, behind its number
abbrev pub torn_in : List ℕ → TornWrites
torn_in root = if slice_index root 5 == 3 then Any else OldOrNew

-- these numbers, five digits each
abbrev pub places_text : List ℕ → List ℕ
places_text [] = []
places_text (n ∷ ns) = digits n ++ places_text ns

-- the text of a root: what is supposed of torn writes, and the places of the regions that count
abbrev pub regions_text : TornWrites → List ℕ → List ℕ
regions_text torn places = kind_of torn ∷ places_text places

-- the numbers that a text says
abbrev pub places_in : List ℕ → List ℕ
places_in (a ∷ b ∷ c ∷ d ∷ e ∷ rest) = number_of (a ∷ b ∷ c ∷ d ∷ e ∷ []) ∷ places_in rest
places_in rest = []

-- the records of the regions at these places, one region after another
abbrev pub records_at : ℕ → List ℕ → List ℕ → List (List ℕ)
records_at len [] bytes = []
records_at len (n ∷ ns) bytes = records (part n len bytes) ++ records_at len ns bytes

-- the records of each of these regions, in order
abbrev pub regions_at : ℕ → List ℕ → List ℕ → List (List (List ℕ))
regions_at len [] bytes = []
regions_at len (n ∷ ns) bytes = records (part n len bytes) ∷ regions_at len ns bytes

-- all of their records
abbrev pub all_records : List (List (List ℕ)) → List (List ℕ)
all_records [] = []
all_records (rs ∷ regions) = rs ++ all_records regions

-- the records of the regions that a root's record names
abbrev pub named_records : ℕ → List ℕ → Option (List ℕ) → Option (List (List ℕ))
named_records len bytes None = None
named_records len bytes (Some root) = Some (records_at len (places_in (drop 6 root)) bytes)

-- the journal's records, with halves of the root and regions of these lengths; none, where there is no root
abbrev pub kept : ℕ → ℕ → List ℕ → Option (List (List ℕ))
kept half len bytes = named_records len bytes (root_of half bytes)

-- the records of each of its regions, in order
abbrev pub named_regions : ℕ → List ℕ → Option (List ℕ) → Option (List (List (List ℕ)))
named_regions len bytes None = None
named_regions len bytes (Some root) = Some (regions_at len (places_in (drop 6 root)) bytes)

abbrev pub kept_regions : ℕ → ℕ → List ℕ → Option (List (List (List ℕ)))
kept_regions half len bytes = named_regions len bytes (root_of half bytes)

-- each of these numbers is so
abbrev pub Each : (ℕ → Type 0) → List ℕ → Type 0
Each P [] = ⊤
Each P (n ∷ ns) = P n × Each P ns

-- each record of the regions of this length at these places has its checksum
abbrev pub AreSound : ℕ → List ℕ → List ℕ → Type 0
AreSound len places bytes = Each (λ n. all_sound (frames (part n len bytes)) ≡ true) places

-- behind the records of each region of this length at these places there is nothing but zeros
abbrev pub AreClosed : ℕ → List ℕ → List ℕ → Type 0
AreClosed len places bytes = Each (λ n. is_closed (part n len bytes) ≡ true) places

-- no byte is of both regions
abbrev pub AreApart : ℕ → ℕ → ℕ → Type 0
AreApart len a b = (a + len ≤ b) ⊎ (b + len ≤ a)

-- a region at this place lies so many whole regions behind that one
abbrev pub IsInSteps : ℕ → ℕ → ℕ → Type 0
IsInSteps len low place = (place - low) % len ≡ 0

-- the journal's records are those from before, and behind them so many of the batch's, from the first on
abbrev pub HasPrefixOf : ℕ → ℕ → List (List ℕ) → List (List ℕ) → List ℕ → Type 0
HasPrefixOf half len before batch bytes = (many : ℕ) × (kept half len bytes ≡ Some (before ++ take many batch))

-- these are the journal's records
abbrev pub HasRecords : ℕ → ℕ → List (List ℕ) → List ℕ → Type 0
HasRecords half len rs bytes = kept half len bytes ≡ Some rs
