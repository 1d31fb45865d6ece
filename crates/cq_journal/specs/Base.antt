-- A new base that is written beside a journal's regions, and takes their place.
use Rattle.std.specs.Prelude.{◌⊎◌, ℕ, ◌+◌, ◌<◌, ◌≤◌, List, [], ◌∷◌, ◌++◌, length}
use Rattle.cq_disk.specs.Region.{part}
use Rattle.cq_disk.specs.declared.device.Device.{Ghosts}
use Rattle.cq_records.specs.Layout.{IsLog}
use Rattle.cq_journal.specs.declared.base.Base.{Base}
use Rattle.cq_journal.specs.declared.journal.Journal.{Journal}
use Rattle.cq_journal.specs.declared.journal.TheConstants.{REGION_LIMIT}
use Rattle.cq_journal.specs.declared.number.TheConstants.{NUMBER_LIMIT}
use Rattle.cq_journal.specs.Journal.{journal_device, journal_half, journal_places}
use Rattle.cq_journal.specs.Regions.{Each, AreApart, AreSound, AreClosed, records_at, HasRecords}

-- the places of a base's regions, in order
abbrev pub base_places : Base → List ℕ
base_places b = b.closed.items ++ b.growing ∷ []

module _ {D : Type 0} {g : Ghosts D} where
  -- the records of a base, in order
  abbrev pub base_records : Journal D g → Base → List (List ℕ)
  base_records j b = records_at j.len (base_places b) (g.seen (journal_device j))

  -- A base's regions lie behind the root and in the device, apart from those that count, and the one that grows apart from its others.
  -- That one is a log, and so are the others. All records have their checksums.
  pub record IsBase (j : Journal D g) (b : Base) : Type 0 where
    pub behind : Each (λ n. journal_half j + journal_half j ≤ n) (base_places b)
    pub within : Each (λ n. n + j.len ≤ length (g.seen (journal_device j))) (base_places b)
    pub small : Each (λ n. n < NUMBER_LIMIT) (base_places b)
    pub apart : Each (λ n. Each (λ m. AreApart j.len m n) (journal_places j)) (base_places b)
    pub alone : Each (λ n. AreApart j.len n b.growing) b.closed.items
    pub few : length (base_places b) < REGION_LIMIT
    pub sound : AreSound j.len (base_places b) (g.seen (journal_device j))
    pub closed_logs : AreClosed j.len b.closed.items (g.seen (journal_device j))
    pub log : IsLog (part b.growing j.len (g.seen (journal_device j))) b.end

-- these are the journal's records, or those are
abbrev pub HasEitherRecords : ℕ → ℕ → List (List ℕ) → List (List ℕ) → List ℕ → Type 0
HasEitherRecords half len old new bytes = HasRecords half len old bytes ⊎ HasRecords half len new bytes
