-- What a journal has, as it is told of it.
use Rattle.std.specs.Prelude.{◌≡◌, ℕ, ◌==◌, Bool, List, [], Option, None, Some, filter, length, if◌then◌else◌}
use Rattle.cq_store.specs.Stands.{StoreKept}
use Rattle.cq_records.specs.Frames.{joined}
use Rattle.cq_kept_session.specs.Bases.{Stage, Start, alone, bad, based, fresh, lined, marked, read, resumed, several, sized}
use Rattle.cq_kept_session.specs.declared.base.Header.{Header}
use Rattle.cq_kept_session.specs.declared.contents.Contents.{Contents}

-- how many lines end in bytes
abbrev pub lines_in : List ℕ → ℕ
lines_in bytes = length (filter (λ b. b == 10) bytes)

-- the base with which lines begin, if it is one
abbrev pub base_of : Start → Option (Header × StoreKept)
base_of alone = None
base_of (several servers) = None
base_of (resumed header kept) = Some (header, kept)

-- bytes that were read so far are of this base, or of none, and these bytes of lines behind it
abbrev pub IsOf : Stage → Option (Header × StoreKept) → List ℕ → Type 0
IsOf fresh base lines = (base ≡ None) × (lines ≡ [])
IsOf marked base lines = ⊥
IsOf (sized servers) base lines = ⊥
IsOf (based piece header state) base lines = ⊥
IsOf (lined start these) base lines = (base_of start ≡ base) × (these ≡ lines)
IsOf bad base lines = ⊥

-- A journal of so many regions has these records. They are of the base that is told, or of none, and of lines: so many have ended, and their
-- bytes are told where they are to be kept.
pub record Holds (all : List (List ℕ)) (regions : ℕ) (keeps : Bool) (told : Contents) : Type 0 where
  pub regions_are : told.regions ≡ regions
  pub records_are : told.records ≡ length all
  pub bytes_are : told.bytes ≡ length (joined all)
  pub lines : List ℕ
  pub is : IsOf (read fresh (joined all)) told.base lines
  pub lines_are : told.line_count ≡ lines_in lines
  pub kept : told.lines.items ≡ (if keeps then lines else [])
