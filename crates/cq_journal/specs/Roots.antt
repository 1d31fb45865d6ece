-- What the two halves of a root stand for. Each has one record, or none: a number, and the root's text. The higher number counts.
use Rattle.std.specs.Prelude.{◌≡◌, ◌≢◌, ◌⊎◌, ℕ, ◌+◌, ◌<◌, nat_lt, true, List, [], ◌∷◌, ◌++◌, length, drop, Option, Some, None, if◌then◌else◌}
use Rattle.cq_disk.specs.Region.{part}
use Rattle.cq_records.specs.Frames.{frames, records, all_sound}
use Rattle.cq_journal.specs.Numbers.{digits, number_of}
use Rattle.cq_journal.specs.declared.number.TheConstants.{NUMBER_LIMIT}

abbrev pub first_of : List (List ℕ) → Option (List ℕ)
first_of [] = None
first_of (r ∷ rs) = Some r

-- the number of a record: 0 where there is none
abbrev pub number_in : Option (List ℕ) → ℕ
number_in None = 0
number_in (Some r) = number_of r

abbrev pub later : Option (List ℕ) → Option (List ℕ) → Option (List ℕ)
later a b = if nat_lt (number_in a) (number_in b) then b else a

-- the record of the half that begins there
abbrev pub half_of : ℕ → ℕ → List ℕ → Option (List ℕ)
half_of start half bytes = first_of (records (part start half bytes))

-- the record that counts, where the halves have this length
abbrev pub root_of : ℕ → List ℕ → Option (List ℕ)
root_of half bytes = later (half_of 0 half bytes) (half_of half half bytes)

-- the record of this number and text
abbrev pub numbered : ℕ → List ℕ → List ℕ
numbered n text = digits n ++ text

-- the halves have records with different numbers, and each record has its checksum
pub record HasSoundHalves (half : ℕ) (bytes : List ℕ) : Type 0 where
  pub differ : number_in (half_of 0 half bytes) ≢ number_in (half_of half half bytes)
  pub first : all_sound (frames (part 0 half bytes)) ≡ true
  pub second : all_sound (frames (part half half bytes)) ≡ true

-- The root is the same, and so is what lies behind both halves. The halves are sound if they were.
pub record IsSameRoot (half : ℕ) (old bytes : List ℕ) : Type 0 where
  pub root : root_of half bytes ≡ root_of half old
  pub behind : drop (half + half) bytes ≡ drop (half + half) old
  pub long : length bytes ≡ length old
  pub sound : HasSoundHalves half old → HasSoundHalves half bytes

-- The old root counts, or the new one, and what lies behind both halves is the same. The halves are sound if they were.
pub record IsOldOrNew (half : ℕ) (old new bytes : List ℕ) : Type 0 where
  pub root : (root_of half bytes ≡ root_of half old) ⊎ (root_of half bytes ≡ Some new)
  pub behind : drop (half + half) bytes ≡ drop (half + half) old
  pub long : length bytes ≡ length old
  pub sound : HasSoundHalves half old → HasSoundHalves half bytes

-- The old root counts, or one of this text with any number that a root can have.
abbrev pub IsOldOrPut : ℕ → List ℕ → List ℕ → List ℕ → Type 0
IsOldOrPut half old text bytes = (number : ℕ) × (number < NUMBER_LIMIT) × IsOldOrNew half old (numbered number text) bytes
