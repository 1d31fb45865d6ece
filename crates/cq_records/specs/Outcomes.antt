-- What follows of each outcome of a crash.
use Rattle.std.specs.Prelude.{◌≡◌, ℕ, true, List}
use Rattle.cq_disk.specs.Device.{Only, LeavesOnly}
use Rattle.cq_disk.specs.Region.{part, Leaves, Beside, KeepsBeside}
use Rattle.cq_disk.specs.declared.device.TornWrites.{TornWrites}
use Rattle.cq_records.specs.Frames.{frames, all_sound}
use Rattle.cq_records.specs.Layout.{IsPrefixOf}

-- a part that has so many of the batch's frames behind those from before, and beside it the bytes of old
abbrev pub HasPrefixInPart : TornWrites → ℕ → ℕ → List (List ℕ) → List (List ℕ) → List ℕ → List ℕ → Type 0
HasPrefixInPart torn start len before batch old c = IsPrefixOf torn before batch (part start len c) × Beside start len old c

-- Of a device on the medium as it reads, a commit in a part of it leaves this at each moment.
abbrev pub ChangesAlone : {D : Type 0} → (D → ℕ) → (D → ℕ → List ℕ → Type 0) → (D → List ℕ → Type 0) → (D → D → Type 0) → (D → List ℕ) → D → D → Type 0
ChangesAlone moment left_since may_leave keeps seen old new = (torn : TornWrites) (start len new_start new_len : ℕ) (before batch : List (List ℕ))
    → KeepsBeside moment left_since may_leave keeps seen start len new_start new_len old new → Only (seen old) (may_leave old)
    → ((x : List ℕ) → Leaves start len (left_since new (moment old)) x → IsPrefixOf torn before batch x)
    → LeavesOnly moment left_since old new (HasPrefixInPart torn start len before batch (seen old))

-- no outcome of a crash in a commit is taken for damage
abbrev pub NoneDamaged : Type 0
NoneDamaged = (torn : TornWrites) (before batch : List (List ℕ)) (bytes : List ℕ) → all_sound before ≡ true → all_sound batch ≡ true → IsPrefixOf torn before batch bytes → all_sound (frames bytes) ≡ true
