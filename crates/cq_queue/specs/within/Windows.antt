-- The accepted sends whose ids count, and what is found under each id.
use Rattle.std.specs.Prelude.{◌≡◌, ℕ, ◌+◌, ◌≤◌, List, [], ◌∷◌, Bool, nat_lt, if◌then◌else◌, Option, None, Some, option_map}
use Rattle.std.specs.List.{find}
use Rattle.std.specs.Map.{lookup}
use Rattle.std.specs.Str.{bytes_eq}
use Rattle.cq_base.specs.declared.limits.TheConstants.{DEDUPLICATION_WINDOW}
use Rattle.cq_base.specs.queue.Incarnations.{Accepted}
use Rattle.cq_queue.specs.declared.accepted.Known.{Known}

-- What is seen of a window.
pub record WindowKept : Type 0 where
  -- the accepted sends, in order
  pub items : List Accepted
  -- for how many more there is room
  pub room : ℕ

-- it has that deduplication id
abbrev pub has_id : List ℕ → Accepted → Bool
has_id id a = bytes_eq a.dedup id

-- it didn't come after that moment
abbrev pub IsBy : ℕ → Accepted → Type 0
IsBy moment a = a.moment ≤ moment

-- they are in order of their moments, none of which is before b
abbrev pub IsRising : ℕ → List Accepted → Type 0
IsRising b [] = Unit {0}
IsRising b (a ∷ rest) = (b ≤ a.moment) × IsRising a.moment rest

-- no two have the same id
abbrev pub AreDistinct : List Accepted → Type 0
AreDistinct [] = Unit {0}
AreDistinct (a ∷ rest) = (find (has_id a.dedup) rest ≡ None) × AreDistinct rest

-- what is known of the id of an accepted send
abbrev pub known_of : Accepted → Known
known_of a = record { moment = a.moment; sequence = a.sequence }

-- what is known of an id
abbrev pub known_at : List (List ℕ × Known) → List ℕ → Option Known
known_at known id = lookup (λ other. bytes_eq id other) known

-- the sequence number with which a send at that moment is answered, by what is known of its id
abbrev pub answered : ℕ → Option Known → Option ℕ
answered moment None = None
answered moment (Some known) = if nat_lt moment (known.moment + DEDUPLICATION_WINDOW) then Some known.sequence else None

-- The accepted sends are in order, no two have the same id, and what is known of each id is that of the
-- accepted send that has it.
pub record IsWindow (accepted : List Accepted) (known : List (List ℕ × Known)) : Type 0 where
  pub rising : IsRising 0 accepted
  pub distinct : AreDistinct accepted
  pub found : (id : List ℕ) → known_at known id ≡ option_map known_of (find (has_id id) accepted)
