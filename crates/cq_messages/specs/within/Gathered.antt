-- The slots that have a message, and what stands beside them.
use Rattle.std.specs.Prelude.{◌≡◌, ℕ, ◌<◌, List, length, get_or, Bool}
use Rattle.std.specs.List.{filter}
use Rattle.std.specs.Option.{is_some}
use Rattle.cq_messages.specs.declared.slot.Slot.{Slot}
use Rattle.cq_messages.specs.Slots.{gone}

-- whether the slot has a message
abbrev pub is_full : Slot → Bool
is_full slot = is_some slot.message

-- the slots that have one
abbrev pub full_slots : List Slot → List Slot
full_slots slots = filter is_full slots

-- beside each slot stands what f says of it
abbrev pub IsBeside : (Slot → ℕ) → List Slot → List ℕ → Type 0
IsBeside f slots numbers = (k : ℕ) → k < length slots → get_or numbers k 0 ≡ f (get_or slots k gone)

-- what stood beside the slots in `old` stands beside those that have a message in `new`
pub record AreGathered (slots : List Slot) (old new : List ℕ) : Type 0 where
  pub long : length new ≡ length old
  pub beside : (f : Slot → ℕ) → IsBeside f slots old → IsBeside f (full_slots slots) new
