-- The oldest message of a group, and slots of which one is changed.
use Rattle.std.specs.Prelude.{◌≡◌, ℕ, ◌<◌, List, ◌∷◌, length, get_or, Option, Some, None}
use Rattle.cq_base.specs.queue.Messages.{Message}
use Rattle.cq_messages.specs.declared.slot.Slot.{Slot}
use Rattle.cq_messages.specs.Slots.{live, gone, in_group}

-- at that place is the oldest message of the group
pub record IsHead (slots : List Slot) (group : List ℕ) (place : ℕ) : Type 0 where
  pub first : Message
  pub rest : List Message
  pub within : place < length slots
  pub message : (get_or slots place gone).message ≡ Some first
  pub leads : in_group group (live slots) ≡ first ∷ rest

-- the message, handed out so often, last at that moment, and hidden up to `until`
abbrev pub retimed : ℕ → ℕ → ℕ → Message → Message
retimed handings at until m = record m { handings = handings; handed_at = at; until = until }

-- the same of a slot's message
abbrev pub retimed_kept : ℕ → ℕ → ℕ → Option Message → Option Message
retimed_kept handings at until None = None
retimed_kept handings at until (Some m) = Some (retimed handings at until m)

-- and of a slot
abbrev pub retimed_in : ℕ → ℕ → ℕ → Slot → Slot
retimed_in handings at until s = record { sequence = s.sequence; message = retimed_kept handings at until s.message }
