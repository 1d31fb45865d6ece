-- The messages that pass a test, slot by slot.
use Rattle.std.specs.Prelude.{◌≡◌, ℕ, ◌<◌, ◌≤◌, List, length, get_or, take, Bool, true, false}
use Rattle.std.specs.List.{filter}
use Rattle.cq_base.specs.queue.Messages.{Message}
use Rattle.cq_messages.specs.declared.slot.Slot.{Slot}
use Rattle.cq_messages.specs.Slots.{live, gone, passes}

-- no message of these slots passes
abbrev pub NonePasses : (Message → Bool) → List Slot → ℕ → ℕ → Type 0
NonePasses test slots from end = (k : ℕ) → from ≤ k → k < end → passes test (get_or slots k gone).message ≡ false

-- the slot at that place is the first from `from` on whose message passes
pub record IsNext (test : Message → Bool) (slots : List Slot) (from place : ℕ) : Type 0 where
  pub after : from ≤ place
  pub within : place < length slots
  pub passing : passes test (get_or slots place gone).message ≡ true
  pub before : NonePasses test slots from place

-- the messages among the first slots that pass
abbrev pub passing_upto : (Message → Bool) → List Slot → ℕ → List Message
passing_upto test slots end = filter test (live (take end slots))
