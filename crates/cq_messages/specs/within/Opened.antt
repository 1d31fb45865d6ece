-- The groups of messages that lead open groups.
use Rattle.std.specs.Prelude.{ℕ, List, [], Option, Some, None}
use Rattle.std.specs.List.{flat_map}
use Rattle.cq_base.specs.queue.Messages.{Message}
use Rattle.cq_base.specs.queue.Receiving.{leads, group_with}
use Rattle.cq_messages.specs.declared.slot.Slot.{Slot}
use Rattle.cq_messages.specs.Changes.{numbers_of}
use Rattle.cq_messages.specs.within.Passing.{passing_upto}
use Rattle.cq_messages.specs.Slots.{live}

-- the sequence numbers of the message's group
abbrev pub numbers_for : List Message → Option Message → List ℕ
numbers_for ms None = []
numbers_for ms (Some m) = numbers_of (group_with ms m)

-- those of the groups that these messages lead
abbrev pub numbers_led : List Message → List Message → List ℕ
numbers_led ms leaders = numbers_of (flat_map (group_with ms) leaders)

-- the leading messages among the first slots
abbrev pub leaders_upto : ℕ → List Slot → ℕ → List Message
leaders_upto moment slots end = passing_upto (leads moment (live slots)) slots end
