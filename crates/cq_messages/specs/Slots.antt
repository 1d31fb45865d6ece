-- The slots in which messages stand in order of sending, also those of deleted messages.
use Rattle.std.specs.Prelude.{◌≡◌, ℕ, ◌-◌, ◌<◌, ◌==◌, List, [], ◌∷◌, max, Bool, false, cond, Option, Some, None}
use Rattle.std.specs.List.{filter}
use Rattle.std.specs.Str.{bytes_eq}
use Rattle.cq_base.specs.queue.Messages.{Message}
use Rattle.cq_messages.specs.declared.slot.TheConstants.{NEVER}
use Rattle.cq_messages.specs.declared.slot.Slot.{Slot}

-- the message of a slot before these
abbrev pub kept_before : Option Message → List Message → List Message
kept_before None ms = ms
kept_before (Some m) ms = m ∷ ms

-- the messages that aren't deleted
abbrev pub live : List Slot → List Message
live [] = []
live (s ∷ ss) = kept_before s.message (live ss)

-- the slot's message, if it isn't deleted, has the slot's sequence number
abbrev pub IsOwn : ℕ → Option Message → Type 0
IsOwn n None = Unit {0}
IsOwn n (Some m) = m.sequence ≡ n

-- the slots are in order of sequence numbers, which are all above b
abbrev pub IsAscending : ℕ → List Slot → Type 0
IsAscending b [] = Unit {0}
IsAscending b (s ∷ ss) = (b < s.sequence) × (IsOwn s.sequence s.message × IsAscending s.sequence ss)

-- a slot of no message
abbrev pub gone : Slot
gone = record { sequence = 0; message = None }

-- the messages of a group
abbrev pub in_group : List ℕ → List Message → List Message
in_group group ms = filter (λ m. bytes_eq group m.group) ms

-- the moment at which the last of these timeouts ends
abbrev pub busy : List Message → ℕ
busy [] = 0
busy (m ∷ ms) = max m.until (busy ms)

-- the moment from which the message of that sequence number leads its group: never, if another is older
abbrev pub wait_in : List Message → ℕ → ℕ
wait_in [] n = NEVER
wait_in (x ∷ xs) n = cond (x.sequence == n) (busy (x ∷ xs)) NEVER

-- the same for the message of a slot
abbrev pub wait_for : List Message → Option Message → ℕ
wait_for ms None = NEVER
wait_for ms (Some m) = wait_in (in_group m.group ms) m.sequence

-- the smaller, the longer the slot's message is in flight
abbrev pub flight_of : Option Message → ℕ
flight_of None = NEVER
flight_of (Some m) = NEVER - m.until

-- whether the slot has a message, and that passes the test
abbrev pub passes : (Message → Bool) → Option Message → Bool
passes test None = false
passes test (Some m) = test m
