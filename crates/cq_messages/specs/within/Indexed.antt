-- What is known of the slots and what is kept beside them.
use Rattle.std.specs.Prelude.{◌≡◌, ℕ, ◌<◌, ◌≤◌, List, length, get_or}
use Rattle.cq_base.specs.queue.Messages.{Message}
use Rattle.cq_base.specs.Relations.{Among}
use Rattle.cq_messages.specs.declared.slot.Slot.{Slot}
use Rattle.cq_messages.specs.within.Groups.{GroupKept, numbers_at, handed_at}
use Rattle.cq_messages.specs.Changes.{numbers_of}
use Rattle.cq_messages.specs.Slots.{live, gone, IsAscending, in_group, wait_for, flight_of}

-- beside each slot stands the moment from which its message leads its group
pub record AreWaits (slots : List Slot) (lead_times : List ℕ) : Type 0 where
  pub long : length slots ≤ length lead_times
  pub is : (k : ℕ) → k < length slots → get_or lead_times k 0 ≡ wait_for (live slots) (get_or slots k gone).message

-- beside each slot stands how long its message is in flight
pub record AreFlights (slots : List Slot) (flight_ends : List ℕ) : Type 0 where
  pub long : length slots ≤ length flight_ends
  pub is : (k : ℕ) → k < length slots → get_or flight_ends k 0 ≡ flight_of (get_or slots k gone).message

-- the groups have their messages' sequence numbers
abbrev pub AreNumbers : List Slot → List (List ℕ × GroupKept) → Type 0
AreNumbers slots groups = (group : List ℕ) → numbers_at groups group ≡ numbers_of (in_group group (live slots))

-- a message that was handed out isn't after the last of its group that was
abbrev pub IsHanded : List (List ℕ × GroupKept) → Message → Type 0
IsHanded groups m = 0 < m.until → m.sequence ≤ handed_at groups m.group

abbrev pub AreHanded : List Slot → List (List ℕ × GroupKept) → Type 0
AreHanded slots groups = (m : Message) → Among m (live slots) → IsHanded groups m

pub record IsIndexed (slots : List Slot) (lead_times flight_ends : List ℕ) (groups : List (List ℕ × GroupKept)) : Type 0 where
  pub ascending : IsAscending 0 slots
  pub are_waits : AreWaits slots lead_times
  pub are_flights : AreFlights slots flight_ends
  pub are_numbers : AreNumbers slots groups
  pub are_handed : AreHanded slots groups
