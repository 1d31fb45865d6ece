-- When a queue lives. All outcomes here are those about one queue.
use Rattle.std.specs.Prelude.{ℕ, ◌+◌, ◌&&◌, ◌||◌, List, length, Bool, nat_lt, if◌then◌else◌, Option, None, Some}
use Rattle.std.specs.List.{filter, last_or, list_any}
use Rattle.cq_base.specs.declared.limits.TheConstants.{REMOVAL_DELAY}
use Rattle.cq_base.specs.queue.Asks.{is_create, is_remove}
use Rattle.cq_base.specs.queue.Outcomes.{Outcome}

-- the entry created the queue
abbrev pub is_creation : Outcome → Bool
is_creation f = f.effective && is_create f.entry.request.ask

-- the entry removed the queue
abbrev pub is_removal : Outcome → Bool
is_removal f = f.effective && is_remove f.entry.request.ask

-- the entry created the queue or removed it
abbrev pub is_creation_or_removal : Outcome → Bool
is_creation_or_removal f = is_creation f || is_removal f

-- what it is, if it is a creation
abbrev pub if_creation : Option Outcome → Option Outcome
if_creation None = None
if_creation (Some f) = if is_creation f then Some f else None

-- The creation by which a queue lives: the last of its creations and removals that took effect, if that
-- is a creation (SQS API Reference, "CreateQueue" and "DeleteQueue"; that a removed queue is gone at once
-- is a choice of this project).
unfoldable pub live : List Outcome → Option Outcome
live outcomes = if_creation (last_or None (filter is_creation_or_removal outcomes))

-- how many creations of the queue took effect
unfoldable pub creations : List Outcome → ℕ
creations outcomes = length (filter is_creation outcomes)

-- the number of the incarnation that a creation began; 0 without one
abbrev pub incarnation_of : Option Outcome → ℕ
incarnation_of None = 0
incarnation_of (Some creation) = creation.count

-- the entry removed the queue, and at that moment its minute isn't over
abbrev pub is_recent_removal : ℕ → Outcome → Bool
is_recent_removal moment f = is_removal f && nat_lt moment (f.entry.moment + REMOVAL_DELAY)

-- The queue was removed less than a minute before that moment (SQS API Reference, "DeleteQueue", on a
-- queue of the same name, and "CreateQueue", `QueueDeletedRecently`).
unfoldable pub removed_lately : ℕ → List Outcome → Bool
removed_lately moment outcomes = list_any (is_recent_removal moment) outcomes
