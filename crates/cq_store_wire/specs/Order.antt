-- The parts of a store in their order, all of them, and those from a place on.
use Rattle.std.specs.Prelude.{ℕ, suc, List, [], ◌∷◌, ◌++◌, map, drop, Option, None, Some, slice_get}
use Rattle.std.specs.List.{flat_map}
use Rattle.cq_base.specs.queue.Incarnations.{Accepted, Incarnation}
use Rattle.cq_base.specs.queue.Messages.{Message}
use Rattle.cq_messages.specs.Ordered.{all_after}
use Rattle.cq_store.specs.Stands.{ClientRecord, QueueRecord, StoreKept}
use Rattle.cq_store_wire.specs.declared.part.NameRecord.{NameRecord}
use Rattle.cq_store_wire.specs.declared.part.Part.{Part}
use Rattle.cq_store_wire.specs.declared.part.Part.TheVariants as parts
use Rattle.cq_store_wire.specs.Bodies.{and_reply, reply_recorded}
use Rattle.cq_store_wire.specs.declared.writer.Place.{Place}
use Rattle.cq_store_wire.specs.declared.writer.Place.TheVariants as places

-- the queue without its messages and accepted sends
abbrev pub emptied : Incarnation → Incarnation
emptied q = record q { messages = []; accepted = [] }

abbrev pub emptied_if : Option Incarnation → Option Incarnation
emptied_if None = None
emptied_if (Some q) = Some (emptied q)

-- its reply as it is spelled where these bodies were mentioned
abbrev pub client_part : List (List ℕ) → ℕ × ClientRecord → Part
client_part known c = parts.Client c.0 c.1.number (reply_recorded known c.1.reply)

abbrev pub name_record : List ℕ → QueueRecord → NameRecord
name_record name kept = record { name = name; creations = kept.creations; removed = kept.removed; living = emptied_if kept.living }

abbrev pub messages_of : Option Incarnation → List Message
messages_of None = []
messages_of (Some q) = q.messages

abbrev pub accepted_of : Option Incarnation → List Accepted
accepted_of None = []
accepted_of (Some q) = q.accepted

-- the messages of a queue from one number on, and its accepted sends
abbrev pub all_messages : List Message → List Part
all_messages messages = map (λ m. parts.Message m) messages

abbrev pub all_accepted : List Accepted → List Part
all_accepted accepted = map (λ a. parts.Accepted a) accepted

unfoldable pub name_parts : List ℕ × QueueRecord → List Part
name_parts n = parts.Name (name_record n.0 n.1) ∷ (all_messages (messages_of n.1.living) ++ all_accepted (accepted_of n.1.living))

-- these names, and the end
unfoldable pub all_names : List (List ℕ × QueueRecord) → List Part
all_names queues = flat_map name_parts queues ++ parts.End ∷ []

-- these clients, where those bodies were mentioned before
unfoldable pub all_clients : List (List ℕ) → List (ℕ × ClientRecord) → List Part
all_clients known [] = []
all_clients known (c ∷ cs) = client_part known c ∷ all_clients (and_reply known c.1.reply) cs

-- all of them, where those bodies were mentioned before
abbrev pub all_parts : List (List ℕ) → StoreKept → List Part
all_parts known kept = parts.Start kept.count kept.last ∷ (all_clients known kept.clients ++ all_names kept.queues)

unfoldable pub parts_of : StoreKept → List Part
parts_of kept = all_parts [] kept

-- ---- from a place on, where those bodies were mentioned before

-- the queue of the name at that place, if it lives
abbrev pub living_of : Option (List ℕ × QueueRecord) → Option Incarnation
living_of None = None
living_of (Some n) = n.1.living

abbrev pub living_at : StoreKept → ℕ → Option Incarnation
living_at kept index = living_of (slice_get kept.queues index)

unfoldable pub parts_from : StoreKept → List (List ℕ) → Place → List Part
parts_from kept known places.Start = all_parts known kept
parts_from kept known (places.Clients index) = all_clients known (drop index kept.clients) ++ all_names kept.queues
parts_from kept known (places.Names index) = all_names (drop index kept.queues)
parts_from kept known (places.Messages index after) = all_messages (all_after after (messages_of (living_at kept index))) ++ (all_accepted (accepted_of (living_at kept index)) ++ all_names (drop (suc index) kept.queues))
parts_from kept known (places.Accepted index next) = all_accepted (drop next (accepted_of (living_at kept index))) ++ all_names (drop (suc index) kept.queues)
parts_from kept known places.End = []
