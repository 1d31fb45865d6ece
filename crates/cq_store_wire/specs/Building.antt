-- A store that is made of its parts, one after another, or the fault of the first that can't come next.
use Rattle.std.specs.Prelude.{ℕ, zero, suc, ◌==◌, ◌&&◌, List, [], ◌∷◌, length, Bool, true, false, Option, None, Some, Result, Ok, Err, nat_le, nat_lt, is_none, if◌then◌else◌}
use Rattle.std.specs.List.{find, list_all}
use Rattle.std.specs.Str.{bytes_eq}
use Rattle.cq_base.specs.declared.reply.Reply.{Reply}
use Rattle.cq_base.specs.queue.Incarnations.{Accepted, Incarnation}
use Rattle.cq_base.specs.queue.Messages.{Message}
use Rattle.cq_queue.specs.Parts.{and_accepted, and_message}
use Rattle.cq_store.specs.Parts.{and_client, and_name}
use Rattle.cq_store.specs.Stands.{QueueRecord, StoreKept, client_at, name_at}
use Rattle.cq_wire.specs.declared.version.TheConstants.{VERSION}
use Rattle.cq_wire.specs.declared.fault.WireFault.{WireFault}
use Rattle.cq_wire.specs.declared.fault.WireFault.TheVariants.{Truncated, BadTag, BadNumber, OtherVersion}
use Rattle.cq_wire.specs.Reading.{◌>>=◌}
use Rattle.cq_store_wire.specs.declared.part.NameRecord.{NameRecord}
use Rattle.cq_store_wire.specs.declared.part.Part.{Part}
use Rattle.cq_store_wire.specs.declared.part.Part.TheVariants as parts
use Rattle.cq_store_wire.specs.declared.reply.ReplyRecord.{ReplyRecord}
use Rattle.cq_store_wire.specs.declared.build.State.{State}
use Rattle.cq_store_wire.specs.declared.build.State.TheVariants as states
use Rattle.cq_store_wire.specs.Bodies.{bodies_of, reply_resolved}
use Rattle.cq_store_wire.specs.Reading.{part_at}

abbrev pub is_empty : {A : Type 0} → List A → Bool
is_empty [] = true
is_empty (x ∷ xs) = false

-- ---- queues

-- The message has a larger number than all that are there, and is within what the queue has done.
unfoldable pub is_next_message : Incarnation → Message → Bool
is_next_message q m = list_all (λ x. nat_lt x.sequence m.sequence) q.messages && (nat_le m.sequence q.sent && nat_le m.handings q.used)

-- The accepted send isn't earlier than those that are there, has an id of its own, and is within what the queue has done.
unfoldable pub is_next_accepted : Incarnation → Accepted → Bool
is_next_accepted q a =
    list_all (λ x. nat_le x.moment a.moment) q.accepted && (is_none (find (λ x. bytes_eq x.dedup a.dedup) q.accepted)
    && (nat_le a.moment q.last && nat_lt (length q.accepted) q.sent))

unfoldable pub with_message : Message → Incarnation → Result Incarnation WireFault
with_message m q = if is_empty q.accepted then (if is_next_message q m then Ok (and_message m q) else Err BadNumber) else Err BadTag

unfoldable pub with_accepted : Accepted → Incarnation → Result Incarnation WireFault
with_accepted a q = if is_next_accepted q a then Ok (and_accepted a q) else Err BadNumber

-- ---- names

abbrev pub with_living : NameRecord → Incarnation → NameRecord
with_living n q = record n { living = Some q }

-- what a step makes of the queue of the name
unfoldable pub in_name : (Incarnation → Result Incarnation WireFault) → NameRecord → Option Incarnation → Result NameRecord WireFault
in_name step n None = Err BadTag
in_name step n (Some q) = step q >>= λ after. Ok (with_living n after)

abbrev pub record_of : NameRecord → QueueRecord
record_of n = record { creations = n.creations; removed = n.removed; living = n.living }

abbrev pub is_living_within : ℕ → ℕ → Option Incarnation → Bool
is_living_within count last None = true
is_living_within count last (Some q) = nat_le q.used count && nat_le q.last last

-- The name is a new one, and it and its queue are within what the store has done.
unfoldable pub is_next_name : StoreKept → NameRecord → Bool
is_next_name kept n = is_none (name_at kept.queues n.name) && (nat_le n.creations kept.count && is_living_within kept.count kept.last n.living)

-- the store with the name that came last, if one did
unfoldable pub closed : StoreKept → Option NameRecord → Result StoreKept WireFault
closed kept None = Ok kept
closed kept (Some n) = if is_next_name kept n then Ok (and_name n.name (record_of n) kept) else Err BadNumber

-- ---- parts

unfoldable pub put_start : ℕ → ℕ → State → Result State WireFault
put_start count last states.Empty = Ok (states.Begun (record { count = count; last = last; clients = []; queues = [] }) None)
put_start count last (states.Begun kept newest) = Err BadTag
put_start count last (states.Whole kept) = Err BadTag

unfoldable pub with_reply : ℕ → ℕ → Reply → StoreKept → Result StoreKept WireFault
with_reply client number reply kept = if is_none (client_at kept.clients client) then Ok (and_client client (record { number = number; reply = reply }) kept) else Err BadNumber

-- clients come before names, and the reply to one mentions bodies of those before
unfoldable pub with_client : ℕ → ℕ → ReplyRecord → StoreKept → Result StoreKept WireFault
with_client client number one kept = if is_empty kept.queues then (reply_resolved (bodies_of kept.clients) one >>= λ reply. with_reply client number reply kept) else Err BadTag

unfoldable pub client_into : ℕ → ℕ → ReplyRecord → StoreKept → Option NameRecord → Result State WireFault
client_into client number one kept None = with_client client number one kept >>= λ more. Ok (states.Begun more None)
client_into client number one kept (Some n) = Err BadTag

unfoldable pub put_client : ℕ → ℕ → ReplyRecord → State → Result State WireFault
put_client client number one states.Empty = Err BadTag
put_client client number one (states.Begun kept newest) = client_into client number one kept newest
put_client client number one (states.Whole kept) = Err BadTag

unfoldable pub put_name : NameRecord → State → Result State WireFault
put_name n states.Empty = Err BadTag
put_name n (states.Begun kept newest) = closed kept newest >>= λ more. Ok (states.Begun more (Some n))
put_name n (states.Whole kept) = Err BadTag

unfoldable pub step_into : (Incarnation → Result Incarnation WireFault) → StoreKept → Option NameRecord → Result State WireFault
step_into step kept None = Err BadTag
step_into step kept (Some n) = in_name step n n.living >>= λ more. Ok (states.Begun kept (Some more))

-- a step of the queue of the last name
unfoldable pub put_step : (Incarnation → Result Incarnation WireFault) → State → Result State WireFault
put_step step states.Empty = Err BadTag
put_step step (states.Begun kept newest) = step_into step kept newest
put_step step (states.Whole kept) = Err BadTag

unfoldable pub put_end : State → Result State WireFault
put_end states.Empty = Err BadTag
put_end (states.Begun kept newest) = closed kept newest >>= λ whole. Ok (states.Whole whole)
put_end (states.Whole kept) = Err BadTag

unfoldable pub put : Part → State → Result State WireFault
put (parts.Start count last) state = put_start count last state
put (parts.Client client number one) state = put_client client number one state
put (parts.Name n) state = put_name n state
put (parts.Message m) state = put_step (with_message m) state
put (parts.Accepted a) state = put_step (with_accepted a) state
put parts.End state = put_end state

-- some parts in a row
unfoldable pub built : List Part → State → Result State WireFault
built [] state = Ok state
built (p ∷ ps) state = put p state >>= λ next. built ps next

-- ---- bytes

-- The parts that the bytes are, read and put up to their end; each takes one byte or more, so `fuel` is at most their number.
unfoldable pub read_into : ℕ → List ℕ → State → Result State WireFault
read_into fuel [] state = Ok state
read_into zero (b ∷ bytes) state = Err Truncated
read_into (suc fuel) (b ∷ bytes) state = part_at (b ∷ bytes) >>= λ p. put p.0 state >>= λ next. read_into fuel p.1 next

-- what a chunk of bytes makes of a state
unfoldable pub fed : List ℕ → State → Result State WireFault
fed [] state = Err Truncated
fed (version ∷ rest) state = if version == VERSION then read_into (length rest) rest state else Err OtherVersion

-- chunks one after another
unfoldable pub all_fed : List (List ℕ) → State → Result State WireFault
all_fed [] state = Ok state
all_fed (bytes ∷ more) state = fed bytes state >>= λ next. all_fed more next

-- the store, once its last part was put
abbrev pub whole_of : State → Option StoreKept
whole_of states.Empty = None
whole_of (states.Begun kept newest) = None
whole_of (states.Whole kept) = Some kept

abbrev pub or_truncated : Option StoreKept → Result StoreKept WireFault
or_truncated None = Err Truncated
or_truncated (Some kept) = Ok kept

abbrev pub store_of : State → Result StoreKept WireFault
store_of state = or_truncated (whole_of state)
