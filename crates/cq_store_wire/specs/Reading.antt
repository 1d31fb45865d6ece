-- Reading parts of a store from left to right, up to the first fault.
use Rattle.std.specs.Prelude.{ℕ, ◌==◌, ◌&&◌, List, [], ◌∷◌, Bool, Ok, Err, nat_le, nat_lt, if◌then◌else◌}
use Rattle.std.specs.Int.{w32, w64}
use Rattle.cq_base.specs.declared.limits.TheConstants.{HISTORY_LIMIT}
use Rattle.cq_base.specs.queue.Incarnations.{Accepted, Incarnation}
use Rattle.cq_base.specs.queue.Messages.{Message}
use Rattle.cq_wire.specs.declared.fault.WireFault.TheVariants.{Truncated, BadTag, BadNumber}
use Rattle.cq_wire.specs.Reading.{◌>>=◌, Reader, kept, number_at, moment_at, seconds_at, flag_at, name_at, id_at, body_at, optional_at, listed_at, receipt_at, reply_at}
use Rattle.cq_store_wire.specs.declared.part.NameRecord.{NameRecord}
use Rattle.cq_store_wire.specs.declared.part.Part.{Part}
use Rattle.cq_store_wire.specs.declared.part.Part.TheVariants as parts
use Rattle.cq_store_wire.specs.declared.reply.DeliveryRecord.{DeliveryRecord}
use Rattle.cq_store_wire.specs.declared.reply.Mention.{Mention}
use Rattle.cq_store_wire.specs.declared.reply.Mention.TheVariants.{First, Again}
use Rattle.cq_store_wire.specs.declared.reply.ReplyRecord.{ReplyRecord}
use Rattle.cq_store_wire.specs.declared.reply.ReplyRecord.TheVariants as records

-- ---- names and their queues

unfoldable pub uses_at : Reader (ℕ × (ℕ × ℕ))
uses_at bytes = do
  sent ← number_at w64 bytes
  used ← number_at w64 sent.1
  last ← moment_at used.1
  Ok ((sent.0, (used.0, last.0)), last.1)

abbrev pub bare : ℕ → ℕ → Bool → ℕ × (ℕ × ℕ) → Incarnation
bare number visibility content used = record {
  number = number;
  attributes = record { visibility = visibility; content = content };
  sent = used.0;
  messages = [];
  accepted = [];
  last = used.1.1;
  used = used.1.0;
}

unfoldable pub any_queue_at : Reader Incarnation
any_queue_at bytes = do
  number ← number_at w64 bytes
  visibility ← seconds_at number.1
  content ← flag_at visibility.1
  used ← uses_at content.1
  Ok (bare number.0 visibility.0 content.0 used.0, used.1)

-- it has a number, and isn't above the bounds
abbrev pub is_queue : Incarnation → Bool
is_queue q = nat_lt 0 q.number && (nat_le q.sent q.used && nat_le q.used HISTORY_LIMIT)

unfoldable pub queue_at : Reader Incarnation
queue_at bytes = do
  q ← any_queue_at bytes
  kept (is_queue q.0) BadNumber q

unfoldable pub name_record_at : Reader NameRecord
name_record_at bytes = do
  name ← name_at bytes
  creations ← number_at w64 name.1
  removed ← optional_at moment_at creations.1
  living ← optional_at queue_at removed.1
  Ok (record { name = name.0; creations = creations.0; removed = removed.0; living = living.0 }, living.1)

-- ---- messages and accepted sends

unfoldable pub handings_at : Reader (ℕ × (ℕ × ℕ))
handings_at bytes = do
  handings ← number_at w64 bytes
  handed_at ← moment_at handings.1
  until ← number_at w64 handed_at.1
  Ok ((handings.0, (handed_at.0, until.0)), until.1)

abbrev pub made : ℕ → List ℕ → List ℕ → ℕ × (ℕ × ℕ) → Message
made sequence group body handed = record {
  sequence = sequence;
  group = group;
  body = body;
  handings = handed.0;
  handed_at = handed.1.0;
  until = handed.1.1;
}

unfoldable pub any_message_at : Reader Message
any_message_at bytes = do
  sequence ← number_at w64 bytes
  group ← id_at sequence.1
  body ← body_at group.1
  handed ← handings_at body.1
  Ok (made sequence.0 group.0 body.0 handed.0, handed.1)

abbrev pub is_message : Message → Bool
is_message m = nat_lt 0 m.sequence && nat_le m.handings HISTORY_LIMIT

unfoldable pub message_at : Reader Message
message_at bytes = do
  m ← any_message_at bytes
  kept (is_message m.0) BadNumber m

unfoldable pub accepted_at : Reader Accepted
accepted_at bytes = do
  dedup ← id_at bytes
  moment ← moment_at dedup.1
  sequence ← number_at w64 moment.1
  Ok (record { dedup = dedup.0; moment = moment.0; sequence = sequence.0 }, sequence.1)

-- ---- kept replies

unfoldable pub first_at : Reader Mention
first_at bytes = do
  body ← body_at bytes
  Ok (First body.0, body.1)

unfoldable pub again_at : Reader Mention
again_at bytes = do
  number ← number_at w64 bytes
  Ok (Again number.0, number.1)

unfoldable pub mention_at : Reader Mention
mention_at [] = Err Truncated
mention_at (kind ∷ rest) = if kind == 0 then first_at rest else (if kind == 1 then again_at rest else Err BadTag)

unfoldable pub delivery_record_at : Reader DeliveryRecord
delivery_record_at bytes = do
  handle ← receipt_at bytes
  group ← id_at handle.1
  body ← mention_at group.1
  Ok (record { receipt = handle.0; group = group.0; body = body.0 }, body.1)

unfoldable pub received_at : Reader ReplyRecord
received_at bytes = do
  deliveries ← listed_at delivery_record_at bytes
  Ok (records.Received deliveries.0, deliveries.1)

unfoldable pub other_at : Reader ReplyRecord
other_at bytes = do
  one ← reply_at bytes
  Ok (records.Other one.0, one.1)

-- by the byte for the kind
unfoldable pub reply_record_at : Reader ReplyRecord
reply_record_at [] = Err Truncated
reply_record_at (kind ∷ rest) = if kind == 3 then received_at rest else other_at (kind ∷ rest)

-- ---- parts

unfoldable pub start_at : Reader Part
start_at bytes = do
  count ← number_at w64 bytes
  last ← moment_at count.1
  Ok (parts.Start count.0 last.0, last.1)

unfoldable pub client_at : Reader Part
client_at bytes = do
  client ← number_at w32 bytes
  number ← number_at w64 client.1
  one ← reply_record_at number.1
  Ok (parts.Client client.0 number.0 one.0, one.1)

unfoldable pub a_name_at : Reader Part
a_name_at bytes = do
  n ← name_record_at bytes
  Ok (parts.Name n.0, n.1)

unfoldable pub a_message_at : Reader Part
a_message_at bytes = do
  m ← message_at bytes
  Ok (parts.Message m.0, m.1)

unfoldable pub an_accepted_at : Reader Part
an_accepted_at bytes = do
  a ← accepted_at bytes
  Ok (parts.Accepted a.0, a.1)

-- by the byte for the kind
unfoldable pub part_at : Reader Part
part_at [] = Err Truncated
part_at (kind ∷ rest) =
    if kind == 0 then start_at rest
    else (if kind == 1 then client_at rest
    else (if kind == 2 then a_name_at rest
    else (if kind == 3 then a_message_at rest
    else (if kind == 4 then an_accepted_at rest
    else (if kind == 5 then Ok (parts.End, rest) else Err BadTag)))))
