-- The bytes of each part of a store.
use Rattle.std.specs.Prelude.{ℕ, List, [], ◌∷◌, ◌++◌}
use Rattle.std.specs.List.{flat_map}
use Rattle.cq_base.specs.queue.Incarnations.{Accepted, Incarnation}
use Rattle.cq_base.specs.queue.Messages.{Message}
use Rattle.cq_wire.specs.declared.version.TheConstants.{VERSION}
use Rattle.cq_wire.specs.Layout.{number32, number64, text, flag, optional, listed, receipt, reply}
use Rattle.cq_store_wire.specs.declared.part.NameRecord.{NameRecord}
use Rattle.cq_store_wire.specs.declared.part.Part.{Part}
use Rattle.cq_store_wire.specs.declared.part.Part.TheVariants as parts
use Rattle.cq_store_wire.specs.declared.reply.DeliveryRecord.{DeliveryRecord}
use Rattle.cq_store_wire.specs.declared.reply.Mention.{Mention}
use Rattle.cq_store_wire.specs.declared.reply.Mention.TheVariants.{First, Again}
use Rattle.cq_store_wire.specs.declared.reply.ReplyRecord.{ReplyRecord}
use Rattle.cq_store_wire.specs.declared.reply.ReplyRecord.TheVariants as records

-- how often a queue was used: accepted sends, sends and receives, and the last moment
unfoldable pub uses : Incarnation → List ℕ
uses q = number64 q.sent ++ (number64 q.used ++ number64 q.last)

-- a queue but for its messages and accepted sends
unfoldable pub queue : Incarnation → List ℕ
queue q = number64 q.number ++ (number32 q.attributes.visibility ++ (flag q.attributes.content ++ uses q))

unfoldable pub name : NameRecord → List ℕ
name n = text n.name ++ (number64 n.creations ++ (optional number64 n.removed ++ optional queue n.living))

-- how often a message was handed out, when last, and up to when it is hidden
unfoldable pub handings : Message → List ℕ
handings m = number64 m.handings ++ (number64 m.handed_at ++ number64 m.until)

unfoldable pub message : Message → List ℕ
message m = number64 m.sequence ++ (text m.group ++ (text m.body ++ handings m))

unfoldable pub accepted : Accepted → List ℕ
accepted a = text a.dedup ++ (number64 a.moment ++ number64 a.sequence)

-- a body where it is mentioned first, and its number where it is mentioned again
unfoldable pub mention : Mention → List ℕ
mention (First body) = 0 ∷ text body
mention (Again number) = 1 ∷ number64 number

unfoldable pub delivery_record : DeliveryRecord → List ℕ
delivery_record d = receipt d.receipt ++ (text d.group ++ mention d.body)

-- a reply as it is everywhere, but for its bodies
unfoldable pub reply_record : ReplyRecord → List ℕ
reply_record (records.Received deliveries) = 3 ∷ listed delivery_record deliveries
reply_record (records.Other one) = reply one

-- a byte for the kind, and what it has
unfoldable pub part : Part → List ℕ
part (parts.Start count last) = 0 ∷ (number64 count ++ number64 last)
part (parts.Client client number one) = 1 ∷ (number32 client ++ (number64 number ++ reply_record one))
part (parts.Name n) = 2 ∷ name n
part (parts.Message m) = 3 ∷ message m
part (parts.Accepted a) = 4 ∷ accepted a
part parts.End = 5 ∷ []

-- some parts in a row, behind the version
unfoldable pub chunk : List Part → List ℕ
chunk some = VERSION ∷ flat_map part some
