-- Which parts have bytes: all that the types have, but that the queue of a name has no messages and no accepted sends, and
-- a reply with deliveries mentions their bodies.
use Rattle.std.specs.Prelude.{◌≡◌, ℕ, ◌<◌, ◌≤◌, ◌^◌, [], None, ⊤}
use Rattle.cq_base.specs.declared.limits.TheConstants.{HISTORY_LIMIT, MOMENT_LIMIT}
use Rattle.cq_base.specs.queue.Incarnations.{Accepted, Incarnation}
use Rattle.cq_base.specs.queue.Messages.{Message}
use Rattle.cq_base.specs.Handle.{IsHandle}
use Rattle.cq_wire.specs.Limits.{AreListed, IfThere, IsBody, IsId, IsName, IsReply, IsSeconds}
use Rattle.cq_store_wire.specs.declared.part.NameRecord.{NameRecord}
use Rattle.cq_store_wire.specs.declared.part.Part.{Part}
use Rattle.cq_store_wire.specs.declared.part.Part.TheVariants as parts
use Rattle.cq_store_wire.specs.declared.reply.DeliveryRecord.{DeliveryRecord}
use Rattle.cq_store_wire.specs.declared.reply.Mention.{Mention}
use Rattle.cq_store_wire.specs.declared.reply.Mention.TheVariants.{First, Again}
use Rattle.cq_store_wire.specs.declared.reply.ReplyRecord.{ReplyRecord}
use Rattle.cq_store_wire.specs.declared.reply.ReplyRecord.TheVariants as records
use Rattle.cq_store_wire.specs.Bodies.{deliveries_in}

abbrev pub IsMoment : ℕ → Type 0
IsMoment n = n ≤ MOMENT_LIMIT

-- a queue without messages and accepted sends
pub record IsBare (q : Incarnation) : Type 0 where
  pub number : (0 < q.number) × (q.number < 2 ^ 64)
  pub visibility : IsSeconds q.attributes.visibility
  pub sent : q.sent ≤ q.used
  pub used : q.used ≤ HISTORY_LIMIT
  pub last : IsMoment q.last
  pub messages : q.messages ≡ []
  pub accepted : q.accepted ≡ []

abbrev pub IsNameRecord : NameRecord → Type 0
IsNameRecord n = IsName n.name × ((n.creations < 2 ^ 64) × (IfThere IsMoment n.removed × IfThere IsBare n.living))

pub record IsMessage (m : Message) : Type 0 where
  pub sequence : (0 < m.sequence) × (m.sequence < 2 ^ 64)
  pub group : IsId m.group
  pub body : IsBody m.body
  pub handings : m.handings ≤ HISTORY_LIMIT
  pub handed_at : IsMoment m.handed_at
  pub until : m.until < 2 ^ 64

abbrev pub IsAccepted : Accepted → Type 0
IsAccepted a = IsId a.dedup × (IsMoment a.moment × (a.sequence < 2 ^ 64))

abbrev pub IsMention : Mention → Type 0
IsMention (First body) = IsBody body
IsMention (Again number) = number < 2 ^ 64

abbrev pub IsDeliveryRecord : DeliveryRecord → Type 0
IsDeliveryRecord d = IsHandle d.receipt × (IsId d.group × IsMention d.body)

abbrev pub IsReplyRecord : ReplyRecord → Type 0
IsReplyRecord (records.Received deliveries) = AreListed IsDeliveryRecord deliveries
IsReplyRecord (records.Other one) = IsReply one × (deliveries_in one ≡ None)

abbrev pub IsPart : Part → Type 0
IsPart (parts.Start count last) = (count < 2 ^ 64) × IsMoment last
IsPart (parts.Client client number one) = (client < 2 ^ 32) × ((number < 2 ^ 64) × IsReplyRecord one)
IsPart (parts.Name n) = IsNameRecord n
IsPart (parts.Message m) = IsMessage m
IsPart (parts.Accepted a) = IsAccepted a
IsPart parts.End = ⊤
