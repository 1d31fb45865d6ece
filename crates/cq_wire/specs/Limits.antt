-- Which values have bytes: all that the types have.
use Rattle.std.specs.Prelude.{◌≡◌, ℕ, ◌<◌, ◌≤◌, ◌^◌, List, length, true, Option, Some, None, ⊤}
use Rattle.std.specs.Str.{is_utf8}
use Rattle.std.specs.List.{AllByRecursion}
use Rattle.cq_base.specs.declared.ask.Ask.{Ask}
use Rattle.cq_base.specs.declared.ask.Ask.TheVariants.{Create, Remove, Send, Receive, Delete, Change}
use Rattle.cq_base.specs.declared.ask.Request.{Request}
use Rattle.cq_base.specs.declared.ask.Entry.{Entry}
use Rattle.cq_base.specs.declared.ask.Query.{Query}
use Rattle.cq_base.specs.declared.reply.Delivery.{Delivery}
use Rattle.cq_base.specs.declared.reply.Reply.{Reply}
use Rattle.cq_base.specs.declared.reply.Reply.TheVariants.{Created, Removed, Sent, Received, Deleted, Changed, Counts, Refused}
use Rattle.cq_base.specs.declared.limits.TheConstants.{MOMENT_LIMIT, SECONDS_LIMIT, BATCH_LIMIT}
use Rattle.cq_base.specs.Handle.{IsHandle}
use Rattle.cq_base.specs.Texts.{is_queue_name, is_id, is_body}

abbrev pub IsName : List ℕ → Type 0
IsName t = (is_utf8 t ≡ true) × (is_queue_name t ≡ true)

abbrev pub IsId : List ℕ → Type 0
IsId t = (is_utf8 t ≡ true) × (is_id t ≡ true)

abbrev pub IsBody : List ℕ → Type 0
IsBody t = (is_utf8 t ≡ true) × (is_body t ≡ true)

-- a server's number
abbrev pub IsServer : ℕ → Type 0
IsServer n = (1 ≤ n) × (n < 2 ^ 32)

abbrev pub IsSeconds : ℕ → Type 0
IsSeconds n = n ≤ SECONDS_LIMIT

abbrev pub IsBatch : ℕ → Type 0
IsBatch n = (1 ≤ n) × (n ≤ BATCH_LIMIT)

-- that of the value, if there is one
abbrev pub IfThere : {A : Type 0} → (A → Type 0) → Option A → Type 0
IfThere P None = ⊤
IfThere P (Some x) = P x

abbrev pub IsAsk : Ask → Type 0
IsAsk (Create queue visibility content) = IsName queue × IsSeconds visibility
IsAsk (Remove queue) = IsName queue
IsAsk (Send queue group dedup body) = IsName queue × (IsId group × (IfThere IsId dedup × IsBody body))
IsAsk (Receive queue size visibility) = IsName queue × (IsBatch size × IfThere IsSeconds visibility)
IsAsk (Delete queue handle) = IsName queue × IsHandle handle
IsAsk (Change queue handle visibility) = IsName queue × (IsHandle handle × IsSeconds visibility)

abbrev pub IsRequest : Request → Type 0
IsRequest r = (r.client < 2 ^ 32) × ((r.number < 2 ^ 64) × IsAsk r.ask)

abbrev pub IsEntry : Entry → Type 0
IsEntry e = (e.moment ≤ MOMENT_LIMIT) × IsRequest e.request

abbrev pub IsQuery : Query → Type 0
IsQuery q = (q.client < 2 ^ 32) × ((q.tag < 2 ^ 64) × IsName q.queue)

abbrev pub IsDelivery : Delivery → Type 0
IsDelivery d = IsHandle d.receipt × (IsId d.group × IsBody d.body)

abbrev pub AreListed : {A : Type 0} → (A → Type 0) → List A → Type 0
AreListed P xs = (length xs < 2 ^ 64) × AllByRecursion P xs

abbrev pub IsReply : Reply → Type 0
IsReply (Created incarnation) = incarnation < 2 ^ 64
IsReply Removed = ⊤
IsReply (Sent sequence) = sequence < 2 ^ 64
IsReply (Received deliveries) = AreListed IsDelivery deliveries
IsReply (Deleted removed) = ⊤
IsReply Changed = ⊤
IsReply (Counts visible in_flight) = (visible < 2 ^ 64) × (in_flight < 2 ^ 64)
IsReply (Refused refusal) = ⊤
