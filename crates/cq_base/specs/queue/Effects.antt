-- What an ask does to its queue, and what it is answered with.
use Rattle.std.specs.Prelude.{ℕ, ◌+◌, ◌*◌, ◌==◌, ◌&&◌, List, [], length, map, Bool, true, false, not, nat_lt, if◌then◌else◌, Option, None, Some}
use Rattle.std.specs.List.{filter, find}
use Rattle.cq_base.specs.declared.ask.Ask.{Ask}
use Rattle.cq_base.specs.declared.ask.Ask.TheVariants.{Create, Remove, Send, Receive, Delete, Change}
use Rattle.cq_base.specs.declared.limits.TheConstants.{SECOND, FLIGHT_LIMIT}
use Rattle.cq_base.specs.declared.reply.Refusal.TheVariants.{QueueDoesNotExist, QueueNameExists, QueueDeletedRecently, ReceiptHandleIsInvalid, MessageNotInflight, VisibilityBeyondLimit, MissingDedupId}
use Rattle.cq_base.specs.declared.reply.Reply.{Reply}
use Rattle.cq_base.specs.declared.reply.Reply.TheVariants.{Created, Removed, Sent, Received, Deleted, Changed, Counts, Refused}
use Rattle.cq_base.specs.queue.Asks.{Attributes, attributes_of, are_same, dedup_or_made, is_given_or_made}
use Rattle.cq_base.specs.queue.Outcomes.{Outcome, on}
use Rattle.cq_base.specs.Handle.{Handle}
use Rattle.cq_base.specs.queue.Lifetimes.{live, creations, removed_lately}
use Rattle.cq_base.specs.queue.Messages.{Message, messages, duplicate, is_sent, remaining}
use Rattle.cq_base.specs.queue.Receiving.{is_in_flight, to_hand, delivery_of}

-- What an ask does to its queue, and its reply.
pub record Effect : Type 0 where
  pub effective : Bool
  pub count : ℕ
  pub handed : List ℕ
  pub reply : Reply

-- it changes nothing
abbrev pub only_replies : Reply → Effect
only_replies reply = record { effective = false; count = 0; handed = []; reply = reply }

-- it takes effect, on the incarnation or the message of that number
abbrev pub takes_effect : ℕ → Reply → Effect
takes_effect count reply = record { effective = true; count = count; handed = []; reply = reply }

-- A creation of a queue that lives as that incarnation, with `own` for its attributes, changes nothing; with
-- another of either attribute it is refused (SQS API Reference, "CreateQueue").
abbrev pub create_again : ℕ → Attributes → Attributes → Effect
create_again incarnation own given = if are_same given own then only_replies (Created incarnation) else only_replies (Refused QueueNameExists)

-- A send is accepted with that sequence number, unless it repeats an earlier one: then it is answered
-- with that message's number, and nothing is added (SQS API Reference, "SendMessage",
-- `MessageDeduplicationId`).
abbrev pub send : ℕ → Option Outcome → Effect
send sequence None = takes_effect sequence (Sent sequence)
send sequence (Some earlier) = only_replies (Sent earlier.count)

-- The same of any send, if it has a deduplication id, given or made; else it is refused (SQS API Reference,
-- "SendMessage", `MessageDeduplicationId`; the refusal's name is this project's).
abbrev pub send_if : Bool → ℕ → Option Outcome → Effect
send_if has sequence earlier = if has then send sequence earlier else only_replies (Refused MissingDedupId)

-- a receive hands out these messages, each under the receipt of its next handing
abbrev pub hand : ℕ → List Message → Effect
hand incarnation handed = record {
  effective = false;
  count = 0;
  handed = map (λ x. x.sequence) handed;
  reply = Received (map (delivery_of incarnation) handed);
}

-- the message of that sequence number, if it isn't deleted
abbrev pub message_at : ℕ → List Message → Option Message
message_at sequence messages = find (λ x. x.sequence == sequence) messages

-- The receipt is one of this incarnation for a message that was sent to it.
abbrev pub is_own : ℕ → List Outcome → Handle → Bool
is_own incarnation outcomes receipt = receipt.incarnation == incarnation && is_sent receipt.sequence outcomes

-- The receipt fits a message: it is that of its last handing. None fits a message that was never handed
-- out.
abbrev pub fits : Handle → Message → Bool
fits receipt x = not (x.handings == 0) && receipt.handing == x.handings

-- A delete with a receipt of this message, which isn't deleted yet. It takes effect with the receipt of
-- the last handing, in flight or not; with an older one nothing changes (SQS API Reference,
-- "DeleteMessage").
abbrev pub delete_remaining : Handle → Message → Effect
delete_remaining receipt x =
    if nat_lt x.handings receipt.handing then only_replies (Refused ReceiptHandleIsInvalid)
    else if fits receipt x then takes_effect x.sequence (Deleted true)
    else only_replies (Deleted false)

-- A delete with a receipt of a message that was sent. If it is deleted already, nothing changes, whatever
-- the ordinal of the receipt.
abbrev pub delete_sent : Handle → Option Message → Effect
delete_sent receipt None = only_replies (Deleted false)
delete_sent receipt (Some x) = delete_remaining receipt x

-- a delete with any receipt
abbrev pub delete : ℕ → List Outcome → List Message → Handle → Effect
delete incarnation outcomes messages receipt =
    if is_own incarnation outcomes receipt then delete_sent receipt (message_at receipt.sequence messages)
    else only_replies (Refused ReceiptHandleIsInvalid)

-- A change of the timeout of a message that isn't deleted, to so many seconds from this moment. It takes
-- effect only with the receipt of its last handing, while the message is in flight, and not beyond the
-- limit (SQS API Reference, "ChangeMessageVisibility", `MessageNotInflight`, `ReceiptHandleIsInvalid`;
-- which refusal answers which case, and the limit's, are choices of this project).
abbrev pub change_remaining : ℕ → ℕ → Handle → Message → Effect
change_remaining moment visibility receipt x =
    if not (fits receipt x) then only_replies (Refused ReceiptHandleIsInvalid)
    else if not (is_in_flight moment x) then only_replies (Refused MessageNotInflight)
    else if nat_lt (x.handed_at + FLIGHT_LIMIT) (moment + SECOND * visibility) then only_replies (Refused VisibilityBeyondLimit)
    else takes_effect x.sequence Changed

-- a change with a receipt of a message that was sent: one that is deleted isn't in flight
abbrev pub change_sent : ℕ → ℕ → Handle → Option Message → Effect
change_sent moment visibility receipt None = only_replies (Refused MessageNotInflight)
change_sent moment visibility receipt (Some x) = change_remaining moment visibility receipt x

-- a change with any receipt
abbrev pub change : ℕ → ℕ → ℕ → List Outcome → List Message → Handle → Effect
change incarnation moment visibility outcomes messages receipt =
    if is_own incarnation outcomes receipt then change_sent moment visibility receipt (message_at receipt.sequence messages)
    else only_replies (Refused ReceiptHandleIsInvalid)

-- What an ask does to a queue that lives as that incarnation, with `own` for its attributes. The outcomes are
-- those on the incarnation. A removal takes effect at once (SQS API Reference, "DeleteQueue").
unfoldable pub effect_on : ℕ → Attributes → ℕ → List Outcome → Ask → Effect
effect_on incarnation own moment outcomes (Create queue visibility content) = create_again incarnation own (record { visibility = visibility; content = content })
effect_on incarnation own moment outcomes (Remove queue) = takes_effect incarnation Removed
effect_on incarnation own moment outcomes (Send queue group dedup body) = send_if (is_given_or_made own.content dedup) (length (messages outcomes) + 1) (duplicate (dedup_or_made body dedup) moment outcomes)
effect_on incarnation own moment outcomes (Receive queue size visibility) = hand incarnation (to_hand size moment (remaining own.visibility outcomes))
effect_on incarnation own moment outcomes (Delete queue receipt) = delete incarnation outcomes (remaining own.visibility outcomes) receipt
effect_on incarnation own moment outcomes (Change queue receipt visibility) = change incarnation moment visibility outcomes (remaining own.visibility outcomes) receipt

-- a creation of a queue that doesn't live, with this number for its incarnation
abbrev pub create : Bool → ℕ → Effect
create removed incarnation = if removed then only_replies (Refused QueueDeletedRecently) else takes_effect incarnation (Created incarnation)

-- What an ask does to a queue that doesn't live: a creation takes effect, unless the queue was removed
-- less than a minute before, and all else is refused. The outcomes are those about the queue.
unfoldable pub effect_off : ℕ → List Outcome → Ask → Effect
effect_off moment outcomes (Create queue visibility content) = create (removed_lately moment outcomes) (creations outcomes + 1)
effect_off moment outcomes (Remove queue) = only_replies (Refused QueueDoesNotExist)
effect_off moment outcomes (Send queue group dedup body) = only_replies (Refused QueueDoesNotExist)
effect_off moment outcomes (Receive queue size visibility) = only_replies (Refused QueueDoesNotExist)
effect_off moment outcomes (Delete queue receipt) = only_replies (Refused QueueDoesNotExist)
effect_off moment outcomes (Change queue receipt visibility) = only_replies (Refused QueueDoesNotExist)

-- the attributes of the queue that the creation began
abbrev pub attributes_by : Outcome → Attributes
attributes_by creation = attributes_of creation.entry.request.ask

-- its visibility timeout, in seconds
abbrev pub visibility_by : Outcome → ℕ
visibility_by creation = (attributes_by creation).visibility

-- the same, by the creation by which the queue lives, if any
abbrev pub effect_by : Option Outcome → ℕ → List Outcome → Ask → Effect
effect_by None moment outcomes ask = effect_off moment outcomes ask
effect_by (Some creation) moment outcomes ask = effect_on creation.count (attributes_by creation) moment (on creation.count outcomes) ask

-- What a fresh entry does, by the outcomes about its queue.
unfoldable pub effect_of : ℕ → List Outcome → Ask → Effect
effect_of moment outcomes ask = effect_by (live outcomes) moment outcomes ask

-- How many of the messages aren't in flight at that moment, whether their group is open or not, and how
-- many are (SQS API Reference, "GetQueueAttributes", `ApproximateNumberOfMessages` and
-- `ApproximateNumberOfMessagesNotVisible`; here the numbers are exact).
abbrev pub counts_of : ℕ → List Message → Reply
counts_of moment messages = Counts (length (filter (λ x. not (is_in_flight moment x)) messages)) (length (filter (is_in_flight moment) messages))

-- The answer to a query of a queue's counts, by the creation by which the queue lives and the outcomes about
-- it.
abbrev pub counts_by : Option Outcome → ℕ → List Outcome → Reply
counts_by None moment outcomes = Refused QueueDoesNotExist
counts_by (Some creation) moment outcomes = counts_of moment (remaining (visibility_by creation) (on creation.count outcomes))
