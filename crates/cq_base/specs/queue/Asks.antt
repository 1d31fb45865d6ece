-- The parts of an ask that the rules of the queues speak of.
use mathlib.Core.Bool.{beq}
use Rattle.std.specs.Prelude.{ℕ, ◌==◌, ◌&&◌, List, [], Bool, true, false, Option, Some, None}
use Rattle.cq_base.specs.declared.ask.Ask.{Ask}
use Rattle.cq_base.specs.declared.ask.Ask.TheVariants.{Create, Remove, Send, Receive, Delete, Change}
use Rattle.cq_base.specs.Texts.{made_id}

-- the queue that an ask names
abbrev pub queue_of : Ask → List ℕ
queue_of (Create queue visibility content) = queue
queue_of (Remove queue) = queue
queue_of (Send queue group dedup body) = queue
queue_of (Receive queue size visibility) = queue
queue_of (Delete queue receipt) = queue
queue_of (Change queue receipt visibility) = queue

-- whether it is a creation
abbrev pub is_create : Ask → Bool
is_create (Create queue visibility content) = true
is_create other = false

-- whether it is a removal
abbrev pub is_remove : Ask → Bool
is_remove (Remove queue) = true
is_remove other = false

-- whether it is a send
abbrev pub is_send : Ask → Bool
is_send (Send queue group dedup body) = true
is_send other = false

-- whether it is a receive
abbrev pub is_receive : Ask → Bool
is_receive (Receive queue size visibility) = true
is_receive other = false

-- whether it is a delete
abbrev pub is_delete : Ask → Bool
is_delete (Delete queue receipt) = true
is_delete other = false

-- whether it is a change of a timeout
abbrev pub is_change : Ask → Bool
is_change (Change queue receipt visibility) = true
is_change other = false

-- The attributes of a queue.
pub record Attributes : Type 0 where
  -- the visibility timeout, in seconds
  pub visibility : ℕ
  -- whether a send that has no deduplication id gets one that is made of its body
  pub content : Bool

-- the attributes that a creation gives its queue
abbrev pub attributes_of : Ask → Attributes
attributes_of (Create queue visibility content) = record { visibility = visibility; content = content }
attributes_of other = record { visibility = 0; content = false }

-- both attributes are the same
abbrev pub are_same : Attributes → Attributes → Bool
are_same x y = x.visibility == y.visibility && beq x.content y.content

-- the message group id of a send
abbrev pub group_of : Ask → List ℕ
group_of (Send queue group dedup body) = group
group_of other = []

-- the deduplication id that counts: the one that was given, or else the one that is made of the body
abbrev pub dedup_or_made : List ℕ → Option (List ℕ) → List ℕ
dedup_or_made body None = made_id body
dedup_or_made body (Some dedup) = dedup

-- the message deduplication id of a send, given or made
abbrev pub dedup_of : Ask → List ℕ
dedup_of (Send queue group dedup body) = dedup_or_made body dedup
dedup_of other = []

-- an id was given, or the queue makes one
abbrev pub is_given_or_made : Bool → Option (List ℕ) → Bool
is_given_or_made content None = content
is_given_or_made content (Some dedup) = true

-- The send has a message deduplication id, given or made, on a queue of these attributes (SQS API Reference,
-- "SendMessage", `MessageDeduplicationId`).
abbrev pub has_dedup : Attributes → Ask → Bool
has_dedup own (Send queue group dedup body) = is_given_or_made own.content dedup
has_dedup own other = false

-- the body of a send
abbrev pub body_of : Ask → List ℕ
body_of (Send queue group dedup body) = body
body_of other = []

-- the timeout v, or else the one that the queue gives
abbrev pub timeout_or : ℕ → Option ℕ → ℕ
timeout_or default None = default
timeout_or default (Some v) = v

-- The visibility timeout that an ask gives a message, in seconds: that of a receive, or else the queue's
-- (SQS API Reference, "ReceiveMessage", `VisibilityTimeout`), and that of a change (SQS API Reference,
-- "ChangeMessageVisibility").
abbrev pub timeout_of : ℕ → Ask → ℕ
timeout_of default (Receive queue size visibility) = timeout_or default visibility
timeout_of default (Change queue receipt visibility) = visibility
timeout_of default other = default
