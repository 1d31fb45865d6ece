-- The lines that answers are told in: JSON with no space, the keys of an object in the order of their
-- bytes, and a line feed at the end.
use Rattle.std.specs.Prelude.{ℕ, List, [], ◌∷◌, ◌++◌, Bool, codes, map, if◌then◌else◌}
use Rattle.serde_json.specs.Data.{Data, boolean, number, unsigned, string, array, object, no_members, member}
use Rattle.serde_json.specs.View.{items_of}
use Rattle.serde_json.specs.Written.{compact_text}
use Rattle.cq_base.specs.Handle.{handle_text}
use Rattle.cq_base.specs.Refusals.{refusal_code, refusal_name}
use Rattle.cq_base.specs.declared.reply.Delivery.{Delivery}
use Rattle.cq_base.specs.declared.reply.Reply.{Reply}
use Rattle.cq_base.specs.declared.reply.Reply.TheVariants.{Created, Removed, Sent, Received, Deleted, Changed, Counts, Refused}
use Rattle.cq_chain.specs.declared.message.Answer.{Answer}

-- a message as it is handed out
abbrev pub delivery_data : Delivery → Data
delivery_data d = object
    (member (codes "body") (string d.body)
    (member (codes "group") (string d.group)
    (member (codes "receipt") (string (handle_text d.receipt)) no_members)))

-- the messages, in order
abbrev pub deliveries_data : List Delivery → Data
deliveries_data ds = array (items_of (map delivery_data ds))

-- a queue lives, under this incarnation number
abbrev pub created_data : ℕ → Data
created_data incarnation = object
    (member (codes "incarnation") (number (unsigned incarnation))
    (member (codes "kind") (string (codes "created")) no_members))

-- a queue is gone
abbrev pub removed_data : Data
removed_data = object (member (codes "kind") (string (codes "removed")) no_members)

-- a message is in its queue, under this sequence number
abbrev pub sent_data : ℕ → Data
sent_data sequence = object
    (member (codes "kind") (string (codes "sent"))
    (member (codes "sequence") (number (unsigned sequence)) no_members))

-- these messages were handed out
abbrev pub received_data : Data → Data
received_data messages = object
    (member (codes "kind") (string (codes "received"))
    (member (codes "messages") messages no_members))

-- whether a delete took effect
abbrev pub deleted_data : Bool → Data
deleted_data removed = object
    (member (codes "kind") (string (codes "deleted"))
    (member (codes "removed") (boolean removed) no_members))

-- a message has its new timeout
abbrev pub changed_data : Data
changed_data = object (member (codes "kind") (string (codes "changed")) no_members)

-- so many messages aren't in flight, and so many are
abbrev pub counts_data : ℕ → ℕ → Data
counts_data visible in_flight = object
    (member (codes "in_flight") (number (unsigned in_flight))
    (member (codes "kind") (string (codes "counts"))
    (member (codes "visible") (number (unsigned visible)) no_members)))

-- a request was refused, under this code and name
abbrev pub refusal_data : ℕ → List ℕ → Data
refusal_data code name = object
    (member (codes "code") (number (unsigned code))
    (member (codes "kind") (string (codes "refused"))
    (member (codes "name") (string name) no_members)))

-- a reply, by its kind
abbrev pub reply_data : Reply → Data
reply_data (Created incarnation) = created_data incarnation
reply_data Removed = removed_data
reply_data (Sent sequence) = sent_data sequence
reply_data (Received deliveries) = received_data (deliveries_data deliveries)
reply_data (Deleted removed) = deleted_data removed
reply_data Changed = changed_data
reply_data (Counts visible in_flight) = counts_data visible in_flight
reply_data (Refused refusal) = refusal_data (refusal_code refusal) (refusal_name refusal)

-- an answer to a request, with the number that its client gave it, given at the line with this number; its reply
-- is told by that data
abbrev pub request_data : ℕ → Answer → Data → Data
request_data line answer reply = object
    (member (codes "client") (number (unsigned answer.client))
    (member (codes "length") (number (unsigned answer.length))
    (member (codes "line") (number (unsigned line))
    (member (codes "number") (number (unsigned answer.number))
    (member (codes "reply") reply no_members)))))

-- the same of an answer to a query, with its tag
abbrev pub query_data : ℕ → Answer → Data → Data
query_data line answer reply = object
    (member (codes "client") (number (unsigned answer.client))
    (member (codes "length") (number (unsigned answer.length))
    (member (codes "line") (number (unsigned line))
    (member (codes "reply") reply
    (member (codes "tag") (number (unsigned answer.number)) no_members)))))

-- the same, by what is answered
abbrev pub told_data : ℕ → Answer → Data → Data
told_data line answer reply = if answer.is_query then query_data line answer reply else request_data line answer reply

-- an answer, given at the line with this number
unfoldable pub answer_data : ℕ → Answer → Data
answer_data line answer = told_data line answer (reply_data answer.reply)

-- the line with this number was refused, under this code and name
unfoldable pub refused_data : ℕ → ℕ → List ℕ → Data
refused_data line code name = object
    (member (codes "line") (number (unsigned line))
    (member (codes "name") (string name)
    (member (codes "refused") (number (unsigned code)) no_members)))

-- the line that tells an answer
abbrev pub answer_text : ℕ → Answer → List ℕ
answer_text line answer = compact_text (answer_data line answer) ++ 10 ∷ []

-- the line that tells a refusal
abbrev pub refused_text : ℕ → ℕ → List ℕ → List ℕ
refused_text line code name = compact_text (refused_data line code name) ++ 10 ∷ []
