-- Which messages a receive hands out. The messages here are those of one incarnation as they stand,
-- in order of sending.
use Rattle.std.specs.Prelude.{ℕ, ◌+◌, ◌&&◌, List, take, Bool, not, nat_lt}
use Rattle.std.specs.List.{filter, flat_map, list_any}
use Rattle.std.specs.Str.{bytes_eq}
use Rattle.cq_base.specs.declared.reply.Delivery.{Delivery}
use Rattle.cq_base.specs.queue.Messages.{Message}

-- the two messages are of one group
abbrev pub is_same_group : Message → Message → Bool
is_same_group x y = bytes_eq x.group y.group

-- A message is in flight while the timeout of its last handing lasts (SQS Developer Guide, "Amazon SQS
-- visibility timeout").
abbrev pub is_in_flight : ℕ → Message → Bool
is_in_flight moment x = nat_lt moment x.until

-- y is of the group of x, and in flight
abbrev pub is_blocked_by : ℕ → Message → Message → Bool
is_blocked_by moment x y = is_same_group x y && is_in_flight moment y

-- The group of x is open: none of its messages is in flight (SQS Developer Guide, on the delivery logic
-- of FIFO queues).
abbrev pub is_open : ℕ → List Message → Message → Bool
is_open moment messages x = not (list_any (is_blocked_by moment x) messages)

-- y is of the group of x, and was sent before it
abbrev pub is_preceded_by : Message → Message → Bool
is_preceded_by x y = is_same_group x y && nat_lt y.sequence x.sequence

-- x is the oldest message of its group
abbrev pub is_oldest : List Message → Message → Bool
is_oldest messages x = not (list_any (is_preceded_by x) messages)

-- x is the oldest message of an open group
abbrev pub leads : ℕ → List Message → Message → Bool
leads moment messages x = is_oldest messages x && is_open moment messages x

-- the messages of the group of x, in order of sending
abbrev pub group_with : List Message → Message → List Message
group_with messages x = filter (is_same_group x) messages

-- The order in which messages are handed out: the open groups by their oldest message, and of each all
-- messages in order of sending before the next group (SQS Developer Guide, on the delivery logic of FIFO
-- queues: as many messages of one group as possible; that groups go by their oldest message is a choice
-- of this project).
unfoldable pub delivery_order : ℕ → List Message → List Message
delivery_order moment messages = flat_map (group_with messages) (filter (leads moment messages) messages)

-- what a receive of that size hands out at that moment
unfoldable pub to_hand : ℕ → ℕ → List Message → List Message
to_hand size moment messages = take size (delivery_order moment messages)

-- the message as it is handed out, with the receipt of its next handing
abbrev pub delivery_of : ℕ → Message → Delivery
delivery_of incarnation x = record {
  receipt = record { incarnation = incarnation; sequence = x.sequence; handing = x.handings + 1 };
  group = x.group;
  body = x.body;
}
