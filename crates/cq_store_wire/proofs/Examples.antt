-- Worked layouts, one for each part, the parts of a store, and what comes of parts that can't be next.
use Rattle.std.proofs.Common.{◌≡◌, ℕ, true, List, [], ◌∷◌, ◌++◌, Some, None, Err, refl}
use Rattle.std.specs.Prelude.{codes}
use Rattle.cq_base.specs.declared.reply.Delivery.{Delivery}
use Rattle.cq_base.specs.declared.reply.Reply.TheVariants.{Received, Sent}
use Rattle.cq_base.specs.queue.Incarnations.{Accepted, Incarnation}
use Rattle.cq_base.specs.queue.Messages.{Message}
use Rattle.cq_wire.specs.declared.fault.WireFault.TheVariants.{BadTag, BadNumber}
use Rattle.cq_wire.specs.Layout.{number32, number64, text, flag, listed, optional, receipt, reply}
use Rattle.cq_store_wire.specs.declared.part.Part.TheVariants as parts
use Rattle.cq_store_wire.specs.declared.build.State.TheVariants as states
use Rattle.cq_store_wire.specs.declared.reply.DeliveryRecord.{DeliveryRecord}
use Rattle.cq_store_wire.specs.declared.reply.Mention.{Mention}
use Rattle.cq_store_wire.specs.declared.reply.Mention.TheVariants.{First, Again}
use Rattle.cq_store_wire.specs.declared.reply.ReplyRecord.TheVariants as records
use Rattle.cq_store_wire.specs.Bodies.{all_recorded, all_resolved, and_body, mention as mentioned, reply_resolved, resolve, resolved}
use Rattle.cq_store_wire.specs.Building.{built, client_into, is_next_message, put, put_client, put_start, with_client, with_message, with_reply}
use Rattle.cq_store_wire.specs.Layout.{accepted, chunk, delivery_record, handings, mention, message, name, part, queue, reply_record, uses}
use Rattle.cq_store_wire.specs.Order.{all_clients, all_names, name_parts, parts_of}

-- the number 7 in four bytes, and 258 and 1 in eight
seven : List ℕ
seven = 7 ∷ 0 ∷ 0 ∷ 0 ∷ []

many : List ℕ
many = 2 ∷ 1 ∷ 0 ∷ 0 ∷ 0 ∷ 0 ∷ 0 ∷ 0 ∷ []

single : List ℕ
single = 1 ∷ 0 ∷ 0 ∷ 0 ∷ 0 ∷ 0 ∷ 0 ∷ 0 ∷ []

-- the text of one letter, a
letter : List ℕ
letter = 1 ∷ 0 ∷ 0 ∷ 0 ∷ 97 ∷ []

-- a message that was handed out once, at moment 258 up to 258, and the accepted send of it
one : Message
one = record { sequence = 1; group = codes "a"; body = codes "a"; handings = 1; handed_at = 258; until = 258 }

send : Accepted
send = record { dedup = codes "a"; moment = 258; sequence = 1 }

-- the queue to which both came
lived : Incarnation
lived = record { number = 1; attributes = record { visibility = 7; content = true }; sent = 1; messages = one ∷ []; accepted = send ∷ []; last = 258; used = 258 }

the_start : part (parts.Start 258 258) ≡ 0 ∷ (many ++ many)
unfolding part number64 many
the_start = refl

the_client : part (parts.Client 7 258 (records.Other (Sent 258))) ≡ 1 ∷ (seven ++ (many ++ (2 ∷ many)))
unfolding part reply_record reply number32 number64 seven many
the_client = refl

-- a kept delivery of the first handing of message 258, of a body that is mentioned so, or of this body
spelled : Mention → DeliveryRecord
spelled m = record { receipt = record { incarnation = 1; sequence = 258; handing = 1 }; group = codes "a"; body = m }

handed : List ℕ → Delivery
handed body = record { receipt = record { incarnation = 1; sequence = 258; handing = 1 }; group = codes "a"; body = body }

-- the client received the body a, and then the first body that was mentioned
the_received : part (parts.Client 7 258 (records.Received (spelled (First (codes "a")) ∷ spelled (Again 0) ∷ [])))
    ≡ 1 ∷ (seven ++ (many ++ (3 ∷ 2 ∷ 0 ∷ 0 ∷ 0 ∷ 0 ∷ 0 ∷ 0 ∷ 0 ∷ (single ++ (many ++ (single ++ (letter ++ (0 ∷ (letter ++ (single ++ (many ++ (single ++ (letter ++ (1 ∷ 0 ∷ 0 ∷ 0 ∷ 0 ∷ 0 ∷ 0 ∷ 0 ∷ 0 ∷ []))))))))))))))
unfolding part reply_record listed delivery_record mention receipt text number32 number64 spelled seven many single letter
the_received = refl

the_removed_name : part (parts.Name (record { name = codes "q.fifo"; creations = 1; removed = Some 258; living = None })) ≡ 2 ∷ 6 ∷ 0 ∷ 0 ∷ 0 ∷ 113 ∷ 46 ∷ 102 ∷ 105 ∷ 102 ∷ 111 ∷ (single ++ (1 ∷ (many ++ (0 ∷ []))))
unfolding part name text optional number32 number64 many single
the_removed_name = refl

the_queue : queue lived ≡ single ++ (seven ++ (1 ∷ (single ++ (many ++ many))))
unfolding queue uses flag number32 number64 lived seven many single
the_queue = refl

the_message : part (parts.Message one) ≡ 3 ∷ (single ++ (letter ++ (letter ++ (single ++ (many ++ many)))))
unfolding part message handings text number32 number64 one letter many single
the_message = refl

the_accepted : part (parts.Accepted send) ≡ 4 ∷ (letter ++ (many ++ single))
unfolding part accepted text number32 number64 send letter many single
the_accepted = refl

the_end : part parts.End ≡ 5 ∷ []
unfolding part
the_end = refl

-- a store with no client and no name, in one chunk
the_empty_store : chunk (parts_of (record { count = 258; last = 258; clients = []; queues = [] })) ≡ 1 ∷ 0 ∷ (many ++ (many ++ (5 ∷ [])))
unfolding chunk parts_of all_clients all_names part number64 many
the_empty_store = refl

-- a client and the queue, in their order
the_order : parts_of (record { count = 258; last = 258; clients = (7, record { number = 258; reply = Sent 1 }) ∷ []; queues = (codes "q.fifo", record { creations = 1; removed = None; living = Some lived }) ∷ [] })
    ≡ parts.Start 258 258 ∷ parts.Client 7 258 (records.Other (Sent 1))
    ∷ parts.Name (record { name = codes "q.fifo"; creations = 1; removed = None; living = Some (record { number = 1; attributes = record { visibility = 7; content = true }; sent = 1; messages = []; accepted = []; last = 258; used = 258 }) })
    ∷ parts.Message one ∷ parts.Accepted send ∷ parts.End ∷ []
unfolding parts_of all_clients all_names name_parts lived
the_order = refl

-- two clients received a, and the first one b, too: each body is spelled once
the_mentions : all_clients [] ((7, record { number = 258; reply = Received (handed (codes "a") ∷ handed (codes "b") ∷ handed (codes "a") ∷ []) }) ∷ (8, record { number = 258; reply = Received (handed (codes "a") ∷ []) }) ∷ [])
    ≡ parts.Client 7 258 (records.Received (spelled (First (codes "a")) ∷ spelled (First (codes "b")) ∷ spelled (Again 0) ∷ [])) ∷ parts.Client 8 258 (records.Received (spelled (Again 0) ∷ [])) ∷ []
unfolding all_clients all_recorded mentioned and_body handed spelled
the_mentions = refl

-- no body is spelled twice, and no number is that of none
no_body_twice : built (parts.Start 258 258 ∷ parts.Client 7 258 (records.Received (spelled (First (codes "a")) ∷ [])) ∷ parts.Client 8 258 (records.Received (spelled (First (codes "a")) ∷ [])) ∷ []) states.Empty ≡ Err BadNumber
unfolding built put put_start put_client client_into with_client with_reply reply_resolved all_resolved resolved resolve and_body spelled
no_body_twice = refl

no_number_of_none : built (parts.Start 258 258 ∷ parts.Client 7 258 (records.Received (spelled (First (codes "a")) ∷ spelled (Again 1) ∷ [])) ∷ []) states.Empty ≡ Err BadNumber
unfolding built put put_start put_client client_into with_client with_reply reply_resolved all_resolved resolved resolve and_body spelled
no_number_of_none = refl

-- no client comes before the start, and none twice
no_client_first : built (parts.Client 7 258 (records.Other (Sent 258)) ∷ []) states.Empty ≡ Err BadTag
unfolding built put put_client
no_client_first = refl

no_client_twice : built (parts.Start 258 258 ∷ parts.Client 7 258 (records.Other (Sent 258)) ∷ parts.Client 7 258 (records.Other (Sent 258)) ∷ []) states.Empty ≡ Err BadNumber
unfolding built put put_start put_client client_into with_client with_reply reply_resolved
no_client_twice = refl

-- no message comes twice, and none behind accepted sends
no_message_twice : with_message one (record { number = 1; attributes = record { visibility = 7; content = true }; sent = 1; messages = one ∷ []; accepted = []; last = 258; used = 258 }) ≡ Err BadNumber
unfolding with_message is_next_message one
no_message_twice = refl

no_message_behind_sends : with_message one lived ≡ Err BadTag
unfolding with_message lived
no_message_behind_sends = refl
