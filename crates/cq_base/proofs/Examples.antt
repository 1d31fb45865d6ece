-- Worked lists of entries, each computed by the definitions to the replies that the rules of the queues
-- give. The replies were worked out by hand.
use Rattle.std.proofs.Common.{◌≡◌, ℕ, suc, List, [], ◌∷◌, map, take, None, Some, true, false, codes, refl}
use Rattle.cq_base.specs.declared.ask.Ask.{Ask}
use Rattle.cq_base.specs.declared.ask.Ask.TheVariants.{Create, Remove, Send, Receive, Delete, Change}
use Rattle.cq_base.specs.declared.ask.Entry.{Entry}
use Rattle.cq_base.specs.declared.reply.Delivery.{Delivery}
use Rattle.cq_base.specs.declared.reply.Refusal.TheVariants.{QueueDoesNotExist, QueueNameExists, QueueDeletedRecently, ReceiptHandleIsInvalid, MessageNotInflight, VisibilityBeyondLimit, StaleNumber}
use Rattle.cq_base.specs.declared.reply.Reply.{Reply}
use Rattle.cq_base.specs.declared.reply.Reply.TheVariants.{Created, Removed, Sent, Received, Deleted, Changed, Counts, Refused}
use Rattle.cq_base.specs.queue.Clients.{of_client, is_fresh, is_stale, kept_reply}
use Rattle.cq_base.specs.queue.Effects.{effect_on, effect_off, effect_of}
use Rattle.cq_base.specs.queue.Outcomes.{about, on}
use Rattle.cq_base.specs.Handle.{Handle}
use Rattle.cq_base.specs.queue.History.{fresh_outcome, reply_again, outcome_of, history, last_moment, counts_after}
use Rattle.cq_base.specs.queue.Lifetimes.{live, creations, removed_lately}
use Rattle.cq_base.specs.queue.Messages.{messages, duplicate, is_sent, hands, touches, until, is_deleted, message_of, remaining}
use Rattle.cq_base.specs.queue.Receiving.{delivery_order, to_hand}

-- the entry of a client's request
abbrev pub entry : ℕ → ℕ → ℕ → Ask → Entry
entry moment client number ask = record { moment = moment; request = record { client = client; number = number; ask = ask } }

-- client 1's asks, each at its moment, under the numbers from this one on
abbrev pub numbered : ℕ → List (ℕ × Ask) → List Entry
numbered number [] = []
numbered number (a ∷ asks) = entry a.0 1 number a.1 ∷ numbered (suc number) asks

abbrev pub name : List ℕ
name = codes "q.fifo"

-- the asks after the creation of the queue at moment 0, with a visibility timeout of 30 s
abbrev pub created : List (ℕ × Ask) → List Entry
created asks = entry 0 1 1 (Create name 30 false) ∷ numbered 2 asks

abbrev pub create : ℕ → ℕ → ℕ × Ask
create moment visibility = (moment, Create name visibility false)

abbrev pub remove : ℕ → ℕ × Ask
remove moment = (moment, Remove name)

-- a body is its own deduplication id
abbrev pub send : ℕ → List ℕ → List ℕ → ℕ × Ask
send moment group body = (moment, Send name group (Some body) body)

-- a send whose body is another text than its deduplication id
abbrev send_as : ℕ → List ℕ → List ℕ → List ℕ → ℕ × Ask
send_as moment group dedup body = (moment, Send name group (Some dedup) body)

abbrev pub receive : ℕ → ℕ → ℕ × Ask
receive moment size = (moment, Receive name size None)

abbrev receive_for : ℕ → ℕ → ℕ → ℕ × Ask
receive_for moment size visibility = (moment, Receive name size (Some visibility))

-- the receipt of that incarnation's message with that number, for that handing of it
abbrev receipt_of : ℕ → ℕ → ℕ → Handle
receipt_of incarnation sequence handing = record { incarnation = incarnation; sequence = sequence; handing = handing }

-- the same of the first incarnation
abbrev pub receipt : ℕ → ℕ → Handle
receipt sequence handing = receipt_of 1 sequence handing

abbrev pub delete : ℕ → ℕ → ℕ → ℕ × Ask
delete moment sequence handing = (moment, Delete name (receipt sequence handing))

abbrev pub change : ℕ → ℕ → ℕ → ℕ → ℕ × Ask
change moment sequence handing visibility = (moment, Change name (receipt sequence handing) visibility)

-- the replies to all the entries
abbrev pub replies : List Entry → List Reply
replies entries = map (λ f. f.reply) (history entries)

-- one message as that incarnation hands it out
abbrev handed_by : ℕ → List ℕ → List ℕ → ℕ → ℕ → Delivery
handed_by incarnation group body sequence handing = record { receipt = receipt_of incarnation sequence handing; group = group; body = body }

-- the same of the first incarnation
abbrev pub handed : List ℕ → List ℕ → ℕ → ℕ → Delivery
handed group body sequence handing = handed_by 1 group body sequence handing

abbrev pub nothing : Reply
nothing = Received []

-- A deduplication id counts for less than five minutes from its accepted send, in the whole queue, and a
-- delete of the message does not end them.
abbrev five_minutes_asks : List (ℕ × Ask)
five_minutes_asks =
    send 0 (codes "a") (codes "x")
    ∷ receive 1 1
    ∷ delete 2 1 1
    ∷ send 299999 (codes "a") (codes "x")
    ∷ receive 299999 1
    ∷ send 300000 (codes "a") (codes "x")
    ∷ send 300000 (codes "b") (codes "x")
    ∷ receive 300000 10
    ∷ []

abbrev five_minutes_replies : List Reply
five_minutes_replies =
    Created 1
    ∷ Sent 1
    ∷ Received (handed (codes "a") (codes "x") 1 1 ∷ [])
    ∷ Deleted true
    ∷ Sent 1
    ∷ nothing
    ∷ Sent 2
    ∷ Sent 2
    ∷ Received (handed (codes "a") (codes "x") 2 1 ∷ [])
    ∷ []

five_minutes : replies (created five_minutes_asks) ≡ five_minutes_replies
unfolding about on of_client is_fresh is_stale kept_reply live creations removed_lately messages duplicate is_sent hands touches until is_deleted message_of remaining delivery_order to_hand effect_on effect_off effect_of fresh_outcome reply_again outcome_of history
five_minutes = refl

-- A group of which a message is in flight is closed.
abbrev groups_asks : List (ℕ × Ask)
groups_asks =
    send 0 (codes "a") (codes "a1")
    ∷ send 0 (codes "a") (codes "a2")
    ∷ send 0 (codes "a") (codes "a3")
    ∷ send 0 (codes "b") (codes "b1")
    ∷ receive 1 2
    ∷ receive 2 2
    ∷ receive 3 2
    ∷ delete 4 1 1
    ∷ receive 5 10
    ∷ delete 6 2 1
    ∷ receive 7 10
    ∷ []

abbrev groups_replies : List Reply
groups_replies =
    Created 1
    ∷ Sent 1
    ∷ Sent 2
    ∷ Sent 3
    ∷ Sent 4
    ∷ Received (handed (codes "a") (codes "a1") 1 1 ∷ handed (codes "a") (codes "a2") 2 1 ∷ [])
    ∷ Received (handed (codes "b") (codes "b1") 4 1 ∷ [])
    ∷ nothing
    ∷ Deleted true
    ∷ nothing
    ∷ Deleted true
    ∷ Received (handed (codes "a") (codes "a3") 3 1 ∷ [])
    ∷ []

groups : replies (created groups_asks) ≡ groups_replies
unfolding about on of_client is_fresh is_stale kept_reply live creations removed_lately messages duplicate is_sent hands touches until is_deleted message_of remaining delivery_order to_hand effect_on effect_off effect_of fresh_outcome reply_again outcome_of history
groups = refl

-- Before the first delete one message waits, and three are in flight.
groups_counts : counts_after (created (take 7 groups_asks)) name ≡ Counts 1 3
unfolding about on of_client is_fresh is_stale kept_reply live creations removed_lately messages duplicate is_sent hands touches until is_deleted message_of remaining delivery_order to_hand effect_on effect_off effect_of fresh_outcome reply_again outcome_of history last_moment counts_after
groups_counts = refl

-- A group opens again when the timeouts of its messages end.
abbrev expiry_asks : List (ℕ × Ask)
expiry_asks =
    send 0 (codes "a") (codes "a1")
    ∷ send 0 (codes "a") (codes "a2")
    ∷ send 0 (codes "a") (codes "a3")
    ∷ receive 1000 2
    ∷ delete 2000 2 1
    ∷ receive 30999 10
    ∷ receive 31000 10
    ∷ []

abbrev expiry_replies : List Reply
expiry_replies =
    Created 1
    ∷ Sent 1
    ∷ Sent 2
    ∷ Sent 3
    ∷ Received (handed (codes "a") (codes "a1") 1 1 ∷ handed (codes "a") (codes "a2") 2 1 ∷ [])
    ∷ Deleted true
    ∷ nothing
    ∷ Received (handed (codes "a") (codes "a1") 1 2 ∷ handed (codes "a") (codes "a3") 3 1 ∷ [])
    ∷ []

expiry : replies (created expiry_asks) ≡ expiry_replies
unfolding about on of_client is_fresh is_stale kept_reply live creations removed_lately messages duplicate is_sent hands touches until is_deleted message_of remaining delivery_order to_hand effect_on effect_off effect_of fresh_outcome reply_again outcome_of history
expiry = refl

-- A delete takes effect with the receipt of the last handing alone, also after its timeout.
abbrev old_receipts_asks : List (ℕ × Ask)
old_receipts_asks =
    send 0 (codes "a") (codes "x")
    ∷ receive_for 0 1 10
    ∷ receive_for 10000 1 10
    ∷ delete 10000 1 3
    ∷ delete 10000 1 1
    ∷ delete 20000 1 2
    ∷ delete 20000 1 2
    ∷ delete 20000 1 9
    ∷ delete 20000 2 1
    ∷ []

abbrev old_receipts_replies : List Reply
old_receipts_replies =
    Created 1
    ∷ Sent 1
    ∷ Received (handed (codes "a") (codes "x") 1 1 ∷ [])
    ∷ Received (handed (codes "a") (codes "x") 1 2 ∷ [])
    ∷ Refused ReceiptHandleIsInvalid
    ∷ Deleted false
    ∷ Deleted true
    ∷ Deleted false
    ∷ Deleted false
    ∷ Refused ReceiptHandleIsInvalid
    ∷ []

old_receipts : replies (created old_receipts_asks) ≡ old_receipts_replies
unfolding about on of_client is_fresh is_stale kept_reply live creations removed_lately messages duplicate is_sent hands touches until is_deleted message_of remaining delivery_order to_hand effect_on effect_off effect_of fresh_outcome reply_again outcome_of history
old_receipts = refl

-- A change counts from its own moment, and ends twelve hours after the last handing at the latest.
abbrev change_of_timeouts_asks : List (ℕ × Ask)
change_of_timeouts_asks =
    send 0 (codes "a") (codes "x")
    ∷ send 0 (codes "a") (codes "y")
    ∷ receive 0 1
    ∷ change 5 1 1 0
    ∷ receive_for 5 1 43200
    ∷ change 5 1 2 43200
    ∷ change 6 1 2 43200
    ∷ change 6 1 2 43199
    ∷ change 6 1 1 1
    ∷ change 6 2 1 1
    ∷ change 43199006 1 2 10
    ∷ delete 43199006 1 2
    ∷ change 43199006 1 2 10
    ∷ []

abbrev change_of_timeouts_replies : List Reply
change_of_timeouts_replies =
    Created 1
    ∷ Sent 1
    ∷ Sent 2
    ∷ Received (handed (codes "a") (codes "x") 1 1 ∷ [])
    ∷ Changed
    ∷ Received (handed (codes "a") (codes "x") 1 2 ∷ [])
    ∷ Changed
    ∷ Refused VisibilityBeyondLimit
    ∷ Changed
    ∷ Refused ReceiptHandleIsInvalid
    ∷ Refused ReceiptHandleIsInvalid
    ∷ Refused MessageNotInflight
    ∷ Deleted true
    ∷ Refused MessageNotInflight
    ∷ []

change_of_timeouts : replies (created change_of_timeouts_asks) ≡ change_of_timeouts_replies
unfolding about on of_client is_fresh is_stale kept_reply live creations removed_lately messages duplicate is_sent hands touches until is_deleted message_of remaining delivery_order to_hand effect_on effect_off effect_of fresh_outcome reply_again outcome_of history
change_of_timeouts = refl

-- A removal ends the queue and its messages at once; the name is free again after a minute.
abbrev removal_asks : List (ℕ × Ask)
removal_asks =
    send 0 (codes "a") (codes "x")
    ∷ receive 1 1
    ∷ create 1 30
    ∷ create 1 31
    ∷ remove 100000
    ∷ receive 100000 1
    ∷ remove 100000
    ∷ create 159999 30
    ∷ create 160000 30
    ∷ delete 160000 1 1
    ∷ receive 160000 10
    ∷ send 160000 (codes "a") (codes "x")
    ∷ []

abbrev removal_replies : List Reply
removal_replies =
    Created 1
    ∷ Sent 1
    ∷ Received (handed (codes "a") (codes "x") 1 1 ∷ [])
    ∷ Created 1
    ∷ Refused QueueNameExists
    ∷ Removed
    ∷ Refused QueueDoesNotExist
    ∷ Refused QueueDoesNotExist
    ∷ Refused QueueDeletedRecently
    ∷ Created 2
    ∷ Refused ReceiptHandleIsInvalid
    ∷ nothing
    ∷ Sent 1
    ∷ []

removal : replies (created removal_asks) ≡ removal_replies
unfolding about on of_client is_fresh is_stale kept_reply live creations removed_lately messages duplicate is_sent hands touches until is_deleted message_of remaining delivery_order to_hand effect_on effect_off effect_of fresh_outcome reply_again outcome_of history
removal = refl

-- Groups go by their oldest message, and each hands out all it has before the next.
abbrev order_of_groups_asks : List (ℕ × Ask)
order_of_groups_asks =
    send 0 (codes "x") (codes "x1")
    ∷ send 0 (codes "w") (codes "w1")
    ∷ send 0 (codes "w") (codes "w2")
    ∷ send 0 (codes "y") (codes "y1")
    ∷ send 0 (codes "x") (codes "x2")
    ∷ send 0 (codes "z") (codes "z1")
    ∷ send 0 (codes "w") (codes "w3")
    ∷ send 0 (codes "x") (codes "x3")
    ∷ send 0 (codes "z") (codes "z2")
    ∷ send 0 (codes "w") (codes "w4")
    ∷ send 0 (codes "x") (codes "x4")
    ∷ send 0 (codes "z") (codes "z3")
    ∷ receive 1 10
    ∷ receive 1 10
    ∷ []

abbrev order_of_groups_replies : List Reply
order_of_groups_replies =
    Created 1
    ∷ Sent 1
    ∷ Sent 2
    ∷ Sent 3
    ∷ Sent 4
    ∷ Sent 5
    ∷ Sent 6
    ∷ Sent 7
    ∷ Sent 8
    ∷ Sent 9
    ∷ Sent 10
    ∷ Sent 11
    ∷ Sent 12
    ∷ Received (handed (codes "x") (codes "x1") 1 1 ∷ handed (codes "x") (codes "x2") 5 1 ∷ handed (codes "x") (codes "x3") 8 1 ∷ handed (codes "x") (codes "x4") 11 1 ∷ handed (codes "w") (codes "w1") 2 1 ∷ handed (codes "w") (codes "w2") 3 1 ∷ handed (codes "w") (codes "w3") 7 1 ∷ handed (codes "w") (codes "w4") 10 1 ∷ handed (codes "y") (codes "y1") 4 1 ∷ handed (codes "z") (codes "z1") 6 1 ∷ [])
    ∷ nothing
    ∷ []

order_of_groups : replies (created order_of_groups_asks) ≡ order_of_groups_replies
unfolding about on of_client is_fresh is_stale kept_reply live creations removed_lately messages duplicate is_sent hands touches until is_deleted message_of remaining delivery_order to_hand effect_on effect_off effect_of fresh_outcome reply_again outcome_of history
order_of_groups = refl

-- One message in flight closes its group, also where an older one has landed.
abbrev one_in_flight_asks : List (ℕ × Ask)
one_in_flight_asks =
    send 0 (codes "a") (codes "a1")
    ∷ send 0 (codes "a") (codes "a2")
    ∷ receive 1 2
    ∷ change 2 1 1 0
    ∷ receive 3 10
    ∷ change 4 2 1 0
    ∷ receive 5 10
    ∷ []

abbrev one_in_flight_replies : List Reply
one_in_flight_replies =
    Created 1
    ∷ Sent 1
    ∷ Sent 2
    ∷ Received (handed (codes "a") (codes "a1") 1 1 ∷ handed (codes "a") (codes "a2") 2 1 ∷ [])
    ∷ Changed
    ∷ nothing
    ∷ Changed
    ∷ Received (handed (codes "a") (codes "a1") 1 2 ∷ handed (codes "a") (codes "a2") 2 2 ∷ [])
    ∷ []

one_in_flight : replies (created one_in_flight_asks) ≡ one_in_flight_replies
unfolding about on of_client is_fresh is_stale kept_reply live creations removed_lately messages duplicate is_sent hands touches until is_deleted message_of remaining delivery_order to_hand effect_on effect_off effect_of fresh_outcome reply_again outcome_of history
one_in_flight = refl

-- A group whose oldest message is deleted goes by the oldest that is left.
abbrev order_after_a_delete_asks : List (ℕ × Ask)
order_after_a_delete_asks =
    send 0 (codes "a") (codes "a1")
    ∷ send 0 (codes "b") (codes "b1")
    ∷ send 0 (codes "a") (codes "a2")
    ∷ receive_for 1 1 0
    ∷ delete 1 1 1
    ∷ receive 1 10
    ∷ []

abbrev order_after_a_delete_replies : List Reply
order_after_a_delete_replies =
    Created 1
    ∷ Sent 1
    ∷ Sent 2
    ∷ Sent 3
    ∷ Received (handed (codes "a") (codes "a1") 1 1 ∷ [])
    ∷ Deleted true
    ∷ Received (handed (codes "b") (codes "b1") 2 1 ∷ handed (codes "a") (codes "a2") 3 1 ∷ [])
    ∷ []

order_after_a_delete : replies (created order_after_a_delete_asks) ≡ order_after_a_delete_replies
unfolding about on of_client is_fresh is_stale kept_reply live creations removed_lately messages duplicate is_sent hands touches until is_deleted message_of remaining delivery_order to_hand effect_on effect_off effect_of fresh_outcome reply_again outcome_of history
order_after_a_delete = refl

-- A repeat has the kept reply of its number and hands out nothing; a smaller number is stale.
abbrev repeats_entries : List Entry
repeats_entries =
    entry 0 1 1 (Create name 30 false)
    ∷ entry 0 1 2 (Send name (codes "a") (Some (codes "x")) (codes "x"))
    ∷ entry 10 1 3 (Receive name 1 None)
    ∷ entry 60000 1 3 (Receive name 1 None)
    ∷ entry 60000 1 2 (Receive name 1 None)
    ∷ entry 60000 2 1 (Receive name 1 None)
    ∷ entry 60000 2 2 (Delete name (receipt 1 2))
    ∷ entry 60000 1 3 (Receive name 1 None)
    ∷ []

abbrev repeats_replies : List Reply
repeats_replies =
    Created 1
    ∷ Sent 1
    ∷ Received (handed (codes "a") (codes "x") 1 1 ∷ [])
    ∷ Received (handed (codes "a") (codes "x") 1 1 ∷ [])
    ∷ Refused StaleNumber
    ∷ Received (handed (codes "a") (codes "x") 1 2 ∷ [])
    ∷ Deleted true
    ∷ Received (handed (codes "a") (codes "x") 1 1 ∷ [])
    ∷ []

repeats : replies repeats_entries ≡ repeats_replies
unfolding about on of_client is_fresh is_stale kept_reply live creations removed_lately messages duplicate is_sent hands touches until is_deleted message_of remaining delivery_order to_hand effect_on effect_off effect_of fresh_outcome reply_again outcome_of history
repeats = refl

-- A queue lives from its creation on; a second creation has to agree with the first. The number 0 is fresh
-- as a client's first, and stale after others.
abbrev lifetimes_entries : List Entry
lifetimes_entries =
    entry 0 1 0 (Receive name 1 None)
    ∷ entry 1 1 2 (Create name 30 false)
    ∷ entry 2 1 3 (Create name 30 false)
    ∷ entry 3 1 4 (Create name 31 false)
    ∷ entry 4 1 5 (Send (codes "r.fifo") (codes "a") (Some (codes "x")) (codes "x"))
    ∷ entry 4 1 6 (Delete name (receipt 1 1))
    ∷ entry 4 1 7 (Change name (receipt 1 1) 0)
    ∷ entry 5 1 0 (Create name 30 false)
    ∷ []

abbrev lifetimes_replies : List Reply
lifetimes_replies =
    Refused QueueDoesNotExist
    ∷ Created 1
    ∷ Created 1
    ∷ Refused QueueNameExists
    ∷ Refused QueueDoesNotExist
    ∷ Refused ReceiptHandleIsInvalid
    ∷ Refused ReceiptHandleIsInvalid
    ∷ Refused StaleNumber
    ∷ []

lifetimes : replies lifetimes_entries ≡ lifetimes_replies
unfolding about on of_client is_fresh is_stale kept_reply live creations removed_lately messages duplicate is_sent hands touches until is_deleted message_of remaining delivery_order to_hand effect_on effect_off effect_of fresh_outcome reply_again outcome_of history
lifetimes = refl

-- A queue that was never created has no counts, and neither has one that was removed.
no_counts : counts_after [] name ≡ Refused QueueDoesNotExist
unfolding about on of_client is_fresh is_stale kept_reply live creations removed_lately messages duplicate is_sent hands touches until is_deleted message_of remaining delivery_order to_hand effect_on effect_off effect_of fresh_outcome reply_again outcome_of history last_moment counts_after
no_counts = refl

counts_after_removal : counts_after (created (send 0 (codes "a") (codes "x") ∷ remove 1 ∷ [])) name ≡ Refused QueueDoesNotExist
unfolding about on of_client is_fresh is_stale kept_reply live creations removed_lately messages duplicate is_sent hands touches until is_deleted message_of remaining delivery_order to_hand effect_on effect_off effect_of fresh_outcome reply_again outcome_of history last_moment counts_after
counts_after_removal = refl

-- A refused removal does not prolong the minute. The receipts of an incarnation are none of the next one's.
abbrev refused_removal_asks : List (ℕ × Ask)
refused_removal_asks =
    send 0 (codes "a") (codes "x")
    ∷ receive 1 1
    ∷ remove 100000
    ∷ remove 130000
    ∷ create 160000 30
    ∷ send 160000 (codes "a") (codes "x")
    ∷ delete 160000 1 1
    ∷ change 160000 1 1 0
    ∷ receive 160001 1
    ∷ delete 160001 1 1
    ∷ change 160001 1 1 0
    ∷ (160002, Delete name (receipt_of 3 1 1))
    ∷ (160002, Change name (receipt_of 2 1 1) 0)
    ∷ (160002, Delete name (receipt_of 2 1 1))
    ∷ (160003, Change name (receipt_of 1 1 1) 0)
    ∷ []

abbrev refused_removal_replies : List Reply
refused_removal_replies =
    Created 1
    ∷ Sent 1
    ∷ Received (handed (codes "a") (codes "x") 1 1 ∷ [])
    ∷ Removed
    ∷ Refused QueueDoesNotExist
    ∷ Created 2
    ∷ Sent 1
    ∷ Refused ReceiptHandleIsInvalid
    ∷ Refused ReceiptHandleIsInvalid
    ∷ Received (handed_by 2 (codes "a") (codes "x") 1 1 ∷ [])
    ∷ Refused ReceiptHandleIsInvalid
    ∷ Refused ReceiptHandleIsInvalid
    ∷ Refused ReceiptHandleIsInvalid
    ∷ Changed
    ∷ Deleted true
    ∷ Refused ReceiptHandleIsInvalid
    ∷ []

refused_removal : replies (created refused_removal_asks) ≡ refused_removal_replies
unfolding about on of_client is_fresh is_stale kept_reply live creations removed_lately messages duplicate is_sent hands touches until is_deleted message_of remaining delivery_order to_hand effect_on effect_off effect_of fresh_outcome reply_again outcome_of history
refused_removal = refl

-- A timeout of 0 never hides a message, and isn't the queue's.
abbrev no_timeout_asks : List (ℕ × Ask)
no_timeout_asks =
    send 0 (codes "a") (codes "x")
    ∷ receive_for 1 1 0
    ∷ receive 1 1
    ∷ receive 1 1
    ∷ change 1 1 2 0
    ∷ receive_for 1 1 0
    ∷ change 1 1 3 30
    ∷ []

abbrev no_timeout_replies : List Reply
no_timeout_replies =
    Created 1
    ∷ Sent 1
    ∷ Received (handed (codes "a") (codes "x") 1 1 ∷ [])
    ∷ Received (handed (codes "a") (codes "x") 1 2 ∷ [])
    ∷ nothing
    ∷ Changed
    ∷ Received (handed (codes "a") (codes "x") 1 3 ∷ [])
    ∷ Refused MessageNotInflight
    ∷ []

no_timeout : replies (created no_timeout_asks) ≡ no_timeout_replies
unfolding about on of_client is_fresh is_stale kept_reply live creations removed_lately messages duplicate is_sent hands touches until is_deleted message_of remaining delivery_order to_hand effect_on effect_off effect_of fresh_outcome reply_again outcome_of history
no_timeout = refl

-- A message that was never handed out has no receipt.
abbrev never_handed_asks : List (ℕ × Ask)
never_handed_asks =
    send 0 (codes "a") (codes "x")
    ∷ delete 0 1 1
    ∷ change 0 1 1 0
    ∷ change 0 1 1 43200
    ∷ receive 1 1
    ∷ delete 1 1 2
    ∷ change 1 1 2 0
    ∷ delete 1 1 1
    ∷ []

abbrev never_handed_replies : List Reply
never_handed_replies =
    Created 1
    ∷ Sent 1
    ∷ Refused ReceiptHandleIsInvalid
    ∷ Refused ReceiptHandleIsInvalid
    ∷ Refused ReceiptHandleIsInvalid
    ∷ Received (handed (codes "a") (codes "x") 1 1 ∷ [])
    ∷ Refused ReceiptHandleIsInvalid
    ∷ Refused ReceiptHandleIsInvalid
    ∷ Deleted true
    ∷ []

never_handed : replies (created never_handed_asks) ≡ never_handed_replies
unfolding about on of_client is_fresh is_stale kept_reply live creations removed_lately messages duplicate is_sent hands touches until is_deleted message_of remaining delivery_order to_hand effect_on effect_off effect_of fresh_outcome reply_again outcome_of history
never_handed = refl

-- A send repeats the one of its deduplication id, whatever group and body it has, and is answered with that one's number.
abbrev ids_and_bodies_asks : List (ℕ × Ask)
ids_and_bodies_asks =
    send_as 0 (codes "a") (codes "d1") (codes "x")
    ∷ send_as 1 (codes "b") (codes "d2") (codes "y")
    ∷ send_as 2 (codes "a") (codes "d2") (codes "z")
    ∷ send_as 3 (codes "c") (codes "x") (codes "x")
    ∷ send_as 3 (codes "d") (codes "d3") (codes "x")
    ∷ send_as 4 (codes "a") (codes "x") (codes "w")
    ∷ receive 5 10
    ∷ []

abbrev ids_and_bodies_replies : List Reply
ids_and_bodies_replies =
    Created 1
    ∷ Sent 1
    ∷ Sent 2
    ∷ Sent 2
    ∷ Sent 3
    ∷ Sent 4
    ∷ Sent 3
    ∷ Received (handed (codes "a") (codes "x") 1 1 ∷ handed (codes "b") (codes "y") 2 1 ∷ handed (codes "c") (codes "x") 3 1 ∷ handed (codes "d") (codes "x") 4 1 ∷ [])
    ∷ []

ids_and_bodies : replies (created ids_and_bodies_asks) ≡ ids_and_bodies_replies
unfolding about on of_client is_fresh is_stale kept_reply live creations removed_lately messages duplicate is_sent hands touches until is_deleted message_of remaining delivery_order to_hand effect_on effect_off effect_of fresh_outcome reply_again outcome_of history
ids_and_bodies = refl

-- The five minutes run from the accepted send, and each id has its own.
abbrev window_is_not_renewed_asks : List (ℕ × Ask)
window_is_not_renewed_asks =
    send 0 (codes "a") (codes "x")
    ∷ send 200000 (codes "a") (codes "x")
    ∷ send 200000 (codes "a") (codes "y")
    ∷ send 300000 (codes "a") (codes "x")
    ∷ send 499999 (codes "a") (codes "y")
    ∷ send 500000 (codes "a") (codes "y")
    ∷ send 599999 (codes "a") (codes "x")
    ∷ []

abbrev window_is_not_renewed_replies : List Reply
window_is_not_renewed_replies =
    Created 1
    ∷ Sent 1
    ∷ Sent 1
    ∷ Sent 2
    ∷ Sent 3
    ∷ Sent 2
    ∷ Sent 4
    ∷ Sent 3
    ∷ []

window_is_not_renewed : replies (created window_is_not_renewed_asks) ≡ window_is_not_renewed_replies
unfolding about on of_client is_fresh is_stale kept_reply live creations removed_lately messages duplicate is_sent hands touches until is_deleted message_of remaining delivery_order to_hand effect_on effect_off effect_of fresh_outcome reply_again outcome_of history
window_is_not_renewed = refl

-- A queue has the visibility timeout of the creation by which it lives. Each creation that takes effect counts.
abbrev visibility_of_the_creation_asks : List (ℕ × Ask)
visibility_of_the_creation_asks =
    create 0 29
    ∷ remove 1
    ∷ create 60000 40
    ∷ create 60001 40
    ∷ create 60002 40
    ∷ create 60002 30
    ∷ create 60002 41
    ∷ send 60002 (codes "a") (codes "x")
    ∷ receive 62000 1
    ∷ receive 101999 1
    ∷ receive 102000 1
    ∷ remove 103000
    ∷ create 163000 0
    ∷ send 163000 (codes "a") (codes "x")
    ∷ receive 163000 1
    ∷ receive 163000 1
    ∷ []

abbrev visibility_of_the_creation_replies : List Reply
visibility_of_the_creation_replies =
    Created 1
    ∷ Refused QueueNameExists
    ∷ Removed
    ∷ Refused QueueDeletedRecently
    ∷ Created 2
    ∷ Created 2
    ∷ Refused QueueNameExists
    ∷ Refused QueueNameExists
    ∷ Sent 1
    ∷ Received (handed_by 2 (codes "a") (codes "x") 1 1 ∷ [])
    ∷ nothing
    ∷ Received (handed_by 2 (codes "a") (codes "x") 1 2 ∷ [])
    ∷ Removed
    ∷ Created 3
    ∷ Sent 1
    ∷ Received (handed_by 3 (codes "a") (codes "x") 1 1 ∷ [])
    ∷ Received (handed_by 3 (codes "a") (codes "x") 1 2 ∷ [])
    ∷ []

visibility_of_the_creation : replies (created visibility_of_the_creation_asks) ≡ visibility_of_the_creation_replies
unfolding about on of_client is_fresh is_stale kept_reply live creations removed_lately messages duplicate is_sent hands touches until is_deleted message_of remaining delivery_order to_hand effect_on effect_off effect_of fresh_outcome reply_again outcome_of history
visibility_of_the_creation = refl

-- Which refusal a change has: the receipt is looked at first, then whether the message is in flight, then the limit. A deleted message isn't in flight, whatever the receipt.
abbrev old_receipts_change_nothing_asks : List (ℕ × Ask)
old_receipts_change_nothing_asks =
    send 0 (codes "a") (codes "x")
    ∷ receive_for 0 1 10
    ∷ receive_for 10000 1 10
    ∷ change 10001 1 1 43200
    ∷ change 10001 1 3 0
    ∷ change 19999 1 2 0
    ∷ change 19999 1 2 10
    ∷ change 20000 1 1 0
    ∷ change 20000 1 2 43200
    ∷ delete 20000 1 2
    ∷ change 20000 1 2 0
    ∷ change 20000 1 9 43200
    ∷ change 20000 2 1 0
    ∷ []

abbrev old_receipts_change_nothing_replies : List Reply
old_receipts_change_nothing_replies =
    Created 1
    ∷ Sent 1
    ∷ Received (handed (codes "a") (codes "x") 1 1 ∷ [])
    ∷ Received (handed (codes "a") (codes "x") 1 2 ∷ [])
    ∷ Refused ReceiptHandleIsInvalid
    ∷ Refused ReceiptHandleIsInvalid
    ∷ Changed
    ∷ Refused MessageNotInflight
    ∷ Refused ReceiptHandleIsInvalid
    ∷ Refused MessageNotInflight
    ∷ Deleted true
    ∷ Refused MessageNotInflight
    ∷ Refused MessageNotInflight
    ∷ Refused ReceiptHandleIsInvalid
    ∷ []

old_receipts_change_nothing : replies (created old_receipts_change_nothing_asks) ≡ old_receipts_change_nothing_replies
unfolding about on of_client is_fresh is_stale kept_reply live creations removed_lately messages duplicate is_sent hands touches until is_deleted message_of remaining delivery_order to_hand effect_on effect_off effect_of fresh_outcome reply_again outcome_of history
old_receipts_change_nothing = refl

-- A message is in flight up to twelve hours after its last handing, and not longer.
abbrev limit_of_a_flight_asks : List (ℕ × Ask)
limit_of_a_flight_asks =
    send 0 (codes "a") (codes "x")
    ∷ receive 1000 1
    ∷ change 2000 1 1 43199
    ∷ change 2001 1 1 43199
    ∷ change 30000 1 1 43171
    ∷ change 30000 1 1 43172
    ∷ receive 43200999 1
    ∷ receive 43201000 1
    ∷ []

abbrev limit_of_a_flight_replies : List Reply
limit_of_a_flight_replies =
    Created 1
    ∷ Sent 1
    ∷ Received (handed (codes "a") (codes "x") 1 1 ∷ [])
    ∷ Changed
    ∷ Refused VisibilityBeyondLimit
    ∷ Changed
    ∷ Refused VisibilityBeyondLimit
    ∷ nothing
    ∷ Received (handed (codes "a") (codes "x") 1 2 ∷ [])
    ∷ []

limit_of_a_flight : replies (created limit_of_a_flight_asks) ≡ limit_of_a_flight_replies
unfolding about on of_client is_fresh is_stale kept_reply live creations removed_lately messages duplicate is_sent hands touches until is_deleted message_of remaining delivery_order to_hand effect_on effect_off effect_of fresh_outcome reply_again outcome_of history
limit_of_a_flight = refl
