-- Worked lists of several queues and clients, and worked outcomes, counts and incarnations, each computed by the
-- definitions to what the rules of the queues give. The results were worked out by hand.
use Rattle.std.proofs.Common.{◌≡◌, ℕ, List, [], ◌∷◌, ◌++◌, length, map, None, Some, true, false, codes, refl}
use Rattle.std.specs.List.{filter, last_or}
use Rattle.cq_base.specs.declared.ask.Ask.{Ask}
use Rattle.cq_base.specs.declared.ask.Ask.TheVariants.{Create, Remove, Send, Receive, Delete, Change}
use Rattle.cq_base.specs.declared.ask.Entry.{Entry}
use Rattle.cq_base.specs.declared.reply.Refusal.TheVariants.{QueueDoesNotExist, QueueNameExists, QueueDeletedRecently, ReceiptHandleIsInvalid, StaleNumber}
use Rattle.cq_base.specs.declared.reply.Reply.{Reply}
use Rattle.cq_base.specs.declared.reply.Reply.TheVariants.{Created, Removed, Sent, Received, Deleted, Counts, Refused}
use Rattle.cq_base.specs.queue.Clients.{of_client, is_fresh, is_stale, kept_reply}
use Rattle.cq_base.specs.queue.Effects.{effect_on, effect_off, effect_of}
use Rattle.cq_base.specs.queue.Outcomes.{Outcome, about, on}
use Rattle.cq_base.specs.queue.History.{fresh_outcome, reply_again, outcome_of, history, last_moment, counts_after}
use Rattle.cq_base.specs.queue.Incarnations.{Accepted, lifetime, repeated, is_use, is_clocked}
use Rattle.cq_base.specs.queue.Lifetimes.{live, creations, removed_lately}
use Rattle.cq_base.specs.queue.Messages.{messages, duplicate, is_sent, hands, touches, until, is_deleted, moment_of, message_of, remaining}
use Rattle.cq_base.specs.queue.Receiving.{delivery_order, to_hand}
use Rattle.cq_base.proofs.Examples.{entry, numbered, name, created, create, remove, send, receive, receipt, delete, change, replies, handed, nothing}

-- Each queue has its own messages, ids, groups, receipts and visibility timeout, and is removed alone.
abbrev two_queues_entries : List Entry
two_queues_entries =
    entry 0 1 1 (Create name 30 false)
    ∷ entry 0 1 2 (Create (codes "r.fifo") 10 false)
    ∷ entry 0 1 3 (Send name (codes "a") (Some (codes "x")) (codes "x"))
    ∷ entry 0 1 4 (Send (codes "r.fifo") (codes "a") (Some (codes "x")) (codes "x"))
    ∷ entry 1 1 5 (Receive name 1 None)
    ∷ entry 1 1 6 (Receive (codes "r.fifo") 1 None)
    ∷ entry 10001 1 7 (Receive name 1 None)
    ∷ entry 10001 1 8 (Receive (codes "r.fifo") 1 None)
    ∷ entry 10002 1 9 (Delete name (receipt 1 1))
    ∷ entry 10003 1 10 (Remove (codes "r.fifo"))
    ∷ entry 10004 1 11 (Send name (codes "a") (Some (codes "y")) (codes "y"))
    ∷ entry 10004 1 12 (Receive (codes "r.fifo") 1 None)
    ∷ entry 10004 1 13 (Create (codes "r.fifo") 10 false)
    ∷ entry 10004 1 14 (Create name 30 false)
    ∷ []

abbrev two_queues_replies : List Reply
two_queues_replies =
    Created 1
    ∷ Created 1
    ∷ Sent 1
    ∷ Sent 1
    ∷ Received (handed (codes "a") (codes "x") 1 1 ∷ [])
    ∷ Received (handed (codes "a") (codes "x") 1 1 ∷ [])
    ∷ nothing
    ∷ Received (handed (codes "a") (codes "x") 1 2 ∷ [])
    ∷ Deleted true
    ∷ Removed
    ∷ Sent 2
    ∷ Refused QueueDoesNotExist
    ∷ Refused QueueDeletedRecently
    ∷ Created 1
    ∷ []

two_queues : replies two_queues_entries ≡ two_queues_replies
unfolding about on of_client is_fresh is_stale kept_reply live creations removed_lately messages duplicate is_sent hands touches until is_deleted message_of remaining delivery_order to_hand effect_on effect_off effect_of fresh_outcome reply_again outcome_of history
two_queues = refl

-- A repeat has the reply of its number, also a refusal, whatever it asks itself; numbers are each client's own and may be left out.
abbrev repeats_of_other_asks_entries : List Entry
repeats_of_other_asks_entries =
    entry 0 1 1 (Create name 30 false)
    ∷ entry 0 1 2 (Send name (codes "a") (Some (codes "x")) (codes "x"))
    ∷ entry 1 1 2 (Remove name)
    ∷ entry 2 1 1 (Remove name)
    ∷ entry 3 2 5 (Create name 31 false)
    ∷ entry 3 2 4 (Receive name 1 None)
    ∷ entry 4 1 9 (Remove name)
    ∷ entry 5 2 5 (Receive name 1 None)
    ∷ entry 5 1 2 (Send name (codes "a") (Some (codes "x")) (codes "x"))
    ∷ entry 6 1 9 (Create name 30 false)
    ∷ entry 7 3 5 (Receive name 1 None)
    ∷ entry 8 3 4 (Create name 30 false)
    ∷ []

abbrev repeats_of_other_asks_replies : List Reply
repeats_of_other_asks_replies =
    Created 1
    ∷ Sent 1
    ∷ Sent 1
    ∷ Refused StaleNumber
    ∷ Refused QueueNameExists
    ∷ Refused StaleNumber
    ∷ Removed
    ∷ Refused QueueNameExists
    ∷ Refused StaleNumber
    ∷ Removed
    ∷ Refused QueueDoesNotExist
    ∷ Refused StaleNumber
    ∷ []

repeats_of_other_asks : replies repeats_of_other_asks_entries ≡ repeats_of_other_asks_replies
unfolding about on of_client is_fresh is_stale kept_reply live creations removed_lately messages duplicate is_sent hands touches until is_deleted message_of remaining delivery_order to_hand effect_on effect_off effect_of fresh_outcome reply_again outcome_of history
repeats_of_other_asks = refl

-- All but a creation is refused where no queue lives, before the first creation and after a removal.
abbrev no_queue_entries : List Entry
no_queue_entries =
    entry 0 1 1 (Remove name)
    ∷ entry 0 1 2 (Send name (codes "a") (Some (codes "x")) (codes "x"))
    ∷ entry 0 1 3 (Receive name 1 None)
    ∷ entry 0 1 4 (Delete name (receipt 1 1))
    ∷ entry 0 1 5 (Change name (receipt 1 1) 0)
    ∷ entry 0 1 6 (Create name 30 false)
    ∷ entry 1 1 7 (Remove name)
    ∷ entry 2 1 8 (Remove name)
    ∷ entry 2 1 9 (Send name (codes "a") (Some (codes "x")) (codes "x"))
    ∷ entry 2 1 10 (Receive name 1 None)
    ∷ entry 2 1 11 (Delete name (receipt 1 1))
    ∷ entry 2 1 12 (Change name (receipt 1 1) 0)
    ∷ []

abbrev no_queue_replies : List Reply
no_queue_replies =
    Refused QueueDoesNotExist
    ∷ Refused QueueDoesNotExist
    ∷ Refused QueueDoesNotExist
    ∷ Refused QueueDoesNotExist
    ∷ Refused QueueDoesNotExist
    ∷ Created 1
    ∷ Removed
    ∷ Refused QueueDoesNotExist
    ∷ Refused QueueDoesNotExist
    ∷ Refused QueueDoesNotExist
    ∷ Refused QueueDoesNotExist
    ∷ Refused QueueDoesNotExist
    ∷ []

no_queue : replies no_queue_entries ≡ no_queue_replies
unfolding about on of_client is_fresh is_stale kept_reply live creations removed_lately messages duplicate is_sent hands touches until is_deleted message_of remaining delivery_order to_hand effect_on effect_off effect_of fresh_outcome reply_again outcome_of history
no_queue = refl

-- Counts are those at the moment of the last entry, also where it repeats one, is stale, is refused, or names
-- another queue.
abbrev one_in_the_air : List Entry
one_in_the_air = created (send 0 (codes "a") (codes "x") ∷ send 0 (codes "b") (codes "y") ∷ receive 1 1 ∷ [])

counts_in_flight : counts_after (one_in_the_air ++ entry 30000 1 4 (Receive name 1 None) ∷ []) name ≡ Counts 1 1
unfolding about on of_client is_fresh is_stale kept_reply live creations removed_lately messages duplicate is_sent hands touches until is_deleted message_of remaining delivery_order to_hand effect_on effect_off effect_of fresh_outcome reply_again outcome_of history last_moment counts_after
counts_in_flight = refl

counts_after_a_repeat : counts_after (one_in_the_air ++ entry 30001 1 4 (Receive name 1 None) ∷ []) name ≡ Counts 2 0
unfolding about on of_client is_fresh is_stale kept_reply live creations removed_lately messages duplicate is_sent hands touches until is_deleted message_of remaining delivery_order to_hand effect_on effect_off effect_of fresh_outcome reply_again outcome_of history last_moment counts_after
counts_after_a_repeat = refl

counts_after_a_stale_entry : counts_after (one_in_the_air ++ entry 30001 1 3 (Receive name 1 None) ∷ []) name ≡ Counts 2 0
unfolding about on of_client is_fresh is_stale kept_reply live creations removed_lately messages duplicate is_sent hands touches until is_deleted message_of remaining delivery_order to_hand effect_on effect_off effect_of fresh_outcome reply_again outcome_of history last_moment counts_after
counts_after_a_stale_entry = refl

counts_after_another_queue : counts_after (one_in_the_air ++ entry 30001 2 1 (Remove (codes "r.fifo")) ∷ []) name ≡ Counts 2 0
unfolding about on of_client is_fresh is_stale kept_reply live creations removed_lately messages duplicate is_sent hands touches until is_deleted message_of remaining delivery_order to_hand effect_on effect_off effect_of fresh_outcome reply_again outcome_of history last_moment counts_after
counts_after_another_queue = refl

-- a deleted message counts no more
counts_after_a_delete : counts_after (one_in_the_air ++ entry 2 1 5 (Delete name (receipt 1 1)) ∷ []) name ≡ Counts 1 0
unfolding about on of_client is_fresh is_stale kept_reply live creations removed_lately messages duplicate is_sent hands touches until is_deleted message_of remaining delivery_order to_hand effect_on effect_off effect_of fresh_outcome reply_again outcome_of history last_moment counts_after
counts_after_a_delete = refl

-- of the queue that the query names
counts_of_another_queue : counts_after (one_in_the_air ++ entry 2 1 5 (Create (codes "r.fifo") 30 false) ∷ []) (codes "r.fifo") ≡ Counts 0 0
unfolding about on of_client is_fresh is_stale kept_reply live creations removed_lately messages duplicate is_sent hands touches until is_deleted message_of remaining delivery_order to_hand effect_on effect_off effect_of fresh_outcome reply_again outcome_of history last_moment counts_after
counts_of_another_queue = refl

-- a timeout that the receive doesn't give is the queue's own
abbrev ten_seconds : List Entry
ten_seconds = numbered 1 (create 0 10 ∷ send 0 (codes "a") (codes "x") ∷ receive 1 1 ∷ [])

counts_by_the_queues_timeout : map (λ moment. counts_after (ten_seconds ++ entry moment 2 1 (Remove (codes "r.fifo")) ∷ []) name) (10000 ∷ 10001 ∷ []) ≡ Counts 0 1 ∷ Counts 1 0 ∷ []
unfolding about on of_client is_fresh is_stale kept_reply live creations removed_lately messages duplicate is_sent hands touches until is_deleted message_of remaining delivery_order to_hand effect_on effect_off effect_of fresh_outcome reply_again outcome_of history last_moment counts_after
counts_by_the_queues_timeout = refl

last_moments : map last_moment ([] ∷ one_in_the_air ∷ (one_in_the_air ++ entry 7 1 4 (Remove name) ∷ []) ∷ []) ≡ 0 ∷ 1 ∷ 7 ∷ []
unfolding last_moment
last_moments = refl

-- What entries of each kind do, and to which incarnation they came: fresh, effective, with a count, or
-- handing messages out.
abbrev kinds_asks : List (ℕ × Ask)
kinds_asks =
    send 0 (codes "a") (codes "x")
    ∷ send 0 (codes "a") (codes "y")
    ∷ create 1 30
    ∷ send 2 (codes "a") (codes "x")
    ∷ receive 3 2
    ∷ change 4 1 1 60
    ∷ change 4 9 1 60
    ∷ delete 5 2 1
    ∷ delete 6 2 1
    ∷ delete 6 9 1
    ∷ remove 7
    ∷ receive 8 1
    ∷ create 60007 30
    ∷ receive 60008 1
    ∷ []

-- with a stale entry and a repeat at the end
abbrev kinds : List Entry
kinds = created kinds_asks ++ entry 60008 1 1 (Remove name) ∷ entry 60008 1 15 (Remove name) ∷ []

kinds_fresh : map (λ f. f.fresh) (history kinds) ≡ true ∷ true ∷ true ∷ true ∷ true ∷ true ∷ true ∷ true ∷ true ∷ true ∷ true ∷ true ∷ true ∷ true ∷ true ∷ false ∷ false ∷ []
unfolding about on of_client is_fresh is_stale kept_reply live creations removed_lately messages duplicate is_sent hands touches until is_deleted message_of remaining delivery_order to_hand effect_on effect_off effect_of fresh_outcome reply_again outcome_of history
kinds_fresh = refl

kinds_incarnations : map (λ f. f.incarnation) (history kinds) ≡ 0 ∷ 1 ∷ 1 ∷ 1 ∷ 1 ∷ 1 ∷ 1 ∷ 1 ∷ 1 ∷ 1 ∷ 1 ∷ 1 ∷ 0 ∷ 0 ∷ 2 ∷ 0 ∷ 0 ∷ []
unfolding about on of_client is_fresh is_stale kept_reply live creations removed_lately messages duplicate is_sent hands touches until is_deleted message_of remaining delivery_order to_hand effect_on effect_off effect_of fresh_outcome reply_again outcome_of history
kinds_incarnations = refl

kinds_effective : map (λ f. f.effective) (history kinds) ≡ true ∷ true ∷ true ∷ false ∷ false ∷ false ∷ true ∷ false ∷ true ∷ false ∷ false ∷ true ∷ false ∷ true ∷ false ∷ false ∷ false ∷ []
unfolding about on of_client is_fresh is_stale kept_reply live creations removed_lately messages duplicate is_sent hands touches until is_deleted message_of remaining delivery_order to_hand effect_on effect_off effect_of fresh_outcome reply_again outcome_of history
kinds_effective = refl

kinds_counts : map (λ f. f.count) (history kinds) ≡ 1 ∷ 1 ∷ 2 ∷ 0 ∷ 0 ∷ 0 ∷ 1 ∷ 0 ∷ 2 ∷ 0 ∷ 0 ∷ 1 ∷ 0 ∷ 2 ∷ 0 ∷ 0 ∷ 0 ∷ []
unfolding about on of_client is_fresh is_stale kept_reply live creations removed_lately messages duplicate is_sent hands touches until is_deleted message_of remaining delivery_order to_hand effect_on effect_off effect_of fresh_outcome reply_again outcome_of history
kinds_counts = refl

kinds_handed : map (λ f. f.handed) (history kinds) ≡ [] ∷ [] ∷ [] ∷ [] ∷ [] ∷ (1 ∷ 2 ∷ []) ∷ [] ∷ [] ∷ [] ∷ [] ∷ [] ∷ [] ∷ [] ∷ [] ∷ [] ∷ [] ∷ [] ∷ []
unfolding about on of_client is_fresh is_stale kept_reply live creations removed_lately messages duplicate is_sent hands touches until is_deleted message_of remaining delivery_order to_hand effect_on effect_off effect_of fresh_outcome reply_again outcome_of history
kinds_handed = refl

kinds_entries : map (λ f. f.entry) (history kinds) ≡ kinds
unfolding about on of_client is_fresh is_stale kept_reply live creations removed_lately messages duplicate is_sent hands touches until is_deleted message_of remaining delivery_order to_hand effect_on effect_off effect_of fresh_outcome reply_again outcome_of history
kinds_entries = refl

-- of these, fresh ones that name a queue are about it
kinds_about : map (λ queue. length (about queue (history kinds))) (name ∷ codes "r.fifo" ∷ []) ≡ 15 ∷ 0 ∷ []
unfolding about on of_client is_fresh is_stale kept_reply live creations removed_lately messages duplicate is_sent hands touches until is_deleted message_of remaining delivery_order to_hand effect_on effect_off effect_of fresh_outcome reply_again outcome_of history
kinds_about = refl

-- ---- one incarnation by itself

-- what comes to an incarnation with a visibility timeout of 10 s
abbrev coming_entries : List Entry
coming_entries = numbered 1 (create 0 10 ∷ send 1 (codes "a") (codes "x") ∷ send 2 (codes "a") (codes "x") ∷ receive 3 1 ∷ delete 3 2 1 ∷ receive 3 1 ∷ [])

abbrev lifetime_of : List (ℕ × Ask) → List Outcome
lifetime_of asks = lifetime 1 (record { visibility = 10; content = false }) (coming_entries ++ numbered 7 asks)

lifetime_replies : map (λ f. f.reply) (lifetime_of (receive 10002 1 ∷ receive 10003 1 ∷ [])) ≡ Created 1 ∷ Sent 1 ∷ Sent 1 ∷ Received (handed (codes "a") (codes "x") 1 1 ∷ []) ∷ Refused ReceiptHandleIsInvalid ∷ nothing ∷ nothing ∷ Received (handed (codes "a") (codes "x") 1 2 ∷ []) ∷ []
unfolding messages duplicate is_sent hands touches until is_deleted message_of remaining delivery_order to_hand effect_on lifetime
lifetime_replies = refl

-- Sends and receives are its uses; they and effective changes give its last moment.
lifetime_uses : map (λ asks. length (filter is_use (lifetime_of asks))) ([] ∷ (receive 4 1 ∷ []) ∷ (change 4 1 1 0 ∷ delete 5 1 1 ∷ create 6 10 ∷ []) ∷ []) ≡ 4 ∷ 5 ∷ 4 ∷ []
unfolding messages duplicate is_sent hands touches until is_deleted message_of remaining delivery_order to_hand effect_on lifetime
lifetime_uses = refl

lifetime_moments : map (λ asks. moment_of (last_or None (filter is_clocked (lifetime_of asks)))) ([] ∷ (receive 4 1 ∷ []) ∷ (send 4 (codes "a") (codes "x") ∷ []) ∷ (change 4 1 1 0 ∷ []) ∷ (change 4 1 2 0 ∷ []) ∷ (delete 4 1 1 ∷ []) ∷ (create 4 10 ∷ []) ∷ []) ≡ 3 ∷ 4 ∷ 4 ∷ 4 ∷ 3 ∷ 3 ∷ 3 ∷ []
unfolding messages duplicate is_sent hands touches until is_deleted message_of remaining delivery_order to_hand effect_on lifetime
lifetime_moments = refl

-- the accepted sends of x at 100 and of y at 200
abbrev two_accepted : List Accepted
two_accepted = record { dedup = codes "x"; moment = 100; sequence = 1 } ∷ record { dedup = codes "y"; moment = 200; sequence = 2 } ∷ []

repeated_of_two : map (λ moment. repeated (codes "x") moment two_accepted) (200 ∷ 300099 ∷ 300100 ∷ []) ≡ Some 1 ∷ Some 1 ∷ None ∷ []
repeated_of_two = refl

repeated_of_the_second : map (λ id. repeated id 300199 two_accepted) (codes "x" ∷ codes "y" ∷ codes "z" ∷ []) ≡ None ∷ Some 2 ∷ None ∷ []
repeated_of_the_second = refl
