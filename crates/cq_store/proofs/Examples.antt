-- Worked values of the words in which the laws are said, and of what is kept. They were worked out by hand.
use Rattle.std.proofs.Common.{◌≡◌, ℕ, List, [], ◌∷◌, ◌++◌, length, map, None, Some, true, false, codes, refl}
use Rattle.std.specs.List.{filter}
use Rattle.cq_base.specs.declared.ask.Ask.{Ask}
use Rattle.cq_base.specs.declared.ask.Ask.TheVariants.{Create, Send, Receive, Delete}
use Rattle.cq_base.specs.declared.ask.Entry.{Entry}
use Rattle.cq_base.specs.declared.reply.Refusal.TheVariants.{StaleNumber}
use Rattle.cq_base.specs.declared.reply.Reply.TheVariants.{Removed, Changed, Refused}
use Rattle.cq_base.specs.queue.Clients.{of_client, is_fresh, is_stale, kept_reply}
use Rattle.cq_base.specs.queue.Effects.{effect_on, effect_off, effect_of}
use Rattle.cq_base.specs.queue.Outcomes.{Outcome, about, on}
use Rattle.cq_base.specs.queue.History.{fresh_outcome, reply_again, outcome_of, history}
use Rattle.cq_base.specs.queue.Lifetimes.{live, creations, removed_lately}
use Rattle.cq_base.specs.queue.Messages.{Message, messages, duplicate, is_sent, hands, touches, until, is_deleted, message_of, remaining}
use Rattle.cq_base.specs.queue.Receiving.{delivery_order, to_hand}
use Rattle.cq_store.specs.Laws.{fresh_outcomes, naming, handed_by, is_hidden, counts_at, is_in, first_handings, numbers_of}
use Rattle.cq_store.specs.Ranks.{group_place, stands_before, candidates, rank}
use Rattle.cq_store.specs.within.Rooms.{again_of}
use Rattle.cq_store.specs.Stands.{ClientRecord, QueueRecord, is_resting, unknown, or_unknown, client_at, name_at}

-- ---- a history

abbrev entry : ℕ → ℕ → ℕ → Ask → Entry
entry moment client number ask = record { moment = moment; request = record { client = client; number = number; ask = ask } }

abbrev name : List ℕ
name = codes "q.fifo"

-- a body is its own deduplication id
abbrev send : List ℕ → List ℕ → Ask
send group body = Send name group (Some body) body

abbrev creation_entry : Entry
creation_entry = entry 0 1 1 (Create name 30 false)

-- The messages 1, 3 and 4 are of the group a, and 2 of b. The first receive hands out 1 and 3, the second 2.
-- One entry repeats it, one is stale, and one names another queue.
abbrev entries : List Entry
entries =
    creation_entry
    ∷ entry 0 1 2 (send (codes "a") (codes "x"))
    ∷ entry 0 1 3 (send (codes "b") (codes "y"))
    ∷ entry 0 1 4 (send (codes "a") (codes "z"))
    ∷ entry 1 1 5 (Receive name 2 None)
    ∷ entry 2 1 6 (send (codes "a") (codes "w"))
    ∷ entry 3 1 7 (Delete name (record { incarnation = 1; sequence = 1; handing = 1 }))
    ∷ entry 4 1 8 (Receive name 10 None)
    ∷ entry 5 1 8 (Receive name 10 None)
    ∷ entry 5 1 2 (Receive name 10 None)
    ∷ entry 6 2 8 (Create (codes "r.fifo") 30 false)
    ∷ []

-- what came to the queue, and what comes next
abbrev own : List Outcome
own = on 1 (about name (history entries))

abbrev next : Entry
next = entry 30001 1 9 (Receive name 10 None)

abbrev own_next : List Outcome
own_next = on 1 (about name (history (entries ++ next ∷ [])))

one_fresh : map (λ number. length (fresh_outcomes 1 number (history entries))) (8 ∷ 2 ∷ 9 ∷ []) ≡ 1 ∷ 1 ∷ 0 ∷ []
unfolding about on of_client is_fresh is_stale kept_reply live creations removed_lately messages duplicate is_sent hands touches until is_deleted message_of remaining delivery_order to_hand effect_on effect_off effect_of fresh_outcome reply_again outcome_of history
one_fresh = refl

own_fresh : map (λ client. length (fresh_outcomes client 8 (history entries))) (1 ∷ 2 ∷ 3 ∷ []) ≡ 1 ∷ 1 ∷ 0 ∷ []
unfolding about on of_client is_fresh is_stale kept_reply live creations removed_lately messages duplicate is_sent hands touches until is_deleted message_of remaining delivery_order to_hand effect_on effect_off effect_of fresh_outcome reply_again outcome_of history
own_fresh = refl

naming_a_queue : map (λ queue. map (λ e. e.request.number) (naming queue entries)) (name ∷ codes "r.fifo" ∷ codes "s.fifo" ∷ []) ≡ (1 ∷ 2 ∷ 3 ∷ 4 ∷ 5 ∷ 6 ∷ 7 ∷ 8 ∷ []) ∷ (8 ∷ []) ∷ [] ∷ []
unfolding about on of_client is_fresh is_stale kept_reply live creations removed_lately messages duplicate is_sent hands touches until is_deleted message_of remaining delivery_order to_hand effect_on effect_off effect_of fresh_outcome reply_again outcome_of history
naming_a_queue = refl

-- the message 3 for the second time, since its timeout is over, and 4
handed_next : handed_by entries next ≡ 3 ∷ 4 ∷ []
unfolding about on of_client is_fresh is_stale kept_reply live creations removed_lately messages duplicate is_sent hands touches until is_deleted message_of remaining delivery_order to_hand effect_on effect_off effect_of fresh_outcome reply_again outcome_of history
handed_next = refl

-- the message 1 is deleted, 2 was handed out at 4, 3 at 1, and 4 never
hidden : map (λ moment. map (is_hidden (outcome_of [] creation_entry) own moment) (messages own)) (30000 ∷ 30001 ∷ 30004 ∷ []) ≡ (false ∷ true ∷ true ∷ false ∷ []) ∷ (false ∷ true ∷ false ∷ false ∷ []) ∷ (false ∷ false ∷ false ∷ false ∷ []) ∷ []
unfolding about on of_client is_fresh is_stale kept_reply live creations removed_lately messages duplicate is_sent hands touches until is_deleted message_of remaining delivery_order to_hand effect_on effect_off effect_of fresh_outcome reply_again outcome_of history
hidden = refl

-- a deduplication id counts for less than five minutes
counting : map (λ moment. map (counts_at (codes "w") moment) (messages own)) (300001 ∷ 300002 ∷ []) ≡ (false ∷ false ∷ false ∷ true ∷ []) ∷ (false ∷ false ∷ false ∷ false ∷ []) ∷ []
unfolding about on of_client is_fresh is_stale kept_reply live creations removed_lately messages duplicate is_sent hands touches until is_deleted message_of remaining delivery_order to_hand effect_on effect_off effect_of fresh_outcome reply_again outcome_of history
counting = refl

-- each message once, in the order in which they first were handed out
first_of_all : first_handings own_next ≡ 1 ∷ 3 ∷ 2 ∷ 4 ∷ []
unfolding about on of_client is_fresh is_stale kept_reply live creations removed_lately messages duplicate is_sent hands touches until is_deleted message_of remaining delivery_order to_hand effect_on effect_off effect_of fresh_outcome reply_again outcome_of history first_handings
first_of_all = refl

numbers_of_groups : map (λ group. numbers_of group own_next) (codes "a" ∷ codes "b" ∷ codes "c" ∷ []) ≡ (1 ∷ 3 ∷ 4 ∷ []) ∷ (2 ∷ []) ∷ [] ∷ []
unfolding about on of_client is_fresh is_stale kept_reply live creations removed_lately messages duplicate is_sent hands touches until is_deleted message_of remaining delivery_order to_hand effect_on effect_off effect_of fresh_outcome reply_again outcome_of history
numbers_of_groups = refl

first_of_a_group : filter (is_in (numbers_of (codes "a") own_next)) (first_handings own_next) ≡ 1 ∷ 3 ∷ 4 ∷ []
unfolding about on of_client is_fresh is_stale kept_reply live creations removed_lately messages duplicate is_sent hands touches until is_deleted message_of remaining delivery_order to_hand effect_on effect_off effect_of fresh_outcome reply_again outcome_of history first_handings
first_of_a_group = refl

-- ---- ranks

abbrev message : ℕ → List ℕ → ℕ → Message
message sequence group until = record { sequence = sequence; group = group; body = []; handings = 0; handed_at = 0; until = until }

-- the first message of b is in flight up to 10
abbrev stood : List Message
stood = message 2 (codes "a") 0 ∷ message 3 (codes "b") 10 ∷ message 4 (codes "a") 0 ∷ message 5 (codes "c") 0 ∷ message 6 (codes "b") 0 ∷ message 7 (codes "c") 0 ∷ []

places : map (group_place stood) stood ≡ 2 ∷ 3 ∷ 2 ∷ 5 ∷ 3 ∷ 5 ∷ []
unfolding group_place
places = refl

no_place : group_place stood (message 9 (codes "d") 0) ≡ 0
unfolding group_place
no_place = refl

-- what stands before the message 6
before : map (λ x. stands_before stood x (message 6 (codes "b") 0)) stood ≡ true ∷ true ∷ true ∷ false ∷ false ∷ false ∷ []
unfolding group_place
before = refl

of_open_groups : map (λ moment. map (λ x. x.sequence) (candidates moment stood)) (9 ∷ 10 ∷ []) ≡ (2 ∷ 4 ∷ 5 ∷ 7 ∷ []) ∷ (2 ∷ 3 ∷ 4 ∷ 5 ∷ 6 ∷ 7 ∷ []) ∷ []
unfolding candidates
of_open_groups = refl

ranks : map (rank stood (candidates 10 stood)) stood ≡ 0 ∷ 2 ∷ 1 ∷ 4 ∷ 3 ∷ 5 ∷ []
unfolding candidates rank group_place
ranks = refl

ranks_of_open_groups : map (rank stood (candidates 9 stood)) (candidates 9 stood) ≡ 0 ∷ 1 ∷ 2 ∷ 3 ∷ []
unfolding candidates rank group_place
ranks_of_open_groups = refl

-- ---- what is kept

resting : map (λ moment. is_resting (Some 100) moment) (100 ∷ 60099 ∷ 60100 ∷ []) ≡ true ∷ true ∷ false ∷ []
resting = refl

never_removed : is_resting None 0 ≡ false
never_removed = refl

abbrev kept_number : ClientRecord
kept_number = record { number = 5; reply = Removed }

-- of a client whose largest number is 5, and of one that never asked
again : map (again_of (Some kept_number)) (4 ∷ 5 ∷ 6 ∷ []) ≡ Some (Refused StaleNumber) ∷ Some Removed ∷ None ∷ []
again = refl

again_of_none : again_of None 0 ≡ None
again_of_none = refl

clients : map (client_at ((7, kept_number) ∷ (8, record { number = 6; reply = Changed }) ∷ [])) (7 ∷ 8 ∷ 9 ∷ []) ≡ Some kept_number ∷ Some (record { number = 6; reply = Changed }) ∷ None ∷ []
clients = refl

abbrev removed_name : QueueRecord
removed_name = record { creations = 3; removed = Some 9; living = None }

names : map (λ queue. or_unknown (name_at ((name, removed_name) ∷ []) queue)) (name ∷ codes "r.fifo" ∷ []) ≡ removed_name ∷ unknown ∷ []
names = refl
