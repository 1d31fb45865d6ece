-- Worked lists of events, each computed by the definitions to what the rules of the chain give. The results were
-- worked out by hand.
use Rattle.std.proofs.Common.{◌≡◌, ℕ, List, [], ◌∷◌, ◌++◌, map, length, Option, None, Some, Bool, true, false, codes, refl}
use Rattle.cq_base.specs.declared.ask.Ask.{Ask}
use Rattle.cq_base.specs.declared.ask.Ask.TheVariants.{Create, Send, Receive}
use Rattle.cq_base.specs.declared.party.Party.{Party}
use Rattle.cq_base.specs.declared.party.Party.TheVariants.{Master, Clients, Server}
use Rattle.cq_base.specs.declared.reply.Refusal.TheVariants.{QueueDoesNotExist}
use Rattle.cq_base.specs.declared.reply.Delivery.{Delivery}
use Rattle.cq_base.specs.declared.reply.Reply.{Reply}
use Rattle.cq_base.specs.declared.reply.Reply.TheVariants.{Created, Sent, Received, Counts, Refused}
use Rattle.cq_base.specs.queue.Clients.{of_client, is_fresh, is_stale, kept_reply}
use Rattle.cq_base.specs.queue.Effects.{effect_on, effect_off, effect_of}
use Rattle.cq_base.specs.queue.Outcomes.{about, on}
use Rattle.cq_base.specs.queue.History.{fresh_outcome, outcome_of, history, reply_again, reply_to, last_moment, counts_after}
use Rattle.cq_base.specs.queue.Lifetimes.{live, creations, removed_lately}
use Rattle.cq_base.specs.queue.Messages.{messages, duplicate, hands, touches, until, is_deleted, message_of, remaining}
use Rattle.cq_base.specs.queue.Receiving.{delivery_order, to_hand}
use Rattle.cq_chain.specs.declared.fault.WorldFault.TheVariants.{NoSuchServer, ServerDown, LinkEmpty, OutboxEmpty, LastFull, JoinPending, IdUsed, ChainFull, NotDown, NotHead, NotTail}
use Rattle.cq_chain.specs.declared.message.Answer.{Answer}
use Rattle.cq_chain.specs.Messages.{Message, Fwd}
use Rattle.cq_chain.specs.Masters.{detected, joined, hears, refusal_of_detection, refusal_of_join}
use Rattle.cq_chain.specs.Refusals.{refusal_of_arrival, refusal_of_query, refusal_of_taking}
use Rattle.cq_chain.specs.Servers.{acts, kept}
use Rattle.cq_chain.specs.Steps.{arrived, asked, takes, forwards}
use Rattle.cq_events.specs.Events.{refusal_of, next, after, given_by}
use Rattle.cq_events.specs.Runs.{world_after, given_from, refused_from, made_from, made, longest_at, longest_from, committed}
use Rattle.cq_world.specs.Laws.{arrivals_from}
use Rattle.cq_events.specs.Worlds.{World, numbers_from, first_world, channel}
use Rattle.cq_events.specs.declared.event.Event.{Event}
use Rattle.cq_events.specs.declared.event.Event.TheVariants as events

abbrev name : List ℕ
name = codes "q.fifo"

-- client 1's request of that number arrives
abbrev arrive : ℕ → ℕ → ℕ → Ask → Event
arrive at clock number ask = events.Arrive at clock (record { client = 1; number = number; ask = ask })

abbrev create : Ask
create = Create name 30 false

abbrev send : Ask
send = Send name (codes "a") (Some (codes "x")) (codes "x")

abbrev send_more : Ask
send_more = Send name (codes "a") (Some (codes "y")) (codes "y")

-- the first message from one server to another is put, and taken
abbrev move : ℕ → ℕ → List Event
move from to = events.Put (Server from) (Server to) ∷ events.Take (Server from) (Server to) ∷ []

-- client 1 asks for counts
abbrev count_at : ℕ → Event
count_at at = events.Ask at (record { client = 1; tag = 9; queue = name })

-- ---- two servers, each of which is asked what isn't its own

abbrev wrong : List Event
wrong = arrive 2 0 1 create ∷ count_at 1 ∷ events.Take (Server 1) (Server 2) ∷ events.Put (Server 1) (Server 2) ∷ events.Take (Server 2) Clients ∷ arrive 7 0 1 create ∷ events.Put (Server 1) (Server 7) ∷ events.Take (Server 7) Master ∷ events.Put Master (Server 1) ∷ events.Put Clients Master ∷ events.Take Master Master ∷ []

wrong_places : refused_from 1 (first_world 2) wrong ≡ (1, NotHead) ∷ (2, NotTail) ∷ (3, LinkEmpty) ∷ (4, OutboxEmpty) ∷ (5, LinkEmpty) ∷ (6, NoSuchServer) ∷ (7, NoSuchServer) ∷ (8, NoSuchServer) ∷ (9, OutboxEmpty) ∷ (10, OutboxEmpty) ∷ (11, LinkEmpty) ∷ []
unfolding refused_from after refusal_of first_world numbers_from refusal_of_arrival refusal_of_query
wrong_places = refl

-- ---- two servers and one request

abbrev one : List Event
one = arrive 1 0 1 create ∷ events.Put (Server 1) Clients ∷ (move 1 2 ++ (events.Put (Server 2) Clients ∷ move 2 1))

abbrev created_answer : Answer
created_answer = record { client = 1; number = 1; is_query = false; length = 1; reply = Created 1 }

one_given : given_from 1 (first_world 2) one ≡ (5, created_answer) ∷ []
unfolding given_from after next given_by refusal_of first_world numbers_from refusal_of_arrival refusal_of_taking arrived takes reply_to history outcome_of fresh_outcome is_fresh of_client about live removed_lately creations effect_of effect_off last_moment
one_given = refl

one_refused : refused_from 1 (first_world 2) one ≡ (2, OutboxEmpty) ∷ []
unfolding refused_from after next refusal_of first_world numbers_from refusal_of_arrival refusal_of_taking arrived takes reply_to history outcome_of fresh_outcome is_fresh of_client about live removed_lately creations effect_of effect_off last_moment
one_refused = refl

one_acked : ((world_after (first_world 2) one).server 1).acked ≡ 1
unfolding world_after after next refusal_of first_world numbers_from refusal_of_arrival refusal_of_taking arrived takes reply_to history outcome_of fresh_outcome is_fresh of_client about live removed_lately creations effect_of effect_off last_moment
one_acked = refl

-- what is given to the clients stands in no link
one_given_away : (world_after (first_world 2) one).link (Server 2) Clients ≡ []
unfolding world_after after next refusal_of first_world numbers_from refusal_of_arrival refusal_of_query refusal_of_taking refusal_of_detection refusal_of_join arrived asked takes forwards detected joined hears reply_to history outcome_of fresh_outcome is_fresh of_client about on live removed_lately creations effect_of effect_on effect_off last_moment messages duplicate remaining message_of hands touches until is_deleted
one_given_away = refl

-- ---- one server that is asked for counts

query_given : given_from 1 (first_world 1) (count_at 1 ∷ events.Put (Server 1) Clients ∷ []) ≡ (2, record { client = 1; number = 9; is_query = true; length = 0; reply = Refused QueueDoesNotExist }) ∷ []
unfolding given_from after next given_by refusal_of first_world numbers_from refusal_of_query asked counts_after history about live
query_given = refl

-- ---- three servers: the middle one forwards, and a clock that goes back

abbrev two : List Event
two = arrive 1 50 1 create ∷ arrive 1 10 2 send ∷ (move 1 2 ++ (move 1 2 ++ (move 2 3 ++ (count_at 3 ∷ move 2 3))))

two_committed : map (λ e. e.moment) (committed 3 two) ≡ 50 ∷ 50 ∷ []
unfolding committed longest_from longest_at after next refusal_of first_world numbers_from refusal_of_arrival refusal_of_query refusal_of_taking arrived asked takes reply_to history outcome_of fresh_outcome is_fresh of_client about live removed_lately creations effect_of effect_off last_moment
two_committed = refl

two_made : map (λ a. a.length) (made 3 two) ≡ 1 ∷ 1 ∷ 2 ∷ []
unfolding made made_from after next refusal_of first_world numbers_from refusal_of_arrival refusal_of_query refusal_of_taking arrived asked takes reply_to history outcome_of fresh_outcome is_fresh of_client about live removed_lately creations effect_of effect_off last_moment
two_made = refl

two_replies : map (λ a. a.reply) (made 3 two) ≡ Created 1 ∷ Counts 0 0 ∷ Sent 1 ∷ []
unfolding made made_from after next refusal_of first_world numbers_from refusal_of_arrival refusal_of_query refusal_of_taking arrived asked takes reply_to counts_after history outcome_of fresh_outcome is_fresh of_client about on live removed_lately creations effect_of effect_on effect_off last_moment messages duplicate remaining message_of hands touches until is_deleted
two_replies = refl

-- ---- two servers, of which the first is lost: the clock of the other one is behind

-- the message, and the receipt of that handing of it
abbrev handed : ℕ → Delivery
handed handing = record { receipt = record { incarnation = 1; sequence = 1; handing = handing }; group = codes "a"; body = codes "x" }

abbrev receive : Ask
receive = Receive name 1 None

-- a request at server 1 that goes its way, and its answer
abbrev passes : ℕ → ℕ → Ask → List Event
passes clock number ask = arrive 1 clock number ask ∷ (move 1 2 ++ (events.Put (Server 2) Clients ∷ []))

-- one at server 2, and its answer
abbrev at_second : ℕ → ℕ → Ask → List Event
at_second clock number ask = arrive 2 clock number ask ∷ events.Put (Server 2) Clients ∷ []

abbrev behind : List Event
behind = passes 50000 1 create ++ (passes 50000 2 send ++ (passes 50000 3 receive ++ (passes 80000 4 receive
    ++ (events.Crash 1 ∷ events.Detect 1 ∷ events.Put Master (Server 2) ∷ events.Take Master (Server 2) ∷ (at_second 10 5 receive
    ++ (count_at 2 ∷ events.Put (Server 2) Clients ∷ at_second 110000 6 receive))))))

behind_given : map {B = ℕ × Reply} (λ g. (g.1.length, g.1.reply)) (given_from 1 (first_world 2) behind)
    ≡ (1, Created 1) ∷ (2, Sent 1) ∷ (3, Received (handed 1 ∷ [])) ∷ (4, Received (handed 2 ∷ [])) ∷ (5, Received []) ∷ (5, Counts 0 1) ∷ (6, Received (handed 3 ∷ [])) ∷ []
unfolding given_from after next given_by refusal_of first_world numbers_from refusal_of_arrival refusal_of_query refusal_of_taking refusal_of_detection arrived asked takes forwards detected hears reply_to counts_after history outcome_of fresh_outcome reply_again is_fresh is_stale kept_reply of_client about on live removed_lately creations effect_of effect_on effect_off last_moment messages duplicate remaining message_of hands touches until is_deleted delivery_order to_hand
behind_given = refl

behind_moments : map (λ e. e.moment) (committed 2 behind) ≡ 50000 ∷ 50000 ∷ 50000 ∷ 80000 ∷ 80000 ∷ 110000 ∷ []
unfolding committed longest_from longest_at after next refusal_of first_world numbers_from refusal_of_arrival refusal_of_query refusal_of_taking refusal_of_detection arrived asked takes forwards detected hears reply_to counts_after history outcome_of fresh_outcome reply_again is_fresh is_stale kept_reply of_client about on live removed_lately creations effect_of effect_on effect_off last_moment messages duplicate remaining message_of hands touches until is_deleted delivery_order to_hand
behind_moments = refl

-- ---- entries are kept until they are acknowledged

abbrev passed_on : List Event
passed_on = arrive 1 0 1 create ∷ (move 1 2 ++ (arrive 1 0 2 send ∷ (move 1 2)))

-- how many entries each of two servers keeps
abbrev kept_by : World → ℕ × ℕ
kept_by w = (kept (w.server 1), kept (w.server 2))

passed_on_kept : kept_by (world_after (first_world 2) passed_on) ≡ (2, 0)
unfolding world_after after next refusal_of first_world numbers_from refusal_of_arrival refusal_of_taking arrived takes reply_to history outcome_of fresh_outcome is_fresh of_client about on live removed_lately creations effect_of effect_on effect_off last_moment messages duplicate remaining message_of hands touches until is_deleted
passed_on_kept = refl

acknowledged_kept : kept_by (world_after (first_world 2) (passed_on ++ move 2 1)) ≡ (1, 0)
unfolding world_after after next refusal_of first_world numbers_from refusal_of_arrival refusal_of_taking arrived takes reply_to history outcome_of fresh_outcome is_fresh of_client about on live removed_lately creations effect_of effect_on effect_off last_moment messages duplicate remaining message_of hands touches until is_deleted
acknowledged_kept = refl

all_acknowledged_kept : kept_by (world_after (first_world 2) (passed_on ++ (move 2 1 ++ move 2 1))) ≡ (0, 0)
unfolding world_after after next refusal_of first_world numbers_from refusal_of_arrival refusal_of_taking arrived takes reply_to history outcome_of fresh_outcome is_fresh of_client about on live removed_lately creations effect_of effect_on effect_off last_moment messages duplicate remaining message_of hands touches until is_deleted
all_acknowledged_kept = refl

-- ---- changes that are refused

abbrev alone : List Event
alone = events.Crash 1 ∷ events.Detect 1 ∷ events.Detect 9 ∷ events.Join 1 ∷ events.Join 2 ∷ events.Join 3 ∷ []

alone_refused : refused_from 1 (first_world 1) alone ≡ (1, LastFull) ∷ (2, NotDown) ∷ (3, NoSuchServer) ∷ (4, IdUsed) ∷ (6, JoinPending) ∷ []
unfolding refused_from after next refusal_of first_world numbers_from joined refusal_of_join
alone_refused = refl

eight_refused : refused_from 1 (first_world 8) (events.Join 9 ∷ []) ≡ (1, ChainFull) ∷ []
unfolding refused_from after refusal_of first_world numbers_from refusal_of_join
eight_refused = refl

abbrev dead : List Event
dead = arrive 1 0 1 create ∷ events.Put (Server 1) (Server 2) ∷ events.Crash 2 ∷ events.Crash 2 ∷ events.Put (Server 2) (Server 3) ∷ events.Take (Server 1) (Server 2) ∷ events.Detect 3 ∷ events.Detect 2 ∷ events.Detect 2 ∷ []

dead_refused : refused_from 1 (first_world 3) dead ≡ (4, ServerDown) ∷ (5, ServerDown) ∷ (6, ServerDown) ∷ (7, NotDown) ∷ (9, NoSuchServer) ∷ []
unfolding refused_from after next refusal_of first_world numbers_from refusal_of_arrival arrived last_moment detected refusal_of_detection
dead_refused = refl

-- a server that crashed is refused all that is its own, before its link or its place is looked at
dead_first : refused_from 1 (first_world 2) (events.Crash 2 ∷ events.Take (Server 1) (Server 2) ∷ arrive 2 0 1 create ∷ count_at 2 ∷ events.Put (Server 2) Clients ∷ events.Take (Server 2) (Server 1) ∷ events.Crash 7 ∷ []) ≡ (2, ServerDown) ∷ (3, ServerDown) ∷ (4, ServerDown) ∷ (5, ServerDown) ∷ (6, LinkEmpty) ∷ (7, NoSuchServer) ∷ []
unfolding refused_from after next refusal_of first_world numbers_from refusal_of_arrival refusal_of_query
dead_first = refl

-- a server that joins isn't full, so the only full one may not crash, and the other may
joiner_crashes : refused_from 1 (first_world 1) (events.Join 2 ∷ events.Crash 1 ∷ events.Crash 2 ∷ events.Crash 1 ∷ events.Join 3 ∷ events.Detect 2 ∷ []) ≡ (2, LastFull) ∷ (4, LastFull) ∷ (5, JoinPending) ∷ []
unfolding refused_from after next refusal_of first_world numbers_from detected joined refusal_of_detection refusal_of_join
joiner_crashes = refl

-- nor may the last one that lives
last_of_two : refused_from 1 (first_world 2) (events.Crash 1 ∷ events.Crash 2 ∷ []) ≡ (2, LastFull) ∷ []
unfolding refused_from after next refusal_of first_world numbers_from
last_of_two = refl

-- arrivals that are refused are none
arrivals : arrivals_from (first_world 2) (arrive 2 9 1 create ∷ arrive 1 50 1 create ∷ count_at 2 ∷ []) ≡ record { clock = 50; request = record { client = 1; number = 1; ask = create } } ∷ []
unfolding arrivals_from after next refusal_of first_world numbers_from refusal_of_arrival refusal_of_query arrived asked last_moment
arrivals = refl

-- ---- the server in the middle is lost

-- the first message from one party to another is put, and taken
abbrev pass : Party → Party → List Event
pass from to = events.Put from to ∷ events.Take from to ∷ []

abbrev middle : List Event
middle = arrive 1 0 1 create ∷ arrive 1 0 2 create ∷ arrive 1 0 3 create ∷ (move 1 2 ++ (move 1 2 ++ (move 1 2 ++ (events.Put (Server 2) (Server 3) ∷ events.Put (Server 2) (Server 3) ∷ events.Crash 2 ∷ events.Detect 2 ∷ events.Put Master (Server 3) ∷ events.Take (Server 2) (Server 3) ∷ events.Take Master (Server 3) ∷ events.Take (Server 2) (Server 3) ∷ (pass (Server 3) Master ++ (pass Master (Server 1) ++ (move 1 3 ++ (move 1 3))))))))

middle_lengths : map (λ a. a.length) (made 3 middle) ≡ 1 ∷ 2 ∷ 3 ∷ []
unfolding made made_from after next refusal_of first_world numbers_from refusal_of_arrival refusal_of_taking arrived takes forwards detected hears refusal_of_detection reply_to history outcome_of fresh_outcome is_fresh of_client about live removed_lately creations effect_of effect_off last_moment
middle_lengths = refl

-- ---- the middle one of three is lost, with an entry in its outbox and two on the way

abbrev lost : List Event
lost = arrive 1 0 1 create ∷ arrive 1 0 2 send ∷ arrive 1 0 3 send ∷ (move 1 2 ++ (move 1 2 ++ (move 1 2 ++ (events.Put (Server 2) (Server 3) ∷ events.Put (Server 2) (Server 3) ∷ events.Crash 2 ∷ []))))

abbrev repaired : List Event
repaired = lost ++ (events.Detect 2 ∷ (events.Put Master (Server 3) ∷ events.Take (Server 2) (Server 3) ∷ events.Take Master (Server 3) ∷ events.Take (Server 2) (Server 3) ∷ (pass (Server 3) Master ++ pass Master (Server 1))))

abbrev found : World → ℕ × ℕ × ℕ × ℕ
found w = (length (w.outbox (Server 2) (Server 3)), length (w.link (Server 2) (Server 3)), length (w.outbox (Server 1) (Server 3)), length (w.server 3).entries)

lost_waiting : found (world_after (first_world 3) lost) ≡ (1, 2, 0, 0)
unfolding world_after after next refusal_of first_world numbers_from refusal_of_arrival refusal_of_query refusal_of_taking refusal_of_detection refusal_of_join arrived asked takes forwards detected joined hears reply_to history outcome_of fresh_outcome is_fresh of_client about on live removed_lately creations effect_of effect_on effect_off last_moment messages duplicate remaining message_of hands touches until is_deleted
lost_waiting = refl

-- the place of an entry that is forwarded
abbrev place_of : Message → ℕ
place_of (Fwd place e) = place
place_of m = 0

lost_channel : map place_of (channel (world_after (first_world 3) lost) (Server 2) (Server 3)) ≡ 1 ∷ 2 ∷ 3 ∷ []
unfolding world_after after next refusal_of first_world numbers_from refusal_of_arrival refusal_of_query refusal_of_taking refusal_of_detection refusal_of_join arrived asked takes forwards detected joined hears reply_to history outcome_of fresh_outcome is_fresh of_client about on live removed_lately creations effect_of effect_on effect_off last_moment messages duplicate remaining message_of hands touches until is_deleted
lost_channel = refl

repaired_waiting : found (world_after (first_world 3) repaired) ≡ (1, 0, 2, 1)
unfolding world_after after next refusal_of first_world numbers_from refusal_of_arrival refusal_of_query refusal_of_taking refusal_of_detection refusal_of_join arrived asked takes forwards detected joined hears reply_to history outcome_of fresh_outcome is_fresh of_client about on live removed_lately creations effect_of effect_on effect_off last_moment messages duplicate remaining message_of hands touches until is_deleted
repaired_waiting = refl

-- ---- a server joins: the last member feeds it its state while it still acts

-- What the master knows: the members, whether the last one is told and is ready, and which server joins. Then of each of
-- these servers whether it acts, whether it is full, and how many entries it has.
abbrev seen : List ℕ → World → (List ℕ × Bool × Bool × Option ℕ) × List (Bool × Bool × ℕ)
seen ids w = ((w.master.chain, w.master.told, w.master.ready, w.master.joiner), map (λ id. (acts (w.server id), (w.server id).full, length (w.server id).entries)) ids)

-- how many messages wait in an outbox, and how many stand in the link
abbrev waiting : Party → Party → World → ℕ × ℕ
waiting from to w = (length (w.outbox from to), length (w.link from to))

-- server 2 has two entries, and feeds server 3
abbrev fed : List Event
fed = arrive 1 0 1 create ∷ move 1 2 ++ (move 2 1 ++ (arrive 1 0 2 send ∷ move 1 2 ++ (move 2 1 ++ (events.Join 3 ∷ pass Master (Server 3) ++ (pass (Server 3) Master ++ (pass Master (Server 2)))))))

fed_seen : seen (2 ∷ 3 ∷ []) (world_after (first_world 2) fed) ≡ ((1 ∷ 2 ∷ [], true, true, Some 3), (true, true, 2) ∷ (false, false, 0) ∷ [])
unfolding world_after after next refusal_of first_world numbers_from refusal_of_arrival refusal_of_query refusal_of_taking refusal_of_detection refusal_of_join arrived asked takes forwards detected joined hears counts_after reply_to reply_again is_stale kept_reply history outcome_of fresh_outcome is_fresh of_client about on live removed_lately creations effect_of effect_on effect_off last_moment messages duplicate remaining message_of hands touches until is_deleted
fed_seen = refl

fed_waiting : waiting (Server 2) (Server 3) (world_after (first_world 2) fed) ≡ (1, 0)
unfolding world_after after next refusal_of first_world numbers_from refusal_of_arrival refusal_of_query refusal_of_taking refusal_of_detection refusal_of_join arrived asked takes forwards detected joined hears counts_after reply_to reply_again is_stale kept_reply history outcome_of fresh_outcome is_fresh of_client about on live removed_lately creations effect_of effect_on effect_off last_moment messages duplicate remaining message_of hands touches until is_deleted
fed_waiting = refl

-- server 2 is lost: server 1 has all, and acts alone; the server that joined behind it is dropped
abbrev feeder_lost : List Event
feeder_lost = fed ++ (events.Crash 2 ∷ events.Crash 1 ∷ events.Detect 2 ∷ pass Master (Server 1) ++ (count_at 1 ∷ []))

feeder_lost_seen : seen (1 ∷ 3 ∷ []) (world_after (first_world 2) feeder_lost) ≡ ((1 ∷ [], true, false, None), (true, true, 2) ∷ (false, false, 0) ∷ [])
unfolding world_after after next refusal_of first_world numbers_from refusal_of_arrival refusal_of_query refusal_of_taking refusal_of_detection refusal_of_join arrived asked takes forwards detected joined hears counts_after reply_to reply_again is_stale kept_reply history outcome_of fresh_outcome is_fresh of_client about on live removed_lately creations effect_of effect_on effect_off last_moment messages duplicate remaining message_of hands touches until is_deleted
feeder_lost_seen = refl

abbrev joined_again : List Event
joined_again = feeder_lost ++ (pass (Server 1) Master ++ (events.Join 3 ∷ events.Join 4 ∷ []))

feeder_lost_refused : refused_from 1 (first_world 2) joined_again ≡ (19, LastFull) ∷ (26, IdUsed) ∷ []
unfolding refused_from world_after after next refusal_of first_world numbers_from refusal_of_arrival refusal_of_query refusal_of_taking refusal_of_detection refusal_of_join arrived asked takes forwards detected joined hears counts_after reply_to reply_again is_stale kept_reply history outcome_of fresh_outcome is_fresh of_client about on live removed_lately creations effect_of effect_on effect_off last_moment messages duplicate remaining message_of hands touches until is_deleted
feeder_lost_refused = refl

joined_again_seen : seen (1 ∷ 4 ∷ []) (world_after (first_world 2) joined_again) ≡ ((1 ∷ [], true, true, Some 4), (true, true, 2) ∷ (false, false, 0) ∷ [])
unfolding world_after after next refusal_of first_world numbers_from refusal_of_arrival refusal_of_query refusal_of_taking refusal_of_detection refusal_of_join arrived asked takes forwards detected joined hears counts_after reply_to reply_again is_stale kept_reply history outcome_of fresh_outcome is_fresh of_client about on live removed_lately creations effect_of effect_on effect_off last_moment messages duplicate remaining message_of hands touches until is_deleted
joined_again_seen = refl

-- The state is taken, and the old tail answers one entry more.
abbrev more_sent : List Event
more_sent = fed ++ (move 2 3 ++ (arrive 1 0 3 send_more ∷ move 1 2 ++ (events.Put (Server 2) Clients ∷ events.Put (Server 2) Clients ∷ events.Put (Server 2) Clients ∷ [])))

more_sent_seen : seen (2 ∷ 3 ∷ []) (world_after (first_world 2) more_sent) ≡ ((1 ∷ 2 ∷ [], true, true, Some 3), (true, true, 3) ∷ (false, false, 2) ∷ [])
unfolding world_after after next refusal_of first_world numbers_from refusal_of_arrival refusal_of_query refusal_of_taking refusal_of_detection refusal_of_join arrived asked takes forwards detected joined hears counts_after reply_to reply_again is_stale kept_reply history outcome_of fresh_outcome is_fresh of_client about on live removed_lately creations effect_of effect_on effect_off last_moment messages duplicate remaining message_of hands touches until is_deleted
more_sent_seen = refl

more_sent_waiting : waiting (Server 3) Master (world_after (first_world 2) more_sent) ≡ (1, 0)
unfolding world_after after next refusal_of first_world numbers_from refusal_of_arrival refusal_of_query refusal_of_taking refusal_of_detection refusal_of_join arrived asked takes forwards detected joined hears counts_after reply_to reply_again is_stale kept_reply history outcome_of fresh_outcome is_fresh of_client about on live removed_lately creations effect_of effect_on effect_off last_moment messages duplicate remaining message_of hands touches until is_deleted
more_sent_waiting = refl

-- The new one is a member, and the old tail acts until it is told.
abbrev member : List Event
member = more_sent ++ pass (Server 3) Master

member_seen : seen (2 ∷ 3 ∷ []) (world_after (first_world 2) member) ≡ ((1 ∷ 2 ∷ 3 ∷ [], false, false, None), (true, true, 3) ∷ (false, false, 2) ∷ [])
unfolding world_after after next refusal_of first_world numbers_from refusal_of_arrival refusal_of_query refusal_of_taking refusal_of_detection refusal_of_join arrived asked takes forwards detected joined hears counts_after reply_to reply_again is_stale kept_reply history outcome_of fresh_outcome is_fresh of_client about on live removed_lately creations effect_of effect_on effect_off last_moment messages duplicate remaining message_of hands touches until is_deleted
member_seen = refl

-- It is told, and sends nothing twice.
abbrev handing_over : List Event
handing_over = member ++ pass Master (Server 2)

handing_over_seen : seen (2 ∷ 3 ∷ []) (world_after (first_world 2) handing_over) ≡ ((1 ∷ 2 ∷ 3 ∷ [], false, false, None), (false, true, 3) ∷ (false, false, 2) ∷ [])
unfolding world_after after next refusal_of first_world numbers_from refusal_of_arrival refusal_of_query refusal_of_taking refusal_of_detection refusal_of_join arrived asked takes forwards detected joined hears counts_after reply_to reply_again is_stale kept_reply history outcome_of fresh_outcome is_fresh of_client about on live removed_lately creations effect_of effect_on effect_off last_moment messages duplicate remaining message_of hands touches until is_deleted
handing_over_seen = refl

handing_over_waiting : waiting (Server 2) (Server 3) (world_after (first_world 2) handing_over) ≡ (1, 0)
unfolding world_after after next refusal_of first_world numbers_from refusal_of_arrival refusal_of_query refusal_of_taking refusal_of_detection refusal_of_join arrived asked takes forwards detected joined hears counts_after reply_to reply_again is_stale kept_reply history outcome_of fresh_outcome is_fresh of_client about on live removed_lately creations effect_of effect_on effect_off last_moment messages duplicate remaining message_of hands touches until is_deleted
handing_over_waiting = refl

-- The new tail is told to act with three entries, and has two.
abbrev new_tail_told : List Event
new_tail_told = handing_over ++ (count_at 2 ∷ pass (Server 2) Master ++ (pass Master (Server 3) ++ (count_at 3 ∷ [])))

new_tail_told_seen : seen (2 ∷ 3 ∷ []) (world_after (first_world 2) new_tail_told) ≡ ((1 ∷ 2 ∷ 3 ∷ [], true, false, None), (false, true, 3) ∷ (false, false, 2) ∷ [])
unfolding world_after after next refusal_of first_world numbers_from refusal_of_arrival refusal_of_query refusal_of_taking refusal_of_detection refusal_of_join arrived asked takes forwards detected joined hears counts_after reply_to reply_again is_stale kept_reply history outcome_of fresh_outcome is_fresh of_client about on live removed_lately creations effect_of effect_on effect_off last_moment messages duplicate remaining message_of hands touches until is_deleted
new_tail_told_seen = refl

abbrev handed_over : List Event
handed_over = new_tail_told ++ (move 2 3 ++ (count_at 3 ∷ events.Put (Server 3) Clients ∷ events.Put (Server 3) Clients ∷ []))

handed_over_seen : seen (2 ∷ 3 ∷ []) (world_after (first_world 2) handed_over) ≡ ((1 ∷ 2 ∷ 3 ∷ [], true, false, None), (false, true, 3) ∷ (true, true, 3) ∷ [])
unfolding world_after after next refusal_of first_world numbers_from refusal_of_arrival refusal_of_query refusal_of_taking refusal_of_detection refusal_of_join arrived asked takes forwards detected joined hears counts_after reply_to reply_again is_stale kept_reply history outcome_of fresh_outcome is_fresh of_client about on live removed_lately creations effect_of effect_on effect_off last_moment messages duplicate remaining message_of hands touches until is_deleted
handed_over_seen = refl

abbrev handed_over_ready : List Event
handed_over_ready = handed_over ++ (pass (Server 3) Master ++ (events.Join 4 ∷ []))

handed_over_ready_seen : seen (3 ∷ []) (world_after (first_world 2) handed_over_ready) ≡ ((1 ∷ 2 ∷ 3 ∷ [], true, true, Some 4), (true, true, 3) ∷ [])
unfolding world_after after next refusal_of first_world numbers_from refusal_of_arrival refusal_of_query refusal_of_taking refusal_of_detection refusal_of_join arrived asked takes forwards detected joined hears counts_after reply_to reply_again is_stale kept_reply history outcome_of fresh_outcome is_fresh of_client about on live removed_lately creations effect_of effect_on effect_off last_moment messages duplicate remaining message_of hands touches until is_deleted
handed_over_ready_seen = refl

handed_over_refused : refused_from 1 (first_world 2) handed_over_ready ≡ (30, NotTail) ∷ (35, NotTail) ∷ []
unfolding refused_from world_after after next refusal_of first_world numbers_from refusal_of_arrival refusal_of_query refusal_of_taking refusal_of_detection refusal_of_join arrived asked takes forwards detected joined hears counts_after reply_to reply_again is_stale kept_reply history outcome_of fresh_outcome is_fresh of_client about on live removed_lately creations effect_of effect_on effect_off last_moment messages duplicate remaining message_of hands touches until is_deleted
handed_over_refused = refl

handed_over_given : map {B = ℕ × ℕ} (λ g. (g.0, g.1.length)) (given_from 1 (first_world 2) handed_over) ≡ (23, 1) ∷ (24, 2) ∷ (25, 3) ∷ (39, 3) ∷ (40, 3) ∷ []
unfolding given_from given_by world_after after next refusal_of first_world numbers_from refusal_of_arrival refusal_of_query refusal_of_taking refusal_of_detection refusal_of_join arrived asked takes forwards detected joined hears counts_after reply_to reply_again is_stale kept_reply history outcome_of fresh_outcome is_fresh of_client about on live removed_lately creations effect_of effect_on effect_off last_moment messages duplicate remaining message_of hands touches until is_deleted
handed_over_given = refl

handed_over_replies : map (λ g. g.1.reply) (given_from 1 (first_world 2) handed_over) ≡ Created 1 ∷ Sent 1 ∷ Sent 2 ∷ Sent 2 ∷ Counts 2 0 ∷ []
unfolding given_from given_by world_after after next refusal_of first_world numbers_from refusal_of_arrival refusal_of_query refusal_of_taking refusal_of_detection refusal_of_join arrived asked takes forwards detected joined hears counts_after reply_to reply_again is_stale kept_reply history outcome_of fresh_outcome is_fresh of_client about on live removed_lately creations effect_of effect_on effect_off last_moment messages duplicate remaining message_of hands touches until is_deleted
handed_over_replies = refl

-- ---- the old tail is lost when the new one is a member and lacks an entry

abbrev lacking : List Event
lacking = fed ++ (move 2 3 ++ (arrive 1 0 3 send_more ∷ move 1 2 ++ (move 2 1 ++ (pass (Server 3) Master))))

lacking_waiting : waiting (Server 2) (Server 3) (world_after (first_world 2) lacking) ≡ (1, 0)
unfolding world_after after next refusal_of first_world numbers_from refusal_of_arrival refusal_of_query refusal_of_taking refusal_of_detection refusal_of_join arrived asked takes forwards detected joined hears counts_after reply_to reply_again is_stale kept_reply history outcome_of fresh_outcome is_fresh of_client about on live removed_lately creations effect_of effect_on effect_off last_moment messages duplicate remaining message_of hands touches until is_deleted
lacking_waiting = refl

lacking_kept : kept ((world_after (first_world 2) lacking).server 1) ≡ 0
unfolding world_after after next refusal_of first_world numbers_from refusal_of_arrival refusal_of_query refusal_of_taking refusal_of_detection refusal_of_join arrived asked takes forwards detected joined hears counts_after reply_to reply_again is_stale kept_reply history outcome_of fresh_outcome is_fresh of_client about on live removed_lately creations effect_of effect_on effect_off last_moment messages duplicate remaining message_of hands touches until is_deleted
lacking_kept = refl

-- Server 1 keeps no entries any more, so it sends its whole state.
abbrev told_anew : List Event
told_anew = lacking ++ (events.Crash 2 ∷ events.Crash 1 ∷ events.Put (Server 2) (Server 3) ∷ events.Detect 2 ∷ pass Master (Server 3) ++ (pass (Server 3) Master ++ (pass Master (Server 1))))

told_anew_seen : seen (1 ∷ 3 ∷ []) (world_after (first_world 2) told_anew) ≡ ((1 ∷ 3 ∷ [], false, false, None), (false, true, 3) ∷ (false, false, 2) ∷ [])
unfolding world_after after next refusal_of first_world numbers_from refusal_of_arrival refusal_of_query refusal_of_taking refusal_of_detection refusal_of_join arrived asked takes forwards detected joined hears counts_after reply_to reply_again is_stale kept_reply history outcome_of fresh_outcome is_fresh of_client about on live removed_lately creations effect_of effect_on effect_off last_moment messages duplicate remaining message_of hands touches until is_deleted
told_anew_seen = refl

told_anew_waiting : waiting (Server 1) (Server 3) (world_after (first_world 2) told_anew) ≡ (1, 0)
unfolding world_after after next refusal_of first_world numbers_from refusal_of_arrival refusal_of_query refusal_of_taking refusal_of_detection refusal_of_join arrived asked takes forwards detected joined hears counts_after reply_to reply_again is_stale kept_reply history outcome_of fresh_outcome is_fresh of_client about on live removed_lately creations effect_of effect_on effect_off last_moment messages duplicate remaining message_of hands touches until is_deleted
told_anew_waiting = refl

-- A member that takes a snapshot tells the master, and nothing changes there.
abbrev snapshot_taken : List Event
snapshot_taken = told_anew ++ (count_at 1 ∷ count_at 3 ∷ move 1 3 ++ (count_at 3 ∷ pass (Server 3) Master))

snapshot_taken_seen : seen (1 ∷ 3 ∷ []) (world_after (first_world 2) snapshot_taken) ≡ ((1 ∷ 3 ∷ [], false, false, None), (false, true, 3) ∷ (false, false, 3) ∷ [])
unfolding world_after after next refusal_of first_world numbers_from refusal_of_arrival refusal_of_query refusal_of_taking refusal_of_detection refusal_of_join arrived asked takes forwards detected joined hears counts_after reply_to reply_again is_stale kept_reply history outcome_of fresh_outcome is_fresh of_client about on live removed_lately creations effect_of effect_on effect_off last_moment messages duplicate remaining message_of hands touches until is_deleted
snapshot_taken_seen = refl

-- What came in a snapshot is answered where the client asks again.
abbrev repaired_fully : List Event
repaired_fully = snapshot_taken ++ (pass (Server 1) Master ++ (pass Master (Server 3) ++ (events.Put (Server 3) Clients ∷ count_at 3 ∷ events.Put (Server 3) Clients ∷ events.Join 4 ∷ pass (Server 3) Master ++ (arrive 1 0 3 send_more ∷ move 1 3 ++ (events.Put (Server 3) Clients ∷ events.Join 4 ∷ [])))))

repaired_fully_seen : seen (1 ∷ 3 ∷ []) (world_after (first_world 2) repaired_fully) ≡ ((1 ∷ 3 ∷ [], true, true, Some 4), (false, true, 4) ∷ (true, true, 4) ∷ [])
unfolding world_after after next refusal_of first_world numbers_from refusal_of_arrival refusal_of_query refusal_of_taking refusal_of_detection refusal_of_join arrived asked takes forwards detected joined hears counts_after reply_to reply_again is_stale kept_reply history outcome_of fresh_outcome is_fresh of_client about on live removed_lately creations effect_of effect_on effect_off last_moment messages duplicate remaining message_of hands touches until is_deleted
repaired_fully_seen = refl

repaired_fully_refused : refused_from 1 (first_world 2) repaired_fully ≡ (28, LastFull) ∷ (29, ServerDown) ∷ (37, NotTail) ∷ (38, NotTail) ∷ (41, NotTail) ∷ (48, OutboxEmpty) ∷ (51, JoinPending) ∷ []
unfolding refused_from world_after after next refusal_of first_world numbers_from refusal_of_arrival refusal_of_query refusal_of_taking refusal_of_detection refusal_of_join arrived asked takes forwards detected joined hears counts_after reply_to reply_again is_stale kept_reply history outcome_of fresh_outcome is_fresh of_client about on live removed_lately creations effect_of effect_on effect_off last_moment messages duplicate remaining message_of hands touches until is_deleted
repaired_fully_refused = refl

repaired_fully_given : map {B = ℕ × ℕ} (λ g. (g.0, g.1.length)) (given_from 1 (first_world 2) repaired_fully) ≡ (50, 3) ∷ (57, 4) ∷ []
unfolding given_from given_by world_after after next refusal_of first_world numbers_from refusal_of_arrival refusal_of_query refusal_of_taking refusal_of_detection refusal_of_join arrived asked takes forwards detected joined hears counts_after reply_to reply_again is_stale kept_reply history outcome_of fresh_outcome is_fresh of_client about on live removed_lately creations effect_of effect_on effect_off last_moment messages duplicate remaining message_of hands touches until is_deleted
repaired_fully_given = refl

repaired_fully_replies : map (λ g. g.1.reply) (given_from 1 (first_world 2) repaired_fully) ≡ Counts 2 0 ∷ Sent 2 ∷ []
unfolding given_from given_by world_after after next refusal_of first_world numbers_from refusal_of_arrival refusal_of_query refusal_of_taking refusal_of_detection refusal_of_join arrived asked takes forwards detected joined hears counts_after reply_to reply_again is_stale kept_reply history outcome_of fresh_outcome is_fresh of_client about on live removed_lately creations effect_of effect_on effect_off last_moment messages duplicate remaining message_of hands touches until is_deleted
repaired_fully_replies = refl

-- the same, where the new tail is told to act before the snapshot comes
abbrev told_first : List Event
told_first = lacking ++ (events.Crash 2 ∷ events.Detect 2 ∷ pass Master (Server 3) ++ (pass (Server 3) Master ++ (pass Master (Server 1) ++ (pass (Server 1) Master ++ (pass Master (Server 3) ++ (count_at 3 ∷ []))))))

told_first_waits : ((world_after (first_world 2) told_first).server 3).at_least ≡ Some 3
unfolding world_after after next refusal_of first_world numbers_from refusal_of_arrival refusal_of_query refusal_of_taking refusal_of_detection refusal_of_join arrived asked takes forwards detected joined hears counts_after reply_to reply_again is_stale kept_reply history outcome_of fresh_outcome is_fresh of_client about on live removed_lately creations effect_of effect_on effect_off last_moment messages duplicate remaining message_of hands touches until is_deleted
told_first_waits = refl

-- It tells the master that it is ready, and nothing else.
abbrev snapshot_after : List Event
snapshot_after = told_first ++ (move 1 3 ++ (count_at 3 ∷ events.Put (Server 3) Clients ∷ pass (Server 3) Master ++ (events.Put (Server 3) Master ∷ [])))

snapshot_after_seen : seen (1 ∷ 3 ∷ []) (world_after (first_world 2) snapshot_after) ≡ ((1 ∷ 3 ∷ [], true, true, None), (false, true, 3) ∷ (true, true, 3) ∷ [])
unfolding world_after after next refusal_of first_world numbers_from refusal_of_arrival refusal_of_query refusal_of_taking refusal_of_detection refusal_of_join arrived asked takes forwards detected joined hears counts_after reply_to reply_again is_stale kept_reply history outcome_of fresh_outcome is_fresh of_client about on live removed_lately creations effect_of effect_on effect_off last_moment messages duplicate remaining message_of hands touches until is_deleted
snapshot_after_seen = refl

snapshot_after_refused : refused_from 1 (first_world 2) snapshot_after ≡ (39, NotTail) ∷ (46, OutboxEmpty) ∷ []
unfolding refused_from world_after after next refusal_of first_world numbers_from refusal_of_arrival refusal_of_query refusal_of_taking refusal_of_detection refusal_of_join arrived asked takes forwards detected joined hears counts_after reply_to reply_again is_stale kept_reply history outcome_of fresh_outcome is_fresh of_client about on live removed_lately creations effect_of effect_on effect_off last_moment messages duplicate remaining message_of hands touches until is_deleted
snapshot_after_refused = refl

snapshot_after_given : map {B = ℕ × ℕ} (λ g. (g.0, g.1.length)) (given_from 1 (first_world 2) snapshot_after) ≡ (43, 3) ∷ []
unfolding given_from given_by world_after after next refusal_of first_world numbers_from refusal_of_arrival refusal_of_query refusal_of_taking refusal_of_detection refusal_of_join arrived asked takes forwards detected joined hears counts_after reply_to reply_again is_stale kept_reply history outcome_of fresh_outcome is_fresh of_client about on live removed_lately creations effect_of effect_on effect_off last_moment messages duplicate remaining message_of hands touches until is_deleted
snapshot_after_given = refl

-- ---- the last member is lost before the master hears that the new one has its state

-- It lives, and is no member for good.
abbrev left_behind : List Event
left_behind = fed ++ (move 2 3 ++ (events.Put (Server 3) Master ∷ events.Crash 2 ∷ events.Detect 2 ∷ events.Take (Server 3) Master ∷ []))

left_behind_seen : seen (1 ∷ 3 ∷ []) (world_after (first_world 2) left_behind) ≡ ((1 ∷ [], true, false, None), (false, true, 2) ∷ (false, false, 2) ∷ [])
unfolding world_after after next refusal_of first_world numbers_from refusal_of_arrival refusal_of_query refusal_of_taking refusal_of_detection refusal_of_join arrived asked takes forwards detected joined hears counts_after reply_to reply_again is_stale kept_reply history outcome_of fresh_outcome is_fresh of_client about on live removed_lately creations effect_of effect_on effect_off last_moment messages duplicate remaining message_of hands touches until is_deleted
left_behind_seen = refl

abbrev joined_instead : List Event
joined_instead = left_behind ++ (events.Crash 3 ∷ events.Detect 3 ∷ pass Master (Server 1) ++ (pass (Server 1) Master ++ (events.Join 4 ∷ pass Master (Server 4) ++ (pass (Server 4) Master ++ (pass Master (Server 1) ++ (move 1 4 ++ (pass (Server 4) Master ++ (pass Master (Server 1) ++ (pass (Server 1) Master ++ (pass Master (Server 4) ++ (pass (Server 4) Master ++ (count_at 4 ∷ events.Put (Server 4) Clients ∷ []))))))))))))

joined_instead_given : map {B = ℕ × ℕ} (λ g. (g.0, g.1.length)) (given_from 1 (first_world 2) joined_instead) ≡ (50, 2) ∷ []
unfolding given_from given_by world_after after next refusal_of first_world numbers_from refusal_of_arrival refusal_of_query refusal_of_taking refusal_of_detection refusal_of_join arrived asked takes forwards detected joined hears counts_after reply_to reply_again is_stale kept_reply history outcome_of fresh_outcome is_fresh of_client about on live removed_lately creations effect_of effect_on effect_off last_moment messages duplicate remaining message_of hands touches until is_deleted
joined_instead_given = refl

joined_instead_refused : refused_from 1 (first_world 2) joined_instead ≡ (25, NoSuchServer) ∷ []
unfolding refused_from world_after after next refusal_of first_world numbers_from refusal_of_arrival refusal_of_query refusal_of_taking refusal_of_detection refusal_of_join arrived asked takes forwards detected joined hears counts_after reply_to reply_again is_stale kept_reply history outcome_of fresh_outcome is_fresh of_client about on live removed_lately creations effect_of effect_on effect_off last_moment messages duplicate remaining message_of hands touches until is_deleted
joined_instead_refused = refl

joined_instead_seen : seen (1 ∷ 4 ∷ []) (world_after (first_world 2) joined_instead) ≡ ((1 ∷ 4 ∷ [], true, true, None), (false, true, 2) ∷ (true, true, 2) ∷ [])
unfolding world_after after next refusal_of first_world numbers_from refusal_of_arrival refusal_of_query refusal_of_taking refusal_of_detection refusal_of_join arrived asked takes forwards detected joined hears counts_after reply_to reply_again is_stale kept_reply history outcome_of fresh_outcome is_fresh of_client about on live removed_lately creations effect_of effect_on effect_off last_moment messages duplicate remaining message_of hands touches until is_deleted
joined_instead_seen = refl

-- ---- the one that joins is lost, and the last member goes on

abbrev joiner_lost : List Event
joiner_lost = fed ++ (events.Crash 3 ∷ count_at 2 ∷ events.Put (Server 2) Clients ∷ events.Detect 3 ∷ events.Detect 3 ∷ events.Join 4 ∷ [])

joiner_lost_seen : seen (2 ∷ []) (world_after (first_world 2) joiner_lost) ≡ ((1 ∷ 2 ∷ [], true, true, Some 4), (true, true, 2) ∷ [])
unfolding world_after after next refusal_of first_world numbers_from refusal_of_arrival refusal_of_query refusal_of_taking refusal_of_detection refusal_of_join arrived asked takes forwards detected joined hears counts_after reply_to reply_again is_stale kept_reply history outcome_of fresh_outcome is_fresh of_client about on live removed_lately creations effect_of effect_on effect_off last_moment messages duplicate remaining message_of hands touches until is_deleted
joiner_lost_seen = refl

joiner_lost_said : waiting Master (Server 2) (world_after (first_world 2) joiner_lost) ≡ (1, 0)
unfolding world_after after next refusal_of first_world numbers_from refusal_of_arrival refusal_of_query refusal_of_taking refusal_of_detection refusal_of_join arrived asked takes forwards detected joined hears counts_after reply_to reply_again is_stale kept_reply history outcome_of fresh_outcome is_fresh of_client about on live removed_lately creations effect_of effect_on effect_off last_moment messages duplicate remaining message_of hands touches until is_deleted
joiner_lost_said = refl

-- It feeds nobody any more, before it feeds the next one.
abbrev feeds_nobody : List Event
feeds_nobody = joiner_lost ++ (pass Master (Server 2) ++ (arrive 1 0 3 send_more ∷ move 1 2))

feeds_nobody_old : waiting (Server 2) (Server 3) (world_after (first_world 2) feeds_nobody) ≡ (1, 0)
unfolding world_after after next refusal_of first_world numbers_from refusal_of_arrival refusal_of_query refusal_of_taking refusal_of_detection refusal_of_join arrived asked takes forwards detected joined hears counts_after reply_to reply_again is_stale kept_reply history outcome_of fresh_outcome is_fresh of_client about on live removed_lately creations effect_of effect_on effect_off last_moment messages duplicate remaining message_of hands touches until is_deleted
feeds_nobody_old = refl

feeds_nobody_new : waiting (Server 2) (Server 4) (world_after (first_world 2) feeds_nobody) ≡ (0, 0)
unfolding world_after after next refusal_of first_world numbers_from refusal_of_arrival refusal_of_query refusal_of_taking refusal_of_detection refusal_of_join arrived asked takes forwards detected joined hears counts_after reply_to reply_again is_stale kept_reply history outcome_of fresh_outcome is_fresh of_client about on live removed_lately creations effect_of effect_on effect_off last_moment messages duplicate remaining message_of hands touches until is_deleted
feeds_nobody_new = refl

abbrev next_joined : List Event
next_joined = feeds_nobody ++ (count_at 2 ∷ pass Master (Server 4) ++ (pass (Server 4) Master ++ (pass Master (Server 2) ++ (move 2 4 ++ (pass (Server 4) Master ++ (pass Master (Server 2) ++ (pass (Server 2) Master ++ (pass Master (Server 4) ++ (pass (Server 4) Master ++ (count_at 4 ∷ events.Put (Server 4) Clients ∷ events.Put (Server 2) (Server 3) ∷ []))))))))))

next_joined_seen : seen (2 ∷ 4 ∷ []) (world_after (first_world 2) next_joined) ≡ ((1 ∷ 2 ∷ 4 ∷ [], true, true, None), (false, true, 3) ∷ (true, true, 3) ∷ [])
unfolding world_after after next refusal_of first_world numbers_from refusal_of_arrival refusal_of_query refusal_of_taking refusal_of_detection refusal_of_join arrived asked takes forwards detected joined hears counts_after reply_to reply_again is_stale kept_reply history outcome_of fresh_outcome is_fresh of_client about on live removed_lately creations effect_of effect_on effect_off last_moment messages duplicate remaining message_of hands touches until is_deleted
next_joined_seen = refl

next_joined_refused : refused_from 1 (first_world 2) next_joined ≡ (22, NoSuchServer) ∷ []
unfolding refused_from world_after after next refusal_of first_world numbers_from refusal_of_arrival refusal_of_query refusal_of_taking refusal_of_detection refusal_of_join arrived asked takes forwards detected joined hears counts_after reply_to reply_again is_stale kept_reply history outcome_of fresh_outcome is_fresh of_client about on live removed_lately creations effect_of effect_on effect_off last_moment messages duplicate remaining message_of hands touches until is_deleted
next_joined_refused = refl

next_joined_given : map {B = ℕ × ℕ} (λ g. (g.0, g.1.length)) (given_from 1 (first_world 2) next_joined) ≡ (20, 1) ∷ (49, 3) ∷ []
unfolding given_from given_by world_after after next refusal_of first_world numbers_from refusal_of_arrival refusal_of_query refusal_of_taking refusal_of_detection refusal_of_join arrived asked takes forwards detected joined hears counts_after reply_to reply_again is_stale kept_reply history outcome_of fresh_outcome is_fresh of_client about on live removed_lately creations effect_of effect_on effect_off last_moment messages duplicate remaining message_of hands touches until is_deleted
next_joined_given = refl

-- ---- one server that has no entries takes a second

abbrev nothing_fed : List Event
nothing_fed = events.Join 2 ∷ pass Master (Server 2) ++ (pass (Server 2) Master ++ (pass Master (Server 1) ++ (count_at 1 ∷ move 1 2 ++ (pass (Server 2) Master ++ (events.Join 3 ∷ [])))))

nothing_fed_seen : seen (1 ∷ 2 ∷ []) (world_after (first_world 1) nothing_fed) ≡ ((1 ∷ 2 ∷ [], false, false, None), (true, true, 0) ∷ (false, false, 0) ∷ [])
unfolding world_after after next refusal_of first_world numbers_from refusal_of_arrival refusal_of_query refusal_of_taking refusal_of_detection refusal_of_join arrived asked takes forwards detected joined hears counts_after reply_to reply_again is_stale kept_reply history outcome_of fresh_outcome is_fresh of_client about on live removed_lately creations effect_of effect_on effect_off last_moment messages duplicate remaining message_of hands touches until is_deleted
nothing_fed_seen = refl

abbrev nothing_handed_over : List Event
nothing_handed_over = nothing_fed ++ (pass Master (Server 1) ++ (count_at 1 ∷ pass (Server 1) Master ++ (pass Master (Server 2) ++ (count_at 2 ∷ pass (Server 2) Master ++ (events.Join 3 ∷ [])))))

nothing_handed_over_seen : seen (1 ∷ 2 ∷ []) (world_after (first_world 1) nothing_handed_over) ≡ ((1 ∷ 2 ∷ [], true, true, Some 3), (false, true, 0) ∷ (true, true, 0) ∷ [])
unfolding world_after after next refusal_of first_world numbers_from refusal_of_arrival refusal_of_query refusal_of_taking refusal_of_detection refusal_of_join arrived asked takes forwards detected joined hears counts_after reply_to reply_again is_stale kept_reply history outcome_of fresh_outcome is_fresh of_client about on live removed_lately creations effect_of effect_on effect_off last_moment messages duplicate remaining message_of hands touches until is_deleted
nothing_handed_over_seen = refl

nothing_handed_over_refused : refused_from 1 (first_world 1) nothing_handed_over ≡ (13, JoinPending) ∷ (16, NotTail) ∷ []
unfolding refused_from world_after after next refusal_of first_world numbers_from refusal_of_arrival refusal_of_query refusal_of_taking refusal_of_detection refusal_of_join arrived asked takes forwards detected joined hears counts_after reply_to reply_again is_stale kept_reply history outcome_of fresh_outcome is_fresh of_client about on live removed_lately creations effect_of effect_on effect_off last_moment messages duplicate remaining message_of hands touches until is_deleted
nothing_handed_over_refused = refl

-- ---- the tail is lost, and what it committed stays

abbrev tail_gone : List Event
tail_gone = arrive 1 0 1 create ∷ (move 1 2 ++ (events.Crash 2 ∷ events.Detect 2 ∷ (pass Master (Server 1) ++ (events.Put (Server 1) Clients ∷ arrive 1 0 1 create ∷ events.Put (Server 1) Clients ∷ []))))

tail_gone_refused : refused_from 1 (first_world 2) tail_gone ≡ (8, OutboxEmpty) ∷ []
unfolding refused_from world_after after next refusal_of first_world numbers_from refusal_of_arrival refusal_of_query refusal_of_taking refusal_of_detection refusal_of_join arrived asked takes forwards detected joined hears reply_to history outcome_of fresh_outcome is_fresh of_client about on live removed_lately creations effect_of effect_on effect_off last_moment messages duplicate remaining message_of hands touches until is_deleted
tail_gone_refused = refl

tail_gone_given : map (λ g. g.0) (given_from 1 (first_world 2) tail_gone) ≡ 10 ∷ []
unfolding given_from given_by world_after after next refusal_of first_world numbers_from refusal_of_arrival refusal_of_query refusal_of_taking refusal_of_detection refusal_of_join arrived asked takes forwards detected joined hears reply_to history outcome_of fresh_outcome is_fresh of_client about on live removed_lately creations effect_of effect_on effect_off last_moment messages duplicate remaining message_of hands touches until is_deleted
tail_gone_given = refl

tail_gone_lengths : map (λ g. g.1.length) (given_from 1 (first_world 2) tail_gone) ≡ 2 ∷ []
unfolding given_from given_by world_after after next refusal_of first_world numbers_from refusal_of_arrival refusal_of_query refusal_of_taking refusal_of_detection refusal_of_join arrived asked takes forwards detected joined hears reply_to history outcome_of fresh_outcome is_fresh of_client about on live removed_lately creations effect_of effect_on effect_off last_moment messages duplicate remaining message_of hands touches until is_deleted
tail_gone_lengths = refl

tail_gone_replies : map (λ g. g.1.reply) (given_from 1 (first_world 2) tail_gone) ≡ Created 1 ∷ []
unfolding reply_again is_stale kept_reply given_from given_by world_after after next refusal_of first_world numbers_from refusal_of_arrival refusal_of_query refusal_of_taking refusal_of_detection refusal_of_join arrived asked takes forwards detected joined hears reply_to history outcome_of fresh_outcome is_fresh of_client about on live removed_lately creations effect_of effect_on effect_off last_moment messages duplicate remaining message_of hands touches until is_deleted
tail_gone_replies = refl

tail_gone_committed : map (λ e. e.request.number) (committed 2 tail_gone) ≡ 1 ∷ 1 ∷ []
unfolding committed longest_from longest_at world_after after next refusal_of first_world numbers_from refusal_of_arrival refusal_of_query refusal_of_taking refusal_of_detection refusal_of_join arrived asked takes forwards detected joined hears reply_to history outcome_of fresh_outcome is_fresh of_client about on live removed_lately creations effect_of effect_on effect_off last_moment messages duplicate remaining message_of hands touches until is_deleted
tail_gone_committed = refl
