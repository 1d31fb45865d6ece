-- Worked steps of servers, of the master and of a client, each computed by the definitions to what the rules of the
-- chain give. The results were worked out by hand.
use Rattle.std.proofs.Common.{◌≡◌, ℕ, [], ◌∷◌, map, None, Some, true, false, codes, refl}
use Rattle.cq_base.specs.declared.limits.TheConstants.{HISTORY_LIMIT}
use Rattle.cq_base.specs.declared.ask.Ask.{Ask}
use Rattle.cq_base.specs.declared.ask.Ask.TheVariants.{Remove}
use Rattle.cq_base.specs.declared.ask.Entry.{Entry}
use Rattle.cq_base.specs.declared.ask.Query.{Query}
use Rattle.cq_base.specs.declared.ask.Request.{Request}
use Rattle.cq_base.specs.declared.party.Party.TheVariants as parties
use Rattle.cq_base.specs.declared.reply.Refusal.TheVariants.{QueueDoesNotExist}
use Rattle.cq_base.specs.declared.reply.Reply.TheVariants.{Refused}
use Rattle.cq_base.specs.queue.Clients.{of_client, is_fresh}
use Rattle.cq_base.specs.queue.Effects.{effect_off, effect_of}
use Rattle.cq_base.specs.queue.Outcomes.{about}
use Rattle.cq_base.specs.queue.History.{last_moment, fresh_outcome, outcome_of, history, reply_to, counts_after}
use Rattle.cq_base.specs.queue.Lifetimes.{live}
use Rattle.cq_chain.specs.Clients.{Client, first_client, refusal_of_ask, next_request, asked, open_request, closes, after_answer}
use Rattle.cq_chain.specs.declared.fault.ClientFault.TheVariants.{Busy, NumbersSpent}
use Rattle.cq_chain.specs.declared.fault.WorldFault.TheVariants.{NoSuchServer, ServerDown, LinkEmpty, OutboxEmpty, LastFull, JoinPending, IdUsed, ChainFull, NotDown, NotHead, HistoryFull, NotTail, NoMemory}
use Rattle.cq_chain.specs.declared.fault.ClientFault.TheVariants as client
use Rattle.cq_chain.specs.Faults.{code_of, name_of, client_code_of, client_name_of}
use Rattle.cq_chain.specs.Masters.{Master, numbers_from, first_master, no_order, detected, refusal_of_detection, joined, refusal_of_join, hears, hears_from}
use Rattle.cq_chain.specs.Messages.{Message, Fwd, Snap, Ack, BeHead, Report, Adopt, BeTail, Feed, Have, Adopted, Caught, Ready, Answers}
use Rattle.cq_chain.specs.Refusals.{refusal_of_arrival, refusal_of_query}
use Rattle.cq_chain.specs.Servers.{Server, first_member, joining}
use Rattle.cq_chain.specs.Steps.{Step, silent, answer_to, arrived, asked as queried, crashed, forwards, takes}

-- an entry of that moment
abbrev entry : ℕ → Entry
entry moment = record { moment = moment; request = record { client = 1; number = moment; ask = Remove (codes "q.fifo") } }

-- server 2 of a chain of three, with two entries
abbrev middle : Server
middle = record { entries = entry 1 ∷ entry 2 ∷ []; acked = 0; floor = 0; pred = Some 1; succ = Some 3; head = false; at_least = None; full = true; down = false }

-- a server that takes a message of another one
abbrev from : ℕ → Message → Server → Step
from id m s = takes (parties.Server id) m s

-- a server that takes a message of the master
abbrev told : Message → Server → Step
told m s = takes parties.Master m s

-- ---- servers at first

head_of_three : first_member 3 1 ≡ record { entries = []; acked = 0; floor = 0; pred = None; succ = Some 2; head = true; at_least = None; full = true; down = false }
head_of_three = refl

middle_of_three : first_member 3 2 ≡ record { entries = []; acked = 0; floor = 0; pred = Some 1; succ = Some 3; head = false; at_least = None; full = true; down = false }
middle_of_three = refl

tail_of_three : first_member 3 3 ≡ record { entries = []; acked = 0; floor = 0; pred = Some 2; succ = None; head = false; at_least = Some 0; full = true; down = false }
tail_of_three = refl

only_one : first_member 1 1 ≡ record { entries = []; acked = 0; floor = 0; pred = None; succ = None; head = true; at_least = Some 0; full = true; down = false }
only_one = refl

-- ---- requests and queries

-- what client 7 asks under number 5
abbrev request : Request
request = record { client = 7; number = 5; ask = Remove (codes "q.fifo") }

-- a head with two entries, the last of moment 2
abbrev head : Server
head = record middle { pred = None; head = true }

-- a tail with the same two
abbrev tail : Server
tail = record middle { succ = None; at_least = Some 0; acked = 2; floor = 2 }

-- the same tail while it feeds server 4
abbrev feeder : Server
feeder = record tail { succ = Some 4 }

-- an entry has the head's clock, or the moment before it where that is larger
arrival : arrived 9 request head ≡ record { server = record head { entries = entry 1 ∷ entry 2 ∷ record { moment = 9; request = request } ∷ [] }; sent = (parties.Server 3, Fwd 3 (record { moment = 9; request = request })) ∷ [] }
unfolding arrived last_moment
arrival = refl

arrival_behind : (arrived 1 request head).server.entries ≡ entry 1 ∷ entry 2 ∷ record { moment = 2; request = request } ∷ []
unfolding arrived last_moment
arrival_behind = refl

first_arrival : (arrived 0 request (record head { entries = [] })).server.entries ≡ record { moment = 0; request = request } ∷ []
unfolding arrived last_moment
first_arrival = refl

-- a head that acts answers the clients alone
arrival_at_one : arrived 9 request (record head { succ = None; at_least = Some 0 }) ≡ record {
  server = record head { entries = entry 1 ∷ entry 2 ∷ record { moment = 9; request = request } ∷ []; acked = 3; floor = 3; succ = None; at_least = Some 0 };
  sent = (parties.Clients, Answers (record { client = 7; number = 5; is_query = false; length = 3; reply = Refused QueueDoesNotExist })) ∷ [];
}
unfolding arrived last_moment reply_to history outcome_of fresh_outcome is_fresh of_client about live effect_of effect_off
arrival_at_one = refl

arrival_elsewhere : refusal_of_arrival middle ≡ Some NotHead
unfolding refusal_of_arrival
arrival_elsewhere = refl

arrival_allowed : refusal_of_arrival head ≡ None
unfolding refusal_of_arrival
arrival_allowed = refl

most_entries : HISTORY_LIMIT ≡ 4611686018427387904
most_entries = refl

abbrev query : Query
query = record { client = 7; tag = 9; queue = codes "q.fifo" }

query_of_a_tail : queried query tail ≡ record { server = tail; sent = (parties.Clients, Answers (record { client = 7; number = 9; is_query = true; length = 2; reply = Refused QueueDoesNotExist })) ∷ [] }
unfolding queried counts_after history outcome_of fresh_outcome is_fresh of_client about live effect_of effect_off
query_of_a_tail = refl

query_elsewhere : refusal_of_query middle ≡ Some NotTail
unfolding refusal_of_query
query_elsewhere = refl

query_too_early : refusal_of_query (record tail { at_least = Some 3 }) ≡ Some NotTail
unfolding refusal_of_query
query_too_early = refl

query_allowed : refusal_of_query (record tail { at_least = Some 2 }) ≡ None
unfolding refusal_of_query
query_allowed = refl

-- ---- messages

be_head : told BeHead middle ≡ silent (record middle { head = true; pred = None })
unfolding takes
be_head = refl

report : told (Report 5) middle ≡ record { server = record middle { pred = Some 5 }; sent = (parties.Master, Have 5 2) ∷ (parties.Server 5, Ack 0) ∷ [] }
unfolding takes
report = refl

-- it acknowledges what is acknowledged, whatever it has or need not send
report_of_some : (told (Report 5) (record middle { acked = 1; floor = 2 })).sent ≡ (parties.Master, Have 5 2) ∷ (parties.Server 5, Ack 1) ∷ []
unfolding takes
report_of_some = refl

-- a new successor is sent what it lacks, and no more
adopt : told (Adopt 4 1) middle ≡ record { server = record middle { succ = Some 4 }; sent = (parties.Server 4, Fwd 2 (entry 2)) ∷ (parties.Master, Adopted 4 2) ∷ [] }
unfolding takes forwards
adopt = refl

adopt_whole : (told (Adopt 4 0) middle).sent ≡ (parties.Server 4, Fwd 1 (entry 1)) ∷ (parties.Server 4, Fwd 2 (entry 2)) ∷ (parties.Master, Adopted 4 2) ∷ []
unfolding takes forwards
adopt_whole = refl

adopt_none : (told (Adopt 4 2) middle).sent ≡ (parties.Master, Adopted 4 2) ∷ []
unfolding takes forwards
adopt_none = refl

-- where it may not send them one by one, it sends its history
adopt_by_snapshot : (told (Adopt 4 1) (record middle { floor = 2 })).sent ≡ (parties.Server 4, Snap (entry 1 ∷ entry 2 ∷ [])) ∷ (parties.Master, Adopted 4 2) ∷ []
unfolding takes forwards
adopt_by_snapshot = refl

adopt_at_the_floor : (told (Adopt 4 1) (record middle { floor = 1 })).sent ≡ (parties.Server 4, Fwd 2 (entry 2)) ∷ (parties.Master, Adopted 4 2) ∷ []
unfolding takes forwards
adopt_at_the_floor = refl

adopt_of_one_ahead : (told (Adopt 4 3) middle).sent ≡ (parties.Master, Adopted 4 2) ∷ []
unfolding takes forwards
adopt_of_one_ahead = refl

-- one that is its successor already is sent nothing, whatever it has
adopt_of_the_successor : told (Adopt 3 0) middle ≡ record { server = middle; sent = (parties.Master, Adopted 3 2) ∷ [] }
unfolding takes
adopt_of_the_successor = refl

adopt_of_one_that_is_fed : told (Adopt 4 0) feeder ≡ record { server = record feeder { at_least = None }; sent = (parties.Master, Adopted 4 2) ∷ [] }
unfolding takes
adopt_of_one_that_is_fed = refl

-- a server that feeds one and adopts another sends that one what it lacks
adopt_of_another : told (Adopt 5 0) feeder ≡ record { server = record feeder { at_least = None; succ = Some 5 }; sent = (parties.Server 5, Snap (entry 1 ∷ entry 2 ∷ [])) ∷ (parties.Master, Adopted 5 2) ∷ [] }
unfolding takes forwards
adopt_of_another = refl

-- a tail that adopts a successor acts no more
adopt_of_a_tail : (told (Adopt 4 2) tail).server ≡ record tail { succ = Some 4; at_least = None }
unfolding takes forwards
adopt_of_a_tail = refl

-- a new tail acknowledges all that it has, and answers none of it
be_tail : told (BeTail 0) middle ≡ record { server = record middle { acked = 2; floor = 2; succ = None; at_least = Some 0 }; sent = (parties.Server 1, Ack 2) ∷ (parties.Master, Ready) ∷ [] }
unfolding takes
be_tail = refl

-- one that lacks entries waits for them
be_tail_later : told (BeTail 3) middle ≡ silent (record middle { succ = None; at_least = Some 3 })
unfolding takes
be_tail_later = refl

be_tail_alone : (told (BeTail 2) head).sent ≡ (parties.Master, Ready) ∷ []
unfolding takes
be_tail_alone = refl

-- and answers the one with which it begins to act
abbrev waiting : Server
waiting = record middle { succ = None; at_least = Some 3; full = false }

begins : from 1 (Fwd 3 (entry 3)) waiting ≡ record {
  server = record waiting { entries = entry 1 ∷ entry 2 ∷ entry 3 ∷ []; acked = 3; floor = 3; full = true };
  sent = (parties.Clients, Answers (answer_to (entry 1 ∷ entry 2 ∷ []) (entry 3))) ∷ (parties.Server 1, Ack 3) ∷ (parties.Master, Ready) ∷ [];
}
unfolding takes last_moment
begins = refl

-- a server that acts feeds one, which gets its whole history, and goes on acting
feed : told (Feed (Some 4)) tail ≡ record { server = feeder; sent = (parties.Server 4, Snap (entry 1 ∷ entry 2 ∷ [])) ∷ [] }
unfolding takes
feed = refl

feed_of_nothing : (told (Feed (Some 2)) (first_member 1 1)).sent ≡ (parties.Server 2, Snap []) ∷ []
unfolding takes
feed_of_nothing = refl

feed_of_another : told (Feed (Some 5)) feeder ≡ record { server = record tail { succ = Some 5 }; sent = (parties.Server 5, Snap (entry 1 ∷ entry 2 ∷ [])) ∷ [] }
unfolding takes
feed_of_another = refl

-- or nobody any more
feed_nobody : told (Feed None) feeder ≡ silent tail
unfolding takes
feed_nobody = refl

feed_nobody_again : told (Feed None) tail ≡ silent tail
unfolding takes
feed_nobody_again = refl

-- one that doesn't act ignores it
feed_elsewhere : told (Feed (Some 4)) middle ≡ silent middle
unfolding takes
feed_elsewhere = refl

feed_nobody_elsewhere : told (Feed None) middle ≡ silent middle
unfolding takes
feed_nobody_elsewhere = refl

feed_too_early : told (Feed (Some 4)) waiting ≡ silent waiting
unfolding takes
feed_too_early = refl

feed_by_a_server : from 1 (Feed (Some 4)) tail ≡ silent tail
unfolding takes
feed_by_a_server = refl

-- a tail that feeds sends on each entry, and answers it
forward_while_feeding : from 1 (Fwd 3 (entry 3)) feeder ≡ record {
  server = record feeder { entries = entry 1 ∷ entry 2 ∷ entry 3 ∷ []; acked = 3; floor = 3 };
  sent = (parties.Server 4, Fwd 3 (entry 3)) ∷ (parties.Clients, Answers (answer_to (entry 1 ∷ entry 2 ∷ []) (entry 3))) ∷ (parties.Server 1, Ack 3) ∷ [];
}
unfolding takes last_moment
forward_while_feeding = refl

-- a middle server forwards, and says nothing else
forward : from 1 (Fwd 3 (entry 3)) middle ≡ record { server = record middle { entries = entry 1 ∷ entry 2 ∷ entry 3 ∷ [] }; sent = (parties.Server 3, Fwd 3 (entry 3)) ∷ [] }
unfolding takes last_moment
forward = refl

-- one that acts answers it and acknowledges it
forward_to_a_tail : from 1 (Fwd 3 (entry 3)) tail ≡ record {
  server = record tail { entries = entry 1 ∷ entry 2 ∷ entry 3 ∷ []; acked = 3; floor = 3 };
  sent = (parties.Clients, Answers (record { client = 1; number = 3; is_query = false; length = 3; reply = Refused QueueDoesNotExist })) ∷ (parties.Server 1, Ack 3) ∷ [];
}
unfolding takes last_moment reply_to history outcome_of fresh_outcome is_fresh of_client about live effect_of effect_off
forward_to_a_tail = refl

-- what a former predecessor sends, another place, or an earlier moment is ignored
forward_of_another : from 4 (Fwd 3 (entry 3)) middle ≡ silent middle
unfolding takes last_moment
forward_of_another = refl

forward_twice : from 1 (Fwd 2 (entry 3)) middle ≡ silent middle
unfolding takes last_moment
forward_twice = refl

forward_beyond : from 1 (Fwd 4 (entry 3)) middle ≡ silent middle
unfolding takes last_moment
forward_beyond = refl

forward_back : from 1 (Fwd 3 (entry 1)) middle ≡ silent middle
unfolding takes last_moment
forward_back = refl

forward_at_the_same_moment : (from 1 (Fwd 3 (entry 2)) middle).server.entries ≡ entry 1 ∷ entry 2 ∷ entry 2 ∷ []
unfolding takes last_moment
forward_at_the_same_moment = refl

forward_to_the_head : from 1 (Fwd 3 (entry 3)) head ≡ silent head
unfolding takes last_moment
forward_to_the_head = refl

-- a joining server takes a snapshot, does not act, and tells the master
abbrev caught_up : Server
caught_up = record joining { pred = Some 1; entries = entry 1 ∷ entry 2 ∷ []; floor = 2 }

snapshot : from 1 (Snap (entry 1 ∷ entry 2 ∷ [])) (record joining { pred = Some 1 }) ≡ record { server = caught_up; sent = (parties.Master, Caught 1 2) ∷ [] }
unfolding takes
snapshot = refl

snapshot_of_nothing : from 1 (Snap []) (record joining { pred = Some 1 }) ≡ record { server = record joining { pred = Some 1 }; sent = (parties.Master, Caught 1 0) ∷ [] }
unfolding takes
snapshot_of_nothing = refl

snapshot_again : (from 1 (Snap (entry 1 ∷ entry 2 ∷ entry 3 ∷ [])) caught_up).sent ≡ (parties.Master, Caught 1 3) ∷ []
unfolding takes
snapshot_again = refl

-- one that waits for so many entries begins to act by it, answers none of them, and doesn't tell that it took it
snapshot_of_a_tail : from 1 (Snap (entry 1 ∷ entry 2 ∷ entry 3 ∷ [])) waiting ≡ record {
  server = record waiting { entries = entry 1 ∷ entry 2 ∷ entry 3 ∷ []; acked = 3; floor = 3; full = true };
  sent = (parties.Server 1, Ack 3) ∷ (parties.Master, Ready) ∷ [];
}
unfolding takes
snapshot_of_a_tail = refl

-- a server with a successor takes none, nor one that would lose entries
snapshot_in_the_middle : from 1 (Snap (entry 1 ∷ entry 2 ∷ entry 3 ∷ [])) middle ≡ silent middle
unfolding takes
snapshot_in_the_middle = refl

snapshot_of_another : from 4 (Snap (entry 1 ∷ entry 2 ∷ entry 3 ∷ [])) waiting ≡ silent waiting
unfolding takes
snapshot_of_another = refl

-- as many entries are no loss; one that is to be the tail, and isn't there yet, tells nobody
snapshot_of_as_many : from 1 (Snap (entry 1 ∷ entry 2 ∷ [])) waiting ≡ silent (record waiting { floor = 2 })
unfolding takes
snapshot_of_as_many = refl

-- one that acts already doesn't tell the master
snapshot_while_acting : (from 1 (Snap (entry 1 ∷ entry 2 ∷ entry 3 ∷ [])) tail).sent ≡ (parties.Server 1, Ack 3) ∷ []
unfolding takes
snapshot_while_acting = refl

snapshot_too_short : from 1 (Snap (entry 1 ∷ [])) waiting ≡ silent waiting
unfolding takes
snapshot_too_short = refl

-- acknowledgements are of what the server has, and go on to the predecessor
acknowledgement : from 3 (Ack 1) middle ≡ record { server = record middle { acked = 1; floor = 1 }; sent = (parties.Server 1, Ack 1) ∷ [] }
unfolding takes
acknowledgement = refl

acknowledgement_beyond : from 3 (Ack 9) middle ≡ record { server = record middle { acked = 2; floor = 2 }; sent = (parties.Server 1, Ack 2) ∷ [] }
unfolding takes
acknowledgement_beyond = refl

acknowledgement_again : from 3 (Ack 1) (record middle { acked = 1; floor = 1 }) ≡ silent (record middle { acked = 1; floor = 1 })
unfolding takes
acknowledgement_again = refl

acknowledgement_of_less : from 3 (Ack 1) (record middle { acked = 2; floor = 2 }) ≡ silent (record middle { acked = 2; floor = 2 })
unfolding takes
acknowledgement_of_less = refl

-- it leaves a floor that is above it
acknowledgement_below_the_floor : from 3 (Ack 1) (record middle { floor = 2 }) ≡ record { server = record middle { acked = 1; floor = 2 }; sent = (parties.Server 1, Ack 1) ∷ [] }
unfolding takes
acknowledgement_below_the_floor = refl

-- whichever server sends it; the head has nobody to tell
acknowledgement_at_the_head : from 9 (Ack 1) head ≡ silent (record head { acked = 1; floor = 1 })
unfolding takes
acknowledgement_at_the_head = refl

-- a message that is none of these from that party is ignored
others_are_ignored : from 1 (BeTail 0) middle ≡ silent middle
unfolding takes
others_are_ignored = refl

master_forwards_nothing : told (Fwd 3 (entry 3)) middle ≡ silent middle
unfolding takes
master_forwards_nothing = refl

nobody_else_hears_caught : from 1 (Caught 1 2) middle ≡ silent middle
unfolding takes
nobody_else_hears_caught = refl

clients_say_nothing : takes parties.Clients (Ack 1) middle ≡ silent middle
unfolding takes
clients_say_nothing = refl

crash : crashed tail ≡ silent (record tail { down = true })
crash = refl

-- ---- the master

-- of a chain of three
abbrev of_three : Master
of_three = first_master 3

at_first : of_three ≡ record { chain = 1 ∷ 2 ∷ 3 ∷ []; told = true; ready = true; joiner = None; used = 1 ∷ 2 ∷ 3 ∷ [] }
unfolding numbers_from
at_first = refl

-- while server 4 joins, and once it is a member
abbrev joining_behind : Master
joining_behind = record { chain = 1 ∷ 2 ∷ 3 ∷ []; told = true; ready = true; joiner = Some 4; used = 1 ∷ 2 ∷ 3 ∷ 4 ∷ [] }

abbrev of_four : Master
of_four = record { chain = 1 ∷ 2 ∷ 3 ∷ 4 ∷ []; told = false; ready = false; joiner = None; used = 1 ∷ 2 ∷ 3 ∷ 4 ∷ [] }

head_lost : detected 1 of_three ≡ record { master = record of_three { chain = 2 ∷ 3 ∷ [] }; said = (parties.Server 2, BeHead) ∷ [] }
unfolding numbers_from detected
head_lost = refl

middle_lost : detected 2 of_three ≡ record { master = record of_three { chain = 1 ∷ 3 ∷ [] }; said = (parties.Server 3, Report 1) ∷ [] }
unfolding numbers_from detected
middle_lost = refl

tail_lost : detected 3 of_three ≡ record { master = record of_three { chain = 1 ∷ 2 ∷ []; ready = false }; said = (parties.Server 2, BeTail 0) ∷ [] }
unfolding numbers_from detected
tail_lost = refl

new_member_lost : detected 4 of_four ≡ record { master = record of_four { chain = 1 ∷ 2 ∷ 3 ∷ []; told = true }; said = (parties.Server 3, BeTail 0) ∷ [] }
unfolding detected
new_member_lost = refl

-- what the master knows of the last member stays where another is lost
predecessor_of_a_new_member_lost : detected 3 of_four ≡ record { master = record of_four { chain = 1 ∷ 2 ∷ 4 ∷ [] }; said = (parties.Server 4, Report 2) ∷ [] }
unfolding detected
predecessor_of_a_new_member_lost = refl

-- the last member is to feed nobody any more where the server that joins is lost
joiner_lost : detected 4 joining_behind ≡ record { master = record joining_behind { joiner = None }; said = (parties.Server 3, Feed None) ∷ [] }
unfolding detected
joiner_lost = refl

joiner_of_one_lost : (detected 2 (joined 2 (first_master 1)).master).said ≡ (parties.Server 1, Feed None) ∷ []
unfolding numbers_from detected joined
joiner_of_one_lost = refl

-- it is dropped with the last member, and stays where another is lost
tail_lost_while_joining : detected 3 joining_behind ≡ record { master = record joining_behind { chain = 1 ∷ 2 ∷ []; ready = false; joiner = None }; said = (parties.Server 2, BeTail 0) ∷ [] }
unfolding detected
tail_lost_while_joining = refl

middle_lost_while_joining : detected 2 joining_behind ≡ record { master = record joining_behind { chain = 1 ∷ 3 ∷ [] }; said = (parties.Server 3, Report 1) ∷ [] }
unfolding detected
middle_lost_while_joining = refl

head_lost_while_joining : detected 1 joining_behind ≡ record { master = record joining_behind { chain = 2 ∷ 3 ∷ [] }; said = (parties.Server 2, BeHead) ∷ [] }
unfolding detected
head_lost_while_joining = refl

head_lost_before_ready : (detected 1 (detected 3 of_three).master).master ≡ record { chain = 2 ∷ []; told = true; ready = false; joiner = None; used = 1 ∷ 2 ∷ 3 ∷ [] }
unfolding numbers_from detected
head_lost_before_ready = refl

no_member : refusal_of_detection 4 of_three ≡ Some NoSuchServer
unfolding numbers_from refusal_of_detection
no_member = refl

only_member : refusal_of_detection 1 (first_master 1) ≡ Some LastFull
unfolding numbers_from refusal_of_detection
only_member = refl

no_member_of_one : refusal_of_detection 4 (first_master 1) ≡ Some NoSuchServer
unfolding numbers_from refusal_of_detection
no_member_of_one = refl

one_of_two : refusal_of_detection 2 (first_master 2) ≡ None
unfolding numbers_from refusal_of_detection
one_of_two = refl

-- the server that joins is no stranger, until it is dropped; nor does it count as one that remains
joiner_is_known : refusal_of_detection 4 joining_behind ≡ None
unfolding refusal_of_detection
joiner_is_known = refl

joiner_of_one_is_known : refusal_of_detection 2 (joined 2 (first_master 1)).master ≡ None
unfolding numbers_from refusal_of_detection joined
joiner_of_one_is_known = refl

joiner_lost_already : refusal_of_detection 4 (detected 4 joining_behind).master ≡ Some NoSuchServer
unfolding refusal_of_detection detected
joiner_lost_already = refl

joiner_dropped_already : refusal_of_detection 4 (detected 3 joining_behind).master ≡ Some NoSuchServer
unfolding refusal_of_detection detected
joiner_dropped_already = refl

only_member_while_joining : refusal_of_detection 1 (joined 2 (first_master 1)).master ≡ Some LastFull
unfolding numbers_from refusal_of_detection joined
only_member_while_joining = refl

-- a server that joins is no member yet, and the last one goes on
join : joined 4 of_three ≡ record { master = joining_behind; said = (parties.Server 4, Report 3) ∷ [] }
unfolding numbers_from joined
join = refl

used_number : refusal_of_join 1 (first_master 1) ≡ Some IdUsed
unfolding numbers_from refusal_of_join
used_number = refl

join_while_joining : refusal_of_join 3 (joined 2 (first_master 1)).master ≡ Some JoinPending
unfolding numbers_from refusal_of_join joined
join_while_joining = refl

join_before_ready : refusal_of_join 4 (detected 3 of_three).master ≡ Some JoinPending
unfolding numbers_from refusal_of_join detected
join_before_ready = refl

join_after_the_joiner_is_lost : refusal_of_join 5 (detected 4 joining_behind).master ≡ None
unfolding refusal_of_join detected
join_after_the_joiner_is_lost = refl

number_of_a_lost_joiner : refusal_of_join 4 (detected 4 joining_behind).master ≡ Some IdUsed
unfolding refusal_of_join detected
number_of_a_lost_joiner = refl

nine_members : refusal_of_join 9 (first_master 8) ≡ Some ChainFull
unfolding numbers_from refusal_of_join
nine_members = refl

-- refusals in their order
nine_members_not_ready : refusal_of_join 9 (record (first_master 8) { ready = false }) ≡ Some ChainFull
unfolding numbers_from refusal_of_join
nine_members_not_ready = refl

used_number_of_eight : refusal_of_join 8 (record (first_master 8) { ready = false }) ≡ Some IdUsed
unfolding numbers_from refusal_of_join
used_number_of_eight = refl

eighth_member : refusal_of_join 8 (first_master 7) ≡ None
unfolding numbers_from refusal_of_join
eighth_member = refl

number_of_a_lost_member : refusal_of_join 3 (detected 3 of_three).master ≡ Some IdUsed
unfolding numbers_from refusal_of_join detected
number_of_a_lost_member = refl

-- it asks the predecessor to adopt only while that one stands directly before the sender
have : (hears 3 (Have 2 5) of_three).said ≡ (parties.Server 2, Adopt 3 5) ∷ []
unfolding numbers_from hears
have = refl

have_of_one_further : hears 3 (Have 1 5) of_three ≡ no_order of_three
unfolding numbers_from hears
have_of_one_further = refl

have_of_one_behind : hears 2 (Have 3 5) of_three ≡ no_order of_three
unfolding numbers_from hears
have_of_one_behind = refl

have_too_late : hears 3 (Have 2 5) (detected 2 of_three).master ≡ no_order (detected 2 of_three).master
unfolding numbers_from hears detected
have_too_late = refl

-- it asks the last member to feed the server that joins behind it, and no other one
have_of_the_joiner : hears 4 (Have 3 0) joining_behind ≡ record { master = joining_behind; said = (parties.Server 3, Feed (Some 4)) ∷ [] }
unfolding hears
have_of_the_joiner = refl

have_of_the_joiner_further_on : hears 4 (Have 2 0) joining_behind ≡ no_order joining_behind
unfolding hears
have_of_the_joiner_further_on = refl

have_of_a_stranger : hears 4 (Have 3 0) of_three ≡ no_order of_three
unfolding numbers_from hears
have_of_a_stranger = refl

have_of_a_lost_joiner : hears 4 (Have 3 0) (detected 4 joining_behind).master ≡ no_order (detected 4 joining_behind).master
unfolding hears detected
have_of_a_lost_joiner = refl

have_of_a_dropped_joiner : hears 4 (Have 2 0) (detected 3 joining_behind).master ≡ no_order (detected 3 joining_behind).master
unfolding hears detected
have_of_a_dropped_joiner = refl

have_while_another_joins : hears 3 (Have 2 5) joining_behind ≡ record { master = joining_behind; said = (parties.Server 2, Adopt 3 5) ∷ [] }
unfolding hears
have_while_another_joins = refl

-- the server that joins becomes a member once it took a snapshot of the last one, which is to adopt it
caught : hears 4 (Caught 3 2) joining_behind ≡ record { master = of_four; said = (parties.Server 3, Adopt 4 2) ∷ [] }
unfolding hears
caught = refl

caught_from_another : hears 4 (Caught 2 2) joining_behind ≡ no_order joining_behind
unfolding hears
caught_from_another = refl

caught_of_another : hears 5 (Caught 3 2) joining_behind ≡ no_order joining_behind
unfolding hears
caught_of_another = refl

caught_of_a_member : hears 3 (Caught 2 2) of_three ≡ no_order of_three
unfolding numbers_from hears
caught_of_a_member = refl

caught_again : hears 4 (Caught 3 2) of_four ≡ no_order of_four
unfolding hears
caught_again = refl

caught_of_a_lost_joiner : hears 4 (Caught 3 2) (detected 4 joining_behind).master ≡ no_order (detected 4 joining_behind).master
unfolding hears detected
caught_of_a_lost_joiner = refl

caught_of_a_dropped_joiner : hears 4 (Caught 2 2) (detected 3 joining_behind).master ≡ no_order (detected 3 joining_behind).master
unfolding hears detected
caught_of_a_dropped_joiner = refl

-- it tells a tail only where the last member wasn't told
adopted : hears 3 (Adopted 4 5) of_four ≡ record { master = record of_four { told = true }; said = (parties.Server 4, BeTail 5) ∷ [] }
unfolding hears
adopted = refl

adopted_again : hears 2 (Adopted 3 5) of_three ≡ no_order of_three
unfolding numbers_from hears
adopted_again = refl

adopted_too_late : hears 1 (Adopted 2 5) of_four ≡ no_order of_four
unfolding hears
adopted_too_late = refl

ready : (hears 2 Ready (detected 3 of_three).master).master.ready ≡ true
unfolding numbers_from hears detected
ready = refl

ready_of_another : (hears 1 Ready (detected 3 of_three).master).master.ready ≡ false
unfolding numbers_from hears detected
ready_of_another = refl

-- it hears servers alone
clients_are_not_heard : hears_from parties.Clients Ready (detected 3 of_three).master ≡ no_order (detected 3 of_three).master
unfolding numbers_from detected
clients_are_not_heard = refl

-- ---- faults

world_codes : map code_of (NoSuchServer ∷ ServerDown ∷ LinkEmpty ∷ OutboxEmpty ∷ LastFull ∷ JoinPending ∷ IdUsed ∷ ChainFull ∷ NotDown ∷ NotHead ∷ HistoryFull ∷ NotTail ∷ NoMemory ∷ []) ≡ 31 ∷ 32 ∷ 33 ∷ 34 ∷ 35 ∷ 36 ∷ 37 ∷ 38 ∷ 39 ∷ 40 ∷ 41 ∷ 42 ∷ 20 ∷ []
world_codes = refl

world_names : map name_of (NoSuchServer ∷ ServerDown ∷ LinkEmpty ∷ OutboxEmpty ∷ LastFull ∷ JoinPending ∷ IdUsed ∷ ChainFull ∷ NotDown ∷ NotHead ∷ HistoryFull ∷ NotTail ∷ NoMemory ∷ []) ≡ codes "NoSuchServer" ∷ codes "ServerDown" ∷ codes "LinkEmpty" ∷ codes "OutboxEmpty" ∷ codes "LastFull" ∷ codes "JoinPending" ∷ codes "IdUsed" ∷ codes "ChainFull" ∷ codes "NotDown" ∷ codes "NotHead" ∷ codes "HistoryFull" ∷ codes "NotTail" ∷ codes "NoMemory" ∷ []
world_names = refl

client_codes : map client_code_of (client.Busy ∷ client.NumbersSpent ∷ client.NoMemory ∷ []) ≡ 43 ∷ 44 ∷ 20 ∷ []
client_codes = refl

client_names : map client_name_of (client.Busy ∷ client.NumbersSpent ∷ client.NoMemory ∷ []) ≡ codes "Busy" ∷ codes "NumbersSpent" ∷ codes "NoMemory" ∷ []
client_names = refl

-- ---- a client

-- what it asks
abbrev removal : Ask
removal = Remove (codes "q.fifo")

-- client 7 before its first request, while that one is open, and after its answer of length 5
abbrev silent_client : Client
silent_client = first_client 7

abbrev waiting_client : Client
waiting_client = asked silent_client removal

abbrev answered_client : Client
answered_client = after_answer waiting_client 1 5

first_request : next_request silent_client removal ≡ record { client = 7; number = 1; ask = removal }
first_request = refl

no_open_request : open_request silent_client ≡ None
no_open_request = refl

busy : refusal_of_ask waiting_client ≡ Some Busy
busy = refl

busy_at_the_last_number : refusal_of_ask (record waiting_client { used = 4611686018427387904 }) ≡ Some Busy
busy_at_the_last_number = refl

same_request_again : open_request waiting_client ≡ Some (next_request silent_client removal)
same_request_again = refl

-- an answer under another number closes nothing
answer_to_another : after_answer waiting_client 2 5 ≡ waiting_client
answer_to_another = refl

answer_of_length_0 : closes waiting_client 1 0 ≡ false
answer_of_length_0 = refl

answered : answered_client ≡ record { id = 7; used = 1; pending = None; length = 5 }
answered = refl

-- nor does one more under the number that was answered
answered_again : closes answered_client 1 6 ≡ false
answered_again = refl

second_request : next_request answered_client removal ≡ record { client = 7; number = 2; ask = removal }
second_request = refl

-- it needs an answer of a length above that of the one before
answer_of_the_old_length : closes (asked answered_client removal) 2 5 ≡ false
answer_of_the_old_length = refl

answer_above_it : after_answer (asked answered_client removal) 2 6 ≡ record { id = 7; used = 2; pending = None; length = 6 }
answer_above_it = refl

-- the last number is 2^62
last_number : refusal_of_ask (record silent_client { used = 4611686018427387903 }) ≡ None
last_number = refl

numbers_spent : refusal_of_ask (record silent_client { used = 4611686018427387904 }) ≡ Some NumbersSpent
numbers_spent = refl
