-- Runs of lists of events: the world after them, what they give, and which of them are refused.
use Rattle.std.specs.Prelude.{ℕ, ◌+◌, ◌&&◌, List, [], ◌∷◌, ◌++◌, length, not, nat_lt, if◌then◌else◌, Option, None, Some}
use Rattle.std.specs.List.{fold}
use Rattle.cq_base.specs.declared.ask.Entry.{Entry}
use Rattle.cq_base.specs.declared.party.Party.{Party}
use Rattle.cq_base.specs.declared.party.Party.TheVariants as parties
use Rattle.cq_chain.specs.declared.fault.WorldFault.{WorldFault}
use Rattle.cq_chain.specs.declared.message.Answer.{Answer}
use Rattle.cq_chain.specs.Parties.{addressed}
use Rattle.cq_chain.specs.Messages.{Message}
use Rattle.cq_chain.specs.Servers.{Server, acts}
use Rattle.cq_chain.specs.Steps.{arrived, asked, takes}
use Rattle.cq_events.specs.Worlds.{World, first_world}
use Rattle.cq_events.specs.Events.{refusal_of, after, given_by, answers_in}
use Rattle.cq_events.specs.declared.event.Event.{Event}
use Rattle.cq_events.specs.declared.event.Event.TheVariants.{Arrive, Ask, Put, Take, Crash, Detect, Join}

-- The world after these events.
unfoldable pub world_after : World → List Event → World
world_after w events = fold after w events

-- ---- what is answered

-- the answer, with the number of the event that gave it, if it gave one
abbrev pub numbered : {A : Type 0} → ℕ → Option A → List (ℕ × A)
numbered n None = []
numbered n (Some a) = (n, a) ∷ []

-- what an event gives, where that is its refusal
abbrev pub given_if : World → Event → Option WorldFault → Option Answer
given_if w event None = given_by w event
given_if w event (Some fault) = None

-- The answers that these events give to the clients, each with the number of its event, which count from n.
unfoldable pub given_from : ℕ → World → List Event → List (ℕ × Answer)
given_from n w [] = []
given_from n w (event ∷ events) = numbered n (given_if w event (refusal_of w event)) ++ given_from (n + 1) (after w event) events

-- The events that are refused, by their numbers, which count from n, each with its first refusal.
unfoldable pub refused_from : ℕ → World → List Event → List (ℕ × WorldFault)
refused_from n w [] = []
refused_from n w (event ∷ events) = numbered n (refusal_of w event) ++ refused_from (n + 1) (after w event) events

-- ---- what servers do

-- what the taking of a message by a party puts into its outboxes
abbrev pub sent_by_taking : World → Party → Party → List Message → List (Party × Message)
sent_by_taking w from to [] = []
sent_by_taking w from (parties.Server id) (m ∷ ms) = (takes from m (w.server id)).sent
sent_by_taking w from to (m ∷ ms) = []

-- what servers put into their outboxes by an event that isn't refused
abbrev pub sent_by : World → Event → List (Party × Message)
sent_by w (Arrive at clock request) = (arrived clock request (w.server at)).sent
sent_by w (Ask at query) = (asked query (w.server at)).sent
sent_by w (Put from to) = []
sent_by w (Take from to) = sent_by_taking w from to (w.link from to)
sent_by w (Crash id) = []
sent_by w (Detect id) = []
sent_by w (Join id) = []

-- the answers that an event makes, where that is its refusal
abbrev pub made_if : World → Event → Option WorldFault → List Answer
made_if w event None = answers_in (addressed parties.Clients (sent_by w event))
made_if w event (Some fault) = []

-- The answers that these events make: those that servers put into their outboxes to the clients, in order.
unfoldable pub made_from : World → List Event → List Answer
made_from w [] = []
made_from w (event ∷ events) = made_if w event (refusal_of w event) ++ made_from (after w event) events

-- the longer of two lists of entries, and the first if they are as long
abbrev pub longer : List Entry → List Entry → List Entry
longer old new = if nat_lt (length old) (length new) then new else old

-- the history of a server that lives and acts; nothing of any other
abbrev pub acting_history : Server → List Entry
acting_history s = if acts s && not s.down then s.entries else []

-- the longest of one list of entries and of the histories of servers that live and act
unfoldable pub longest_at : World → List Entry → List Entry
longest_at w entries = fold (λ longest id. longer longest (acting_history (w.server id))) entries w.master.used

-- the longest of one list of entries and of the histories that live acting servers have in the worlds from that
-- one on
unfoldable pub longest_from : List Entry → World → List Event → List Entry
longest_from entries w [] = longest_at w entries
longest_from entries w (event ∷ events) = longest_from (longest_at w entries) (after w event) events

-- The committed list of a run: the longest history that a live acting server had at any moment, the start
-- among them.
unfoldable pub committed : ℕ → List Event → List Entry
committed size events = longest_from [] (first_world size) events

-- the answers that a run makes
unfoldable pub made : ℕ → List Event → List Answer
made size events = made_from (first_world size) events
