-- The events of the world: when each is refused, what it does, and what it gives to the clients.
use Rattle.std.specs.Prelude.{ℕ, ◌==◌, ◌&&◌, List, [], ◌∷◌, ◌++◌, drop, Bool, true, false, not, if◌then◌else◌, Option, None, Some}
use Rattle.std.specs.List.{list_any}
use Rattle.cq_base.specs.declared.party.Party.{Party}
use Rattle.cq_base.specs.declared.party.Party.TheVariants as parties
use Rattle.cq_chain.specs.declared.fault.WorldFault.{WorldFault}
use Rattle.cq_chain.specs.declared.fault.WorldFault.TheVariants.{NoSuchServer, ServerDown, LinkEmpty, OutboxEmpty, LastFull, NotDown}
use Rattle.cq_chain.specs.declared.message.Answer.{Answer}
use Rattle.cq_chain.specs.Masters.{detected, joined, hears_from, refusal_of_detection, refusal_of_join}
use Rattle.cq_chain.specs.Messages.{Message, Answers}
use Rattle.cq_chain.specs.Refusals.{refusal_of_arrival, refusal_of_query, refusal_of_taking}
use Rattle.cq_chain.specs.Steps.{arrived, asked, takes, crashed}
use Rattle.cq_events.specs.Worlds.{World, is_in, set_pair, stepped, ordered}
use Rattle.cq_events.specs.declared.event.Event.{Event}
use Rattle.cq_events.specs.declared.event.Event.TheVariants.{Arrive, Ask, Put, Take, Crash, Detect, Join}

-- ---- refusals

-- the party is the master, the clients, or a server that there is
abbrev pub has_party : World → Party → Bool
has_party w parties.Master = true
has_party w parties.Clients = true
has_party w (parties.Server id) = is_in w.master.used id

-- refused where a server is unknown, and else as that says
abbrev pub if_known : Bool → Option WorldFault → Option WorldFault
if_known true refusal = refusal
if_known false refusal = Some NoSuchServer

-- refused where a server is down, and else as that says
abbrev pub unless_down : Bool → Option WorldFault → Option WorldFault
unless_down true refusal = Some ServerDown
unless_down false refusal = refusal

-- the party is a server that has crashed
abbrev pub is_down : World → Party → Bool
is_down w parties.Master = false
is_down w parties.Clients = false
is_down w (parties.Server id) = (w.server id).down

-- refused where a server is unknown or down, and else as that says
abbrev pub if_lives : World → ℕ → Option WorldFault → Option WorldFault
if_lives w id refusal = if_known (is_in w.master.used id) (unless_down (w.server id).down refusal)

-- refused where nothing waits in an outbox
abbrev pub refusal_of_put : List Message → Option WorldFault
refusal_of_put [] = Some OutboxEmpty
refusal_of_put (m ∷ ms) = None

-- why a party refuses a message, if it does
abbrev pub refusal_at : World → Party → Party → Message → Option WorldFault
refusal_at w from parties.Master m = None
refusal_at w from parties.Clients m = None
refusal_at w from (parties.Server id) m = refusal_of_taking from m (w.server id)

-- refused where nothing stands in a link, and else as the taking party does
abbrev pub refusal_of_take : World → Party → Party → List Message → Option WorldFault
refusal_of_take w from to [] = Some LinkEmpty
refusal_of_take w from to (m ∷ ms) = refusal_at w from to m

-- another server is full and lives
abbrev pub another_full : World → ℕ → Bool
another_full w id = list_any (λ other. not (other == id) && (w.server other).full && not (w.server other).down) w.master.used

-- refused where no other server is full and lives
abbrev pub refusal_of_crash : World → ℕ → Option WorldFault
refusal_of_crash w id = if another_full w id then None else Some LastFull

-- refused where the server lives, and else as the master does
abbrev pub refusal_of_detect : World → ℕ → Option WorldFault
refusal_of_detect w id = if (w.server id).down then refusal_of_detection id w.master else Some NotDown

-- Why an event is refused, if it is.
unfoldable pub refusal_of : World → Event → Option WorldFault
refusal_of w (Arrive at clock request) = if_lives w at (refusal_of_arrival (w.server at))
refusal_of w (Ask at query) = if_lives w at (refusal_of_query (w.server at))
refusal_of w (Put from to) = if_known (has_party w from && has_party w to) (unless_down (is_down w from) (refusal_of_put (w.outbox from to)))
refusal_of w (Take from to) = if_known (has_party w from && has_party w to) (unless_down (is_down w to) (refusal_of_take w from to (w.link from to)))
refusal_of w (Crash id) = if_lives w id (refusal_of_crash w id)
refusal_of w (Detect id) = if_known (is_in w.master.used id) (refusal_of_detect w id)
refusal_of w (Join id) = refusal_of_join id w.master

-- ---- what events do

-- what of a message is given to the clients
abbrev pub answers_in : List Message → List Answer
answers_in [] = []
answers_in (Answers a ∷ ms) = a ∷ answers_in ms
answers_in (m ∷ ms) = answers_in ms

-- the first of these alone
abbrev pub first_of : List Message → List Message
first_of [] = []
first_of (m ∷ ms) = m ∷ []

-- the links, after a message was put on one of them; what is put to the clients is given to them, and stands in
-- no link
abbrev pub put_on : (Party → Party → List Message) → Party → Party → List Message → Party → Party → List Message
put_on link from parties.Clients ms = link
put_on link from parties.Master ms = set_pair link from parties.Master (link from parties.Master ++ ms)
put_on link from (parties.Server id) ms = set_pair link from (parties.Server id) (link from (parties.Server id) ++ ms)

-- after the first message of an outbox was put on its link
abbrev pub after_put : World → Party → Party → World
after_put w from to = record w {
  outbox = set_pair w.outbox from to (drop 1 (w.outbox from to));
  link = put_on w.link from to (first_of (w.outbox from to));
}

-- after a party took a message
abbrev pub taken_by : World → Party → Party → Message → World
taken_by w from parties.Master m = ordered w (hears_from from m w.master)
taken_by w from parties.Clients m = w
taken_by w from (parties.Server id) m = stepped w id (takes from m (w.server id))

-- without the first message of a link
abbrev pub without_first : World → Party → Party → World
without_first w from to = record w { link = set_pair w.link from to (drop 1 (w.link from to)) }

-- after the first of the messages of a link was taken
abbrev pub after_take : World → Party → Party → List Message → World
after_take w from to [] = w
after_take w from to (m ∷ ms) = taken_by (without_first w from to) from to m

-- The world after an event that isn't refused.
unfoldable pub next : World → Event → World
next w (Arrive at clock request) = stepped w at (arrived clock request (w.server at))
next w (Ask at query) = stepped w at (asked query (w.server at))
next w (Put from to) = after_put w from to
next w (Take from to) = after_take w from to (w.link from to)
next w (Crash id) = stepped w id (crashed (w.server id))
next w (Detect id) = ordered w (detected id w.master)
next w (Join id) = ordered w (joined id w.master)

-- the same, where that is its refusal: a refused event changes nothing
abbrev pub unless_refused : World → Event → Option WorldFault → World
unless_refused w event None = next w event
unless_refused w event (Some fault) = w

-- The world after an event.
unfoldable pub after : World → Event → World
after w event = unless_refused w event (refusal_of w event)

-- ---- answers

-- the first of these, if there is one
abbrev pub head_of : List Answer → Option Answer
head_of [] = None
head_of (a ∷ rest) = Some a

-- what is put to a party, as an answer that is given, if it is put to the clients
abbrev pub given_to : Party → List Message → Option Answer
given_to parties.Clients ms = head_of (answers_in ms)
given_to parties.Master ms = None
given_to (parties.Server id) ms = None

-- The answer that an event gives to the clients, if it isn't refused.
unfoldable pub given_by : World → Event → Option Answer
given_by w (Arrive at clock request) = None
given_by w (Ask at query) = None
given_by w (Put from to) = given_to to (first_of (w.outbox from to))
given_by w (Take from to) = None
given_by w (Crash id) = None
given_by w (Detect id) = None
given_by w (Join id) = None
