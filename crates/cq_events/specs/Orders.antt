-- Lists of events in which each is enabled: which of them are one party's, and what they put on links.
use Rattle.std.specs.Prelude.{◌≡◌, List, [], ◌∷◌, ◌++◌, if◌then◌else◌, None}
use Rattle.cq_base.specs.declared.party.Party.{Party}
use Rattle.cq_chain.specs.Messages.{Message}
use Rattle.cq_chain.specs.Parties.{same}
use Rattle.cq_events.specs.Events.{refusal_of, after, first_of}
use Rattle.cq_events.specs.Owners.{party_of}
use Rattle.cq_events.specs.Worlds.{World}
use Rattle.cq_events.specs.declared.event.Event.{Event}
use Rattle.cq_events.specs.declared.event.Event.TheVariants.{Put}

-- those of the events that are a party's, in order
abbrev pub of_party : Party → List Event → List Event
of_party p [] = []
of_party p (event ∷ events) = if same p (party_of event) then event ∷ of_party p events else of_party p events

-- Each of the events is enabled, in the world to which those before it lead: none is refused.
unfoldable pub AreEnabled : World → List Event → Type 0
AreEnabled w [] = Unit {0}
AreEnabled w (event ∷ events) = (refusal_of w event ≡ None) × AreEnabled (after w event) events

-- what an event puts on the link from one party to another; what is put to the clients is given to them
abbrev pub put_by_event : World → Event → Party → Party → List Message
put_by_event w (Put a b) from to = if same from a then if same to b then first_of (w.outbox a b) else [] else []
put_by_event w event from to = []

-- What events that are enabled put on the link from one party to another, in order.
unfoldable pub put_by : World → List Event → Party → Party → List Message
put_by w [] from to = []
put_by w (event ∷ events) from to = put_by_event w event from to ++ put_by (after w event) events from to
