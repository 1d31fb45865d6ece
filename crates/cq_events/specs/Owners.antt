-- Whose an event is.
use Rattle.cq_base.specs.declared.party.Party.{Party}
use Rattle.cq_base.specs.declared.party.Party.TheVariants as parties
use Rattle.cq_events.specs.declared.event.Event.{Event}
use Rattle.cq_events.specs.declared.event.Event.TheVariants.{Arrive, Ask, Put, Take, Crash, Detect, Join}

-- The party whose event it is: the server to which something comes, or that crashes; the one that puts; the one that
-- takes; and the master, who learns of crashes and lets servers join.
abbrev pub party_of : Event → Party
party_of (Arrive at clock request) = parties.Server at
party_of (Ask at query) = parties.Server at
party_of (Put from to) = from
party_of (Take from to) = to
party_of (Crash id) = parties.Server id
party_of (Detect id) = parties.Master
party_of (Join id) = parties.Master
