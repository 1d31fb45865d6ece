-- When a server refuses what comes to it.
use Rattle.std.specs.Prelude.{List, length, Bool, false, nat_lt, if◌then◌else◌, Option, None, Some}
use Rattle.cq_base.specs.declared.ask.Entry.{Entry}
use Rattle.cq_base.specs.declared.limits.TheConstants.{HISTORY_LIMIT}
use Rattle.cq_base.specs.declared.party.Party.{Party}
use Rattle.cq_base.specs.declared.party.Party.TheVariants as parties
use Rattle.cq_chain.specs.declared.fault.WorldFault.{WorldFault}
use Rattle.cq_chain.specs.declared.fault.WorldFault.TheVariants.{NotHead, HistoryFull, NotTail}
use Rattle.cq_chain.specs.Messages.{Message, Fwd}
use Rattle.cq_chain.specs.Servers.{Server, acts}
use Rattle.cq_chain.specs.Steps.{is_next}

-- refused where no entry may be added any more
abbrev pub unless_full : List Entry → Option WorldFault
unless_full entries = if nat_lt (length entries) HISTORY_LIMIT then None else Some HistoryFull

-- why an arrival is refused, if it is
unfoldable pub refusal_of_arrival : Server → Option WorldFault
refusal_of_arrival s = if s.head then unless_full s.entries else Some NotHead

-- why a query is refused, if it is
unfoldable pub refusal_of_query : Server → Option WorldFault
refusal_of_query s = if acts s then None else Some NotTail

-- the server adds an entry to its history when it takes the message
abbrev pub appends : Server → Party → Message → Bool
appends s (parties.Server from) (Fwd place e) = is_next s from place e
appends s from m = false

-- why the taking of a message is refused, if it is
unfoldable pub refusal_of_taking : Party → Message → Server → Option WorldFault
refusal_of_taking from m s = if appends s from m then unless_full s.entries else None
