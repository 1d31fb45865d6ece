-- The turn of a party: what waits for it is put and told.
use Rattle.std.specs.Prelude.{◌≡◌, ℕ, List, [], ◌∷◌, ◌++◌, Option, None, Some, is_some, true, false, Result, Ok, Err, ◌⊎◌}
use Rattle.std.specs.List.{flat_map}
use Rattle.cq_base.specs.declared.party.Party.{Party}
use Rattle.cq_chain.specs.declared.server.Server as rust_server
use Rattle.cq_chain.specs.Messages as messages
use Rattle.cq_base.specs.declared.ask.Entry.{Entry}
use Rattle.cq_chain.specs.Servers as states
use Rattle.cq_chain.specs.Stands.{Keeps, StandsFor}
use Rattle.cq_frames.specs.declared.response.Response.{Response}
use Rattle.cq_frames.specs.declared.response.Response.TheVariants.{Put}
use Rattle.cq_process.specs.declared.links.Links.{Links}
use Rattle.cq_process.specs.declared.outgoing.PutFault.{PutFault}
use Rattle.cq_process.specs.declared.outgoing.PutFault.TheVariants as put_faults
use Rattle.cq_process.specs.declared.outgoing.Written.{Written}
use Rattle.cq_process.specs.declared.outgoing.Written.TheVariants as written_as
use Rattle.cq_process.specs.Links.{ChangesOnly, IsOpened, PutsAt, ThrowsFrom, end_of, held_at, is_gone}
use Rattle.cq_process.specs.Outgoing.{End}
use Rattle.cq_process_frames.specs.Frames.{frame}
use Rattle.cq_server_process.specs.declared.turn.Stop.{Stop}
use Rattle.cq_server_process.specs.declared.turn.Stop.TheVariants as stops

-- The core of a process, and the ends of its links to others.
pub record At : Type 0 where
  pub ends : List (Party × End)
  pub core : rust_server.Server

abbrev pub at : Links → rust_server.Server → At
at links core = record { ends = links.outgoing; core = core }

-- responses as frames, one after another
abbrev pub frames : List Response → List ℕ
frames told = flat_map frame told

-- ---- one piece

-- what is told of a piece for a party: nothing, where none is written
abbrev pub put_of : Party → Result Written PutFault → List ℕ → List Response
put_of to (Ok written_as.Nothing) piece = []
put_of to (Ok (written_as.Piece number)) piece = Put to number piece ∷ []
put_of to (Ok (written_as.Message number)) piece = Put to number piece ∷ []
put_of to (Err fault) piece = []

-- how a turn stops by what was written; a whole message stops none
abbrev pub stop_of : Result Written PutFault → Option Stop
stop_of (Ok written_as.Nothing) = Some stops.Empty
stop_of (Ok (written_as.Piece number)) = Some stops.Begun
stop_of (Ok (written_as.Message number)) = None
stop_of (Err put_faults.NumbersSpent) = Some stops.Spent
stop_of (Err put_faults.NoMemory) = Some stops.NoMemory

-- What is written for a party at its open link is told.
pub record Writes (to : Party) (a b : At) (told : List Response) (result : Result Written PutFault) : Type 0 where
  pub piece : List ℕ
  pub puts : PutsAt a.ends b.ends a.core b.core to [] piece result
  pub is : told ≡ put_of to result piece

-- Or nothing is, for want of memory for its frame.
pub record IsUnwritten (a b : At) (told : List Response) (stop : Option Stop) : Type 0 where
  pub stops : stop ≡ Some stops.NoMemory
  pub none : told ≡ []
  pub ends : b.ends ≡ a.ends
  pub keeps : Keeps a.core b.core

abbrev pub WritesAt : Party → At → At → List Response → Option Stop → Type 0
WritesAt to a b told stop = ((result : Result Written PutFault) × (Writes to a b told result × (stop ≡ stop_of result))) ⊎ IsUnwritten a b told stop

-- The link to the party is open, and the ends of all others stay.
pub record Opens (to : Party) (before after : List (Party × End)) : Type 0 where
  pub opened : IsOpened (end_of before to) (end_of after to)
  pub others : ChangesOnly before after to

-- The next piece for the party is written and told, at a link that is opened for it.
pub record SendsAt (to : Party) (a b : At) (told : List Response) (stop : Option Stop) : Type 0 where
  pub mid : List (Party × End)
  pub opens : Opens to a.ends mid
  pub writes : WritesAt to (record { ends = mid; core = a.core }) b told stop
  pub others : ChangesOnly mid b.ends to

-- There is no memory for the end of its link, and nothing is done.
pub record IsUnopened (to : Party) (a b : At) : Type 0 where
  pub was : end_of a.ends to ≡ None
  pub is : end_of b.ends to ≡ None
  pub others : ChangesOnly a.ends b.ends to
  pub core : b.core ≡ a.core

-- or there is no room for a piece, and nothing is done either
abbrev pub Sends : Party → At → At → List Response → Option Stop → Type 0
Sends to a b told stop = SendsAt to a b told stop ⊎ ((stop ≡ Some stops.NoMemory) × ((told ≡ []) × (IsUnopened to a b ⊎ (b ≡ a))))

-- ---- a turn

-- no message waits for the party, and none is begun
abbrev pub NothingWaits : Party → At → Type 0
NothingWaits to a = (is_some (held_at (end_of a.ends to)) ≡ false)
    × ((s : states.Server) (outbox : Party → List messages.Message) → StandsFor a.core s outbox → outbox to ≡ [])

-- the first of these messages is a snapshot
abbrev pub IsSnapFirst : List messages.Message → Type 0
IsSnapFirst [] = ⊥
IsSnapFirst (m ∷ rest) = (entries : List Entry) × (m ≡ messages.Snap entries)

-- a message waits, and the first one is no snapshot
abbrev pub IsPlainFirst : List messages.Message → Type 0
IsPlainFirst [] = ⊥
IsPlainFirst (m ∷ rest) = (entries : List Entry) → m ≡ messages.Snap entries → ⊥

-- none is begun, and the first that waits is no snapshot
abbrev pub IsPlainNext : Party → At → Type 0
IsPlainNext to a = (is_some (held_at (end_of a.ends to)) ≡ false)
    × ((s : states.Server) (outbox : Party → List messages.Message) → StandsFor a.core s outbox → IsPlainFirst (outbox to))

-- a message for the party is begun, or the first that waits is a snapshot
abbrev pub IsLong : Party → At → Type 0
IsLong to a = (is_some (held_at (end_of a.ends to)) ≡ true)
    ⊎ ((s : states.Server) (outbox : Party → List messages.Message) → StandsFor a.core s outbox → IsSnapFirst (outbox to))

-- what a look tells: it stops the turn, or a plain message is next
abbrev pub IsSeen : Party → At → Option Stop → Type 0
IsSeen to a None = IsPlainNext to a
IsSeen to a (Some stops.Empty) = NothingWaits to a
IsSeen to a (Some stops.Long) = IsLong to a
IsSeen to a (Some stops.Begun) = ⊥
IsSeen to a (Some stops.NoMemory) = ⊥
IsSeen to a (Some stops.Spent) = ⊥
IsSeen to a (Some stops.Gone) = ⊥

-- A look stops the turn, or else the next message is sent.
abbrev pub Steps : Party → At → At → List Response → Option Stop → Type 0
Steps to a b told stop = ((b ≡ a) × ((told ≡ []) × ((is_some stop ≡ true) × IsSeen to a stop))) ⊎ (IsPlainNext to a × Sends to a b told stop)

-- Whole messages for the party are put and told, one after another.
abbrev pub SendsAll : Party → At → List Response → At → Type 0
SendsAll to a [] b = b ≡ a
SendsAll to a (one ∷ rest) b = (mid : At) × (Steps to a mid (one ∷ []) None × SendsAll to mid rest b)

-- The turn of a party: whole messages are put and told, until nothing waits or something stops it.
pub record TurnOf (to : Party) (a b : At) (told : List Response) (stop : Stop) : Type 0 where
  pub sent : List Response
  pub mid : At
  pub last : List Response
  pub is : told ≡ sent ++ last
  pub sends : SendsAll to a sent mid
  pub stops : Steps to mid b last (Some stop)

-- ---- of a party that is gone

-- how a turn stops by what was thrown away
abbrev pub stop_behind : Result (Unit {0}) PutFault → Stop
stop_behind (Ok _) = stops.Gone
stop_behind (Err fault) = stops.Spent

-- All that waits for it is put and thrown away.
pub record ThrowsAt (to : Party) (a b : At) (stop : Stop) : Type 0 where
  pub mid : List (Party × End)
  pub opens : Opens to a.ends mid
  pub result : Result (Unit {0}) PutFault
  pub throws : ThrowsFrom (end_of mid to) (end_of b.ends to) a.core b.core to result
  pub others : ChangesOnly mid b.ends to
  pub stops : stop ≡ stop_behind result

abbrev pub ThrowsFor : Party → At → At → Stop → Type 0
ThrowsFor to a b stop = ThrowsAt to a b stop ⊎ ((stop ≡ stops.NoMemory) × IsUnopened to a b)

-- ---- of any party

-- Of these parties, which are gone, one has its turn.
pub record HasTurn (gone : List Party) (to : Party) (a b : At) (told : List Response) (stop : Stop) : Type 0 where
  pub lives : is_gone gone to ≡ false → TurnOf to a b told stop
  pub thrown : is_gone gone to ≡ true → (told ≡ []) × ThrowsFor to a b stop

-- ---- and the bytes

abbrev pub TellsAt : Party → At → At → Option Stop → List ℕ → List ℕ → Type 0
TellsAt to a b stop old new = (told : List Response) × ((new ≡ old ++ frames told) × WritesAt to a b told stop)

abbrev pub Tells : Party → At → At → Option Stop → List ℕ → List ℕ → Type 0
Tells to a b stop old new = (told : List Response) × ((new ≡ old ++ frames told) × Sends to a b told stop)

abbrev pub TellsStep : Party → At → At → Option Stop → List ℕ → List ℕ → Type 0
TellsStep to a b stop old new = (told : List Response) × ((new ≡ old ++ frames told) × Steps to a b told stop)

abbrev pub TellsAll : Party → At → At → List ℕ → List ℕ → Type 0
TellsAll to a b old new = (told : List Response) × ((new ≡ old ++ frames told) × SendsAll to a told b)

abbrev pub TellsTurn : Party → At → At → Stop → List ℕ → List ℕ → Type 0
TellsTurn to a b stop old new = (told : List Response) × ((new ≡ old ++ frames told) × TurnOf to a b told stop)

abbrev pub TellsOf : List Party → Party → At → At → Stop → List ℕ → List ℕ → Type 0
TellsOf gone to a b stop old new = (told : List Response) × ((new ≡ old ++ frames told) × HasTurn gone to a b told stop)
