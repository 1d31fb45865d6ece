-- What a process does of a command, and what it tells.
use Rattle.std.specs.Prelude.{◌≡◌, ℕ, List, [], ◌∷◌, ◌++◌, length, Option, None, Some, Bool, true, false, if◌then◌else◌, nat_le, Result, Ok, Err, ◌⊎◌}
use Rattle.cq_base.specs.declared.party.Party.{Party}
use Rattle.cq_base.specs.declared.party.Party.TheVariants as parties
use Rattle.cq_base.specs.queue.History.{last_moment}
use Rattle.cq_chain.specs.declared.fault.WorldFault.{WorldFault}
use Rattle.cq_chain.specs.declared.message.Message as rust
use Rattle.cq_chain.specs.declared.server.Server as rust_server
use Rattle.cq_chain.specs.Faults as chain_faults
use Rattle.cq_chain.specs.Messages as messages
use Rattle.cq_chain.specs.Refusals.{refusal_of_arrival, refusal_of_query}
use Rattle.cq_chain.specs.Servers as states
use Rattle.cq_chain.specs.Servers.{acts}
use Rattle.cq_chain.specs.Stands.{Keeps, StandsFor}
use Rattle.cq_events.specs.Actions.{Action, Arrived, Asked}
use Rattle.cq_frames.specs.declared.command.Command.{Command}
use Rattle.cq_frames.specs.declared.command.Command.TheVariants as commands
use Rattle.cq_frames.specs.declared.number.PieceNumber.{PieceNumber}
use Rattle.cq_frames.specs.declared.response.Response.{Response}
use Rattle.cq_frames.specs.declared.response.Response.TheVariants as responses
use Rattle.cq_frames.specs.declared.response.Standing.{Standing}
use Rattle.cq_frames.specs.declared.response.TheConstants.{NO_MEMORY, NOT_HERE, STREAM_ENDED}
use Rattle.cq_frames.specs.Reading.{command_at}
use Rattle.cq_frames.specs.Streams.{stream_in, stream_of}
use Rattle.cq_process.specs.declared.incoming.TakeFault.{TakeFault}
use Rattle.cq_process.specs.declared.incoming.TakeFault.TheVariants as take_faults
use Rattle.cq_process.specs.declared.incoming.Taken.{Taken}
use Rattle.cq_process.specs.declared.links.Links.{Links}
use Rattle.cq_process.specs.declared.outgoing.PutFault.{PutFault}
use Rattle.cq_process.specs.declared.outgoing.PutFault.TheVariants as put_faults
use Rattle.cq_process.specs.Asking.{ActsBeside}
use Rattle.cq_process.specs.Faults.{take_code}
use Rattle.cq_process.specs.Links.{ChangesOnly, IsGoneToo, LetsGo, TakesPiece, ThrowsFrom, end_of, is_gone, received_from}
use Rattle.cq_server_process.specs.declared.turn.Stop.{Stop}
use Rattle.cq_server_process.specs.Rounds.{Rounds, first_waiting}
use Rattle.cq_server_process.specs.Turns.{Sends, at, frames}
use Rattle.cq_wire.specs.declared.fault.ReadFault.{ReadFault}
use Rattle.cq_wire.specs.declared.fault.ReadFault.TheVariants as read_faults
use Rattle.cq_wire.specs.declared.fault.WireFault.TheVariants.{BadNumber}
use Rattle.cq_wire.specs.Faults as wire_faults
use Rattle.cq_wire.specs.Reading.{Fails, whole_at}

-- What a process has that commands change: its links, and its core.
pub record State : Type 0 where
  pub links : Links
  pub core : rust_server.Server

abbrev pub state : Links → rust_server.Server → State
state links core = record { links = links; core = core }

-- What it has: that, and the largest number of a stream of arrivals that has ended, 0 where none has. All streams up to that one have.
pub record Process : Type 0 where
  pub state : State
  pub ended : ℕ

abbrev pub process : Links → rust_server.Server → ℕ → Process
process links core ended = record { state = state links core; ended = ended }

-- ---- what happens

-- The core does that, and doesn't refuse it; the links stay.
pub record Beside (action : Action) (p q : State) : Type 0 where
  pub does : (back : Party → Option rust.Message) → ActsBeside action p.core q.core back
  pub links : q.links ≡ p.links

-- A piece is taken, and the message with its last one.
pub record Takes (from : Party) (number : PieceNumber) (piece : List ℕ) (p q : State) : Type 0 where
  pub taken : Taken
  pub lives : is_gone p.links.gone.keys from ≡ false
  pub takes : TakesPiece (received_from p.links.incoming from) (received_from q.links.incoming from) p.core q.core from number piece (Ok taken)
  pub others : ChangesOnly p.links.incoming q.links.incoming from
  pub outgoing : q.links.outgoing ≡ p.links.outgoing
  pub gone : q.links.gone ≡ p.links.gone

-- A server is gone: what was read of its next message is let go, and all that waits for it is put and thrown away.
pub record GoesAway (server : ℕ) (p q : State) : Type 0 where
  pub result : Result (Unit {0}) PutFault
  pub memory : result ≡ Err put_faults.NoMemory → ⊥
  pub gone : IsGoneToo p.links.gone.keys q.links.gone.keys (parties.Server server)
  pub lets_go : LetsGo (received_from p.links.incoming (parties.Server server)) (received_from q.links.incoming (parties.Server server))
  pub throws : ThrowsFrom (end_of p.links.outgoing (parties.Server server)) (end_of q.links.outgoing (parties.Server server)) p.core q.core (parties.Server server) result
  pub others : ChangesOnly p.links.incoming q.links.incoming (parties.Server server)
  pub ends : ChangesOnly p.links.outgoing q.links.outgoing (parties.Server server)

-- the party, where something still waits for it behind what was sent
abbrev pub waiting_of : Party → Option Stop → Option Party
waiting_of to None = None
waiting_of to (Some stop) = first_waiting None to stop

-- The next piece for a party is sent, a snapshot's too; for one that is gone nothing is.
pub record SendsMore (to : Party) (p q : State) (told : List Response) (before : Option Party) : Type 0 where
  pub lives : is_gone p.links.gone.keys to ≡ false
      → (stop : Option Stop) × (Sends to (at p.links p.core) (at q.links q.core) told stop × (before ≡ waiting_of to stop))
  pub thrown : is_gone p.links.gone.keys to ≡ true → (q ≡ p) × ((told ≡ []) × (before ≡ None))
  pub incoming : q.links.incoming ≡ p.links.incoming
  pub gone : q.links.gone ≡ p.links.gone

-- nothing is told of it by itself, and nobody waits for that
abbrev pub Quietly : List Response → Option Party → Type 0 → Type 0
Quietly told before happens = (told ≡ []) × ((before ≡ None) × happens)

-- What comes of a command before the turns: what is told, and the party for which something waits.
abbrev pub Happens : Command → State → State → List Response → Option Party → Type 0
Happens (commands.Arrive stream clock request) p q told before = Quietly told before (Beside (Arrived clock request) p q)
Happens (commands.Ask query) p q told before = Quietly told before (Beside (Asked query) p q)
Happens (commands.Take from number piece) p q told before = Quietly told before (Takes from number piece p q)
Happens (commands.Gone server) p q told before = Quietly told before (GoesAway server p q)
Happens (commands.More to) p q told before = SendsMore to p q told before
Happens (commands.Detect server) p q told before = ⊥
Happens (commands.Join server) p q told before = ⊥
Happens commands.Save p q told before = ⊥
Happens (commands.Load chunk) p q told before = ⊥

-- ---- what is refused

-- The core refuses it by the fault of that number, which is its first refusal, and nothing is changed.
pub record IsRefused (refusal : states.Server → Option WorldFault) (code : ℕ) (p q : State) : Type 0 where
  pub fault : WorldFault
  pub is : code ≡ chain_faults.code_of fault
  pub keeps : Keeps p.core q.core
  pub links : q.links ≡ p.links
  pub refused : (s : states.Server) (outbox : Party → List messages.Message) → StandsFor p.core s outbox → chain_faults.IsRefusal fault (refusal s)

-- A piece isn't taken. Of a party that is gone none is.
pub record Leaves (from : Party) (number : PieceNumber) (piece : List ℕ) (code : ℕ) (p q : State) : Type 0 where
  pub fault : TakeFault
  pub is : code ≡ take_code fault
  pub lives : is_gone p.links.gone.keys from ≡ false
      → TakesPiece (received_from p.links.incoming from) (received_from q.links.incoming from) p.core q.core from number piece (Err fault)
  pub thrown : is_gone p.links.gone.keys from ≡ true → (fault ≡ take_faults.NotNext) × (Keeps p.core q.core × (q.links.incoming ≡ p.links.incoming))
  pub others : ChangesOnly p.links.incoming q.links.incoming from
  pub outgoing : q.links.outgoing ≡ p.links.outgoing
  pub gone : q.links.gone ≡ p.links.gone

-- There is no memory to know that a server is gone, and nothing is changed.
pub record Stays (code : ℕ) (p q : State) : Type 0 where
  pub is : code ≡ NO_MEMORY
  pub keeps : Keeps p.core q.core
  pub incoming : q.links.incoming ≡ p.links.incoming
  pub outgoing : q.links.outgoing ≡ p.links.outgoing
  pub gone : q.links.gone.keys ≡ p.links.gone.keys

-- the command means nothing here
abbrev pub IsNotHere : ℕ → State → State → Type 0
IsNotHere code p q = (code ≡ NOT_HERE) × (q ≡ p)

-- How a command is refused, by the fault of that number.
abbrev pub Refuses : Command → ℕ → State → State → Type 0
Refuses (commands.Arrive stream clock request) code p q = IsRefused refusal_of_arrival code p q
Refuses (commands.Ask query) code p q = IsRefused refusal_of_query code p q
Refuses (commands.Take from number piece) code p q = Leaves from number piece code p q
Refuses (commands.Gone server) code p q = Stays code p q
Refuses (commands.More to) code p q = ⊥
Refuses (commands.Detect server) code p q = IsNotHere code p q
Refuses (commands.Join server) code p q = IsNotHere code p q
Refuses commands.Save code p q = IsNotHere code p q
Refuses (commands.Load chunk) code p q = IsNotHere code p q

-- ---- what is told

-- where the server stands, whatever its core stands for
pub record StandsSo (core : rust_server.Server) (one : Standing) : Type 0 where
  pub count : (s : states.Server) (outbox : Party → List messages.Message) → StandsFor core s outbox → one.count ≡ length s.entries
  pub acked : (s : states.Server) (outbox : Party → List messages.Message) → StandsFor core s outbox → one.acked ≡ s.acked
  pub last : (s : states.Server) (outbox : Party → List messages.Message) → StandsFor core s outbox → one.last ≡ last_moment s.entries
  pub head : (s : states.Server) (outbox : Party → List messages.Message) → StandsFor core s outbox → one.is_head ≡ s.head
  pub acting : (s : states.Server) (outbox : Party → List messages.Message) → StandsFor core s outbox → one.is_acting ≡ acts s
  pub full : (s : states.Server) (outbox : Party → List messages.Message) → StandsFor core s outbox → one.is_full ≡ s.full

-- a party for which something still waits is told, if there is one
abbrev pub waiting : Option Party → List Response
waiting None = []
waiting (Some to) = responses.Waiting to ∷ []

-- A command happens, and then all parties have their turns.
pub record GoesWith (command : Command) (p q : State) (told : List Response) (first : Option Party) : Type 0 where
  pub mid : State
  pub of_it : List Response
  pub before : Option Party
  pub happens : Happens command p mid of_it before
  pub in_turns : List Response
  pub rounds : Rounds mid.links.gone.keys before (at mid.links mid.core) (at q.links q.core) in_turns first
  pub incoming : q.links.incoming ≡ mid.links.incoming
  pub gone : q.links.gone ≡ mid.links.gone
  pub is : told ≡ of_it ++ in_turns

-- Behind them it is told for whom something still waits, and where the server stands.
pub record GoesOn (command : Command) (p q : State) (told : List Response) : Type 0 where
  pub put : List Response
  pub first : Option Party
  pub goes : GoesWith command p q put first
  pub standing : Standing
  pub stands : StandsSo q.core standing
  pub is : told ≡ put ++ (waiting first ++ responses.Done standing ∷ [])

-- Or it is refused, and nothing else is told.
pub record IsRefusedAs (command : Command) (p q : State) (told : List Response) : Type 0 where
  pub code : ℕ
  pub refuses : Refuses command code p q
  pub is : told ≡ responses.Refused code ∷ []

-- By whether it is refused.
abbrev pub AnswersBy : Bool → Command → State → State → List Response → Type 0
AnswersBy false command p q told = GoesOn command p q told
AnswersBy true command p q told = IsRefusedAs command p q told

-- ---- by the streams that have ended

-- whether that stream has, where all up to one have; what is no arrival has none
abbrev pub has_ended : ℕ → Option ℕ → Bool
has_ended ended None = false
has_ended ended (Some stream) = nat_le stream ended

-- up to which one all have, where that stream ends too
abbrev pub ended_with : ℕ → Option ℕ → ℕ
ended_with ended None = ended
ended_with ended (Some stream) = if nat_le stream ended then ended else stream

-- An arrival of a stream that has ended is refused, and nothing happens.
pub record IsLate (command : Command) (p q : Process) (told : List Response) : Type 0 where
  pub late : has_ended p.ended (stream_in command) ≡ true
  pub stays : q ≡ p
  pub is : told ≡ responses.Refused STREAM_ENDED ∷ []

-- All other commands happen or are refused, and an arrival that is refused ends its stream.
pub record IsInTime (command : Command) (p q : Process) (told : List Response) : Type 0 where
  pub in_time : has_ended p.ended (stream_in command) ≡ false
  pub is_refused : Bool
  pub answers : AnswersBy is_refused command p.state q.state told
  pub ended : q.ended ≡ (if is_refused then ended_with p.ended (stream_in command) else p.ended)

abbrev pub AnswersCommand : Command → Process → Process → List Response → Type 0
AnswersCommand command p q told = IsLate command p q told ⊎ IsInTime command p q told

-- how it is told that a command couldn't be read: its bytes are those of none, or there was no memory, and it can be given again
abbrev pub unread_as : ReadFault → List Response
unread_as read_faults.NoMemory = responses.Refused (wire_faults.code_of read_faults.NoMemory) ∷ []
unread_as (read_faults.Bad fault) = responses.Unread (wire_faults.wire_code fault) ∷ []

-- A command couldn't be read: that is told, and nothing happens. Where its bytes begin as those of an arrival, its stream ends.
pub record IsUnread (fault : ReadFault) (stream : Option ℕ) (p q : Process) (told : List Response) : Type 0 where
  pub stays : q.state ≡ p.state
  pub ended : q.ended ≡ ended_with p.ended stream
  pub is : told ≡ unread_as fault

-- What is told of the bytes of a frame, or of a frame that is too long.
abbrev pub AnswersBytes : Option (List ℕ) → Process → Process → List Response → Type 0
AnswersBytes None p q told = IsUnread (read_faults.Bad BadNumber) None p q told
AnswersBytes (Some bytes) p q told = ((fault : ReadFault) × (Fails fault (whole_at command_at bytes) × IsUnread fault (stream_of bytes) p q told))
    ⊎ ((command : Command) × ((whole_at command_at bytes ≡ Ok command) × AnswersCommand command p q told))

-- The same as bytes.
abbrev pub Answers : Process → Option (List ℕ) → List ℕ → Process → Type 0
Answers p frame text q = (told : List Response) × ((text ≡ frames told) × AnswersBytes frame p q told)

-- ---- and the bytes

abbrev pub TellsMore : Party → State → State → Option Party → List ℕ → List ℕ → Type 0
TellsMore to p q before old new = (told : List Response) × ((new ≡ old ++ frames told) × SendsMore to p q told before)

abbrev pub TellsOrRefuses : Command → State → State → Result (Option Party) ℕ → List ℕ → List ℕ → Type 0
TellsOrRefuses command p q (Ok before) old new = (told : List Response) × ((new ≡ old ++ frames told) × Happens command p q told before)
TellsOrRefuses command p q (Err code) old new = (new ≡ old) × Refuses command code p q

-- how the answer to a command ends
abbrev pub TellsCommand : Command → State → State → Result (Option Party) ℕ → List ℕ → List ℕ → Type 0
TellsCommand command p q (Ok first) old new = (told : List Response) × ((new ≡ old ++ frames told) × GoesWith command p q told first)
TellsCommand command p q (Err code) old new = (new ≡ old) × Refuses command code p q

abbrev pub TellsAnswer : Option (List ℕ) → Process → Process → List ℕ → List ℕ → List ℕ → Type 0
TellsAnswer frame p q old new end = (text : List ℕ) × ((new ++ end ≡ old ++ text) × Answers p frame text q)

-- the end of an answer, in room of its own
abbrev pub TellsEnd : rust_server.Server → Result (Option Party) ℕ → List ℕ → Type 0
TellsEnd core (Ok first) text = (standing : Standing) × (StandsSo core standing × (text ≡ frames (waiting first ++ responses.Done standing ∷ [])))
TellsEnd core (Err code) text = text ≡ frames (responses.Refused code ∷ [])

abbrev pub TellsBy : Bool → Command → State → State → List ℕ → List ℕ → List ℕ → Type 0
TellsBy is_refused command p q old new end = (told : List Response) × ((new ++ end ≡ old ++ frames told) × AnswersBy is_refused command p q told)

abbrev pub TellsOfCommand : Command → Process → Process → List ℕ → List ℕ → List ℕ → Type 0
TellsOfCommand command p q old new end = (told : List Response) × ((new ++ end ≡ old ++ frames told) × AnswersCommand command p q told)

-- ---- a new process

-- Its server stands for that and has nothing for anyone; nothing came, no link is open, and no stream has ended.
pub record IsNewProcess (s : states.Server) (p : Process) : Type 0 where
  pub core : StandsFor p.state.core s (λ _. [])
  pub incoming : (party : Party) → end_of p.state.links.incoming party ≡ None
  pub outgoing : (party : Party) → end_of p.state.links.outgoing party ≡ None
  pub gone : (party : Party) → is_gone p.state.links.gone.keys party ≡ false
  pub ended : p.ended ≡ 0
