-- What a client's requests and the answers to them have to do with its asks, and with the ends of its links.
use Rattle.std.specs.Prelude.{◌≡◌, ◌==◌, if◌then◌else◌, ◌<◌, ◌≤◌, ℕ, ◌+◌, length, List, [], ◌∷◌, ◌++◌, slice_get, false, Option, None, Some}
use Rattle.cq_base.specs.declared.ask.Ask.{Ask}
use Rattle.cq_base.specs.declared.ask.Request.{Request}
use Rattle.cq_base.specs.Relations.{Among}
use Rattle.cq_nodes.specs.Ends.{listed}
use Rattle.cq_chain.specs.Clients.{Client, StandsFor}
use Rattle.cq_chain.specs.declared.client.Client as rust_client
use Rattle.cq_chain.specs.declared.message.Answer.{Answer}
use Rattle.cq_chain.specs.declared.message.Message.{Message}
use Rattle.cq_chain.specs.declared.message.Message.TheVariants as stored

-- The request is one of the asks of the client of that id. Requests are numbered from 1, asks from 0.
pub record IsAskOf (id : ℕ) (asks : List Ask) (request : Request) : Type 0 where
  pub place : ℕ
  pub client : request.client ≡ id
  pub number : request.number ≡ place + 1
  pub ask : slice_get asks place ≡ Some request.ask

-- It is one of them, and at most the first that isn't closed, where so many are.
pub record IsDueAsk (id : ℕ) (asks : List Ask) (closed : ℕ) (request : Request) : Type 0 where
  pub one : IsAskOf id asks request
  pub early : request.number ≤ closed + 1

-- ---- ends in their places

module _ {P : Type 0} (list : P → List Request) where
  -- on each link nothing was put but such requests, where so many asks are closed
  abbrev pub AreAsked : ℕ → List Ask → ℕ → List P → Type 0
  AreAsked id asks closed outs = (place : ℕ) (out : P) → slice_get outs place ≡ Some out → (request : Request) → Among request (list out) → IsDueAsk id asks closed request

module _ {T : Type 0} (list : T → List Message) where
  -- The message was taken from one of the links.
  pub record IsTaken (message : Message) (ins : List T) : Type 0 where
    pub place : ℕ
    pub end : T
    pub here : slice_get ins place ≡ Some end
    pub among : Among message (list end)

-- At the place one message more was taken, if the call gives one, and nothing elsewhere.
abbrev pub GrewAt : {T : Type 0} → (T → List Message) → List T → List T → ℕ → Option Message → Type 0
GrewAt {T} list before after place taken = (link : ℕ) (end : T) → slice_get after link ≡ Some end
    → (was : T) × (slice_get before link ≡ Some was) × (list end ≡ list was ++ (if link == place then listed taken else []))

-- ---- asks one after another

-- so many asks were made and so many closed: all of them, or all but the last, which is open
abbrev pub IsOpen : List Ask → ℕ → ℕ → Option Ask → Type 0
IsOpen asks made closed None = made ≡ closed
IsOpen asks made closed (Some ask) = (made ≡ closed + 1) × (slice_get asks closed ≡ Some ask)

-- A client's core has made its asks in order, of which these answers closed the first.
pub record IsAlong (id : ℕ) (asks : List Ask) (core : rust_client.Client) (closed : List Answer) : Type 0 where
  pub client : Client
  pub stands : StandsFor core client
  pub own : client.id ≡ id
  pub pending : IsOpen asks client.used (length closed) client.pending
  -- no answer is longer than the last
  pub longest : (answer : Answer) → Among answer closed → answer.length ≤ client.length

-- The answer is one to the ask behind those that are closed, and longer than the answers to these.
pub record IsNext (id : ℕ) (asks : List Ask) (closed : List Answer) (answer : Answer) : Type 0 where
  pub asked : length closed < length asks
  pub client : answer.client ≡ id
  pub number : answer.number ≡ length closed + 1
  pub no_query : answer.is_query ≡ false
  pub longer : (other : Answer) → Among other closed → other.length < answer.length

-- The core closes its open request by the answer.
pub record Closes (id : ℕ) (asks : List Ask) (core : rust_client.Client) (closed : List Answer) (answer : Answer) : Type 0 where
  pub next : IsNext id asks closed answer
  pub along : IsAlong id asks core (closed ++ answer ∷ [])

-- The message is such an answer.
pub record ClosesBy (id : ℕ) (asks : List Ask) (core : rust_client.Client) (closed : List Answer) (message : Message) (answer : Answer) : Type 0 where
  pub bears : message ≡ stored.Answer answer
  pub closes : Closes id asks core closed answer
