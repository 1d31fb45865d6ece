-- By what the trace of a node grows in one turn.
use Rattle.std.specs.Prelude.{◌≡◌, ℕ, zero, suc, ◌+◌, min, nat_le, List, [], ◌∷◌, ◌++◌, slice_get, Bool, true, false, if◌then◌else◌, Option, None, Some, Result, Ok, Err, ◌⊎◌}
use Rattle.cq_base.specs.declared.ask.Request.{Request}
use Rattle.cq_base.specs.declared.limits.TheConstants.{MOMENT_LIMIT}
use Rattle.cq_base.specs.declared.party.Party.TheVariants as parties
use Rattle.cq_nodes.specs.Ends.{party_at}
use Rattle.cq_nodes.specs.Moves.{Part}
use Rattle.cq_nodes.specs.Nodes.{Held}
use Rattle.cq_live_plan.specs.declared.joins.Join.{Join}
use Rattle.cq_events.specs.declared.event.Event.{Event}
use Rattle.cq_events.specs.declared.event.Event.TheVariants as events

-- ---- one event, or none

-- the call answers that it did something
abbrev pub is_done : {E : Type 0} → Result Bool E → Bool
is_done (Ok done) = done
is_done (Err fault) = false

-- one if the call answers a fault
abbrev pub faults_of : {X E : Type 0} → Result X E → ℕ
faults_of (Ok done) = 0
faults_of (Err fault) = 1

-- the trace, with that event behind it if something was done
abbrev pub noting : Bool → Event → List Event → List Event
noting true event trace = trace ++ event ∷ []
noting false event trace = trace

-- ---- some of several events

-- The trace grew by some of these events, in their order.
pub record GrewBy (all old new : List Event) : Type 0 where
  pub events : List Event
  pub grown : new ≡ old ++ events
  pub part : Part events all

-- what stands at each of so many places, in order
abbrev pub each_of : (ℕ → List Event) → ℕ → List Event
each_of f zero = []
each_of f (suc place) = each_of f place ++ f place

-- The trace grew by some of the events of places one after another, in their order.
pub record GrewByEach (f : ℕ → List Event) (old new : List Event) : Type 0 where
  pub places : ℕ
  pub grew : GrewBy (each_of f places) old new

-- ---- a server

-- a server's take at a place, and its put there
abbrev pub take_of : ℕ → ℕ → List Event
take_of id place = events.Take (party_at place) (parties.Server id) ∷ []

abbrev pub put_of : ℕ → ℕ → List Event
put_of id place = events.Put (parties.Server id) (party_at place) ∷ []

-- the trace grew by a request that arrived at that server at that moment, or by nothing
abbrev pub GrewByArrival : ℕ → ℕ → List Event → List Event → Type 0
GrewByArrival id clock old new = (new ≡ old) ⊎ ((request : Request) × (new ≡ old ++ events.Arrive id clock request ∷ []))

-- The trace grew by what a server did at that moment: takes, at most one a link, then at most one arrival, then puts, at most
-- one a link, and then at most one put to the clients.
pub record GrewByWork (id clock : ℕ) (old new : List Event) : Type 0 where
  pub taken : List Event
  pub arrived : List Event
  pub put : List Event
  pub takes : GrewByEach (take_of id) old taken
  pub arrival : GrewByArrival id clock taken arrived
  pub puts : GrewByEach (put_of id) arrived put
  pub answer : GrewBy (events.Put (parties.Server id) parties.Clients ∷ []) put new

module _ {P T I : Type 0} where
  -- The server crashed in this turn, behind that trace.
  pub record HasJustCrashed (old new : Held P T I) (worked : List Event) : Type 0 where
    pub trace : new.trace ≡ worked ++ events.Crash old.id ∷ []
    pub before : old.ended ≡ false
    pub ended : new.ended ≡ true

  -- It did not, nor did it find that memory was wanting.
  pub record HasNotCrashed (old new : Held P T I) (worked : List Event) : Type 0 where
    pub trace : new.trace ≡ worked
    pub ended : new.ended ≡ old.ended
    pub starved : new.starved ≡ old.starved

  -- A turn of a server's node. It works, or crashes with no work before it, or finds no memory for all of its work and
  -- crashes behind it.
  pub record HadTurn (old new : Held P T I) : Type 0 where
    pub worked : List Event
    pub work : GrewByWork old.id (min new.turns MOMENT_LIMIT) old.trace worked
    pub end : HasNotCrashed old new worked ⊎ (HasJustCrashed old new worked × ((worked ≡ old.trace) ⊎ (new.starved ≡ true)))

-- ---- the master

-- the master's take from the server at a place, the crash of that server, and its put to it
abbrev pub taken_at : ℕ → List Event
taken_at place = events.Take (parties.Server (place + 1)) parties.Master ∷ []

abbrev pub detected_at : ℕ → List Event
detected_at place = events.Detect (place + 1) ∷ []

abbrev pub sent_at : ℕ → List Event
sent_at place = events.Put parties.Master (parties.Server (place + 1)) ∷ []

-- the server of a join, if it is there and its turn has come
abbrev pub due_of : ℕ → Option Join → Option ℕ
due_of turn None = None
due_of turn (Some join) = if nat_le join.after turn then Some join.server else None

-- that server, as an event
abbrev pub joined_by : Option ℕ → List Event
joined_by None = []
joined_by (Some id) = events.Join id ∷ []

-- the join at a place, if its turn has come
abbrev pub joined_at : List Join → ℕ → ℕ → List Event
joined_at joins turn place = joined_by (due_of turn (slice_get joins place))

-- The trace grew by what the master did in that turn: takes, at most one from a server, then crashes of servers, each at most
-- once, then joins whose turn has come, each at most once, and then puts, at most one to a server.
pub record GrewByOrders (joins : List Join) (turn : ℕ) (old new : List Event) : Type 0 where
  pub taken : List Event
  pub detected : List Event
  pub joined : List Event
  pub takes : GrewByEach taken_at old taken
  pub detections : GrewByEach detected_at taken detected
  pub joining : GrewByEach (joined_at joins turn) detected joined
  pub puts : GrewByEach sent_at joined new
