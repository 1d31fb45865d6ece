-- What a node did since the first world, and what it holds.
use Rattle.std.specs.Prelude.{◌≡◌, ◌≤◌, ◌<◌, ◌+◌, ℕ, length, List, [], ◌∷◌, ◌++◌, map, Bool, true, false, Option, None, Some, ⊤, ◌⊎◌}
use Rattle.cq_base.specs.declared.ask.Request.{Request}
use Rattle.cq_base.specs.declared.party.Party.{Party}
use Rattle.cq_base.specs.declared.party.Party.TheVariants as parties
use Rattle.cq_base.specs.Relations.{Among, IsPrefix}
use Rattle.cq_chain.specs.declared.message.Message as rust
use Rattle.cq_chain.specs.declared.server.Server as rust_server
use Rattle.cq_nodes.specs.declared.ends.In.{In}
use Rattle.cq_nodes.specs.declared.ends.Out.{Out}
use Rattle.cq_nodes.specs.declared.ends.ToClients.{ToClients}
use Rattle.cq_nodes.specs.declared.server_ends.ServerEnds.{ServerEnds}
use Rattle.cq_nodes.specs.declared.server_ends.ServerParts.{ServerParts}
use Rattle.cq_events.specs.Acts.{ServerActs}
use Rattle.cq_nodes.specs.Ends.{party_at, back_of, of_client, ends_of, in_ends_of, unread_in}
use Rattle.cq_nodes.specs.Moves.{ArePut, AreTaken, Part}
use Rattle.cq_events.specs.Actions.{Action, Arrived, Asked, Crashed, CoreState, StandsAs, event_of, put_to, taken_from}
use Rattle.cq_events.specs.Worlds.{first_world}
use Rattle.cq_events.specs.declared.event.Event.{Event}
use Rattle.cq_events.specs.declared.event.Event.TheVariants as events

-- the request that arrived, if one did
abbrev pub request_in : Action → List Request
request_in (Arrived clock request) = request ∷ []
request_in action = []

-- the requests that arrived, in order
abbrev pub requests_in : List Action → List Request
requests_in [] = []
requests_in (action ∷ actions) = request_in action ++ requests_in actions

-- the server is to crash, and has so many entries
abbrev pub IsDue : Option ℕ → ℕ → Type 0
IsDue None count = ⊥
IsDue (Some least) count = least ≤ count

-- A node's server may do that: it answers no query, and crashes where it is due or has no memory.
abbrev pub MayDo : Option ℕ → Bool → Action → Type 0
MayDo after starved (Asked query) = ⊥
MayDo after starved (Crashed count) = IsDue after count ⊎ (starved ≡ true)
MayDo after starved action = ⊤

-- What a node's server does is what it may do, and what arrives at it was taken from its inbox.
pub record IsBound (after : Option ℕ) (starved : Bool) (taken : List Request) (actions : List Action) : Type 0 where
  pub may : (d : Action) → Among d actions → MayDo after starved d
  pub arrived : Part (requests_in actions) taken

-- no link at one of so many places is from that party: the master at 0, and each server at its number
abbrev pub HasNoLink : ℕ → Party → Type 0
HasNoLink places parties.Master = places ≡ 0
HasNoLink places parties.Clients = ⊤
HasNoLink places (parties.Server id) = (id ≡ 0) ⊎ (places ≤ id)

-- no link at one of so many places is to that party; the links to the clients stand beside these places
abbrev pub HasNoWay : ℕ → Party → Type 0
HasNoWay places parties.Master = places ≡ 0
HasNoWay places parties.Clients = ⊥
HasNoWay places (parties.Server id) = (id ≡ 0) ⊎ (places ≤ id)

-- From the first world of that size on a server did this by its core, which refused none of it, and which stands there now
-- with what was handed back. Its trace is the events of these actions.
pub record ServerDid (size id : ℕ) (core : rust_server.Server) (back : Party → Option rust.Message) (trace : List Event) (actions : List Action) : Type 0 where
  pub first : CoreState rust_server.Server
  pub stood : StandsAs first ((first_world size).server id) ((first_world size).outbox (parties.Server id))
  pub run : ServerActs first actions (record { core = core; back = back })
  pub events : trace ≡ map (event_of (parties.Server id)) actions

module _ {P T I : Type 0} (put : P → List rust.Message) (taken : T → List rust.Message) (got : I → List Request) where
  -- What a server's node did: its actions, and what they put and took on each of its links and of its inbox.
  pub record ServerRan (size id : ℕ) (core : rust_server.Server) (outs : List (Out P)) (clients : ToClients P) (ins : List (In T)) (inbox : I) (trace : List Event) (after : Option ℕ) (starved : Bool) : Type 0 where
    pub actions : List Action
    pub did : ServerDid size id core (back_of outs clients.kept) trace actions
    pub puts : ArePut put outs (λ place. put_to (party_at place) actions)
    pub takes : AreTaken taken ins (λ place. taken_from (party_at place) actions)
    pub others : (p : Party) → HasNoLink (length ins) p → taken_from p actions ≡ []
    pub unput : (p : Party) → HasNoWay (length outs) p → put_to p actions ≡ []
    pub firsts : put clients.first ≡ of_client false (put_to parties.Clients actions)
    pub seconds : put clients.second ≡ of_client true (put_to parties.Clients actions)
    pub bound : IsBound after starved (got inbox) actions

-- a node that hasn't ended has room for one event more
abbrev pub HasRoom : Bool → ℕ → ℕ → Type 0
HasRoom true length capacity = ⊤
HasRoom false length capacity = length < capacity

-- A server has a crash among its events just where it has ended by one, and it is the last of them. One that found no memory
-- has.
pub record NotesCrash (id : ℕ) (trace : List Event) (starved ended : Bool) : Type 0 where
  pub noted : ended ≡ true → Among (events.Crash id) trace
  pub none : ended ≡ false → Among (events.Crash id) trace → ⊥
  pub last : (before rest : List Event) → trace ≡ before ++ (events.Crash id ∷ rest) → rest ≡ []
  pub by_memory : starved ≡ true → ended ≡ true

-- What callers see of a server's node: what it was made with, its trace, the ends of its links, how many messages it took of
-- them and didn't read, the end of its inbox, whether it found no memory, how many turns it had, and whether it has crashed.
pub record Held (P T I : Type 0) : Type 0 where
  pub size : ℕ
  pub id : ℕ
  pub crash_after : Option ℕ
  pub trace : List Event
  pub outs : List P
  pub first : P
  pub second : P
  pub ins : List T
  pub unread : ℕ
  pub inbox : I
  pub starved : Bool
  pub turns : ℕ
  pub ended : Bool

module _ {P T I : Type 0} where
  abbrev pub held : ℕ → ℕ → Option ℕ → List (Out P) → ToClients P → List (In T) → I → List Event → Bool → ℕ → Bool → Held P T I
  held size id crash_after outs clients ins inbox trace starved turns ended = record { size = size; id = id; crash_after = crash_after; trace = trace; outs = ends_of outs; first = clients.first; second = clients.second; ins = in_ends_of ins; unread = unread_in ins; inbox = inbox; starved = starved; turns = turns; ended = ended }

-- what callers see of a node that has done nothing
abbrev pub begun : {P T I : Type 0} → ℕ → ℕ → Option ℕ → ServerEnds P T I → Held P T I
begun size id crash_after ends = record { size = size; id = id; crash_after = crash_after; trace = []; outs = ends.links.outs; first = ends.first; second = ends.second; ins = ends.links.ins; unread = 0; inbox = ends.inbox; starved = false; turns = 0; ended = false }

-- what they see of it still, by its parts
abbrev pub held_in : {P T I : Type 0} → ServerParts P T I → Held P T I
held_in parts = held parts.size parts.id parts.crash_after parts.outs.items parts.clients parts.ins.items parts.inbox parts.trace.items parts.starved parts.turns parts.ended

-- The parts of a server's node tell what it did.
pub record Tells {P T I : Type 0} (put : P → List rust.Message) (taken : T → List rust.Message) (got : I → List Request) (parts : ServerParts P T I) : Type 0 where
  pub core : rust_server.Server
  pub ran : ServerRan put taken got parts.size parts.id core parts.outs.items parts.clients parts.ins.items parts.inbox parts.trace.items parts.crash_after parts.starved
  pub crash : NotesCrash parts.id parts.trace.items parts.starved parts.ended

-- No message more is unread, but for one where the node found no memory and crashed.
abbrev pub LeavesUnread : {P T I : Type 0} → Held P T I → Held P T I → Type 0
LeavesUnread old new = (new.unread ≤ old.unread) ⊎ ((new.starved ≡ true) × (new.ended ≡ true) × (new.unread ≤ old.unread + 1))

-- It has read all that it took, but for one message where it found no memory and crashed.
abbrev pub HasRead : {P T I : Type 0} → Held P T I → Type 0
HasRead node = (node.unread ≡ 0) ⊎ ((node.starved ≡ true) × (node.ended ≡ true) × (node.unread ≤ 1))

module _ {P T I L M N : Type 0} (put : P → L) (taken : T → M) (got : I → N) where
  -- The node of the same server, made with the same: each end is still one of the same link.
  pub record KeepsLinks (old new : Held P T I) : Type 0 where
    pub size : new.size ≡ old.size
    pub id : new.id ≡ old.id
    pub crash_after : new.crash_after ≡ old.crash_after
    pub outs : map put new.outs ≡ map put old.outs
    pub first : put new.first ≡ put old.first
    pub second : put new.second ≡ put old.second
    pub ins : map taken new.ins ≡ map taken old.ins
    pub inbox : got new.inbox ≡ got old.inbox

  -- So it is after turns, by which its trace only grew. One that has crashed did nothing in them. They leave a message unread
  -- only where it found no memory.
  pub record IsSameServer (old new : Held P T I) : Type 0 where
    pub size : new.size ≡ old.size
    pub id : new.id ≡ old.id
    pub crash_after : new.crash_after ≡ old.crash_after
    pub outs : map put new.outs ≡ map put old.outs
    pub first : put new.first ≡ put old.first
    pub second : put new.second ≡ put old.second
    pub ins : map taken new.ins ≡ map taken old.ins
    pub inbox : got new.inbox ≡ got old.inbox
    pub trace : IsPrefix old.trace new.trace
    pub over : old.ended ≡ true → new ≡ record old { turns = new.turns }
    pub unread : LeavesUnread old new

-- It had no further turn, and neither crashed nor found that memory was wanting.
pub record IsSameTurn {P T I : Type 0} (old new : Held P T I) : Type 0 where
  pub turns : new.turns ≡ old.turns
  pub ended : new.ended ≡ old.ended
  pub starved : new.starved ≡ old.starved
