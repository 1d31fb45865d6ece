-- What the master's node did since the first world, and what it holds.
use Rattle.std.specs.Prelude.{◌≡◌, ◌+◌, ◌<◌, ◌≤◌, ◌⊎◌, ℕ, List, [], length, map, Bool, true, Option}
use Rattle.cq_base.specs.declared.party.Party.{Party}
use Rattle.cq_base.specs.declared.party.Party.TheVariants as parties
use Rattle.cq_base.specs.Relations.{Among, IsPrefix}
use Rattle.cq_chain.specs.declared.master.Master as rust_master
use Rattle.cq_chain.specs.declared.message.Message as rust
use Rattle.cq_nodes.specs.declared.ends.In.{In}
use Rattle.cq_nodes.specs.declared.ends.Out.{Out}
use Rattle.cq_live_plan.specs.declared.joins.Join.{Join}
use Rattle.cq_events.specs.Acts.{MasterActs}
use Rattle.cq_nodes.specs.MasterMoves.{back_of_servers}
use Rattle.cq_nodes.specs.Ends.{unread_in}
use Rattle.cq_nodes.specs.Moves.{ArePut, AreTaken}
use Rattle.cq_events.specs.Actions.{Action, Joined, CoreState, IsMasterAs, Lived, event_of, put_to, taken_from}
use Rattle.cq_events.specs.Worlds.{first_world}
use Rattle.cq_events.specs.declared.event.Event.{Event}

-- From the first world of that size on the master did this by its core, which refused none of it, and which stands there now
-- with what was handed back. Its trace is the events of these actions.
pub record MasterDid (size : ℕ) (core : rust_master.Master) (back : Party → Option rust.Message) (trace : List Event) (actions : List Action) : Type 0 where
  pub first : CoreState rust_master.Master
  pub stood : IsMasterAs first (first_world size).master ((first_world size).outbox parties.Master)
  pub run : MasterActs first actions (record { core = core; back = back })
  pub events : trace ≡ map (event_of parties.Master) actions

-- no server at one of so many places is that party: the server of number place + 1 stands at each
abbrev pub HasNoPlace : ℕ → Party → Type 0
HasNoPlace places parties.Master = Unit
HasNoPlace places parties.Clients = Unit
HasNoPlace places (parties.Server id) = (id ≡ 0) ⊎ (places < id)

-- from the first world on the master did these actions by its core, which refused none of them
abbrev pub WereNotRefused : ℕ → List Action → Type 0
WereNotRefused size actions = (a b : CoreState rust_master.Master) × IsMasterAs a (first_world size).master ((first_world size).outbox parties.Master) × MasterActs a actions b

-- only servers of these joins joined
abbrev pub AreToJoin : List Join → List Action → Type 0
AreToJoin joins actions = (id : ℕ) → Among (Joined id) actions → Among id (map (λ join. join.server) joins)

module _ {P T : Type 0} (put : P → List rust.Message) (taken : T → List rust.Message) where
  -- What the master's node did: its actions, what they put and took on each of its links, and who joined by them.
  pub record MasterRan (size : ℕ) (joins : List Join) (core : rust_master.Master) (outs : List (Out P)) (ins : List (In T)) (trace : List Event) : Type 0 where
    pub actions : List Action
    pub did : MasterDid size core (back_of_servers outs) trace actions
    pub puts : ArePut put outs (λ place. put_to (parties.Server (place + 1)) actions)
    pub takes : AreTaken taken ins (λ place. taken_from (parties.Server (place + 1)) actions)
    pub others : (p : Party) → HasNoPlace (length ins) p → taken_from p actions ≡ []
    pub unput : (p : Party) → HasNoPlace (length outs) p → put_to p actions ≡ []
    pub asked : AreToJoin joins actions

  -- The same of one that is finished, as a party that lived from the first world on.
  pub record MasterLived (size : ℕ) (joins : List Join) (outs : List (Out P)) (ins : List (In T)) (trace : List Event) : Type 0 where
    pub actions : List Action
    pub lived : Lived (first_world size) parties.Master actions
    pub unrefused : WereNotRefused size actions
    pub events : trace ≡ map (event_of parties.Master) actions
    pub puts : ArePut put outs (λ place. put_to (parties.Server (place + 1)) actions)
    pub takes : AreTaken taken ins (λ place. taken_from (parties.Server (place + 1)) actions)
    pub others : (p : Party) → HasNoPlace (length ins) p → taken_from p actions ≡ []
    pub unput : (p : Party) → HasNoPlace (length outs) p → put_to p actions ≡ []
    pub asked : AreToJoin joins actions

-- What callers see of the master's node: what it was made with, its trace, the ends of its links, how many messages it took
-- of them and didn't read, how many turns it had, and whether it found no memory.
pub record Held (P T : Type 0) : Type 0 where
  pub size : ℕ
  pub joins : List Join
  pub trace : List Event
  pub outs : List P
  pub ins : List T
  pub unread : ℕ
  pub turns : ℕ
  pub starved : Bool

module _ {P T : Type 0} where
  abbrev pub held : ℕ → List Join → List (Out P) → List (In T) → List Event → ℕ → Bool → Held P T
  held size joins outs ins trace turns starved = record { size = size; joins = joins; trace = trace; outs = map (λ out. out.end) outs; ins = map (λ end. end.end) ins; unread = unread_in ins; turns = turns; starved = starved }

-- No message more is unread, but for one where the node found no memory.
abbrev pub LeavesUnread : {P T : Type 0} → Held P T → Held P T → Type 0
LeavesUnread old new = (new.unread ≤ old.unread) ⊎ ((new.starved ≡ true) × (new.unread ≤ old.unread + 1))

-- It has read all that it took, but for one message where it found no memory.
abbrev pub HasRead : {P T : Type 0} → Held P T → Type 0
HasRead node = (node.unread ≡ 0) ⊎ ((node.starved ≡ true) × (node.unread ≤ 1))

-- A node still has what it was made with, and at each place an end of the same link.
pub record KeepsNode {P T L M : Type 0} (put_link : P → L) (take_link : T → M) (old new : Held P T) : Type 0 where
  pub size : new.size ≡ old.size
  pub joins : new.joins ≡ old.joins
  pub outs : map put_link new.outs ≡ map put_link old.outs
  pub ins : map take_link new.ins ≡ map take_link old.ins

-- It had no further turn, and didn't find that memory was wanting.
pub record IsSameMoment {P T : Type 0} (old new : Held P T) : Type 0 where
  pub turns : new.turns ≡ old.turns
  pub starved : new.starved ≡ old.starved

-- A node after turns has what it was made with, and at each place an end of the same link. Its trace only grew, and one that
-- found no memory did nothing in them. They leave a message unread only where it found none.
pub record IsSameNode {P T L M : Type 0} (put_link : P → L) (take_link : T → M) (old new : Held P T) : Type 0 where
  pub size : new.size ≡ old.size
  pub joins : new.joins ≡ old.joins
  pub outs : map put_link new.outs ≡ map put_link old.outs
  pub ins : map take_link new.ins ≡ map take_link old.ins
  pub trace : IsPrefix old.trace new.trace
  pub over : old.starved ≡ true → new ≡ record old { turns = new.turns }
  pub unread : LeavesUnread old new
