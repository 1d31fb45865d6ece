-- A process at one moment, and what each deed does to it.
use Rattle.std.proofs.Common.{◌≡◌, ℕ, ◌+◌, List, [], ◌∷◌, Option, Some, None, true, false, Ok}
use Rattle.std.specs.Prelude.{⊤, ◌⊎◌}
use Rattle.cq_base.specs.declared.party.Party.{Party}
use Rattle.cq_chain.specs.declared.message.Message as rust
use Rattle.cq_chain.specs.declared.server.Server as rust_server
use Rattle.cq_chain.specs.Stands as chain
use Rattle.cq_chain_wire.specs.declared.reader.Progress.TheVariants.{More, Whole}
use Rattle.cq_events.specs.Actions.{Action, Arrived, Asked, Crashed, Detected, Joined, Put, Took, CoreState, Keeps, StandsAs}
use Rattle.cq_events.specs.Acts.{ServerActs}
use Rattle.cq_frames.specs.declared.number.PieceNumber.{PieceNumber}
use Rattle.cq_process.specs.declared.incoming.Incoming.{Incoming}
use Rattle.cq_process.specs.declared.incoming.TakeFault.TheVariants.{NotNext}
use Rattle.cq_process.specs.Asking.{ActsBeside}
use Rattle.cq_process.specs.Faults.{take_code}
use Rattle.cq_process.specs.Links.{ChangesOnly, IsGoneToo, Received, end_of, held_by, is_gone, received_from}
use Rattle.cq_process.specs.Outgoing.{End, IsFresh}
use Rattle.cq_process.specs.Putting.{PutsNext, WritesOn, number_next, with_back}
use Rattle.cq_process.specs.Taking.{TakesOne, nothing, read_on}
use Rattle.cq_server_process.specs.Answers.{State}
use Rattle.cq_server_process.specs.Turns.{At}
use Rattle.cq_store_wire.specs.declared.build.State as build
use Rattle.cq_process_laws.specs.Deeds.{Acted, Came, Deed, Ended, Lost, Missed, Read, Rested, Threw, Told, actions_of}

-- The core, the ends of the links, and the parties that are gone.
pub record Now : Type 0 where
  pub core : rust_server.Server
  pub outgoing : List (Party × End)
  pub incoming : List (Party × Incoming)
  pub gone : List Party

abbrev pub now : State → Now
now p = record { core = p.core; outgoing = p.links.outgoing; incoming = p.links.incoming; gone = p.links.gone.keys }

-- the same, but for the core and the ends that pieces leave by
abbrev pub with_at : Now → At → Now
with_at n a = record { core = a.core; outgoing = a.ends; incoming = n.incoming; gone = n.gone }

abbrev pub core_now : Now → CoreState rust_server.Server
core_now a = record { core = a.core; back = held_by a.outgoing }

-- ---- what stays

-- An end by which nothing leaves: it may be opened, and a message may be held there.
abbrev pub Rests : Option End → Option End → Type 0
Rests None None = ⊤
Rests None (Some after) = (after.put ≡ 0) × ((after.pieces ≡ 0) × IsFresh after.writer)
Rests (Some before) None = ⊥
Rests (Some before) (Some after) = (after.put ≡ before.put) × ((after.pieces ≡ before.pieces) × ((after.writer ≡ before.writer) × ((x : rust.Message) → before.held ≡ Some x → after.held ≡ Some x)))

pub record Stays (a b : Now) : Type 0 where
  pub core : Keeps StandsAs (core_now a) (core_now b)
  pub outgoing : (to : Party) → Rests (end_of a.outgoing to) (end_of b.outgoing to)
  pub incoming : b.incoming ≡ a.incoming
  pub gone : b.gone ≡ a.gone

-- an action that has to do with no link
abbrev pub IsOwn : Action → Type 0
IsOwn (Arrived clock request) = ⊤
IsOwn (Asked query) = ⊤
IsOwn (Put to x) = ⊥
IsOwn (Took from x) = ⊥
IsOwn (Crashed count) = ⊥
IsOwn (Detected id) = ⊥
IsOwn (Joined id) = ⊥

-- All stays but the core.
pub record ByItself (action : Action) (a b : Now) : Type 0 where
  pub own : IsOwn action
  pub does : (back : Party → Option rust.Message) → ActsBeside action a.core b.core back
  pub outgoing : b.outgoing ≡ a.outgoing
  pub incoming : b.incoming ≡ a.incoming
  pub gone : b.gone ≡ a.gone

-- All stays but the core and the link to one party.
pub record OnlyTo (to : Party) (a b : Now) : Type 0 where
  pub others : ChangesOnly a.outgoing b.outgoing to
  pub incoming : b.incoming ≡ a.incoming
  pub gone : b.gone ≡ a.gone

-- All stays but the core and the link from one party.
pub record OnlyFrom (from : Party) (a b : Now) : Type 0 where
  pub others : ChangesOnly a.incoming b.incoming from
  pub outgoing : b.outgoing ≡ a.outgoing
  pub gone : b.gone ≡ a.gone

-- ---- pieces that come

abbrev pub came_to : Now → Party → Received
came_to a from = received_from a.incoming from

-- the piece is the next one: of the message behind the last one that was taken, the one behind those that were read of it
abbrev pub IsNext : PieceNumber → Received → Type 0
IsNext number before = (number.message ≡ before.taken + 1) × (number.index ≡ before.pieces)

-- A piece of the next message is read, and more are left of it.
pub record Comes (from : Party) (number : PieceNumber) (piece : List ℕ) (a b : Now) : Type 0 where
  pub only : OnlyFrom from a b
  pub lives : is_gone a.gone from ≡ false
  pub keeps : chain.Keeps a.core b.core
  pub next : IsNext number (came_to a from)
  pub so_far : Option build.State
  pub read : read_on piece (came_to a from).next ≡ Ok (More so_far)
  pub taken : (came_to b from).taken ≡ (came_to a from).taken
  pub pieces : (came_to b from).pieces ≡ (came_to a from).pieces + 1
  pub left : (came_to b from).next ≡ More so_far

-- A piece of the next message is read, which is whole, and the message is taken.
pub record IsRead (from : Party) (number : PieceNumber) (piece : List ℕ) (message : rust.Message) (a b : Now) : Type 0 where
  pub only : OnlyFrom from a b
  pub lives : is_gone a.gone from ≡ false
  pub takes : (back : Party → Option rust.Message) → TakesOne a.core b.core back from message
  pub next : IsNext number (came_to a from)
  pub read : read_on piece (came_to a from).next ≡ Ok (Whole message)
  pub taken : (came_to b from).taken ≡ (came_to a from).taken + 1
  pub pieces : (came_to b from).pieces ≡ 0
  pub left : (came_to b from).next ≡ nothing

-- what is left where a piece of the next message is refused: nothing of the message, or all of it
abbrev pub IsLetGo : Received → List ℕ → ℕ → Received → Type 0
IsLetGo before piece code after = ((after.next ≡ nothing) × (after.pieces ≡ 0))
    ⊎ ((code ≡ take_code NotNext → ⊥) × ((m : rust.Message) × ((read_on piece before.next ≡ Ok (Whole m)) × (after.next ≡ Whole m))))

-- the piece isn't the next one, and all stays
abbrev pub IsOutOfTurn : ℕ → Received → Received → Type 0
IsOutOfTurn code before after = (code ≡ take_code NotNext) × ((after.next ≡ before.next) × (after.pieces ≡ before.pieces))

-- A piece is refused.
pub record Misses (from : Party) (number : PieceNumber) (piece : List ℕ) (code : ℕ) (a b : Now) : Type 0 where
  pub only : OnlyFrom from a b
  pub keeps : chain.Keeps a.core b.core
  pub taken : (came_to b from).taken ≡ (came_to a from).taken
  pub left : is_gone a.gone from ≡ false
      → IsOutOfTurn code (came_to a from) (came_to b from) ⊎ (IsNext number (came_to a from) × IsLetGo (came_to a from) piece code (came_to b from))

-- A party is gone.
pub record Loses (party : Party) (a b : Now) : Type 0 where
  pub core : b.core ≡ a.core
  pub outgoing : b.outgoing ≡ a.outgoing
  pub others : ChangesOnly a.incoming b.incoming party
  pub gone : IsGoneToo a.gone b.gone party
  pub taken : (came_to b party).taken ≡ (came_to a party).taken

-- ---- pieces that leave

pub record Tells (to : Party) (number : PieceNumber) (piece : List ℕ) (a b : Now) : Type 0 where
  pub only : OnlyTo to a b
  pub lives : is_gone a.gone to ≡ false
  pub was : End
  pub is_old : end_of a.outgoing to ≡ Some was
  pub becomes : End
  pub is_new : end_of b.outgoing to ≡ Some becomes
  pub number_is : number ≡ number_next was
  pub put : becomes.put ≡ was.put
  pub pieces : becomes.pieces ≡ was.pieces + 1
  pub writes : WritesOn a.core b.core to was becomes [] piece

pub record Ends (to : Party) (number : PieceNumber) (piece : List ℕ) (message : rust.Message) (a b : Now) : Type 0 where
  pub only : OnlyTo to a b
  pub lives : is_gone a.gone to ≡ false
  pub was : End
  pub is_old : end_of a.outgoing to ≡ Some was
  pub becomes : End
  pub is_new : end_of b.outgoing to ≡ Some becomes
  pub number_is : number ≡ number_next was
  pub put : becomes.put ≡ was.put + 1
  pub pieces : becomes.pieces ≡ 0
  pub writes : PutsNext a.core b.core to was becomes [] piece
  pub message_is : writes.message ≡ message

pub record Throws (to : Party) (messages : List rust.Message) (a b : Now) : Type 0 where
  pub only : OnlyTo to a b
  pub gone : is_gone a.gone to ≡ true
  pub held : Option rust.Message
  pub held_is : held_by b.outgoing to ≡ held
  pub puts : (back : Party → Option rust.Message) → back to ≡ held_by a.outgoing to
      → ServerActs (record { core = a.core; back = back }) (actions_of (Threw to messages)) (record { core = b.core; back = with_back back to held })

-- ---- deeds

abbrev pub Did : Deed → Now → Now → Type 0
Did Rested a b = Stays a b
Did (Acted action) a b = ByItself action a b
Did (Came from number piece) a b = Comes from number piece a b
Did (Read from number piece message) a b = IsRead from number piece message a b
Did (Missed from number piece code) a b = Misses from number piece code a b
Did (Lost party) a b = Loses party a b
Did (Told to number piece) a b = Tells to number piece a b
Did (Ended to number piece message) a b = Ends to number piece message a b
Did (Threw to messages) a b = Throws to messages a b

-- one after another
abbrev pub DidAll : Now → List Deed → Now → Type 0
DidAll a [] b = a ≡ b
DidAll a (deed ∷ deeds) b = (mid : Now) × (Did deed a mid × DidAll mid deeds b)
