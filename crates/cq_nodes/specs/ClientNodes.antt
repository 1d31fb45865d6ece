-- What a client's node did, and what it holds.
use Rattle.std.specs.Prelude.{◌≡◌, ◌==◌, ◌<◌, ◌≤◌, ℕ, ◌+◌, length, List, [], ◌∷◌, ◌++◌, if◌then◌else◌, map, slice_get, Bool, true, false, Option, Some}
use Rattle.std.specs.Option.{IfSome}
use Rattle.cq_base.specs.declared.ask.Ask.{Ask}
use Rattle.cq_base.specs.declared.ask.Request.{Request}
use Rattle.cq_base.specs.Relations.{Pairwise, IsPrefix}
use Rattle.cq_chain.specs.declared.client.Client as rust_client
use Rattle.cq_chain.specs.declared.message.Answer.{Answer}
use Rattle.cq_chain.specs.declared.message.Message.{Message}
use Rattle.cq_chain.specs.declared.message.Message.TheVariants as stored
use Rattle.cq_nodes.specs.Moves.{Part}
use Rattle.cq_nodes.specs.ClientMoves.{IsDueAsk, AreAsked, IsTaken, IsAlong}

-- What callers see of a client's links: their ends, the one on which it puts and the one from which it takes, in the order
-- of the servers.
pub record ClientEnds (P T : Type 0) : Type 0 where
  pub outs : List P
  pub ins : List T

-- What they see of its node: its id, its asks, the ends of its links, the answers that closed asks, in order, and whether it
-- found no memory.
pub record ClientHeld (P T : Type 0) : Type 0 where
  pub id : ℕ
  pub asks : List Ask
  pub outs : List P
  pub ins : List T
  pub closed : List Answer
  pub starved : Bool

module _ {P T : Type 0} where
  abbrev pub client_held : ℕ → List Ask → List P → List T → List Answer → Bool → ClientHeld P T
  client_held id asks outs ins closed starved = record { id = id; asks = asks; outs = outs; ins = ins; closed = closed; starved = starved }

module _ {P T L M : Type 0} (put_link : P → L) (take_link : T → M) where
  -- It is the same client with the same asks, and its ends are those of the same links.
  pub record KeepsClient (old new : ClientHeld P T) : Type 0 where
    pub id : new.id ≡ old.id
    pub asks : new.asks ≡ old.asks
    pub outs : map put_link new.outs ≡ map put_link old.outs
    pub ins : map take_link new.ins ≡ map take_link old.ins

  -- So it is after turns, by which the closed answers only grew. One that found no memory did nothing in them.
  pub record IsSameClient (old new : ClientHeld P T) : Type 0 where
    pub id : new.id ≡ old.id
    pub asks : new.asks ≡ old.asks
    pub outs : map put_link new.outs ≡ map put_link old.outs
    pub ins : map take_link new.ins ≡ map take_link old.ins
    pub closed : IsPrefix old.closed new.closed
    pub over : old.starved ≡ true → new ≡ old

-- the answers that came by the link at a place, of those that came by the links at these places
abbrev pub come_by : ℕ → List ℕ → List Answer → List Message
come_by link [] answers = []
come_by link (place ∷ places) [] = []
come_by link (place ∷ places) (a ∷ answers) = (if link == place then stored.Answer a ∷ [] else []) ++ come_by link places answers

-- Each answer came by one of the links, and those of one link closed asks in the order in which they were taken from it.
pub record CameInOrder {T : Type 0} (taken : T → List Message) (ins : List T) (closed : List Answer) : Type 0 where
  pub places : List ℕ
  pub count : length places ≡ length closed
  pub in_order : (link : ℕ) (end : T) → slice_get ins link ≡ Some end → Part (come_by link places closed) (taken end)

module _ {P T : Type 0} (put : P → List Request) (taken : T → List Message) where
  -- on none of the links anything was put or taken
  pub record AreFresh (outs : List P) (ins : List T) : Type 0 where
    pub nothing_put : (place : ℕ) (out : P) → slice_get outs place ≡ Some out → put out ≡ []
    pub nothing_taken : (place : ℕ) (end : T) → slice_get ins place ≡ Some end → taken end ≡ []

  -- The answer closed the ask at that place: it was taken from one of the links, as the answer to the request of the ask's
  -- number.
  pub record IsClosedBy (id : ℕ) (ins : List T) (place : ℕ) (answer : Answer) : Type 0 where
    pub taken_here : IsTaken taken (stored.Answer answer) ins
    pub client : answer.client ≡ id
    pub number : answer.number ≡ place + 1
    pub no_query : answer.is_query ≡ false

  -- What a client's node did.
  pub record ClientDid (node : ClientHeld P T) : Type 0 where
    -- it put only its asks, each once those before it were closed
    pub asked : AreAsked put node.id node.asks (length node.closed) node.outs
    -- one answer closed each ask that is closed
    pub closed_by : (place : ℕ) (answer : Answer) → slice_get node.closed place ≡ Some answer → IsClosedBy node.id node.ins place answer
    pub came : CameInOrder taken node.ins node.closed
    -- each is longer than those before
    pub rising : Pairwise (λ a b. a.length < b.length) node.closed
    pub few : length node.closed ≤ length node.asks

  -- What a client's node did, and where its core is. What a full link handed back is one of its asks.
  pub record ClientRan (core : rust_client.Client) (handed_back : Option Request) (node : ClientHeld P T) : Type 0 where
    pub did : ClientDid node
    pub along : IsAlong node.id node.asks core node.closed
    pub back : IfSome handed_back (IsDueAsk node.id node.asks (length node.closed))
