-- What one step of a server's node does to what its core stands for, and to the list of one end.
use Rattle.std.specs.Prelude.{◌≡◌, ◌==◌, ◌<◌, ℕ, length, List, [], ◌∷◌, ◌++◌, slice_get, if◌then◌else◌, Option, Some, None, Bool, true, false, ⊤, ◌⊎◌}
use Rattle.cq_base.specs.declared.ask.Request.{Request}
use Rattle.cq_base.specs.declared.party.Party.{Party}
use Rattle.cq_base.specs.declared.party.Party.TheVariants as parties
use Rattle.cq_chain.specs.declared.message.Message.{Message}
use Rattle.cq_chain.specs.declared.server.Server.{Server}
use Rattle.cq_chain.specs.Messages as messages
use Rattle.cq_nodes.specs.declared.ends.In.{In}
use Rattle.cq_nodes.specs.declared.ends.Out.{Out}
use Rattle.cq_nodes.specs.declared.ends.ToClients.{ToClients}
use Rattle.cq_events.specs.Acts.{Acts}
use Rattle.cq_nodes.specs.Ends.{party_at, listed, with_back, back_of, if_for}
use Rattle.cq_events.specs.Actions.{Put, Took, Arrived, StandsAs, Keeps}

-- whether a message was handed back, or waits in the outbox
abbrev pub waits : Option Message → List messages.Message → Bool
waits (Some x) box = true
waits None [] = false
waits None (m ∷ box) = true

-- nothing is done, but the first message for that party may have left the core's outbox and be kept
abbrev pub Passes : Server → Server → (Party → Option Message) → Party → Option Message → Type 0
Passes old new back to kept = Keeps StandsAs (record { core = old; back = back }) (record { core = new; back = with_back back to kept })

-- The first message for a party is put on its link.
pub record PutsOne (old new : Server) (back : Party → Option Message) (to : Party) (kept : Option Message) (before after : List Message) : Type 0 where
  pub message : Message
  pub list : after ≡ before ++ message ∷ []
  pub done : Acts (Put to message) (record { core = old; back = back }) (record { core = new; back = with_back back to kept })

-- the core takes a message of that party
abbrev pub TakesOne : Server → Server → (Party → Option Message) → Party → Message → Type 0
TakesOne old new back from message = Acts (Took from message) (record { core = old; back = back }) (record { core = new; back = back })

-- The core takes the next message of a link, after those that it took before.
pub record Reads (old new : Server) (back : Party → Option Message) (from : Party) (seen : List Message) (unread : Option Message) (after : List Message) : Type 0 where
  pub message : Message
  pub list : after ≡ (seen ++ message ∷ []) ++ listed unread
  pub done : TakesOne old new back from message

-- ---- ends in their places

module _ {P : Type 0} (list : P → List Message) where
  -- on each link the messages of its place were put
  abbrev pub ArePut : List (Out P) → (ℕ → List Message) → Type 0
  ArePut outs sent = (place : ℕ) (out : Out P) → slice_get outs place ≡ Some out → list out.end ≡ sent place

  -- The first message for the party at that place is put on its link, behind what was put on each link before.
  pub record PutsAt (old new : Server) (before after : List (Out P)) (kept : Option Message) (sent : ℕ → List Message) (place : ℕ) : Type 0 where
    pub message : Message
    pub linked : place < length after
    pub done : Acts (Put (party_at place) message) (record { core = old; back = back_of before kept }) (record { core = new; back = back_of after kept })
    pub lists : ArePut after (λ at. sent at ++ (if at == place then message ∷ [] else []))

module _ {T : Type 0} (list : T → List Message) where
  -- from each link the messages of its place were taken, and after them one that wasn't read, if there is one
  abbrev pub AreTaken : List (In T) → (ℕ → List Message) → Type 0
  AreTaken ins seen = (place : ℕ) (end : In T) → slice_get ins place ≡ Some end → list end.end ≡ seen place ++ listed end.unread

  -- The core takes the next message of the party at that place, after what was taken from each link before.
  pub record TakesAt (old new : Server) (back : Party → Option Message) (after : List (In T)) (seen : ℕ → List Message) (place : ℕ) : Type 0 where
    pub message : Message
    pub linked : place < length after
    pub done : TakesOne old new back (party_at place) message
    pub lists : AreTaken after (λ at. seen at ++ (if at == place then message ∷ [] else []))

-- ---- the clients

module _ {P : Type 0} (list : P → List Message) where
  -- The first message for the clients is put on the link to the one that it is for.
  pub record PutsToOne (old new : Server) (outs : List (Out P)) (before after : ToClients P) : Type 0 where
    pub message : Message
    pub done : Acts (Put parties.Clients message) (record { core = old; back = back_of outs before.kept }) (record { core = new; back = back_of outs after.kept })
    pub firsts : list after.first ≡ list before.first ++ if_for false message
    pub seconds : list after.second ≡ list before.second ++ if_for true message

-- a list with some of it left out, and nothing else changed
abbrev pub Part : {X : Type 0} → List X → List X → Type 0
Part [] ys = ⊤
Part (x ∷ xs) [] = ⊥
Part (x ∷ xs) (y ∷ ys) = ((x ≡ y) × Part xs ys) ⊎ Part (x ∷ xs) ys

-- The next request of an inbox arrives at the core at that moment.
pub record Arrives (old new : Server) (back : Party → Option Message) (clock : ℕ) (request : Request) (before after : List Request) : Type 0 where
  pub done : Acts (Arrived clock request) (record { core = old; back = back }) (record { core = new; back = back })
  pub list : after ≡ before ++ request ∷ []
