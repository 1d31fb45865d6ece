-- What one step of the master's node does to what its core stands for, and to the list of one end.
use Rattle.std.specs.Prelude.{◌≡◌, ◌==◌, ◌+◌, ◌≤◌, ℕ, zero, suc, length, List, [], ◌∷◌, ◌++◌, slice_get, if◌then◌else◌, Option, None}
use Rattle.cq_base.specs.declared.party.Party.{Party}
use Rattle.cq_base.specs.declared.party.Party.TheVariants as parties
use Rattle.cq_chain.specs.declared.message.Message.{Message}
use Rattle.cq_chain.specs.declared.master.Master.{Master}
use Rattle.cq_nodes.specs.declared.ends.In.{In}
use Rattle.cq_nodes.specs.declared.ends.Out.{Out}
use Rattle.cq_events.specs.Acts.{ActsMaster}
use Rattle.cq_nodes.specs.Ends.{listed, with_back, kept_at}
use Rattle.cq_nodes.specs.Moves.{ArePut, AreTaken}
use Rattle.cq_events.specs.Actions.{Put, Took, IsMasterAs, Keeps}

-- nothing is done, but the first message for that server may have left the core's outbox and be kept
abbrev pub PassesFor : Master → Master → (Party → Option Message) → ℕ → Option Message → Type 0
PassesFor old new back to kept = Keeps IsMasterAs (record { core = old; back = back }) (record { core = new; back = with_back back (parties.Server to) kept })

-- The first message for a server is put on its link.
pub record PutsOneFor (old new : Master) (back : Party → Option Message) (to : ℕ) (kept : Option Message) (before after : List Message) : Type 0 where
  pub message : Message
  pub list : after ≡ before ++ message ∷ []
  pub done : ActsMaster (Put (parties.Server to) message) (record { core = old; back = back }) (record { core = new; back = with_back back (parties.Server to) kept })

-- the core takes a message of that server
abbrev pub TakesOneOf : Master → Master → (Party → Option Message) → ℕ → Message → Type 0
TakesOneOf old new back from message = ActsMaster (Took (parties.Server from) message) (record { core = old; back = back }) (record { core = new; back = back })

-- The core takes the next message of a link, after those that it took before.
pub record ReadsOf (old new : Master) (back : Party → Option Message) (from : ℕ) (seen : List Message) (unread : Option Message) (after : List Message) : Type 0 where
  pub message : Message
  pub list : after ≡ (seen ++ message ∷ []) ++ listed unread
  pub done : TakesOneOf old new back from message

-- ---- ends in their places: the server of number place + 1 stands at each

module _ {P : Type 0} where
  -- what was handed back for the server of that number
  abbrev pub back_for : List (Out P) → ℕ → Option Message
  back_for outs zero = None
  back_for outs (suc place) = kept_at (slice_get outs place)

  -- what was handed back for each party, of these ends
  abbrev pub back_of_servers : List (Out P) → Party → Option Message
  back_of_servers outs parties.Master = None
  back_of_servers outs parties.Clients = None
  back_of_servers outs (parties.Server id) = back_for outs id

module _ {P : Type 0} (list : P → List Message) where
  -- The first message for that server is put on its link, behind what was put on each link before.
  pub record PutsFor (old new : Master) (before after : List (Out P)) (sent : ℕ → List Message) (to : ℕ) : Type 0 where
    pub message : Message
    pub linked : (1 ≤ to) × (to ≤ length after)
    pub done : ActsMaster (Put (parties.Server to) message) (record { core = old; back = back_of_servers before }) (record { core = new; back = back_of_servers after })
    pub lists : ArePut list after (λ at. sent at ++ (if at + 1 == to then message ∷ [] else []))

module _ {T : Type 0} (list : T → List Message) where
  -- The core takes the next message of that server, after what was taken from each link before.
  pub record TakesOf (old new : Master) (back : Party → Option Message) (after : List (In T)) (seen : ℕ → List Message) (from : ℕ) : Type 0 where
    pub message : Message
    pub linked : (1 ≤ from) × (from ≤ length after)
    pub done : TakesOneOf old new back from message
    pub lists : AreTaken list after (λ at. seen at ++ (if at + 1 == from then message ∷ [] else []))
