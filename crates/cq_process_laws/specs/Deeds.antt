-- What a process does, one thing after another: with its core, and with messages whose pieces come and go.
use Rattle.std.specs.Prelude.{◌≡◌, ℕ, List, [], ◌∷◌, ◌++◌, map, flat_map, true, false, ⊤}
use Rattle.std.specs.List.{AllByRecursion}
use Rattle.cq_base.specs.declared.party.Party.{Party}
use Rattle.cq_base.specs.declared.party.Party.TheVariants.{Master, Clients, Server}
use Rattle.cq_chain.specs.declared.message.Message as rust
use Rattle.cq_events.specs.Actions.{Action, Put, Took}
use Rattle.cq_frames.specs.declared.number.PieceNumber.{PieceNumber}
use Rattle.cq_frames.specs.declared.response.Response.{Response}
use Rattle.cq_frames.specs.declared.response.Response.TheVariants as responses
use Rattle.cq_process.specs.Links.{is_gone}

-- One thing that a process does. A piece has its number on the link from or to that party.
pub data Deed : Type 0 where
  -- nothing that counts
  Rested : Deed
  -- the core does that, of itself
  Acted : Action → Deed
  -- a piece came and was read, and more are left of its message
  Came : Party → PieceNumber → List ℕ → Deed
  -- a piece came, and the message was taken, which is read whole
  Read : Party → PieceNumber → List ℕ → rust.Message → Deed
  -- a piece came, and was refused by the fault of that number, which comes last
  Missed : Party → PieceNumber → List ℕ → ℕ → Deed
  -- that party is gone
  Lost : Party → Deed
  -- a piece is told, and more are left of its message
  Told : Party → PieceNumber → List ℕ → Deed
  -- the last piece of the message is told, and the message is put
  Ended : Party → PieceNumber → List ℕ → rust.Message → Deed
  -- the messages for a party that is gone are put and thrown away
  Threw : Party → List rust.Message → Deed

-- ---- the actions that they are

abbrev pub actions_of : Deed → List Action
actions_of Rested = []
actions_of (Acted action) = action ∷ []
actions_of (Came from number piece) = []
actions_of (Read from number piece message) = Took from message ∷ []
actions_of (Missed from number piece code) = []
actions_of (Lost party) = []
actions_of (Told to number piece) = []
actions_of (Ended to number piece message) = Put to message ∷ []
actions_of (Threw to messages) = map (λ x. Put to x) messages

abbrev pub actions_in : List Deed → List Action
actions_in deeds = flat_map actions_of deeds

-- ---- the responses that tell of them

abbrev pub responses_of : Deed → List Response
responses_of Rested = []
responses_of (Acted action) = []
responses_of (Came from number piece) = []
responses_of (Read from number piece message) = []
responses_of (Missed from number piece code) = []
responses_of (Lost party) = []
responses_of (Told to number piece) = responses.Put to number piece ∷ []
responses_of (Ended to number piece message) = responses.Put to number piece ∷ []
responses_of (Threw to messages) = []

abbrev pub responses_in : List Deed → List Response
responses_in deeds = flat_map responses_of deeds

-- ---- deeds that only put and tell

-- It puts or tells something for that party, or does nothing. What is put for a party that is gone is thrown away.
abbrev pub SendsTo : Party → List Party → Deed → Type 0
SendsTo to gone Rested = ⊤
SendsTo to gone (Acted action) = ⊥
SendsTo to gone (Came from number piece) = ⊥
SendsTo to gone (Read from number piece message) = ⊥
SendsTo to gone (Missed from number piece code) = ⊥
SendsTo to gone (Lost party) = ⊥
SendsTo to gone (Told other number piece) = (other ≡ to) × (is_gone gone to ≡ false)
SendsTo to gone (Ended other number piece message) = (other ≡ to) × (is_gone gone to ≡ false)
SendsTo to gone (Threw other messages) = (other ≡ to) × (is_gone gone to ≡ true)

-- so do all of these
abbrev pub AllTo : Party → List Party → List Deed → Type 0
AllTo to gone deeds = AllByRecursion (SendsTo to gone) deeds

-- what was done in turns of servers, each of which has its number
abbrev pub in_turns : List (ℕ × List Deed) → List Deed
in_turns turns = flat_map (λ turn. turn.1) turns

abbrev pub AreTurns : List Party → List (ℕ × List Deed) → Type 0
AreTurns gone turns = AllByRecursion (λ turn. AllTo (Server turn.0) gone turn.1) turns

-- Clients have their turn first, then the master, and then servers.
pub record IsInTurns (gone : List Party) (deeds : List Deed) : Type 0 where
  pub clients : List Deed
  pub master : List Deed
  pub servers : List (ℕ × List Deed)
  pub is : deeds ≡ clients ++ (master ++ in_turns servers)
  pub to_clients : AllTo Clients gone clients
  pub to_master : AllTo Master gone master
  pub to_servers : AreTurns gone servers
