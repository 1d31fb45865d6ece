-- What a process did of a frame, and of frames one after another.
use Rattle.std.specs.Prelude.{◌≡◌, ℕ, List, [], ◌∷◌, ◌++◌, flat_map, Option, None, Some, ⊤, ◌⊎◌, Ok, Err}
use Rattle.std.specs.List.{AllByRecursion}
use Rattle.cq_base.specs.declared.party.Party.{Party}
use Rattle.cq_base.specs.declared.party.Party.TheVariants as parties
use Rattle.cq_base.specs.Relations.{IsPrefix}
use Rattle.cq_chain.specs.declared.message.Message as rust
use Rattle.cq_chain.specs.declared.server.Server as rust_server
use Rattle.cq_chain.specs.Servers as states
use Rattle.cq_events.specs.Actions.{Action, Arrived, Asked, CoreState, ServerLives, StandsAs, put_to, taken_from}
use Rattle.cq_events.specs.Acts.{ServerActs}
use Rattle.cq_frame_loop.specs.Chains.{Step}
use Rattle.cq_frames.specs.declared.command.Command.{Command}
use Rattle.cq_frames.specs.declared.command.Command.TheVariants as commands
use Rattle.cq_frames.specs.declared.response.Response.{Response}
use Rattle.cq_frames.specs.declared.response.Response.TheVariants as responses
use Rattle.cq_frames.specs.declared.response.Standing.{Standing}
use Rattle.cq_frames.specs.Reading.{command_at}
use Rattle.cq_process.specs.Links.{held_by, is_gone}
use Rattle.cq_server_process.specs.declared.process.ServerProcess.{ServerProcess}
use Rattle.cq_server_process.specs.Answers.{State, state}
use Rattle.cq_server_process.specs.Turns.{frames}
use Rattle.cq_wire.specs.declared.fault.WireFault.{WireFault}
use Rattle.cq_wire.specs.declared.fault.WireFault.TheVariants.{BadNumber}
use Rattle.cq_wire.specs.Faults.{wire_code}
use Rattle.cq_wire.specs.Reading.{whole_at}
use Rattle.cq_process_laws.specs.Deeds.{Acted, AllTo, Came, Deed, IsInTurns, Lost, Missed, Read, Rested, actions_in, responses_in}
use Rattle.cq_process_laws.specs.Passing.{ArePutAsTold, Numbered, WereRead, brought_in, pieces_for}
use Rattle.cq_process_laws.specs.Streams.{given_of, taken_in}

-- the core of a process, with the messages that are being written
abbrev pub core_of : State → CoreState rust_server.Server
core_of p = record { core = p.core; back = held_by p.links.outgoing }

-- what a process has
abbrev pub state_of : ServerProcess → State
state_of process = state process.links process.core

-- ---- the command

-- what comes of a command by itself
abbrev pub BeginsWith : Command → List Deed → Type 0
BeginsWith (commands.Arrive stream clock request) first = first ≡ Acted (Arrived clock request) ∷ []
BeginsWith (commands.Ask query) first = first ≡ Acted (Asked query) ∷ []
BeginsWith (commands.Take from number piece) first = (first ≡ Came from number piece ∷ []) ⊎ ((message : rust.Message) × (first ≡ Read from number piece message ∷ []))
BeginsWith (commands.Gone server) first = first ≡ Lost (parties.Server server) ∷ []
BeginsWith (commands.More to) first = first ≡ []
BeginsWith (commands.Detect server) first = ⊥
BeginsWith (commands.Join server) first = ⊥
BeginsWith commands.Save first = ⊥
BeginsWith (commands.Load chunk) first = ⊥

-- what comes of one that is refused by the fault of that number
abbrev pub IsRefusedWith : Command → ℕ → List Deed → Type 0
IsRefusedWith (commands.Take from number piece) code deeds = deeds ≡ Missed from number piece code ∷ []
IsRefusedWith other code deeds = deeds ≡ Rested ∷ []

-- what is put by a command for the party that it names
abbrev pub PutsForNamed : Command → List Party → List Deed → Type 0
PutsForNamed (commands.More to) gone own = AllTo to gone own
PutsForNamed (commands.Gone server) gone own = AllTo (parties.Server server) gone own
PutsForNamed other gone own = own ≡ []

-- A command is carried out: what it is comes first, and then all parties have their turns. All that came of it was told.
pub record IsCarriedOut (gone : List Party) (bytes : List ℕ) (told : List Response) (deeds : List Deed) : Type 0 where
  pub command : Command
  pub read : whole_at command_at bytes ≡ Ok command
  pub first : List Deed
  pub own : List Deed
  pub turns : List Deed
  pub is : deeds ≡ first ++ (own ++ turns)
  pub begins : BeginsWith command first
  pub before : List Response
  pub standing : Standing
  pub ends : told ≡ before ++ responses.Done standing ∷ []
  pub is_own : PutsForNamed command gone own
  pub in_turns : IsInTurns gone turns

-- Or it is refused.
pub record IsRefusal (bytes : List ℕ) (told : List Response) (deeds : List Deed) : Type 0 where
  pub command : Command
  pub read : whole_at command_at bytes ≡ Ok command
  pub code : ℕ
  pub is : told ≡ responses.Refused code ∷ []
  pub refused : IsRefusedWith command code deeds

-- Or it wasn't read, for want of memory or for its bytes.
abbrev pub IsUnreadAs : Option (List ℕ) → List Response → Type 0
IsUnreadAs None told = told ≡ responses.Unread (wire_code BadNumber) ∷ []
IsUnreadAs (Some bytes) told = (told ≡ responses.Refused 20 ∷ []) ⊎ ((fault : WireFault) × ((whole_at command_at bytes ≡ Err fault) × (told ≡ responses.Unread (wire_code fault) ∷ [])))

-- That is told, and nothing is done.
pub record IsPassedOver (frame : Option (List ℕ)) (told : List Response) (deeds : List Deed) : Type 0 where
  pub unread : IsUnreadAs frame told
  pub nothing : deeds ≡ []

abbrev pub ComesOf : List Party → Option (List ℕ) → List Response → List Deed → Type 0
ComesOf gone None told deeds = IsPassedOver None told deeds
ComesOf gone (Some bytes) told deeds = IsCarriedOut gone bytes told deeds ⊎ (IsRefusal bytes told deeds ⊎ IsPassedOver (Some bytes) told deeds)

-- ---- what is told

-- no response tells of a piece
abbrev pub TellsNoPiece : Response → Type 0
TellsNoPiece (responses.Put to number piece) = ⊥
TellsNoPiece other = ⊤

-- Each piece is told, in order, and no other one.
pub record AreTold (told : List Response) (deeds : List Deed) : Type 0 where
  pub end : List Response
  pub is : told ≡ responses_in deeds ++ end
  pub none : AllByRecursion TellsNoPiece end

-- ---- of a frame

-- what was told of a frame, and what was done
pub record Done : Type 0 where
  pub told : List Response
  pub deeds : List Deed

-- From one state to the other that was done of a frame, and told by that text.
pub record IsDone (p q : State) (frame : Option (List ℕ)) (text : List ℕ) (one : Done) : Type 0 where
  pub as_frames : text ≡ frames one.told
  pub told : AreTold one.told one.deeds
  pub comes : ComesOf q.links.gone.keys frame one.told one.deeds
  pub acts : ServerActs (core_of p) (actions_in one.deeds) (core_of q)

-- ---- of frames one after another

-- each of these was done of the frame of its step
abbrev pub AreDone : State → List (Step ServerProcess) → List Done → Type 0
AreDone p [] [] = ⊤
AreDone p [] (one ∷ rest) = ⊥
AreDone p (step ∷ steps) [] = ⊥
AreDone p (step ∷ steps) (one ∷ rest) = IsDone p (state_of step.after) step.frame step.text one × AreDone (state_of step.after) steps rest

-- all that was done
abbrev pub deeds_in : List Done → List Deed
deeds_in done = flat_map (λ one. one.deeds) done

-- and the actions that it was
abbrev pub all_actions : List Done → List Action
all_actions done = actions_in (deeds_in done)

-- and all that was told
abbrev pub told_in : List Done → List Response
told_in done = flat_map (λ one. one.told) done

-- the pieces from a party that the frames brought in turn
abbrev pub brought_from : Party → List (Step ServerProcess) → List Done → List Numbered
brought_from from [] done = []
brought_from from (step ∷ steps) [] = []
brought_from from (step ∷ steps) (one ∷ rest) = brought_in from step.frame one.told ++ brought_from from steps rest

-- the arrivals of a stream that were taken
abbrev pub taken_of : ℕ → List (Step ServerProcess) → List Done → List (List ℕ)
taken_of stream [] done = []
taken_of stream (step ∷ steps) [] = []
taken_of stream (step ∷ steps) (one ∷ rest) = taken_in stream step.frame one.told ++ taken_of stream steps rest

-- What a process did that was new, with a server that stood for that.
pub record IsRun (s : states.Server) (first : State) (steps : List (Step ServerProcess)) (last : State) : Type 0 where
  pub done : List Done
  pub each : AreDone first steps done
  -- its actions are those of its core, which refused none
  pub stands : StandsAs (core_of first) s (λ _. [])
  pub acts : ServerActs (core_of first) (all_actions done) (core_of last)
  pub lives : ServerLives s (λ _. []) (all_actions done)
  -- what it put to a party was told as pieces
  pub out : (to : Party) → ArePutAsTold (is_gone last.links.gone.keys to) (put_to to (all_actions done)) (pieces_for to (told_in done))
  -- what it took from a party was read of pieces that frames brought
  pub into : (from : Party) → WereRead 1 (taken_from from (all_actions done)) (brought_from from steps done)
  -- of each stream it took the first arrivals that it was given, in order, and left none out between them
  pub streams : (stream : ℕ) → IsPrefix (taken_of stream steps done) (given_of stream steps)
