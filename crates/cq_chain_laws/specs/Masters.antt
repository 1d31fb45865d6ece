-- What a process of a master did of frames, one after another.
use Rattle.std.specs.Prelude.{◌≡◌, ℕ, List, [], ◌∷◌, ◌++◌, flat_map, ⊤}
use Rattle.cq_base.specs.declared.party.Party.{Party}
use Rattle.cq_base.specs.declared.party.Party.TheVariants as parties
use Rattle.cq_chain.specs.Masters.{first_master}
use Rattle.cq_events.specs.Actions.{Action, IsMasterAs, put_to, taken_from}
use Rattle.cq_frame_loop.specs.Chains.{Step}
use Rattle.cq_frames.specs.declared.response.Response.{Response}
use Rattle.cq_master_process.specs.declared.process.MasterProcess.{MasterProcess}
use Rattle.cq_master_process.specs.Cores.{ActsAll, alone}
use Rattle.cq_master_process.specs.Links.{gone_of}
use Rattle.cq_process_laws.specs.Passing.{ArePutAsTold, Numbered, WereRead, brought_in, pieces_for}
use Rattle.cq_server_process.specs.Turns.{frames}

-- what was told of a frame, and the actions that were done
pub record Done : Type 0 where
  pub told : List Response
  pub actions : List Action

-- From one state to the other that was done of the frame of a step, and told by its text.
pub record IsDone (p : MasterProcess) (step : Step MasterProcess) (one : Done) : Type 0 where
  pub as_frames : step.text ≡ frames one.told
  pub acts : ActsAll one.actions p.core step.after.core

abbrev pub AreDone : MasterProcess → List (Step MasterProcess) → List Done → Type 0
AreDone p [] [] = ⊤
AreDone p [] (one ∷ rest) = ⊥
AreDone p (step ∷ steps) [] = ⊥
AreDone p (step ∷ steps) (one ∷ rest) = IsDone p step one × AreDone step.after steps rest

-- all that was done
abbrev pub actions_in : List Done → List Action
actions_in done = flat_map (λ one. one.actions) done

-- and all that was told
abbrev pub told_in : List Done → List Response
told_in done = flat_map (λ one. one.told) done

-- the pieces from a party that the frames brought in turn
abbrev pub brought_from : Party → List (Step MasterProcess) → List Done → List Numbered
brought_from from [] done = []
brought_from from (step ∷ steps) [] = []
brought_from from (step ∷ steps) (one ∷ rest) = brought_in from step.frame one.told ++ brought_from from steps rest

-- What a process did that was new, with the master of a first chain of so many servers.
pub record IsRun (size : ℕ) (first : MasterProcess) (steps : List (Step MasterProcess)) (last : MasterProcess) : Type 0 where
  pub done : List Done
  pub each : AreDone first steps done
  -- its actions are those of its core, which refused none
  pub stands : IsMasterAs (alone first.core) (first_master size) (λ _. [])
  pub acts : ActsAll (actions_in done) first.core last.core
  -- what it put to a server was told as pieces; it puts nothing to anybody else
  pub out : (to : ℕ) → ArePutAsTold (gone_of last.links to) (put_to (parties.Server to) (actions_in done)) (pieces_for (parties.Server to) (told_in done))
  -- what it took from a server was read of pieces that frames brought; it takes nothing from anybody else
  pub into : (from : ℕ) → WereRead 1 (taken_from (parties.Server from) (actions_in done)) (brought_from (parties.Server from) steps done)
  pub servers : (taken_from parties.Master (actions_in done) ≡ []) × (taken_from parties.Clients (actions_in done) ≡ [])
