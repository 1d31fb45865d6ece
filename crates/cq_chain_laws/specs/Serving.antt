-- What a process does that tells copies of its store, and one that begins with a store.
use Rattle.std.specs.Prelude.{◌≡◌, ℕ, List, [], ◌∷◌, ◌++◌, Option, None, Some, Bool, false, if◌then◌else◌, ◌⊎◌, ⊤}
use Rattle.std.specs.Str.{bytes_eq}
use Rattle.cq_base.specs.declared.ask.Entry.{Entry}
use Rattle.cq_base.specs.declared.party.Party.TheVariants as parties
use Rattle.cq_chain.specs.Servers.{alone}
use Rattle.cq_frame_loop.specs.Chains.{IsChain, Step}
use Rattle.cq_frames.specs.declared.command.Command.TheVariants.{Save}
use Rattle.cq_frames.specs.Layout.{command}
use Rattle.cq_process_laws.specs.Runs.{IsRun, all_actions, state_of}
use Rattle.cq_real_time.specs.Interleavings.{Acted}
use Rattle.cq_real_time.specs.Loading.{loaded}
use Rattle.cq_server_copies.specs.declared.loading.LoadingProcess.{LoadingProcess}
use Rattle.cq_server_copies.specs.declared.loading.Stage.TheVariants as stages
use Rattle.cq_server_copies.specs.declared.saving.SavingProcess.{SavingProcess}
use Rattle.cq_server_copies.specs.Loading as loading
use Rattle.cq_server_copies.specs.Saving as saving
use Rattle.cq_server_process.specs.declared.process.ServerProcess.{ServerProcess}
use Rattle.cq_server_process.specs.Processes as process
use Rattle.cq_store.specs.Stands as stores
use Rattle.cq_store_wire.specs.declared.build.State.{State}
use Rattle.cq_store_wire.specs.declared.build.State.TheVariants as states
use Rattle.cq_wire.specs.Layout.{whole}

-- the frame asks for a chunk of a copy
abbrev pub asks_copy : Option (List ℕ) → Bool
asks_copy None = false
asks_copy (Some bytes) = bytes_eq bytes (whole command Save)

-- the steps in which the server's process answers: all but those that tell a chunk of a copy
abbrev pub answered : List (Step SavingProcess) → List (Step ServerProcess)
answered [] = []
answered (step ∷ steps) = if asks_copy step.frame then answered steps else record { frame = step.frame; text = step.text; after = step.after.process } ∷ answered steps

-- Frames that ask for chunks of copies leave the server's process as it is, and it answers the others.
abbrev pub SavesAreNoSteps : Type 0
SavesAreNoSteps = (first last : SavingProcess) (steps : List (Step SavingProcess)) → IsChain saving.Answers first steps last → IsChain process.answers first.process (answered steps) last.process

-- each frame was answered by the process that stands on the store
abbrev pub AreServed : List (Step LoadingProcess) → List (Step SavingProcess) → Type 0
AreServed [] [] = ⊤
AreServed [] (serve ∷ serves) = ⊥
AreServed (step ∷ steps) [] = ⊥
AreServed (step ∷ steps) (serve ∷ serves) = ((step.frame ≡ serve.frame) × ((step.text ≡ serve.text) × (step.after.stage ≡ stages.Serving serve.after))) × AreServed steps serves

-- The store was whole with one frame. All behind it were answered by a process that stands on it, and what that one did are actions of
-- server 1 of the world that begins with any list of entries for which the store stands.
pub record ServesFromStore (steps : List (Step LoadingProcess)) (last : LoadingProcess) : Type 0 where
  pub front : List (Step LoadingProcess)
  pub one : Step LoadingProcess
  pub behind : List (Step LoadingProcess)
  pub is : steps ≡ front ++ (one ∷ behind)
  pub reader : State
  pub whole : loading.IsLoaded reader one.after.stage one.text
  pub serves : List (Step SavingProcess)
  pub end : SavingProcess
  pub served : AreServed behind serves
  pub ends : last.stage ≡ stages.Serving end
  pub chain : IsChain saving.Answers whole.process serves end
  pub acts : (entries : List Entry) → stores.StandsFor whole.kept entries
      → (run : IsRun (alone entries) (state_of whole.process.process) (answered serves) (state_of end.process)) × Acted (loaded entries) (parties.Server 1) (all_actions run.done)

abbrev pub LoadingProcessesAct : Type 0
LoadingProcessesAct = (first last : LoadingProcess) (steps : List (Step LoadingProcess)) → first.stage ≡ stages.Loading states.Empty → IsChain loading.Answers first steps last
    → (loading.is_serving last.stage ≡ false) ⊎ ServesFromStore steps last
