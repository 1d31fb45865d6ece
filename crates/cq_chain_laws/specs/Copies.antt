-- A copy of a store that one process told, and with which another one begins.
use Rattle.std.specs.Prelude.{◌≡◌, ◌≤◌, ℕ, List, [], ◌∷◌, length, Option, None, Some, false, ◌⊎◌, Ok}
use Rattle.cq_base.specs.declared.ask.Entry.{Entry}
use Rattle.cq_base.specs.declared.limits.TheConstants.{HISTORY_LIMIT}
use Rattle.cq_base.specs.declared.party.Party.{Party}
use Rattle.cq_chain.specs.declared.server.Server as rust_server
use Rattle.cq_chain.specs.Messages as messages
use Rattle.cq_chain.specs.Servers as states
use Rattle.cq_chain.specs.Stands as servers
use Rattle.cq_frame_loop.specs.Chains.{IsChain, Step}
use Rattle.cq_frames.specs.declared.command.Command.TheVariants as commands
use Rattle.cq_frames.specs.declared.response.Response.{Response}
use Rattle.cq_frames.specs.Reading.{command_at}
use Rattle.cq_real_time.specs.Interleavings.{IsStart}
use Rattle.cq_real_time.specs.Loading.{loaded}
use Rattle.cq_server_copies.specs.declared.loading.LoadingProcess.{LoadingProcess}
use Rattle.cq_server_copies.specs.declared.loading.Stage.TheVariants as stages
use Rattle.cq_server_copies.specs.declared.saving.SavingProcess.{SavingProcess}
use Rattle.cq_server_copies.specs.Loading as loading
use Rattle.cq_server_copies.specs.Saving as saving
use Rattle.cq_server_process.specs.Answers.{IsNewProcess}
use Rattle.cq_server_process.specs.Processes.{process_of}
use Rattle.cq_server_process.specs.Turns.{frames}
use Rattle.cq_store.specs.Laws.{Stamped}
use Rattle.cq_store.specs.Stands as stores
use Rattle.cq_store_wire.specs.declared.build.State.TheVariants as readers
use Rattle.cq_wire.specs.Reading.{whole_at}
use Rattle.cq_chain_laws.specs.Serving.{asks_copy}

-- ---- told

-- a frame is answered by that chunk of a copy
pub record TellsChunk (p : SavingProcess) (step : Step SavingProcess) (chunk : List ℕ) : Type 0 where
  pub told : List Response
  pub text : step.text ≡ frames told
  pub saves : saving.Saves p step.after told
  pub is : saves.chunk ≡ chunk

-- Frames are answered by these chunks, of which none is empty, and then by the empty one; other frames come between them.
abbrev pub TellsOn : SavingProcess → List (Step SavingProcess) → List (List ℕ) → Type 0
TellsOn p [] chunks = ⊥
TellsOn p (step ∷ steps) [] = TellsChunk p step [] ⊎ ((asks_copy step.frame ≡ false) × TellsOn step.after steps [])
TellsOn p (step ∷ steps) ([] ∷ chunks) = ⊥
TellsOn p (step ∷ steps) ((byte ∷ bytes) ∷ chunks) =
    (TellsChunk p step (byte ∷ bytes) × TellsOn step.after steps chunks) ⊎ ((asks_copy step.frame ≡ false) × TellsOn step.after steps ((byte ∷ bytes) ∷ chunks))

-- The first frame asks for the first chunk of a copy, and all of that copy is told.
abbrev pub TellsCopy : SavingProcess → List (Step SavingProcess) → List (List ℕ) → Type 0
TellsCopy p steps [] = ⊥
TellsCopy p [] (chunk ∷ chunks) = ⊥
TellsCopy p (step ∷ steps) ([] ∷ chunks) = ⊥
TellsCopy p (step ∷ steps) ((byte ∷ bytes) ∷ chunks) = (p.copy ≡ None) × (TellsChunk p step (byte ∷ bytes) × TellsOn step.after steps chunks)

-- ---- and loaded

-- a frame is read as the command to load that chunk
abbrev pub Brings : Option (List ℕ) → List ℕ → Type 0
Brings frame chunk = (bytes : List ℕ) × ((frame ≡ Some bytes) × (whole_at command_at bytes ≡ Ok (commands.Load chunk)))

-- The frames bring these chunks, and then the empty one.
abbrev pub BringAll : List (List ℕ) → List (Step LoadingProcess) → Type 0
BringAll [] [] = ⊥
BringAll [] (step ∷ []) = Brings step.frame []
BringAll [] (step ∷ other ∷ steps) = ⊥
BringAll (chunk ∷ chunks) [] = ⊥
BringAll (chunk ∷ chunks) (step ∷ steps) = Brings step.frame chunk × BringAll chunks steps

-- The process keeps a server that begins as server 1 of the world that begins with these entries, in which a chain may begin.
pub record BeginsAt (entries : List Entry) (process : SavingProcess) : Type 0 where
  pub start : IsStart (loaded entries)
  pub new : IsNewProcess ((loaded entries).server 1) (process_of process.process)

-- It begins with a store that stands for what that server had, and so it does for each list of entries for which the store stands.
pub record BeginsWithStoreOf (core : rust_server.Server) (end : LoadingProcess) : Type 0 where
  pub kept : stores.StoreKept
  pub copied : (s : states.Server) (outbox : Party → List messages.Message) → servers.StandsFor core s outbox → stores.StandsFor kept s.entries
  pub process : SavingProcess
  pub is : end.stage ≡ stages.Serving process
  pub begins : (entries : List Entry) → stores.StandsFor kept entries → Stamped entries → length entries ≤ HISTORY_LIMIT → BeginsAt entries process

-- What one process told as a copy of its store makes another one, to which it is given, begin with that store.
abbrev pub CopiesAreLoaded : Type 0
CopiesAreLoaded = (first last : SavingProcess) (saves : List (Step SavingProcess)) (chunks : List (List ℕ)) (start end : LoadingProcess) (loads : List (Step LoadingProcess))
    → IsChain saving.Answers first saves last → TellsCopy first saves chunks
    → start.stage ≡ stages.Loading readers.Empty → IsChain loading.Answers start loads end → BringAll chunks loads
    → BeginsWithStoreOf first.process.core end
