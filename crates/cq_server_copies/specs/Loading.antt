-- A process that begins with a store, which it is told a chunk at a time.
use Rattle.std.specs.Prelude.{◌≡◌, ℕ, List, [], ◌∷◌, ◌++◌, Option, None, Some, Bool, true, false, Ok, ◌⊎◌}
use Rattle.cq_base.specs.declared.ask.Entry.{Entry}
use Rattle.cq_chain.specs.Servers.{alone}
use Rattle.cq_frames.specs.declared.command.Command.{Command}
use Rattle.cq_frames.specs.declared.command.Command.TheVariants as commands
use Rattle.cq_frames.specs.declared.response.Response.TheVariants as responses
use Rattle.cq_frames.specs.declared.response.Standing.{Standing}
use Rattle.cq_frames.specs.declared.response.TheConstants.{NOT_HERE}
use Rattle.cq_frames.specs.Reading.{command_at}
use Rattle.cq_process_frames.specs.Frames.{frame}
use Rattle.cq_server_copies.specs.declared.loading.LoadingProcess.{LoadingProcess}
use Rattle.cq_server_copies.specs.declared.loading.Stage.{Stage}
use Rattle.cq_server_copies.specs.declared.loading.Stage.TheVariants as stages
use Rattle.cq_server_copies.specs.declared.saving.SavingProcess.{SavingProcess}
use Rattle.cq_server_copies.specs.Saving as saving
use Rattle.cq_server_process.specs.Answers.{IsNewProcess, StandsSo}
use Rattle.cq_server_process.specs.Processes.{process_of}
use Rattle.cq_store.specs.Stands as stores
use Rattle.cq_store_wire.specs.declared.build.State.{State}
use Rattle.cq_store_wire.specs.Building.{fed, store_of}
use Rattle.cq_wire.specs.declared.fault.WireFault.{WireFault}
use Rattle.cq_wire.specs.declared.fault.WireFault.TheVariants.{BadNumber}
use Rattle.cq_wire.specs.Faults.{wire_code}
use Rattle.cq_wire.specs.Reading.{whole_at}
use Rattle.std.specs.Prelude.{Err}

-- whether a server stands on the store that was read
abbrev pub is_serving : Stage → Bool
is_serving (stages.Loading reader) = false
is_serving (stages.Serving process) = true
is_serving stages.Failed = false

-- The store is whole. The process keeps the server of a chain of one, at rest behind the entries for which that store stands, and nothing
-- came or was put. It tells where that server stands.
pub record IsLoaded (reader : State) (stage : Stage) (text : List ℕ) : Type 0 where
  pub kept : stores.StoreKept
  pub whole : store_of reader ≡ Ok kept
  pub process : SavingProcess
  pub is : stage ≡ stages.Serving process
  pub copy : process.copy ≡ None
  pub new : (entries : List Entry) → stores.StandsFor kept entries → IsNewProcess (alone entries) (process_of process.process)
  pub standing : Standing
  pub stands : StandsSo process.process.core standing
  pub told : text ≡ frame (responses.Done standing)

-- One chunk more is read.
pub record IsFed (chunk : List ℕ) (reader : State) (stage : Stage) (text : List ℕ) : Type 0 where
  pub next : State
  pub fed : fed chunk reader ≡ Ok next
  pub is : stage ≡ stages.Loading next
  pub told : text ≡ frame responses.Heard

-- an empty chunk ends the store
abbrev pub LoadsChunk : List ℕ → State → Stage → List ℕ → Type 0
LoadsChunk [] reader stage text = IsLoaded reader stage text
LoadsChunk (byte ∷ bytes) reader stage text = IsFed (byte ∷ bytes) reader stage text

abbrev pub IsRefusedYet : State → Stage → List ℕ → Type 0
IsRefusedYet reader stage text = (stage ≡ stages.Loading reader) × (text ≡ frame (responses.Refused NOT_HERE))

-- all but chunks are refused
abbrev pub LoadsCommand : Command → State → Stage → List ℕ → Type 0
LoadsCommand (commands.Load chunk) reader stage text = LoadsChunk chunk reader stage text
LoadsCommand (commands.Arrive stream clock request) reader stage text = IsRefusedYet reader stage text
LoadsCommand (commands.Ask query) reader stage text = IsRefusedYet reader stage text
LoadsCommand (commands.Take from number piece) reader stage text = IsRefusedYet reader stage text
LoadsCommand (commands.Detect server) reader stage text = IsRefusedYet reader stage text
LoadsCommand (commands.Join server) reader stage text = IsRefusedYet reader stage text
LoadsCommand (commands.More to) reader stage text = IsRefusedYet reader stage text
LoadsCommand (commands.Gone server) reader stage text = IsRefusedYet reader stage text
LoadsCommand commands.Save reader stage text = IsRefusedYet reader stage text

-- The bytes are those of no command.
abbrev pub IsUnreadYet : WireFault → State → Stage → List ℕ → Type 0
IsUnreadYet fault reader stage text = (stage ≡ stages.Loading reader) × (text ≡ frame (responses.Unread (wire_code fault)))

abbrev pub LoadsBytes : List ℕ → State → Stage → List ℕ → Type 0
LoadsBytes bytes reader stage text = ((fault : WireFault) × ((whole_at command_at bytes ≡ Err fault) × IsUnreadYet fault reader stage text))
    ⊎ ((command : Command) × ((whole_at command_at bytes ≡ Ok command) × LoadsCommand command reader stage text))

abbrev pub LoadsFrame : Option (List ℕ) → State → Stage → List ℕ → Type 0
LoadsFrame None reader stage text = IsUnreadYet BadNumber reader stage text
LoadsFrame (Some bytes) reader stage text = LoadsBytes bytes reader stage text

-- A server stands on the store: the process goes on as one that tells copies of it does.
pub record Serves (before : SavingProcess) (frame : Option (List ℕ)) (text : List ℕ) (stage : Stage) : Type 0 where
  pub after : SavingProcess
  pub is : stage ≡ stages.Serving after
  pub answers : saving.Answers before frame text after

-- What is told of a frame, by the stage. Behind a failure nothing is.
abbrev pub AnswersAt : Stage → Option (List ℕ) → List ℕ → Stage → Type 0
AnswersAt (stages.Loading reader) frame text stage = LoadsFrame frame reader stage text
AnswersAt (stages.Serving process) frame text stage = Serves process frame text stage
AnswersAt stages.Failed frame text stage = ⊥

abbrev pub Answers : LoadingProcess → Option (List ℕ) → List ℕ → LoadingProcess → Type 0
Answers p frame text q = AnswersAt p.stage frame text q.stage

-- Where a frame can't be answered while no server stands on the store, none ever does; and one that stands on it goes on to.
abbrev pub Breaks : LoadingProcess → Option (List ℕ) → LoadingProcess → Type 0
Breaks p frame q = (is_serving p.stage ≡ false → q.stage ≡ stages.Failed) × (is_serving p.stage ≡ true → is_serving q.stage ≡ true)

-- ---- and the bytes

abbrev pub TellsLoading : Option (List ℕ) → LoadingProcess → LoadingProcess → List ℕ → Type 0
TellsLoading frame p q text = Answers p frame text q

abbrev pub TellsAnswer : Option (List ℕ) → LoadingProcess → LoadingProcess → List ℕ → List ℕ → List ℕ → Type 0
TellsAnswer frame p q old new end = (text : List ℕ) × ((new ++ end ≡ old ++ text) × Answers p frame text q)
