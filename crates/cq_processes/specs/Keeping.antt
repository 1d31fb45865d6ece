-- What a process has done by its end: what it read, and what it wrote.
use Rattle.std.specs.Prelude.{◌≡◌, ℕ, Bool, true, false, List, [], Option, None, Result, Ok, Err, ◌⊎◌}
use Rattle.cq_chain.specs.Servers as servers
use Rattle.cq_frame_loop.specs.Chains.{BreaksOff, any_break}
use Rattle.cq_frame_loop.specs.Cutting.{frames_of}
use Rattle.cq_frame_loop.specs.declared.fault.LoopFault.{LoopFault}
use Rattle.cq_frame_loop.specs.declared.fault.LoopFault.TheVariants.{NoMemory, Unanswered}
use Rattle.cq_frame_loop.specs.Loops.{AnswersInput, LeavesReader, LeavesWriter}
use Rattle.cq_master_process.specs.declared.process.MasterProcess.{MasterProcess}
use Rattle.cq_master_process.specs.Answering as master
use Rattle.cq_processes.specs.declared.keep.LoadEnd.{LoadEnd}
use Rattle.cq_processes.specs.declared.keep.LoadEnd.TheVariants as ends
use Rattle.cq_server_copies.specs.declared.loading.LoadingProcess.{LoadingProcess}
use Rattle.cq_server_copies.specs.declared.loading.Stage.TheVariants as stages
use Rattle.cq_server_copies.specs.declared.saving.SavingProcess.{SavingProcess}
use Rattle.cq_server_copies.specs.Loading as loading
use Rattle.cq_server_copies.specs.Saving as saving
use Rattle.cq_server_process.specs.Answers as server
use Rattle.cq_server_process.specs.Processes.{process_of}
use Rattle.cq_store_wire.specs.declared.build.State.TheVariants as states

-- There was no memory for the process, and nothing was read or written.
abbrev pub NeverBegan : Result (Unit {0}) LoopFault → List ℕ → List ℕ → Type 0
NeverBegan result input output = (result ≡ Err NoMemory) × ((input ≡ []) × (output ≡ []))

-- A process whose server stood for that at first answered the frames of the input, and wrote the answers.
pub record AnswersFrom (s : servers.Server) (result : Result (Unit {0}) LoopFault) (input : List ℕ) (left : Option (List ℕ)) (output : List ℕ) : Type 0 where
  pub first : SavingProcess
  pub last : SavingProcess
  pub new : server.IsNewProcess s (process_of first.process)
  pub copy : first.copy ≡ None
  pub answered : AnswersInput saving.Answers any_break result first last input left output

abbrev pub KeepsServer : servers.Server → Result (Unit {0}) LoopFault → List ℕ → Option (List ℕ) → List ℕ → Type 0
KeepsServer s result input left output = AnswersFrom s result input left output ⊎ NeverBegan result input output

-- The process of the master of a first chain of so many servers did so.
pub record AnswersAsMaster (size : ℕ) (result : Result (Unit {0}) LoopFault) (input : List ℕ) (left : Option (List ℕ)) (output : List ℕ) : Type 0 where
  pub first : MasterProcess
  pub last : MasterProcess
  pub new : master.IsNew first size
  pub answered : AnswersInput master.Answers any_break result first last input left output

abbrev pub KeepsMaster : ℕ → Result (Unit {0}) LoopFault → List ℕ → Option (List ℕ) → List ℕ → Type 0
KeepsMaster size result input left output = AnswersAsMaster size result input left output ⊎ NeverBegan result input output

-- The answer that the loop over its frames gave. That what came was no store is told by itself.
abbrev pub loop_of : Result (Unit {0}) LoadEnd → Result (Unit {0}) LoopFault
loop_of (Ok _) = Ok tt
loop_of (Err ends.NotLoaded) = Err Unanswered
loop_of (Err (ends.Loop fault)) = Err fault

-- A frame couldn't be answered, and before it a server stood on the store, or not.
abbrev pub BreaksOffAt : Bool → LoadingProcess → List ℕ → List ℕ → Type 0
BreaksOffAt is_serving first input output = (off : BreaksOff loading.Answers first (frames_of input) output) × (loading.is_serving off.last.stage ≡ is_serving)

-- A process that had read nothing of a store at first answered the frames of the input. It ended by `NotLoaded` where one couldn't be
-- answered and no server stood on the store, and by `Unanswered` where one did.
pub record AnswersLoading (result : Result (Unit {0}) LoadEnd) (input : List ℕ) (left : Option (List ℕ)) (output : List ℕ) : Type 0 where
  pub first : LoadingProcess
  pub last : LoadingProcess
  pub new : first.stage ≡ stages.Loading states.Empty
  pub not_loaded : result ≡ Err ends.NotLoaded → BreaksOffAt false first input output
  pub unanswered : result ≡ Err (ends.Loop Unanswered) → BreaksOffAt true first input output
  pub answered : AnswersInput loading.Answers loading.Breaks (loop_of result) first last input left output

abbrev pub LeavesLoading : Result (Unit {0}) LoadEnd → List ℕ → Bool → Bool → Type 0
LeavesLoading result input failed flushed = LeavesWriter (loop_of result) input failed flushed

abbrev pub LeavesLoader : Result (Unit {0}) LoadEnd → Bool → Type 0
LeavesLoader result failed = LeavesReader (loop_of result) failed
