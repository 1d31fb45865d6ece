-- The statements of the laws.
use Rattle.std.specs.Prelude.{ℕ, List, ◌++◌, Option, Result, ◌⊎◌}
use Rattle.cq_base.specs.declared.party.Party.{Party}
use Rattle.cq_base.specs.declared.party.Party.TheVariants as parties
use Rattle.cq_base.specs.Relations.{Among}
use Rattle.cq_chain.specs.declared.message.Answer as chain
use Rattle.cq_chain.specs.declared.message.Message.TheVariants as stored
use Rattle.cq_events.specs.Actions.{put_to}
use Rattle.cq_events.specs.Orders.{AreEnabled}
use Rattle.cq_events.specs.declared.event.Event.{Event}
use Rattle.cq_chain.specs.Servers.{Server}
use Rattle.cq_frame_loop.specs.declared.fault.LoopFault.{LoopFault}
use Rattle.cq_frame_loop.specs.Chains.{IsChain, Step}
use Rattle.cq_master_process.specs.declared.process.MasterProcess.{MasterProcess}
use Rattle.cq_master_process.specs.Answering.{Answers, IsNew}
use Rattle.cq_processes.specs.declared.keep.LoadEnd.{LoadEnd}
use Rattle.cq_processes.specs.Keeping.{AnswersLoading, KeepsMaster, KeepsServer}
use Rattle.cq_world.specs.Laws.{IsOfTheObject}
use Rattle.cq_chain_laws.specs.Chains.{AreCarried, IsByTheLog, IsInTime, IsSound, Processes, Start, actions_of, past_of, size_of, world_of}
use Rattle.cq_chain_laws.specs.Kept.{IsKeptLoaded, IsKeptMaster, IsKeptServer, NeverBegan}
use Rattle.cq_chain_laws.specs.Masters.{IsRun}

-- What a new process of a master does of frames one after another are actions of its core, and what it puts and takes goes by pieces.
abbrev pub MasterRunsAreActions : Type 0
MasterRunsAreActions = (size : ℕ) (first last : MasterProcess) (steps : List (Step MasterProcess)) → IsNew first size → IsChain Answers first steps last → IsRun size first steps last

-- In such an order each event is enabled, and each answer that a process put to the clients is the queue object's, over the committed list of
-- all that happened, up to the start and in the order.
abbrev pub IsAChain : (start : Start) → Processes start → List Event → Type 0
IsAChain start c order = AreEnabled (world_of start) order
    × ((from : Party) (a : chain.Answer) → Among (stored.Answer a) (put_to parties.Clients (actions_of c from)) → IsOfTheObject (size_of start) (past_of start ++ order) a)

-- The processes of a chain are the chain, however it begins, where what they did stands in one order in time.
abbrev pub LinkedProcessesAreAChain : Type 0
LinkedProcessesAreAChain = (start : Start) (c : Processes start) (order : List Event) → IsSound start → AreCarried c → IsInTime c order → IsAChain start c order

-- So they are where servers crash as the master's log says.
abbrev pub LoggedProcessesAreAChain : Type 0
LoggedProcessesAreAChain = (start : Start) (c : Processes start) (order : List Event) → IsSound start → AreCarried c → IsByTheLog c order → IsAChain start c order

-- What is proved of `keep_first` and `keep_joining`, of `keep_loaded`, and of `keep_master`, whatever their input and output, is that such a
-- process answered it so, or that nothing was read.
pub record KeptProcessesAreRuns : Type 0 where
  pub servers : (s : Server) (result : Result (Unit {0}) LoopFault) (input : List ℕ) (left : Option (List ℕ)) (output : List ℕ) → KeepsServer s result input left output → NeverBegan input output ⊎ IsKeptServer s input output
  pub loaded : (result : Result (Unit {0}) LoadEnd) (input : List ℕ) (left : Option (List ℕ)) (output : List ℕ) → AnswersLoading result input left output → NeverBegan input output ⊎ IsKeptLoaded input output
  pub masters : (size : ℕ) (result : Result (Unit {0}) LoopFault) (input : List ℕ) (left : Option (List ℕ)) (output : List ℕ) → KeepsMaster size result input left output → NeverBegan input output ⊎ IsKeptMaster size input output
