-- The statements of the laws.
use Rattle.std.specs.Prelude.{ℕ, List, Bool, Option}
use Rattle.cq_base.specs.Relations.{IsPrefix}
use Rattle.cq_chain.specs.declared.message.Message.{Message}
use Rattle.cq_chain.specs.Servers as states
use Rattle.cq_frame_loop.specs.Chains.{IsChain, Step}
use Rattle.cq_server_process.specs.declared.process.ServerProcess.{ServerProcess}
use Rattle.cq_server_process.specs.Answers.{Answers, IsNewProcess, Process}
use Rattle.cq_server_process.specs.Processes.{answers, process_of}
use Rattle.cq_process_laws.specs.Passing.{AreAsTold, ArePutAsTold, Numbered, WereRead}
use Rattle.cq_process_laws.specs.Runs.{Done, IsDone, IsRun, state_of}

-- What a process does of a frame are actions of its core, and all pieces are told.
abbrev pub AnswersAreActions : Type 0
AnswersAreActions = (p q : Process) (frame : Option (List ℕ)) (text : List ℕ) → Answers p frame text q → (one : Done) × IsDone p.state q.state frame text one

-- So is what a new process does of frames one after another.
abbrev pub RunsAreActions : Type 0
RunsAreActions = (s : states.Server) (first last : ServerProcess) (steps : List (Step ServerProcess)) → IsNewProcess s (process_of first) → IsChain answers first steps last → IsRun s (state_of first) steps (state_of last)

-- Where each piece that comes to a process in turn was told by another one, with its number, it takes what the other one put, in order.
abbrev pub LinksHandOver : Type 0
LinksHandOver = (is_gone : Bool) (puts takes : List Message) (told came : List Numbered) → ArePutAsTold is_gone puts told → WereRead 1 takes came → AreAsTold told came → IsPrefix takes puts
