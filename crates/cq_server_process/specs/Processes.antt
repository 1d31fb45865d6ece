-- What a process tells, as its handler of frames.
use Rattle.std.specs.Prelude.{ℕ, List, Option}
use Rattle.cq_server_process.specs.declared.process.ServerProcess.{ServerProcess}
use Rattle.cq_server_process.specs.Answers.{Answers, Process, process}

-- what a process has
abbrev pub process_of : ServerProcess → Process
process_of p = process p.links p.core p.streams.ended

-- from one state of the process to another it tells that of a frame
abbrev pub answers : ServerProcess → Option (List ℕ) → List ℕ → ServerProcess → Type 0
answers p frame text q = Answers (process_of p) frame text (process_of q)
