-- What is told of a frame: what the process that is kept tells, or a refusal ahead of it.
use Rattle.std.specs.Prelude.{◌≡◌, ℕ, List, Option, None, Some, true, false, ◌⊎◌, Ok}
use Rattle.cq_base.specs.declared.ask.Request.{Request}
use Rattle.cq_frames.specs.declared.command.Command.{Command}
use Rattle.cq_frames.specs.declared.command.Command.TheVariants as commands
use Rattle.cq_frames.specs.declared.response.Response.TheVariants as responses
use Rattle.cq_frames.specs.declared.response.TheConstants.{NO_MEMORY, NOT_HERE, STREAM_ENDED}
use Rattle.cq_frames.specs.Reading.{command_at}
use Rattle.cq_frames.specs.Streams.{stream_of}
use Rattle.cq_kept_server.specs.declared.answering.TheConstants.{NO_ROOM}
use Rattle.cq_kept_server.specs.Commands.{is_here}
use Rattle.cq_process_frames.specs.Frames.{frame}
use Rattle.cq_server_copies.specs.declared.saving.SavingProcess.{SavingProcess}
use Rattle.cq_server_copies.specs.Saving as saving
use Rattle.cq_server_process.specs.Answers.{ended_with, has_ended}
use Rattle.cq_wire.specs.Reading.{whole_at}

-- the bytes are those of an arrival in that stream
pub record IsArrival (bytes : List ℕ) (stream clock : ℕ) (request : Request) : Type 0 where
  pub read : whole_at command_at bytes ≡ Ok (commands.Arrive stream clock request)

-- An arrival of a stream that has ended.
pub record IsLate (bytes : List ℕ) (before after code : ℕ) : Type 0 where
  pub stream : ℕ
  pub clock : ℕ
  pub request : Request
  pub arrival : IsArrival bytes stream clock request
  pub late : has_ended before (Some stream) ≡ true
  pub ended : after ≡ before
  pub is : code ≡ STREAM_ENDED

-- An arrival for which the journal has no room, which ends its stream.
pub record LacksRoom (bytes : List ℕ) (before after code : ℕ) : Type 0 where
  pub stream : ℕ
  pub clock : ℕ
  pub request : Request
  pub arrival : IsArrival bytes stream clock request
  pub in_time : has_ended before (Some stream) ≡ false
  pub ended : after ≡ ended_with before (Some stream)
  pub is : code ≡ NO_ROOM

-- There was no memory to read the bytes. Where they begin as those of an arrival, its stream ends.
pub record LacksMemory (bytes : List ℕ) (before after code : ℕ) : Type 0 where
  pub ended : after ≡ ended_with before (stream_of bytes)
  pub is : code ≡ NO_MEMORY

-- A command that means nothing to the only server of a chain.
pub record IsNotHere (bytes : List ℕ) (before after code : ℕ) : Type 0 where
  pub command : Command
  pub read : whole_at command_at bytes ≡ Ok command
  pub elsewhere : is_here command ≡ false
  pub ended : after ≡ before
  pub is : code ≡ NOT_HERE

-- why the bytes of a frame are refused by that number ahead of the process, and what becomes of the streams
abbrev pub IsRefused : List ℕ → ℕ → ℕ → ℕ → Type 0
IsRefused bytes before after code = IsLate bytes before after code ⊎ (LacksRoom bytes before after code ⊎ (LacksMemory bytes before after code ⊎ IsNotHere bytes before after code))

-- That is told, and the process hears nothing of it.
pub record RefusesAhead (bytes : List ℕ) (p q : SavingProcess) (before after : ℕ) (text : List ℕ) : Type 0 where
  pub code : ℕ
  pub refused : IsRefused bytes before after code
  pub stays : q ≡ p
  pub told : text ≡ frame (responses.Refused code)

-- The process answers.
pub record PassesOn (bytes : Option (List ℕ)) (p q : SavingProcess) (before after : ℕ) (text : List ℕ) : Type 0 where
  pub answers : saving.Answers p bytes text q
  pub ended : after ≡ before

abbrev pub Tells : Option (List ℕ) → SavingProcess → SavingProcess → ℕ → ℕ → List ℕ → Type 0
Tells None p q before after text = PassesOn None p q before after text
Tells (Some bytes) p q before after text = PassesOn (Some bytes) p q before after text ⊎ RefusesAhead bytes p q before after text
