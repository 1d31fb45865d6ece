-- What a frame makes the process do, and what it tells of it.
use Rattle.std.specs.Prelude.{◌≡◌, ℕ, List, [], ◌++◌, Option, None, Some, false, Result, Ok, Err, ◌⊎◌}
use Rattle.cq_base.specs.declared.party.Party.TheVariants.{Server}
use Rattle.cq_chain.specs.Masters.{first_master}
use Rattle.cq_chain.specs.Stands.{MasterStandsFor}
use Rattle.cq_frames.specs.declared.command.Command.{Command}
use Rattle.cq_frames.specs.declared.response.Response.TheVariants.{Refused, Unread, Waiting, Heard}
use Rattle.cq_frames.specs.Reading.{command_at}
use Rattle.cq_master_process.specs.declared.process.MasterProcess.{MasterProcess}
use Rattle.cq_frames.specs.declared.response.TheConstants.{NO_MEMORY}
use Rattle.cq_master_process.specs.Links.{gone_of, put_of, taken_of}
use Rattle.cq_master_process.specs.Refusing.{Refuses}
use Rattle.cq_master_process.specs.Steps.{Does, Keeps}
use Rattle.cq_master_process.specs.Turns.{HasTurns}
use Rattle.cq_process_frames.specs.Frames.{frame}
use Rattle.cq_wire.specs.declared.fault.WireFault.{WireFault}
use Rattle.cq_wire.specs.declared.fault.WireFault.TheVariants.{BadNumber}
use Rattle.cq_wire.specs.Faults.{wire_code}
use Rattle.cq_wire.specs.Reading.{whole_at}

-- A process that has done nothing keeps the master of a first chain of so many servers.
pub record IsNew (p : MasterProcess) (size : ℕ) : Type 0 where
  pub core : MasterStandsFor p.core (first_master size) (λ _. [])
  pub taken : (id : ℕ) → taken_of p.links id ≡ 0
  pub put : (id : ℕ) → put_of p.links id ≡ 0
  pub gone : (id : ℕ) → gone_of p.links id ≡ false

-- what is told behind the turns: for which server something still waits, and that the command was heard
abbrev pub told_behind : Option ℕ → List ℕ
told_behind None = frame Heard
told_behind (Some id) = frame (Waiting (Server id)) ++ frame Heard

-- The command is refused, and nothing changes.
pub record IsRefused (p q : MasterProcess) (command : Command) (told : List ℕ) : Type 0 where
  pub code : ℕ
  pub why : Refuses p command code
  pub keeps : Keeps p q
  pub is : told ≡ frame (Refused code)

-- The command is done, and then the turns come.
pub record IsDone (p q : MasterProcess) (command : Command) (told : List ℕ) : Type 0 where
  pub mid : MasterProcess
  pub done : Does p command mid
  pub puts : List ℕ
  pub waits : Option ℕ
  pub turns : HasTurns mid q puts waits
  pub is : told ≡ puts ++ told_behind waits

-- The bytes are of no command, and nothing changes.
pub record IsUnread (p q : MasterProcess) (fault : WireFault) (told : List ℕ) : Type 0 where
  pub keeps : Keeps p q
  pub is : told ≡ frame (Unread (wire_code fault))

-- There was no memory to read the bytes, and nothing changes.
pub record IsStarved (p q : MasterProcess) (told : List ℕ) : Type 0 where
  pub keeps : Keeps p q
  pub is : told ≡ frame (Refused NO_MEMORY)

-- by what the bytes of a frame are
abbrev pub AnswersRead : MasterProcess → Result Command WireFault → List ℕ → MasterProcess → Type 0
AnswersRead p (Ok command) told q = IsRefused p q command told ⊎ IsDone p q command told
AnswersRead p (Err fault) told q = IsUnread p q fault told

-- From one state to the next the process tells that of a frame; of none, where a frame was too long.
abbrev pub Answers : MasterProcess → Option (List ℕ) → List ℕ → MasterProcess → Type 0
Answers p None told q = IsUnread p q BadNumber told
Answers p (Some bytes) told q = IsStarved p q told ⊎ AnswersRead p (whole_at command_at bytes) told q
