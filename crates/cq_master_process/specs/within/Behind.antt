-- What is told behind bytes that were there.
use Rattle.std.specs.Prelude.{◌≡◌, ℕ, List, ◌++◌, map, Option, None, Some, true, false, ◌⊎◌}
use Rattle.cq_base.specs.declared.party.Party.{Party}
use Rattle.cq_chain.specs.declared.message.Message as rust
use Rattle.cq_chain.specs.Masters.{Master}
use Rattle.cq_chain.specs.Messages.{Message}
use Rattle.cq_chain.specs.Next.{is_above}
use Rattle.cq_chain.specs.Stands.{MasterStandsFor}
use Rattle.cq_frames.specs.declared.command.Command.{Command}
use Rattle.cq_frames.specs.declared.response.Response.TheVariants.{Refused, Unread}
use Rattle.cq_master_process.specs.declared.process.MasterProcess.{MasterProcess}
use Rattle.cq_frames.specs.declared.response.TheConstants.{NO_MEMORY}
use Rattle.cq_master_process.specs.Answering.{Answers, IsDone, IsRefused, told_behind}
use Rattle.cq_master_process.specs.Links.{gone_of, put_of}
use Rattle.cq_master_process.specs.Putting.{AreInOrder, Puts, Sent, left_of, sent_to}
use Rattle.cq_master_process.specs.Turns.{HasNoMore, HasTurns}
use Rattle.cq_process_frames.specs.Frames.{frame}
use Rattle.cq_wire.specs.declared.fault.ReadFault.{ReadFault}
use Rattle.cq_wire.specs.declared.fault.ReadFault.TheVariants as faults
use Rattle.cq_wire.specs.Faults.{wire_code}

-- Messages are put for one server.
pub record PutsFor (p q : MasterProcess) (to : ℕ) (old new : List ℕ) : Type 0 where
  pub messages : List rust.Message
  pub told : List ℕ
  pub puts : Puts p q (map (sent_to to) messages) told
  pub bytes : new ≡ old ++ told

-- The turn of a server. Of what waited for one that is gone nothing is left, as long as its link had numbers.
pub record HasTurn (p q : MasterProcess) (to : ℕ) (old new : List ℕ) : Type 0 where
  pub messages : List rust.Message
  pub told : List ℕ
  pub puts : Puts p q (map (sent_to to) messages) told
  pub thrown : gone_of p.links to ≡ true → (m : Master) (outbox : Party → List Message) → MasterStandsFor p.core m outbox → HasNoMore (left_of outbox (map (sent_to to) messages)) (put_of q.links) to
  pub bytes : new ≡ old ++ told

-- the number of a server; 0 of none
abbrev pub last_of : Option ℕ → ℕ
last_of None = 0
last_of (Some id) = id

-- Servers had their turns in the order of their numbers, up to that one.
pub record PutsUpTo (p q : MasterProcess) (after : Option ℕ) (old new : List ℕ) : Type 0 where
  pub messages : List Sent
  pub told : List ℕ
  pub puts : Puts p q messages told
  pub order : AreInOrder 0 messages (last_of after)
  pub thrown : (m : Master) (outbox : Party → List Message) → MasterStandsFor p.core m outbox → (id : ℕ) → is_above after id ≡ false → gone_of p.links id ≡ true → HasNoMore (left_of outbox messages) (put_of q.links) id
  pub bytes : new ≡ old ++ told

-- All servers had them.
pub record PutsInOrder (p q : MasterProcess) (old new : List ℕ) : Type 0 where
  pub messages : List Sent
  pub told : List ℕ
  pub puts : Puts p q messages told
  pub most : ℕ
  pub order : AreInOrder 0 messages most
  pub thrown : (m : Master) (outbox : Party → List Message) → MasterStandsFor p.core m outbox → (id : ℕ) → gone_of p.links id ≡ true → HasNoMore (left_of outbox messages) (put_of q.links) id
  pub bytes : new ≡ old ++ told

-- The turns of all servers.
pub record TakesTurns (p q : MasterProcess) (waits : Option ℕ) (old new : List ℕ) : Type 0 where
  pub told : List ℕ
  pub turns : HasTurns p q told waits
  pub bytes : new ≡ old ++ told

-- The same, and what is told behind them.
pub record TellsTurns (p q : MasterProcess) (old new : List ℕ) : Type 0 where
  pub told : List ℕ
  pub waits : Option ℕ
  pub turns : HasTurns p q told waits
  pub bytes : new ≡ old ++ (told ++ told_behind waits)

-- The answer to a command.
pub record AnswersCommand (p q : MasterProcess) (command : Command) (old new : List ℕ) : Type 0 where
  pub told : List ℕ
  pub answers : IsRefused p q command told ⊎ IsDone p q command told
  pub bytes : new ≡ old ++ told

-- what is told where the bytes of a frame weren't read
abbrev pub told_of_fault : ReadFault → List ℕ
told_of_fault faults.NoMemory = frame (Refused NO_MEMORY)
told_of_fault (faults.Bad fault) = frame (Unread (wire_code fault))

-- The answer to a frame.
abbrev pub AnswersBehind : MasterProcess → Option (List ℕ) → MasterProcess → List ℕ → List ℕ → Type 0
AnswersBehind p frame q old new = (text : List ℕ) × Answers p frame text q × (new ≡ old ++ text)
