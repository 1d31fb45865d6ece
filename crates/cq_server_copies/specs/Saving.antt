-- A copy of a server's store, which is told a chunk at a time.
use Rattle.std.specs.Prelude.{◌≡◌, ℕ, ◌<◌, List, [], ◌∷◌, ◌++◌, length, Option, None, Some, ◌⊎◌}
use Rattle.cq_base.specs.declared.ask.Entry.{Entry}
use Rattle.cq_base.specs.declared.party.Party.{Party}
use Rattle.cq_chain.specs.declared.server.Server as rust_server
use Rattle.cq_chain.specs.Messages as messages
use Rattle.cq_chain.specs.Servers as states
use Rattle.cq_chain.specs.Stands as servers
use Rattle.cq_frames.specs.declared.command.Command.TheVariants.{Save}
use Rattle.cq_frames.specs.declared.response.Response.{Response}
use Rattle.cq_frames.specs.declared.response.Response.TheVariants as responses
use Rattle.cq_frames.specs.declared.response.Standing.{Standing}
use Rattle.cq_frames.specs.declared.response.TheConstants.{NO_MEMORY}
use Rattle.cq_frames.specs.Layout.{command}
use Rattle.cq_process_frames.specs.Frames.{frame}
use Rattle.cq_server_copies.specs.declared.copy.StoreCopy.{StoreCopy}
use Rattle.cq_server_copies.specs.declared.saving.SavingProcess.{SavingProcess}
use Rattle.cq_server_process.specs.Answers.{StandsSo}
use Rattle.cq_server_process.specs.Processes as process
use Rattle.cq_server_process.specs.Turns.{frames}
use Rattle.cq_store.specs.Stands as stores
use Rattle.cq_store_wire.specs.declared.part.Part.{Part}
use Rattle.cq_store_wire.specs.declared.writer.Place.TheVariants as places
use Rattle.cq_store_wire.specs.Chunks.{IsChunk}
use Rattle.cq_store_wire.specs.Laws.{IsStore}
use Rattle.cq_store_wire.specs.Order.{parts_from}
use Rattle.cq_wire.specs.Layout.{whole}

-- Nothing of the copy is told, and its store is one.
pub record IsUntold (copy : StoreCopy) : Type 0 where
  pub start : copy.writer.place ≡ places.Start
  pub bodies : copy.writer.bodies ≡ []
  pub sound : IsStore copy.store

-- It stands for these entries.
pub record IsCopyOf (entries : List Entry) (copy : StoreCopy) : Type 0 where
  pub stands : stores.StandsFor copy.store entries
  pub count : copy.count ≡ length entries

-- what of the copy isn't told yet
abbrev pub parts_left : StoreCopy → List Part
parts_left copy = parts_from copy.store copy.writer.bodies copy.writer.place

-- It is the same copy, of which the next parts were told, one at least; or all were told, and the chunk is empty.
pub record IsNextChunk (before after : StoreCopy) (chunk : List ℕ) : Type 0 where
  pub count : after.count ≡ before.count
  pub store : after.store ≡ before.store
  pub parts : ((before.writer.place ≡ places.End) × ((chunk ≡ []) × (after.writer ≡ before.writer)))
      ⊎ ((before.writer.place ≡ places.End → ⊥) × (IsChunk (parts_left before) (parts_left after) chunk × (length (parts_left after) < length (parts_left before))))

-- ---- of a process

-- the copy of which something is told: the one that was there, or a new one of what the server stands for
abbrev pub Begins : rust_server.Server → Option StoreCopy → StoreCopy → Type 0
Begins core None copy = IsUntold copy × ((s : states.Server) (outbox : Party → List messages.Message) → servers.StandsFor core s outbox → IsCopyOf s.entries copy)
Begins core (Some before) copy = copy ≡ before

-- the copy behind a chunk: it is let go behind the empty one
abbrev pub left_behind : List ℕ → StoreCopy → Option StoreCopy
left_behind [] copy = None
left_behind (byte ∷ bytes) copy = Some copy

-- The next chunk is told, with the count at which its copy was made, and then where the server stands. The process stays as it is.
pub record Saves (p q : SavingProcess) (told : List Response) : Type 0 where
  pub before : StoreCopy
  pub begins : Begins p.process.core p.copy before
  pub after : StoreCopy
  pub chunk : List ℕ
  pub next : IsNextChunk before after chunk
  pub copy : q.copy ≡ left_behind chunk after
  pub process : q.process ≡ p.process
  pub standing : Standing
  pub stands : StandsSo q.process.core standing
  pub is : told ≡ responses.Saved before.count chunk ∷ responses.Done standing ∷ []

-- There is no memory for it: the copy is let go, and that is told.
pub record LetsCopyGo (p q : SavingProcess) (told : List Response) : Type 0 where
  pub copy : q.copy ≡ None
  pub process : q.process ≡ p.process
  pub is : told ≡ responses.Refused NO_MEMORY ∷ []

-- the frame of a command to tell the next chunk
abbrev pub IsSave : Option (List ℕ) → Type 0
IsSave frame = frame ≡ Some (whole command Save)

abbrev pub AnswersSave : SavingProcess → SavingProcess → List ℕ → Type 0
AnswersSave p q text = (told : List Response) × ((text ≡ frames told) × (Saves p q told ⊎ LetsCopyGo p q told))

-- What a process that tells copies answers a frame by: a chunk, or what the process that it keeps answers.
pub record Answers (p : SavingProcess) (frame : Option (List ℕ)) (text : List ℕ) (q : SavingProcess) : Type 0 where
  pub saves : IsSave frame → AnswersSave p q text
  pub others : (IsSave frame → ⊥) → process.answers p.process frame text q.process × (q.copy ≡ p.copy)

-- ---- and the bytes

abbrev pub SavesChunk : StoreCopy → Option StoreCopy → List ℕ → List ℕ → Type 0
SavesChunk before left old new = (after : StoreCopy) × ((chunk : List ℕ) × (IsNextChunk before after chunk × ((left ≡ left_behind chunk after) × (new ≡ old ++ frame (responses.Saved before.count chunk)))))

abbrev pub TellsSave : SavingProcess → SavingProcess → List ℕ → List ℕ → List ℕ → Type 0
TellsSave p q old new end = (told : List Response) × ((new ++ end ≡ old ++ frames told) × (Saves p q told ⊎ LetsCopyGo p q told))

abbrev pub TellsAnswer : Option (List ℕ) → SavingProcess → SavingProcess → List ℕ → List ℕ → List ℕ → Type 0
TellsAnswer frame p q old new end = (text : List ℕ) × ((new ++ end ≡ old ++ text) × Answers p frame text q)
