-- What outboxes have while a server puts messages into them.
use Rattle.std.specs.Prelude.{◌≡◌, ◌<◌, ◌≤◌, ◌+◌, ℕ, List, [], ◌∷◌, Option, None, Some, ⊤}
use Rattle.cq_base.specs.declared.ask.Entry.{Entry}
use Rattle.cq_base.specs.declared.party.Party.{Party}
use Rattle.cq_base.specs.declared.party.Party.TheVariants.{Master, Clients, Server}
use Rattle.cq_chain.specs.declared.message.Message as rust
use Rattle.cq_chain.specs.Fifos.{Fifo}
use Rattle.cq_chain.specs.within.Boxes.{messages_for, room_for}
use Rattle.cq_chain.specs.Messages.{Message}
use Rattle.cq_chain.specs.Stands.{Means, AllMean, posted}

-- What is kept of outboxes stands for what waits for each party.
abbrev pub Waits : List (Party × Fifo) → (Party → List Message) → Type 0
Waits boxes outbox = (to : Party) → AllMean (messages_for boxes to) (outbox to)

-- Whatever waited, these wait behind it.
abbrev pub Posts : List (Party × Fifo) → List (Party × Fifo) → List (Party × Message) → Type 0
Posts old new sent = (outbox : Party → List Message) → Waits old outbox → Waits new (posted outbox sent)

-- The same messages wait, and no room is lost.
abbrev pub KeepsAll : List (Party × Fifo) → List (Party × Fifo) → Type 0
KeepsAll old new = ((to : Party) → messages_for new to ≡ messages_for old to) × ((to : Party) → room_for old to ≤ room_for new to)

-- The room for one message is taken, at most.
abbrev pub TakesOne : List (Party × Fifo) → List (Party × Fifo) → Type 0
TakesOne old new = (to : Party) → room_for old to ≤ room_for new to + 1

-- there is room for so many messages to that server, if there is one
abbrev pub HasRoomAt : List (Party × Fifo) → ℕ → Option ℕ → Type 0
HasRoomAt boxes n None = ⊤
HasRoomAt boxes n (Some id) = n ≤ room_for boxes (Server id)

-- There is room for so many messages to each to whom a server sends in a step.
pub record HasRoom (boxes : List (Party × Fifo)) (n : ℕ) (pred succ : Option ℕ) : Type 0 where
  pub master : n ≤ room_for boxes Master
  pub clients : n ≤ room_for boxes Clients
  pub pred_room : HasRoomAt boxes n pred
  pub succ_room : HasRoomAt boxes n succ

-- These messages, all for that party, are what is sent.
abbrev pub AllFor : Party → List rust.Message → List (Party × Message) → Type 0
AllFor to [] [] = ⊤
AllFor to [] (x ∷ xs) = ⊥
AllFor to (y ∷ ys) [] = ⊥
AllFor to (y ∷ ys) (x ∷ xs) = (x.0 ≡ to) × (Means y x.1 × AllFor to ys xs)

-- What is said to one server, or nothing, is what is sent.
abbrev pub IsSaid : Option (ℕ × rust.Message) → List (Party × Message) → Type 0
IsSaid None sent = sent ≡ []
IsSaid (Some y) sent = AllFor (Server y.0) (y.1 ∷ []) sent

-- There is room for what is said to one server, if anything is.
abbrev pub HasRoomToSay : List (Party × Fifo) → Option (ℕ × rust.Message) → Type 0
HasRoomToSay boxes None = ⊤
HasRoomToSay boxes (Some y) = 0 < room_for boxes (Server y.0)

-- The copy of an entry that goes to a server, if there is one to which it goes.
abbrev pub IsCopyFor : Option ℕ → Entry → Option Entry → Type 0
IsCopyFor None entry copy = copy ≡ None
IsCopyFor (Some id) entry copy = copy ≡ Some entry
