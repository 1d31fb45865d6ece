-- What has to be kept of a server's state and its outboxes, and what it means that a call is a step.
use Rattle.std.specs.Prelude.{◌≡◌, List, [], ◌∷◌, ◌++◌, drop, Option, None, Some, Result, Ok, Err, ⊤, if◌then◌else◌}
use Rattle.cq_base.specs.declared.ask.Entry.{Entry}
use Rattle.cq_base.specs.declared.party.Party.{Party}
use Rattle.cq_base.specs.declared.party.Party.TheVariants as parties
use Rattle.cq_chain.specs.declared.fault.WorldFault.{WorldFault}
use Rattle.cq_chain.specs.declared.message.Answer.{Answer}
use Rattle.cq_chain.specs.declared.message.Message as rust
use Rattle.cq_chain.specs.declared.message.Message.TheVariants as stored
use Rattle.cq_chain.specs.declared.master.Master as rust_master
use Rattle.cq_chain.specs.declared.server.Server as rust_server
use Rattle.cq_chain.specs.within.Boxes.{messages_for}
use Rattle.cq_chain.specs.within.Replicas.{Recalls}
use Rattle.cq_chain.specs.Faults.{IsRefusal}
use Rattle.cq_chain.specs.Masters.{Master, Order}
use Rattle.cq_chain.specs.Messages.{Message, Fwd, Snap, Ack, BeHead, Report, Adopt, BeTail, Feed, Have, Adopted, Caught, Ready, Answers}
use Rattle.cq_chain.specs.Parties.{same, addressed}
use Rattle.cq_chain.specs.Servers.{Server}
use Rattle.cq_chain.specs.Steps.{Step}
use Rattle.cq_store.specs.Stands as stores

-- What is kept of a snapshot stands for each message that bears a history for which the store stands.
pub record IsSnapshot (store : stores.StoreKept) (m : Message) : Type 0 where
  pub entries : List Entry
  pub is : m ≡ Snap entries
  pub stands : stores.StandsFor store entries

-- a message as it is kept stands for a message
abbrev pub Means : rust.Message → Message → Type 0
Means (stored.Fwd place entry) m = m ≡ Fwd place entry
Means (stored.Snap state) m = IsSnapshot state m
Means (stored.Ack place) m = m ≡ Ack place
Means stored.BeHead m = m ≡ BeHead
Means (stored.Report pred) m = m ≡ Report pred
Means (stored.Adopt succ have) m = m ≡ Adopt succ have
Means (stored.BeTail least) m = m ≡ BeTail least
Means (stored.Feed succ) m = m ≡ Feed succ
Means (stored.Have pred count) m = m ≡ Have pred count
Means (stored.Adopted succ count) m = m ≡ Adopted succ count
Means (stored.Caught pred count) m = m ≡ Caught pred count
Means stored.Ready m = m ≡ Ready
Means (stored.Answer answer) m = m ≡ Answers answer

-- the answer that a message is, if it is one
abbrev pub answer_of : rust.Message → Option Answer
answer_of (stored.Answer answer) = Some answer
answer_of message = None

-- messages stand for messages, each for the one at its place
abbrev pub AllMean : List rust.Message → List Message → Type 0
AllMean [] [] = ⊤
AllMean [] (m ∷ ms) = ⊥
AllMean (x ∷ xs) [] = ⊥
AllMean (x ∷ xs) (m ∷ ms) = Means x m × AllMean xs ms

-- what waits for each party, after these were sent
abbrev pub posted : (Party → List Message) → List (Party × Message) → Party → List Message
posted outbox sent to = outbox to ++ addressed to sent

-- what waits for each party, after the first message to one of them was put on its link
abbrev pub drained : (Party → List Message) → Party → Party → List Message
drained outbox to p = if same to p then drop 1 (outbox p) else outbox p

-- What is kept of a server stands for a state and for what waits in the outbox to each party.
pub record Holds (kept : rust_server.Server) (s : Server) (outbox : Party → List Message) : Type 0 where
  pub entries : Recalls kept.replica s.entries s.floor
  pub acked : kept.acked ≡ s.acked
  pub pred : kept.pred ≡ s.pred
  pub succ : kept.succ ≡ s.succ
  pub head : kept.head ≡ s.head
  pub at_least : kept.at_least ≡ s.at_least
  pub full : kept.full ≡ s.full
  pub down : kept.down ≡ s.down
  pub waiting : (to : Party) → AllMean (messages_for kept.outboxes to) (outbox to)

-- the same, as a word for those who call servers
unfoldable pub StandsFor : rust_server.Server → Server → (Party → List Message) → Type 0
StandsFor kept s outbox = Holds kept s outbox

-- Whatever the server stood for, it now stands for that after this step.
abbrev pub Does : rust_server.Server → rust_server.Server → (Server → Step) → Type 0
Does old new step = (s : Server) (outbox : Party → List Message) → StandsFor old s outbox → StandsFor new (step s).server (posted outbox (step s).sent)

-- The server stands for all that it stood for.
abbrev pub Keeps : rust_server.Server → rust_server.Server → Type 0
Keeps old new = (s : Server) (outbox : Party → List Message) → StandsFor old s outbox → StandsFor new s outbox

-- A call is refused as that says, of whatever the server stood for.
abbrev pub IsRefusedBy : Option WorldFault → Result (Unit {0}) WorldFault → Type 0
IsRefusedBy refusal (Ok _) = refusal ≡ None
IsRefusedBy refusal (Err fault) = IsRefusal fault refusal

-- the first of these messages, if there is one
abbrev pub IsFirst : Option rust.Message → List Message → Type 0
IsFirst None ms = ms ≡ []
IsFirst (Some x) [] = ⊥
IsFirst (Some x) (m ∷ ms) = Means x m

-- ---- the master

-- What is kept of the master stands for what it knows and for what waits in its outbox to each party. It speaks to
-- servers alone.
pub record MasterHolds (kept : rust_master.Master) (m : Master) (outbox : Party → List Message) : Type 0 where
  pub chain : kept.chain.items ≡ m.chain
  pub told : kept.told ≡ m.told
  pub ready : kept.ready ≡ m.ready
  pub joiner : kept.joiner ≡ m.joiner
  pub used : kept.used.keys ≡ m.used
  pub waiting : (to : Party) → AllMean (messages_for kept.outboxes to) (outbox to)
  pub master : outbox parties.Master ≡ []
  pub clients : outbox parties.Clients ≡ []

-- the same, as a word for those who call the master
unfoldable pub MasterStandsFor : rust_master.Master → Master → (Party → List Message) → Type 0
MasterStandsFor kept m outbox = MasterHolds kept m outbox

-- Whatever the master stood for, it now stands for that after this order.
abbrev pub Orders : rust_master.Master → rust_master.Master → (Master → Order) → Type 0
Orders old new order = (m : Master) (outbox : Party → List Message) → MasterStandsFor old m outbox → MasterStandsFor new (order m).master (posted outbox (order m).said)

-- The master stands for all that it stood for.
abbrev pub KeepsMaster : rust_master.Master → rust_master.Master → Type 0
KeepsMaster old new = (m : Master) (outbox : Party → List Message) → MasterStandsFor old m outbox → MasterStandsFor new m outbox
