-- What the core of the process does, as actions of the master. It holds nothing back.
use Rattle.std.specs.Prelude.{ℕ, List, None}
use Rattle.cq_chain.specs.declared.master.Master.{Master}
use Rattle.cq_chain.specs.declared.message.Message.{Message}
use Rattle.cq_chain_wire.specs.Layout.{message}
use Rattle.cq_events.specs.Actions.{Action, CoreState}
use Rattle.cq_events.specs.Acts.{ActsMaster, MasterActs}
use Rattle.cq_wire.specs.Layout.{whole}

-- a core by itself
abbrev pub alone : Master → CoreState Master
alone core = record { core = core; back = λ _. None }

-- the core does that, and doesn't refuse it
abbrev pub Acts : Action → Master → Master → Type 0
Acts action a b = ActsMaster action (alone a) (alone b)

-- it does such actions, one after another
abbrev pub ActsAll : List Action → Master → Master → Type 0
ActsAll actions a b = MasterActs (alone a) actions (alone b)

-- a plain message, which is one piece
abbrev pub piece_of : Message → List ℕ
piece_of x = whole message x
