-- Actions that a core does, and that it doesn't refuse.
use Rattle.std.specs.Prelude.{◌≡◌, List, None}
use Rattle.cq_base.specs.declared.party.Party.{Party}
use Rattle.cq_chain.specs.declared.master.Master as rust_master
use Rattle.cq_chain.specs.declared.server.Server as rust_server
use Rattle.cq_chain.specs.Masters.{Master, refusal_of_detection, refusal_of_join}
use Rattle.cq_chain.specs.Messages.{Message}
use Rattle.cq_chain.specs.Refusals.{refusal_of_arrival, refusal_of_query, refusal_of_taking}
use Rattle.cq_chain.specs.Servers.{Server}
use Rattle.cq_chain.specs.Stands.{Means}
use Rattle.cq_events.specs.Actions.{Action, Arrived, Asked, Put, Took, Crashed, Detected, Joined, CoreState, StandsAs, IsMasterAs, Keeps, Does, DoesMaster, Run}

-- Whatever a server's core stands for, it doesn't refuse that. No server refuses a put or a crash of its own.
abbrev pub Admits : Action → CoreState rust_server.Server → Type 0
Admits (Arrived clock request) a = (s : Server) (outbox : Party → List Message) → StandsAs a s outbox → refusal_of_arrival s ≡ None
Admits (Asked query) a = (s : Server) (outbox : Party → List Message) → StandsAs a s outbox → refusal_of_query s ≡ None
Admits (Put to x) a = Unit {0}
Admits (Took from x) a = (m : Message) → Means x m → (s : Server) (outbox : Party → List Message) → StandsAs a s outbox → refusal_of_taking from m s ≡ None
Admits (Crashed count) a = Unit {0}
Admits (Detected id) a = Unit {0}
Admits (Joined id) a = Unit {0}

-- Nor does the master's core, which refuses only detections and joins.
abbrev pub AdmitsOrder : Action → CoreState rust_master.Master → Type 0
AdmitsOrder (Arrived clock request) a = Unit {0}
AdmitsOrder (Asked query) a = Unit {0}
AdmitsOrder (Put to x) a = Unit {0}
AdmitsOrder (Took from x) a = Unit {0}
AdmitsOrder (Crashed count) a = Unit {0}
AdmitsOrder (Detected id) a = (m : Master) (outbox : Party → List Message) → IsMasterAs a m outbox → refusal_of_detection id m ≡ None
AdmitsOrder (Joined id) a = (m : Master) (outbox : Party → List Message) → IsMasterAs a m outbox → refusal_of_join id m ≡ None

-- a server's core does that, and didn't refuse it
abbrev pub Acts : Action → CoreState rust_server.Server → CoreState rust_server.Server → Type 0
Acts d a b = Does d a b × Admits d a

-- so does the master's
abbrev pub ActsMaster : Action → CoreState rust_master.Master → CoreState rust_master.Master → Type 0
ActsMaster d a b = DoesMaster d a b × AdmitsOrder d a

-- such actions of a server, one after another
abbrev pub ServerActs : CoreState rust_server.Server → List Action → CoreState rust_server.Server → Type 0
ServerActs a actions b = Run Acts (Keeps StandsAs) a actions b

-- and of the master
abbrev pub MasterActs : CoreState rust_master.Master → List Action → CoreState rust_master.Master → Type 0
MasterActs a actions b = Run ActsMaster (Keeps IsMasterAs) a actions b
