-- What has to be kept of the world, and what it means that a call is an event.
use Rattle.std.specs.Prelude.{◌≡◌, ◌≤◌, ◌<◌, ◌⊎◌, ℕ, List, [], Bool, true, false, Option, None, Some, Result, IfOk, IfErr}
use Rattle.std.specs.Vec.{vec_len, vec_capacity}
use Rattle.cq_base.specs.declared.party.Party.{Party}
use Rattle.cq_base.specs.declared.party.Party.TheVariants as parties
use Rattle.cq_chain.specs.declared.fault.WorldFault.{WorldFault}
use Rattle.cq_chain.specs.declared.message.Answer.{Answer}
use Rattle.cq_chain.specs.declared.server.Server as rust_server
use Rattle.cq_chain.specs.Faults.{IsRefusal}
use Rattle.cq_chain.specs.Messages.{Message}
use Rattle.cq_chain.specs.Servers.{Server, joining}
use Rattle.cq_chain.specs.Stands as chain
use Rattle.cq_chain.specs.Stands.{AllMean}
use Rattle.cq_events.specs.Events.{refusal_of, next, given_by}
use Rattle.cq_world.specs.within.Kept.{server_at, messages_at}
use Rattle.cq_events.specs.Worlds.{World, is_in}
use Rattle.cq_events.specs.declared.event.Event.{Event}
use Rattle.cq_world.specs.declared.ran.Ran.{Ran}
use Rattle.cq_world.specs.declared.sim.Sim.{Sim}

-- What is kept under a number, if the server is known, stands for its state and for what waits in its
-- outboxes. A server that isn't there is as one that joins, and nothing waits in its outboxes.
abbrev pub IsKeptAs : Option rust_server.Server → Bool → Server → (Party → List Message) → Type 0
IsKeptAs None known s outbox = (known ≡ false) × (s ≡ joining) × ((to : Party) → outbox to ≡ [])
IsKeptAs (Some kept) known s outbox = (known ≡ true) × chain.StandsFor kept s outbox

-- What is kept of a world stands for it. The clients have nothing in their outboxes.
pub record Holds (sim : Sim) (w : World) : Type 0 where
  pub servers : (id : ℕ) → IsKeptAs (server_at sim.servers id) (is_in w.master.used id) (w.server id) (w.outbox (parties.Server id))
  pub links : (from to : Party) → AllMean (messages_at sim.links from to) (w.link from to)
  pub master : chain.MasterStandsFor sim.master w.master (w.outbox parties.Master)
  pub clients : (to : Party) → w.outbox parties.Clients to ≡ []

-- the same, as a word for those who call
unfoldable pub StandsFor : Sim → World → Type 0
StandsFor sim w = Holds sim w

-- That holds of whatever world the sim stands for.
abbrev pub Shows : Sim → (World → Type 0) → Type 0
Shows sim P = (w : World) → StandsFor sim w → P w

-- Whatever world it stood for, it now stands for the one after that.
abbrev pub Happens : Sim → Sim → (World → World) → Type 0
Happens old new step = (w : World) → StandsFor old w → StandsFor new (step w)

-- Where the call succeeds, nothing refused the event, the answer is what it gives, and the sim stands for the next world.
abbrev pub Gives : Sim → Sim → Event → Result (Option Answer) WorldFault → Type 0
Gives old new event result = (w : World) → StandsFor old w
    → IfOk result (λ given. (refusal_of w event ≡ None) × (given ≡ given_by w event) × StandsFor new (next w event))

-- Where the call fails, the fault is the first refusal of the event, and the sim stands for the world as it was.
abbrev pub IsRefused : {A : Type 0} → Sim → Sim → Event → Result A WorldFault → Type 0
IsRefused old new event result = (w : World) → StandsFor old w
    → IfErr result (λ fault. IsRefusal fault (refusal_of w event) × StandsFor new w)

-- what is found under a number stands for the server of that number, and nothing is found if there is none
abbrev pub IsFound : World → ℕ → Option rust_server.Server → Type 0
IsFound w id None = is_in w.master.used id ≡ false
IsFound w id (Some kept) = (is_in w.master.used id ≡ true) × chain.StandsFor kept (w.server id) (w.outbox (parties.Server id))

-- there is room for an answer, if there is one
abbrev pub HasRoomFor : Option Answer → Ran → Type 0
HasRoomFor given ran = (given ≡ None) ⊎ (vec_len ran.given < vec_capacity ran.given)

-- A run wants memory for an event: for what it does, since nothing refuses it, or for its refusal, since no more
-- refusals find room.
abbrev pub WantsMemory : Option WorldFault → Ran → Type 0
WantsMemory refusal ran = (refusal ≡ None) ⊎ (vec_capacity ran.refused ≤ vec_len ran.refused)
