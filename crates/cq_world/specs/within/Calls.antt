-- What it means that a call is an event which gives nothing, and what the parts of a put and of a take mean.
use Rattle.std.specs.Prelude.{◌≡◌, Option, None, Result, IfOk, IfErr, OnOk}
use Rattle.cq_chain.specs.declared.fault.WorldFault.{WorldFault}
use Rattle.cq_chain.specs.declared.message.Answer.{Answer}
use Rattle.cq_chain.specs.Faults.{IsRefusal}
use Rattle.cq_events.specs.declared.event.Event.{Event}
use Rattle.cq_events.specs.declared.event.Event.TheVariants.{Put, Take}
use Rattle.cq_world.specs.declared.links.LinkKey.{LinkKey}
use Rattle.cq_world.specs.declared.sim.Sim.{Sim}
use Rattle.cq_events.specs.Events.{refusal_of, refusal_of_put, refusal_of_take, next, given_by}
use Rattle.cq_world.specs.Stands.{StandsFor}
use Rattle.cq_events.specs.Worlds.{World}

-- Where the call succeeds, nothing refused the event, and the sim stands for the next world.
abbrev pub IsDone : Sim → Sim → Event → Result (Unit {0}) WorldFault → Type 0
IsDone old new event result = (w : World) → StandsFor old w
    → OnOk result ((refusal_of w event ≡ None) × StandsFor new (next w event))

-- the same of a put between parties that are known, from one that lives, with the answer that it gives
abbrev pub IsPut : Sim → Sim → LinkKey → Result (Option Answer) WorldFault → Type 0
IsPut old new pair result = (w : World) → StandsFor old w
    → IfOk result (λ given. (refusal_of_put (w.outbox pair.from pair.to) ≡ None)
    × (given ≡ given_by w (Put pair.from pair.to)) × StandsFor new (next w (Put pair.from pair.to)))

-- Where it fails, the fault is the refusal of the put, and the sim stands for the world as it was.
abbrev pub IsPutRefused : Sim → Sim → LinkKey → Result (Option Answer) WorldFault → Type 0
IsPutRefused old new pair result = (w : World) → StandsFor old w
    → IfErr result (λ fault. IsRefusal fault (refusal_of_put (w.outbox pair.from pair.to)) × StandsFor new w)

-- the same of a take between parties that are known, by one that lives
abbrev pub IsTaken : Sim → Sim → LinkKey → Result (Unit {0}) WorldFault → Type 0
IsTaken old new pair result = (w : World) → StandsFor old w
    → OnOk result ((refusal_of_take w pair.from pair.to (w.link pair.from pair.to) ≡ None)
    × StandsFor new (next w (Take pair.from pair.to)))

-- Where it fails, the fault is the refusal of the take, and the sim stands for the world as it was.
abbrev pub IsTakeRefused : Sim → Sim → LinkKey → Result (Unit {0}) WorldFault → Type 0
IsTakeRefused old new pair result = (w : World) → StandsFor old w
    → IfErr result (λ fault. IsRefusal fault (refusal_of_take w pair.from pair.to (w.link pair.from pair.to)) × StandsFor new w)
