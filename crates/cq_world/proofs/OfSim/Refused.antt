-- Refusals and effects of events, each as its kind has it.
use Rattle.std.proofs.Common.{◌≡◌, ℕ, ◌∙◌, ap, sym, refl, subst, Bool, true, false, ◌&&◌, not, eqb, is_none, length, List, [], ◌∷◌, Option, Some, None, if◌then◌else◌}
use Rattle.std.proofs.Math.Dec.{eqb-suc-zero}
use Rattle.cq_base.specs.declared.ask.Query.{Query}
use Rattle.cq_base.specs.declared.ask.Request.{Request}
use Rattle.cq_base.specs.declared.party.Party.{Party}
use Rattle.cq_base.specs.declared.party.Party.TheVariants as parties
use Rattle.cq_chain.specs.declared.fault.WorldFault.{WorldFault}
use Rattle.cq_chain.specs.declared.fault.WorldFault.TheVariants.{NoSuchServer, ServerDown, LinkEmpty, NotDown}
use Rattle.cq_chain.specs.declared.message.Answer.{Answer}
use Rattle.cq_chain.specs.declared.message.Message as rust
use Rattle.cq_chain.specs.Faults.{IsRefusal}
use Rattle.cq_chain.specs.Masters.{detected, joined, refusal_of_detection, refusal_of_join}
use Rattle.cq_chain.specs.Messages.{Message}
use Rattle.cq_chain.specs.Stands.{Means, IsFirst}
use Rattle.cq_chain.specs.Refusals.{refusal_of_arrival, refusal_of_query}
use Rattle.cq_chain.specs.Steps.{arrived, asked, crashed}
use Rattle.cq_events.specs.Events.{has_party, if_known, if_lives, unless_down, is_down, refusal_of, refusal_of_crash, refusal_of_detect, refusal_of_put, refusal_of_take, next, after_put, after_take, given_by, given_to, first_of, without_first, answers_in, head_of}
use Rattle.cq_world.specs.within.Kept.{IsFilled, after_posting, after_popping}
use Rattle.cq_events.specs.Runs.{given_if}
use Rattle.cq_world.specs.Stands.{StandsFor}
use Rattle.cq_world.specs.declared.sim.Sim.{Sim}
use Rattle.cq_events.specs.declared.event.Event.{Event}
use Rattle.cq_events.specs.Worlds.{World, is_in, stepped, ordered}
use Rattle.cq_world.proofs.OfSim.Stands.{unordered}
use Rattle.cq_events.specs.declared.event.Event.TheVariants.{Arrive, Ask, Put, Take, Crash, Detect, Join}

-- ---- a server that is asked for something

-- it lives
pub at-living : (w : World) (id : ℕ) (refusal : Option WorldFault) → is_in w.master.used id ≡ true → (w.server id).down ≡ false → if_lives w id refusal ≡ refusal
at-living w id refusal there lives = ap (λ b. if_known b (unless_down (w.server id).down refusal)) there ∙ ap (λ b. unless_down b refusal) lives

-- it has crashed
pub at-dead : (w : World) (id : ℕ) (refusal : Option WorldFault) → is_in w.master.used id ≡ true → (w.server id).down ≡ true → if_lives w id refusal ≡ Some ServerDown
at-dead w id refusal there dead = ap (λ b. if_known b (unless_down (w.server id).down refusal)) there ∙ ap (λ b. unless_down b refusal) dead

-- there is none
pub at-none : (w : World) (id : ℕ) (refusal : Option WorldFault) → is_in w.master.used id ≡ false → if_lives w id refusal ≡ Some NoSuchServer
at-none w id refusal none = ap (λ b. if_known b (unless_down (w.server id).down refusal)) none

pub refused-arrive : (w : World) (at clock : ℕ) (request : Request) → refusal_of w (Arrive at clock request) ≡ if_lives w at (refusal_of_arrival (w.server at))
unfolding refusal_of
refused-arrive w at clock request = refl

pub next-arrive : (w : World) (at clock : ℕ) (request : Request) → next w (Arrive at clock request) ≡ stepped w at (arrived clock request (w.server at))
unfolding next
next-arrive w at clock request = refl

pub refused-ask : (w : World) (at : ℕ) (query : Query) → refusal_of w (Ask at query) ≡ if_lives w at (refusal_of_query (w.server at))
unfolding refusal_of
refused-ask w at query = refl

pub next-ask : (w : World) (at : ℕ) (query : Query) → next w (Ask at query) ≡ stepped w at (asked query (w.server at))
unfolding next
next-ask w at query = refl

-- ---- changes of the chain

pub refused-crash : (w : World) (id : ℕ) → refusal_of w (Crash id) ≡ if_lives w id (refusal_of_crash w id)
unfolding refusal_of
refused-crash w id = refl

pub next-crash : (w : World) (id : ℕ) → next w (Crash id) ≡ stepped w id (crashed (w.server id))
unfolding next
next-crash w id = refl

pub detect-known : (w : World) (id : ℕ) → is_in w.master.used id ≡ true → refusal_of w (Detect id) ≡ refusal_of_detect w id
unfolding refusal_of
detect-known w id h = ap (λ b. if_known b (refusal_of_detect w id)) h

pub detect-unknown : (w : World) (id : ℕ) → is_in w.master.used id ≡ false → refusal_of w (Detect id) ≡ Some NoSuchServer
unfolding refusal_of
detect-unknown w id h = ap (λ b. if_known b (refusal_of_detect w id)) h

pub detect-dead : (w : World) (id : ℕ) → (w.server id).down ≡ true → refusal_of_detect w id ≡ refusal_of_detection id w.master
detect-dead w id h = ap (λ b. if b then refusal_of_detection id w.master else Some NotDown) h

pub detect-living : (w : World) (id : ℕ) → (w.server id).down ≡ false → refusal_of_detect w id ≡ Some NotDown
detect-living w id h = ap (λ b. if b then refusal_of_detection id w.master else Some NotDown) h

pub next-detect : (w : World) (id : ℕ) → next w (Detect id) ≡ ordered w (detected id w.master)
unfolding next
next-detect w id = refl

pub refused-join : (w : World) (id : ℕ) → refusal_of w (Join id) ≡ refusal_of_join id w.master
unfolding refusal_of
refused-join w id = refl

pub next-join : (w : World) (id : ℕ) → next w (Join id) ≡ ordered w (joined id w.master)
unfolding next
next-join w id = refl

-- ---- puts and takes

-- both parties are known
abbrev pub ends : World → Party → Party → Bool
ends w from to = has_party w from && has_party w to

pub put-known : (w : World) (from to : Party) → ends w from to ≡ true → is_down w from ≡ false → refusal_of w (Put from to) ≡ refusal_of_put (w.outbox from to)
unfolding refusal_of
put-known w from to h lives = ap (λ b. if_known b (unless_down (is_down w from) (refusal_of_put (w.outbox from to)))) h ∙ ap (λ b. unless_down b (refusal_of_put (w.outbox from to))) lives

pub put-dead : (w : World) (from to : Party) → ends w from to ≡ true → is_down w from ≡ true → refusal_of w (Put from to) ≡ Some ServerDown
unfolding refusal_of
put-dead w from to h dead = ap (λ b. if_known b (unless_down (is_down w from) (refusal_of_put (w.outbox from to)))) h ∙ ap (λ b. unless_down b (refusal_of_put (w.outbox from to))) dead

pub put-unknown : (w : World) (from to : Party) → ends w from to ≡ false → refusal_of w (Put from to) ≡ Some NoSuchServer
unfolding refusal_of
put-unknown w from to h = ap (λ b. if_known b (unless_down (is_down w from) (refusal_of_put (w.outbox from to)))) h

pub take-known : (w : World) (from to : Party) → ends w from to ≡ true → is_down w to ≡ false → refusal_of w (Take from to) ≡ refusal_of_take w from to (w.link from to)
unfolding refusal_of
take-known w from to h lives = ap (λ b. if_known b (unless_down (is_down w to) (refusal_of_take w from to (w.link from to)))) h ∙ ap (λ b. unless_down b (refusal_of_take w from to (w.link from to))) lives

pub take-dead : (w : World) (from to : Party) → ends w from to ≡ true → is_down w to ≡ true → refusal_of w (Take from to) ≡ Some ServerDown
unfolding refusal_of
take-dead w from to h dead = ap (λ b. if_known b (unless_down (is_down w to) (refusal_of_take w from to (w.link from to)))) h ∙ ap (λ b. unless_down b (refusal_of_take w from to (w.link from to))) dead

pub take-unknown : (w : World) (from to : Party) → ends w from to ≡ false → refusal_of w (Take from to) ≡ Some NoSuchServer
unfolding refusal_of
take-unknown w from to h = ap (λ b. if_known b (unless_down (is_down w to) (refusal_of_take w from to (w.link from to)))) h

pub next-put : (w : World) (from to : Party) → next w (Put from to) ≡ after_put w from to
unfolding next
next-put w from to = refl

pub next-take : (w : World) (from to : Party) → next w (Take from to) ≡ after_take w from to (w.link from to)
unfolding next
next-take w from to = refl

pub given-put : (w : World) (from to : Party) → given_by w (Put from to) ≡ given_to to (first_of (w.outbox from to))
unfolding given_by
given-put w from to = refl

-- what is put to others than the clients stands in a link, and gives nothing
pub put-posted : (w : World) (from to : Party) → (to ≡ parties.Clients → ⊥) → after_put w from to ≡ after_posting w from to
put-posted w from parties.Master h = refl
put-posted w from parties.Clients h = absurd (h refl)
put-posted w from (parties.Server id) h = refl

pub put-gives : (to : Party) (ms : List Message) → (to ≡ parties.Clients → ⊥) → given_to to ms ≡ None
put-gives parties.Master ms h = refl
put-gives parties.Clients ms h = absurd (h refl)
put-gives (parties.Server id) ms h = refl

-- what is put to the clients leaves the outbox alone
pub put-drawn : (w : World) (from to : Party) → to ≡ parties.Clients → after_put w from to ≡ after_popping w from to
put-drawn w from parties.Master h = absurd cc
put-drawn w from parties.Clients h = refl
put-drawn w from (parties.Server id) h = absurd cc

-- and is given
pub put-given : (to : Party) (x : rust.Message) (ms : List Message) (given : Option Answer) → to ≡ parties.Clients → IsFirst (Some x) ms → ((m : Message) → Means x m → given ≡ head_of (answers_in (m ∷ []))) → given ≡ given_to to (first_of ms)
put-given parties.Master x ms given h first is = absurd cc
put-given parties.Clients x [] given h first is = absurd first
put-given parties.Clients x (m ∷ ms) given h first is = is m first
put-given (parties.Server id) x ms given h first is = absurd cc

-- what the clients take is dropped, and what the master takes from others than servers
abbrev pub IsDropped : Party → Party → Type 0
IsDropped from parties.Clients = Unit {0}
IsDropped from (parties.Server id) = ⊥
IsDropped parties.Clients parties.Master = Unit {0}
IsDropped parties.Master parties.Master = Unit {0}
IsDropped (parties.Server id) parties.Master = ⊥

pub take-filled : (w : World) (from to : Party) (ms : List Message) → IsDropped from to → IsFilled ms → refusal_of_take w from to ms ≡ None
take-filled w from to [] h filled = absurd filled
take-filled w from parties.Master (m ∷ ms) h filled = refl
take-filled w from parties.Clients (m ∷ ms) h filled = refl
take-filled w from (parties.Server id) (m ∷ ms) h filled = absurd h

pub take-dropped : (w : World) (from to : Party) (ms : List Message) → IsDropped from to → IsFilled ms → after_take w from to ms ≡ without_first w from to
take-dropped w from to [] h filled = absurd filled
take-dropped w from parties.Clients (m ∷ ms) h filled = refl
take-dropped w from (parties.Server id) (m ∷ ms) h filled = absurd h
take-dropped w parties.Clients parties.Master (m ∷ ms) h filled = unordered (without_first w parties.Clients parties.Master)
take-dropped w parties.Master parties.Master (m ∷ ms) h filled = unordered (without_first w parties.Master parties.Master)
take-dropped w (parties.Server id) parties.Master (m ∷ ms) h filled = absurd h

pub dropped-of-others : (from to : Party) → to ≡ parties.Master → ((id : ℕ) → from ≡ parties.Server id → ⊥) → IsDropped from to
dropped-of-others parties.Master to is other = subst (λ p. IsDropped parties.Master p) (sym is) tt
dropped-of-others parties.Clients to is other = subst (λ p. IsDropped parties.Clients p) (sym is) tt
dropped-of-others (parties.Server id) to is other = absurd (other id refl)

-- an empty link
pub take-nothing : (w : World) (from to : Party) (ms : List Message) (fault : WorldFault) → fault ≡ LinkEmpty → ms ≡ [] → IsRefusal fault (refusal_of_take w from to ms)
take-nothing w from to ms fault is none = subst (λ f. IsRefusal f (refusal_of_take w from to ms)) (sym is) (ap (λ xs. refusal_of_take w from to xs) none)

-- only what is put gives
pub given-arrive : (w : World) (at clock : ℕ) (request : Request) → None ≡ given_by w (Arrive at clock request)
unfolding given_by
given-arrive w at clock request = refl

pub given-ask : (w : World) (at : ℕ) (query : Query) → None ≡ given_by w (Ask at query)
unfolding given_by
given-ask w at query = refl

pub given-take : (w : World) (from to : Party) → None ≡ given_by w (Take from to)
unfolding given_by
given-take w from to = refl

pub given-crash : (w : World) (id : ℕ) → None ≡ given_by w (Crash id)
unfolding given_by
given-crash w id = refl

pub given-detect : (w : World) (id : ℕ) → None ≡ given_by w (Detect id)
unfolding given_by
given-detect w id = refl

pub given-join : (w : World) (id : ℕ) → None ≡ given_by w (Join id)
unfolding given_by
given-join w id = refl

-- an event that isn't refused gives nothing, and does that
abbrev pub IsSilent : Sim → World → Event → Type 0
IsSilent sim w event = (refusal_of w event ≡ None) × (None ≡ given_by w event) × StandsFor sim (next w event)

-- the same of an event that is that one
pub silent-same : (sim : Sim) (w : World) (event other : Event) → event ≡ other → IsSilent sim w other → IsSilent sim w event
silent-same sim w event other same h = subst (λ e. IsSilent sim w e) (sym same) h

-- ---- what may be put, and what gives nothing

-- what isn't refused for want of a message
pub put-waits : (ms : List Message) → not (eqb (length ms) 0) ≡ is_none (refusal_of_put ms)
put-waits [] = refl
put-waits (m ∷ ms) = ap not (eqb-suc-zero (length ms))

-- what is put to others than the clients
pub silent-put : (w : World) (from to : Party) (refusal : Option WorldFault) → (to ≡ parties.Clients → ⊥) → given_if w (Put from to) refusal ≡ None
unfolding given_by
silent-put w from parties.Master None other = refl
silent-put w from parties.Clients None other = absurd (other refl)
silent-put w from (parties.Server id) None other = refl
silent-put w from to (Some fault) other = refl

-- what isn't put
pub silent-event : (w : World) (event : Event) (refusal : Option WorldFault) → ((from to : Party) → event ≡ Put from to → ⊥) → given_if w event refusal ≡ None
unfolding given_by
silent-event w event (Some fault) other = refl
silent-event w (Arrive at clock request) None other = refl
silent-event w (Ask at query) None other = refl
silent-event w (Put from to) None other = absurd (other from to refl)
silent-event w (Take from to) None other = refl
silent-event w (Crash id) None other = refl
silent-event w (Detect id) None other = refl
silent-event w (Join id) None other = refl

-- what is said of one event holds of the same
pub nothing-same : (w : World) (event other : Event) → event ≡ other → given_if w other (refusal_of w other) ≡ None → given_if w event (refusal_of w event) ≡ None
nothing-same w event other is h = subst (λ e. given_if w e (refusal_of w e) ≡ None) (sym is) h
