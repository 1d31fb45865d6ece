-- What an audit keeps while it goes along the traces.
use Rattle.std.specs.Prelude.{◌≡◌, ◌≤◌, ℕ, zero, suc, ◌+◌, ◌-◌, List, [], ◌∷◌, ◌++◌, length, take, slice_get, false, nat_lt, if◌then◌else◌, Option, None, Some}
use Rattle.cq_base.specs.declared.party.Party.{Party}
use Rattle.cq_chain.specs.Parties.{same}
use Rattle.cq_trace.specs.Audits.{IsStuck}
use Rattle.cq_events.specs.Orders.{of_party, AreEnabled}
use Rattle.cq_trace.specs.declared.fault.AuditFault.{AuditFault}
use Rattle.cq_trace.specs.declared.fault.AuditFault.TheVariants.{NoNextEvent, BadTrace, NoMemory}
use Rattle.cq_trace.specs.declared.order.Order.{Order}
use Rattle.cq_events.specs.declared.trace.Trace.{Trace}
use Rattle.cq_events.specs.Events.{refusal_of}
use Rattle.cq_events.specs.Runs.{world_after}
use Rattle.cq_world.specs.Stands.{StandsFor}
use Rattle.cq_events.specs.Worlds.{first_world}
use Rattle.cq_events.specs.declared.event.Event.{Event}

-- the events so far were enabled, and the world in memory is the one to which they lead
abbrev pub Leads : Order → Type 0
Leads order = AreEnabled (first_world order.size) order.events.items × StandsFor order.sim (world_after (first_world order.size) order.events.items)

-- the event is enabled in that world
abbrev pub IsNext : Order → Event → Type 0
IsNext order event = refusal_of (world_after (first_world order.size) order.events.items) event ≡ None

-- the event at a place of a trace
abbrev pub event_at : List Trace → ℕ → ℕ → Option Event
event_at [] k place = None
event_at (trace ∷ traces) zero place = slice_get trace.events.items place
event_at (trace ∷ traces) (suc k) place = event_at traces k place

-- how many events are left, from these places on
abbrev pub left_count : List Trace → List ℕ → ℕ
left_count [] places = 0
left_count (trace ∷ traces) [] = 0
left_count (trace ∷ traces) (place ∷ places) = (length trace.events.items - place) + left_count traces places

-- the parties that have events left
abbrev pub unfinished : List Trace → List ℕ → List Party
unfinished [] places = []
unfinished (trace ∷ traces) [] = []
unfinished (trace ∷ traces) (place ∷ places) = (if nat_lt place (length trace.events.items) then trace.party ∷ [] else []) ++ unfinished traces places

-- The order so far has the events of each trace before its place, and no others.
pub record IsAlong (traces : List Trace) (places : List ℕ) (order : Order) : Type 0 where
  pub leads : Leads order
  pub many : length places ≡ length traces
  pub within : (k place : ℕ) (trace : Trace) → slice_get traces k ≡ Some trace → slice_get places k ≡ Some place → place ≤ length trace.events.items
  pub each : (k place : ℕ) (trace : Trace) → slice_get traces k ≡ Some trace → slice_get places k ≡ Some place → of_party trace.party order.events.items ≡ take place trace.events.items
  pub others : (p : Party) → ((k : ℕ) (trace : Trace) → slice_get traces k ≡ Some trace → same p trace.party ≡ false) → of_party p order.events.items ≡ []

-- of traces of which none is bad: that nothing comes next, or want of memory
abbrev pub IsAuditFault : ℕ → List Trace → AuditFault → Type 0
IsAuditFault size traces (NoNextEvent named) = IsStuck size traces named.items
IsAuditFault size traces (BadTrace number) = ⊥
IsAuditFault size traces NoMemory = Unit {0}
