-- Traces that are bad, one order of the events of all traces, and when there is none.
use Rattle.std.specs.Prelude.{◌≡◌, ◌≢◌, ◌↔◌, ℕ, ◌+◌, ◌||◌, List, [], ◌∷◌, ◌++◌, length, Bool, not, if◌then◌else◌, Option, None, Some}
use Rattle.std.specs.List.{list_any}
use Rattle.cq_base.specs.declared.party.Party.{Party}
use Rattle.cq_base.specs.Relations.{Among}
use Rattle.cq_chain.specs.Parties.{same}
use Rattle.cq_events.specs.Orders.{of_party, AreEnabled}
use Rattle.cq_trace.specs.declared.fault.AuditFault.{AuditFault}
use Rattle.cq_trace.specs.declared.fault.AuditFault.TheVariants.{NoNextEvent, BadTrace, NoMemory}
use Rattle.cq_events.specs.declared.trace.Trace.{Trace}
use Rattle.cq_events.specs.Events.{refusal_of}
use Rattle.cq_events.specs.Owners.{party_of}
use Rattle.cq_events.specs.Runs.{world_after}
use Rattle.cq_events.specs.Worlds.{first_world}
use Rattle.cq_events.specs.declared.event.Event.{Event}

-- ---- bad traces

-- one of the events is of another party
abbrev pub is_foreign : Party → List Event → Bool
is_foreign p events = list_any (λ event. not (same p (party_of event))) events

-- the trace has an event of another party, or its party has one of the traces before it
abbrev pub is_bad : List Trace → Trace → Bool
is_bad before trace = list_any (λ other. same trace.party other.party) before || is_foreign trace.party trace.events.items

-- The number of the first bad trace of these, behind those before them. Numbers count from 1.
unfoldable pub first_bad : List Trace → List Trace → Option ℕ
first_bad before [] = None
first_bad before (trace ∷ traces) = if is_bad before trace then Some (length before + 1) else first_bad (before ++ trace ∷ []) traces

-- ---- orders

-- the events of a party's trace; none where it has no trace
abbrev pub trace_of : Party → List Trace → List Event
trace_of p [] = []
trace_of p (trace ∷ traces) = if same p trace.party then trace.events.items else trace_of p traces

-- One order of all the events of the traces, in which each is enabled: those of each party are its trace, and none are of a
-- party that has none.
pub record IsMerge (size : ℕ) (traces : List Trace) (order : List Event) : Type 0 where
  pub enabled : AreEnabled (first_world size) order
  pub each : (p : Party) → of_party p order ≡ trace_of p traces

-- One order of a prefix of each trace, in which each event is enabled, leaves events of just these parties, at least of one,
-- and the next one of none of them is enabled.
pub record IsStuck (size : ℕ) (traces : List Trace) (parties : List Party) : Type 0 where
  pub order : List Event
  -- what is left of each party's trace
  pub rest : Party → List Event
  pub enabled : AreEnabled (first_world size) order
  pub each : (p : Party) → trace_of p traces ≡ of_party p order ++ rest p
  pub left : (p : Party) → Among p parties ↔ (rest p ≢ [])
  pub some : parties ≢ []
  pub refused : (p : Party) (event : Event) (events : List Event) → rest p ≡ event ∷ events → refusal_of (world_after (first_world size) order) event ≢ None

-- the fault says that these parties have events left
abbrev pub IsNoNext : AuditFault → List Party → Type 0
IsNoNext (NoNextEvent named) parties = named.items ≡ parties
IsNoNext (BadTrace number) parties = ⊥
IsNoNext NoMemory parties = ⊥
