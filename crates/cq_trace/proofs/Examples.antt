-- Worked traces and orders, each computed by the definitions to what the rules say. The results were worked out by hand.
use Rattle.std.proofs.Common.{◌≡◌, ◌≢◌, ℕ, List, [], ◌∷◌, map, Bool, true, false, cond, Some, None, codes, refl, ◌∙◌, ap, sym, inl, inr}
use Rattle.std.specs.Global.{Vec}
use Rattle.cq_base.specs.declared.ask.Ask.TheVariants.{Create}
use Rattle.cq_base.specs.declared.party.Party.{Party}
use Rattle.cq_base.specs.declared.party.Party.TheVariants.{Master, Clients, Server}
use Rattle.cq_base.specs.Relations.{Among}
use Rattle.cq_base.specs.queue.History.{last_moment}
use Rattle.cq_chain.specs.declared.fault.WorldFault.TheVariants.{LinkEmpty}
use Rattle.cq_chain.specs.Messages.{Fwd}
use Rattle.cq_chain.specs.Parties.{same}
use Rattle.cq_chain.specs.Refusals.{refusal_of_arrival, refusal_of_taking}
use Rattle.cq_chain.specs.Steps.{arrived}
use Rattle.cq_trace.specs.Audits.{is_foreign, first_bad, IsStuck}
use Rattle.cq_trace.specs.Faults.{code_of, name_of}
use Rattle.cq_trace.specs.declared.fault.AuditFault.TheVariants.{NoNextEvent, BadTrace, NoMemory}
use Rattle.cq_events.specs.Orders.{of_party, AreEnabled, put_by}
use Rattle.cq_events.specs.declared.trace.Trace.{Trace}
use Rattle.cq_world.proofs.Eaches.{some_none}
use Rattle.cq_events.proofs.Parties.{same-true}
use Rattle.cq_events.specs.Events.{refusal_of, next, after}
use Rattle.cq_events.specs.Owners.{party_of}
use Rattle.cq_events.specs.Runs.{world_after}
use Rattle.cq_events.specs.Worlds.{numbers_from, first_world}
use Rattle.cq_events.specs.declared.event.Event.{Event}
use Rattle.cq_events.specs.declared.event.Event.TheVariants as events

-- the trace of a party, whose events that vector has
abbrev trace : Party → Vec Event → Trace
trace p v = record { party = p; events = v }

-- client 1's creation of a queue arrives at server 1
abbrev arrive : Event
arrive = events.Arrive 1 0 (record { client = 1; number = 1; ask = Create (codes "q.fifo") 30 false })

abbrev put : Event
put = events.Put (Server 1) (Server 2)

abbrev take : Event
take = events.Take (Server 1) (Server 2)

-- ---- faults

fault_codes : (parties : Vec Party) (number : ℕ) → map code_of (NoNextEvent parties ∷ BadTrace number ∷ NoMemory ∷ []) ≡ 51 ∷ 52 ∷ 20 ∷ []
fault_codes parties number = refl

fault_names : (parties : Vec Party) (number : ℕ) → map name_of (NoNextEvent parties ∷ BadTrace number ∷ NoMemory ∷ []) ≡ codes "NoNextEvent" ∷ codes "BadTrace" ∷ codes "NoMemory" ∷ []
fault_names parties number = refl

-- ---- whose events are

owners : (party_of arrive ≡ Server 1) × (party_of put ≡ Server 1) × (party_of take ≡ Server 2) × (party_of (events.Crash 2) ≡ Server 2) × (party_of (events.Detect 2) ≡ Master) × (party_of (events.Join 3) ≡ Master)
owners = (refl, refl, refl, refl, refl, refl)

-- ---- bad traces

none_bad : (u v : Vec Event) → u.items ≡ take ∷ [] → v.items ≡ arrive ∷ put ∷ [] → first_bad [] (trace (Server 2) u ∷ trace (Server 1) v ∷ []) ≡ None
unfolding first_bad
none_bad u v two one = ap (λ es. cond (is_foreign (Server 2) es) (Some 1) (cond (is_foreign (Server 1) v.items) (Some 2) None)) two ∙ ap (λ es. cond (is_foreign (Server 1) es) (Some 2) None) one

-- server 2 has a crash of server 1
foreign : (v : Vec Event) → v.items ≡ events.Crash 1 ∷ [] → first_bad [] (trace (Server 2) v ∷ []) ≡ Some 1
unfolding first_bad
foreign v two = ap (λ es. cond (is_foreign (Server 2) es) (Some 1) None) two

-- server 1 has two traces, and the clients have a put of server 1
again : (u v : Vec Event) → u.items ≡ [] → v.items ≡ put ∷ [] → first_bad [] (trace (Server 1) u ∷ trace Master u ∷ trace (Server 1) v ∷ trace Clients v ∷ []) ≡ Some 3
unfolding first_bad
again u v none one = ap (λ es. cond (is_foreign (Server 1) es) (Some 1) (cond (is_foreign Master es) (Some 2) (Some 3))) none

-- ---- an order

abbrev order : List Event
order = arrive ∷ put ∷ take ∷ []

enabled : AreEnabled (first_world 2) order
unfolding AreEnabled after next refusal_of first_world numbers_from refusal_of_arrival refusal_of_taking arrived last_moment
enabled = (refl, (refl, (refl, tt)))

parted : (of_party (Server 1) order ≡ arrive ∷ put ∷ []) × (of_party (Server 2) order ≡ take ∷ []) × (of_party Master order ≡ [])
parted = (refl, refl, refl)

-- one entry is forwarded
forwarded : put_by (first_world 2) order (Server 1) (Server 2) ≡ Fwd 1 (record { moment = 0; request = record { client = 1; number = 1; ask = Create (codes "q.fifo") 30 false } }) ∷ []
unfolding put_by after next refusal_of first_world numbers_from refusal_of_arrival arrived last_moment
forwarded = refl

-- ---- no order: server 2 takes what nobody put

early : refusal_of (first_world 2) take ≡ Some LinkEmpty
unfolding refusal_of first_world numbers_from
early = refl

nothing_enabled : AreEnabled (first_world 2) []
unfolding AreEnabled
nothing_enabled = tt

before_all : world_after (first_world 2) [] ≡ first_world 2
unfolding world_after
before_all = refl

stuck : (v : Vec Event) → v.items ≡ take ∷ [] → IsStuck 2 (trace (Server 2) v ∷ []) (Server 2 ∷ [])
stuck v two = record {
  order = [];
  rest = λ p. cond (same p (Server 2)) (take ∷ []) [];
  enabled = nothing_enabled;
  each = λ p. ap (λ es. cond (same p (Server 2)) es []) two;
  left = λ p. (left p, named p (same p (Server 2)) refl);
  some = λ e. differs e;
  refused = λ p event events is e. next_is p (same p (Server 2)) event events is (ap (λ w. refusal_of w event) (sym before_all) ∙ e);
} where
  differs : {A : Type 0} {x : A} {xs : List A} → x ∷ xs ≡ [] → ⊥
  differs e = cc

  left : (p : Party) → Among p (Server 2 ∷ []) → cond (same p (Server 2)) (take ∷ []) [] ≢ []
  left p (inl is) e = differs (ap (λ q. cond (same q (Server 2)) (take ∷ []) []) (sym is) ∙ e)
  left p (inr i) e = absurd i

  named : (p : Party) (t : Bool) → same p (Server 2) ≡ t → cond t (take ∷ []) [] ≢ [] → Among p (Server 2 ∷ [])
  named p true e h = inl (same-true p (Server 2) e)
  named p false e h = absurd (h refl)

  next_is : (p : Party) (t : Bool) (event : Event) (events : List Event) → cond t (take ∷ []) [] ≡ event ∷ events → refusal_of (first_world 2) event ≡ None → ⊥
  next_is p true event events is e = some_none LinkEmpty (sym early ∙ ap (refusal_of (first_world 2)) (first is) ∙ e) where
    first : take ∷ [] ≡ event ∷ events → take ≡ event
    first h = cc
  next_is p false event events is e = differs (sym is)
