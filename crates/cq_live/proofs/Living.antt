-- What nodes show together is what a live run promises.
use Rattle.std.proofs.Common.{◌≡◌, ℕ, zero, suc, ◌∙◌, ap, sym, refl, subst, cond, List, [], ◌∷◌, map, length, slice_get, Bool, true, false, Option, Some, None, inl, inr, arith}
use Rattle.std.proofs.lemmas.Option.{same_Some, none-some}
use Rattle.cq_base.proofs.Among.{among-map, among-image}
use Rattle.cq_base.specs.declared.ask.Query.{Query}
use Rattle.cq_base.specs.declared.ask.Request.{Request}
use Rattle.cq_base.specs.declared.party.Party.{Party}
use Rattle.cq_base.specs.declared.party.Party.TheVariants as parties
use Rattle.cq_base.specs.Relations.{Among}
use Rattle.cq_chain.specs.Parties.{same}
use Rattle.cq_live.specs.Lives.{Life, actions_of, AreTraces, AuditsOrder, NodesLive}
use Rattle.cq_trace.specs.Audits.{trace_of}
use Rattle.cq_events.specs.Actions.{Action, Arrived, Asked, Put, Took, Crashed, Detected, Joined, event_of, IsOrder, IsWhatTheyDid}
use Rattle.cq_events.specs.Orders.{of_party}
use Rattle.cq_events.specs.declared.trace.Trace.{Trace}
use Rattle.cq_trace.proofs.OfLaws.Agreeing.{orders_agree}
use Rattle.cq_events.specs.Owners.{party_of}
use Rattle.cq_events.specs.declared.event.Event.{Event}
use Rattle.cq_events.specs.declared.event.Event.TheVariants as events
use Rattle.cq_events.proofs.Parties.{same-true, same-refl}

-- ---- the action of an event

-- an event of an order is one of its party's
own_among : (event : Event) (order : List Event) → Among event order → Among event (of_party (party_of event) order)
own_among event [] h = absurd h
own_among event (e ∷ es) (inl is) = subst (λ t. Among event (cond t (e ∷ of_party (party_of event) es) (of_party (party_of event) es))) (sym (ap (λ x. same (party_of event) (party_of x)) (sym is) ∙ same-refl (party_of event))) (inl is)
own_among event (e ∷ es) (inr h) = go (same (party_of event) (party_of e)) (own_among event es h) where
  go : (t : Bool) → Among event (of_party (party_of event) es) → Among event (cond t (e ∷ of_party (party_of event) es) (of_party (party_of event) es))
  go true there = inr there
  go false there = there

-- and one of its party's is an event of the order
order_among : (p : Party) (event : Event) (order : List Event) → Among event (of_party p order) → Among event order
order_among p event [] h = absurd h
order_among p event (e ∷ es) h = go (same p (party_of e)) (order_among p event es) h where
  go : (t : Bool) → (Among event (of_party p es) → Among event es) → Among event (cond t (e ∷ of_party p es) (of_party p es)) → Among event (e ∷ es)
  go true rest (inl is) = inl is
  go true rest (inr later) = inr (rest later)
  go false rest later = inr (rest later)

-- so its party did it
action_of : (size : ℕ) (actions : Party → List Action) (order : List Event) (event : Event) → IsOrder size actions order → Among event order → (d : Action) × Among d (actions (party_of event)) × (event ≡ event_of (party_of event) d)
action_of size actions order event o h = among-map (event_of (party_of event)) event (actions (party_of event)) (subst (Among event) (o.each (party_of event)) (own_among event order h))

-- what arrives, is asked or joins by an event
arrival_in : Event → Option (ℕ × Request)
arrival_in (events.Arrive at clock request) = Some (clock, request)
arrival_in event = None

query_in : Event → Option Query
query_in (events.Ask at query) = Some query
query_in event = None

join_in : Event → Option ℕ
join_in (events.Join id) = Some id
join_in event = None

-- the action is that arrival
arrival_action : (p : Party) (clock : ℕ) (request : Request) (d : Action) → Some (clock, request) ≡ arrival_in (event_of p d) → d ≡ Arrived clock request
unfolding arrival_in
arrival_action p clock request (Arrived c r) h = sym (ap (λ pair. Arrived pair.0 pair.1) (same_Some (clock, request) (c, r) h))
arrival_action p clock request (Asked query) h = absurd (none-some (clock, request) (sym h))
arrival_action p clock request (Put to x) h = absurd (none-some (clock, request) (sym h))
arrival_action p clock request (Took from x) h = absurd (none-some (clock, request) (sym h))
arrival_action p clock request (Crashed count) h = absurd (none-some (clock, request) (sym h))
arrival_action p clock request (Detected id) h = absurd (none-some (clock, request) (sym h))
arrival_action p clock request (Joined id) h = absurd (none-some (clock, request) (sym h))

-- or that query
query_action : (p : Party) (query : Query) (d : Action) → Some query ≡ query_in (event_of p d) → d ≡ Asked query
unfolding query_in
query_action p query (Asked q) h = sym (ap Asked (same_Some query q h))
query_action p query (Arrived clock request) h = absurd (none-some query (sym h))
query_action p query (Put to x) h = absurd (none-some query (sym h))
query_action p query (Took from x) h = absurd (none-some query (sym h))
query_action p query (Crashed count) h = absurd (none-some query (sym h))
query_action p query (Detected id) h = absurd (none-some query (sym h))
query_action p query (Joined id) h = absurd (none-some query (sym h))

-- or that join
join_action : (p : Party) (id : ℕ) (d : Action) → Some id ≡ join_in (event_of p d) → d ≡ Joined id
unfolding join_in
join_action p id (Joined other) h = sym (ap Joined (same_Some id other h))
join_action p id (Arrived clock request) h = absurd (none-some id (sym h))
join_action p id (Asked query) h = absurd (none-some id (sym h))
join_action p id (Put to x) h = absurd (none-some id (sym h))
join_action p id (Took from x) h = absurd (none-some id (sym h))
join_action p id (Crashed count) h = absurd (none-some id (sym h))
join_action p id (Detected other) h = absurd (none-some id (sym h))

-- lists that are as long have elements at the same places
at_same : {A B : Type 0} (xs : List A) (ys : List B) (place : ℕ) (x : A) → length ys ≡ length xs → slice_get xs place ≡ Some x → (y : B) × (slice_get ys place ≡ Some y)
at_same [] ys place x long here = absurd (none-some x here)
at_same (z ∷ zs) [] place x long here = absurd (omega (arith, long))
at_same (z ∷ zs) (y ∷ ys) zero x long here = (y, refl)
at_same (z ∷ zs) (y ∷ ys) (suc place) x long here = at_same zs ys place x (omega (arith, long)) here

-- ---- nodes

pub nodes_live : NodesLive
unfolding arrival_in query_in join_in
nodes_live plan size actions put taken closed starved order accepted nodes o all count = record {
  enabled = o.enabled;
  no_query = λ at query h.
      let d = action_of size actions order (events.Ask at query) o h in
      nodes.silent (parties.Server at) query (subst (λ x. Among x (actions (parties.Server at))) (query_action (parties.Server at) query d.0 (ap query_in d.2)) d.1);
  arrivals = λ at clock request h.
      let d = action_of size actions order (events.Arrive at clock request) o h in
      let came = nodes.arrivals (parties.Server at) clock request (subst (λ x. Among x (actions (parties.Server at))) (arrival_action (parties.Server at) clock request d.0 (ap arrival_in d.2)) d.1) in
      (came.0, came.1, (nodes.clients came.0 came.1).asked request came.2);
  closed_asks = λ c place ask is here.
      let a = at_same (plan.asks c) (closed c) place ask (all c is) here in
      let by = (nodes.clients c is).closed_by place a.0 a.1 in
      let from = nodes.links c _ is by.took in
      let given = did.heard from.0 a.0 from.1 in
      (a.0, a.1, record { event = given.0; given = given.1; its_client = by.client; its_number = by.number; no_query = by.no_query });
  rising = λ c is. (nodes.clients c is).rising;
  sends = count;
  crashes = λ before rest id split. nodes.crashes id _ (did.crashes before rest id split);
  joins = λ id h.
      let d = action_of size actions order (events.Join id) o h in
      nodes.joins id (subst (λ x. Among x (actions parties.Master)) (join_action parties.Master id d.0 (ap join_in d.2)) d.1);
  starved_crash = λ id h.
      let d = nodes.starved_crash id h in
      order_among (parties.Server id) (events.Crash id) order (subst (λ es. Among (events.Crash id) es) (sym (o.each (parties.Server id))) (among-image (event_of (parties.Server id)) (Crashed d.0) (actions (parties.Server id)) d.1));
} where
  did : IsWhatTheyDid size actions order
  did = orders_agree size actions order nodes.done o

-- ---- traces

traces_of : (p : Party) (traces : List Trace) (lives : List Life) → AreTraces traces lives → trace_of p traces ≡ map (event_of p) (actions_of lives p)
traces_of p [] [] h = refl
traces_of p [] (life ∷ lives) h = absurd h
traces_of p (trace ∷ traces) [] h = absurd h
traces_of p (trace ∷ traces) (life ∷ lives) h = ap (λ q. cond (same p q) trace.events.items (trace_of p traces)) h.0 ∙ go (same p life.party) refl (traces_of p traces lives h.2) where
  go : (t : Bool) → same p life.party ≡ t → trace_of p traces ≡ map (event_of p) (actions_of lives p) → cond t trace.events.items (trace_of p traces) ≡ map (event_of p) (cond t life.actions (actions_of lives p))
  go true is rest = h.1 ∙ ap (λ q. map (event_of q) life.actions) (sym (same-true p life.party is))
  go false is rest = rest

pub audits_order : AuditsOrder
audits_order size traces lives order h merge = record { enabled = merge.enabled; each = λ p. merge.each p ∙ traces_of p traces lives h }
