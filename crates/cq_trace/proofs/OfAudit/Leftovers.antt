-- What is left of the traces, and whose it is.
use Rattle.std.proofs.Common.{◌≡◌, ◌≢◌, ◌≤◌, ◌<◌, ◌==◌, ℕ, zero, suc, ◌+◌, ◌∙◌, ap, sym, refl, subst, cond, List, [], ◌∷◌, ◌++◌, length, take, drop, slice_get, append-nil, Bool, true, false, ◌⊎◌, Some, None, inl, inr, nat_lt, arith}
use Rattle.std.proofs.lemmas.Bool.{eqb-true, eqb-false, false≢true, ltb-true, ltb-false}
use Rattle.cq_base.specs.declared.party.Party.{Party}
use Rattle.cq_base.specs.Relations.{Among}
use Rattle.cq_chain.specs.Parties.{same}
use Rattle.cq_trace.specs.within.Along.{IsNext, event_at, unfinished, IsAlong}
use Rattle.cq_trace.specs.Audits.{trace_of, IsMerge, IsStuck}
use Rattle.cq_events.specs.Events.{refusal_of}
use Rattle.cq_events.specs.Orders.{of_party}
use Rattle.cq_events.specs.Runs.{world_after}
use Rattle.cq_events.specs.Worlds.{first_world}
use Rattle.cq_trace.specs.declared.order.Order.{Order}
use Rattle.cq_events.specs.declared.event.Event.{Event}
use Rattle.cq_events.specs.declared.trace.Trace.{Trace}
use Rattle.cq_world.proofs.Eaches.{cons_nil}
use Rattle.cq_events.proofs.Parties.{same-true, same-refl}
use Rattle.std.proofs.lemmas.List.{take-append-drop, drop_all}
use Rattle.cq_trace.proofs.OfAudit.Lists.{none_some, some_same, drop_some, drop_first, one_of, drop_at}
use Rattle.cq_trace.proofs.OfAudit.GoodTraces.{Good, good}

-- the events that are left of a party's trace
abbrev rest_of : Party → List Trace → List ℕ → List Event
rest_of p [] places = []
rest_of p (t ∷ ts) [] = []
rest_of p (t ∷ ts) (n ∷ ns) = cond (same p t.party) (drop n t.events.items) (rest_of p ts ns)

-- a party's trace
record Found (p : Party) (traces : List Trace) (places : List ℕ) : Type 0 where
  k : ℕ
  n : ℕ
  t : Trace
  trace : slice_get traces k ≡ Some t
  place : slice_get places k ≡ Some n
  party : p ≡ t.party
  events : trace_of p traces ≡ t.events.items
  rest : rest_of p traces places ≡ drop n t.events.items

-- there is none
record Lacks (p : Party) (traces : List Trace) (places : List ℕ) : Type 0 where
  none : (k : ℕ) (t : Trace) → slice_get traces k ≡ Some t → same p t.party ≡ false
  events : trace_of p traces ≡ []
  rest : rest_of p traces places ≡ []

-- a party has a trace, or none
find : (p : Party) (traces : List Trace) (places : List ℕ) → length places ≡ length traces → Found p traces places ⊎ Lacks p traces places
find p [] places many = inr (record { none = λ k t h. absurd (none_some h); events = refl; rest = refl })
find p (t ∷ ts) [] many = absurd (omega (arith, many))
find p (t ∷ ts) (n ∷ ns) many = go (same p t.party) refl (find p ts ns (omega (arith, many))) where
  go : (b : Bool) → same p t.party ≡ b → Found p ts ns ⊎ Lacks p ts ns → Found p (t ∷ ts) (n ∷ ns) ⊎ Lacks p (t ∷ ts) (n ∷ ns)
  go true e later = inl (record {
    k = 0;
    n = n;
    t = t;
    trace = refl;
    place = refl;
    party = same-true p t.party e;
    events = ap (λ b. cond b t.events.items (trace_of p ts)) e;
    rest = ap (λ b. cond b (drop n t.events.items) (rest_of p ts ns)) e;
  })
  go false e (inl f) = inl (record {
    k = suc f.k;
    n = f.n;
    t = f.t;
    trace = f.trace;
    place = f.place;
    party = f.party;
    events = ap (λ b. cond b t.events.items (trace_of p ts)) e ∙ f.events;
    rest = ap (λ b. cond b (drop n t.events.items) (rest_of p ts ns)) e ∙ f.rest;
  })
  go false e (inr f) = inr (record {
    none = λ k u. lacks k u;
    events = ap (λ b. cond b t.events.items (trace_of p ts)) e ∙ f.events;
    rest = ap (λ b. cond b (drop n t.events.items) (rest_of p ts ns)) e ∙ f.rest;
  })
    where
      lacks : (k : ℕ) (u : Trace) → slice_get (t ∷ ts) k ≡ Some u → same p u.party ≡ false
      lacks zero u at = subst (λ z. same p z.party ≡ false) (some_same at) e
      lacks (suc k) u at = f.none k u at

-- the order has what is left out of the rest
each_left : (traces : List Trace) (places : List ℕ) (order : Order) (p : Party) → IsAlong traces places order → trace_of p traces ≡ of_party p order.events.items ++ rest_of p traces places
each_left traces places order p h = go (find p traces places h.many) where
  go : Found p traces places ⊎ Lacks p traces places → trace_of p traces ≡ of_party p order.events.items ++ rest_of p traces places
  go (inl f) = f.events ∙ sym (take-append-drop f.n f.t.events.items)
      ∙ sym (ap (λ us. us ++ rest_of p traces places) (subst (λ q. of_party q order.events.items ≡ take f.n f.t.events.items) (sym f.party) (h.each f.k f.n f.t f.trace f.place)) ∙ ap (λ us. take f.n f.t.events.items ++ us) f.rest)
  go (inr f) = f.events ∙ sym (ap (λ us. us ++ rest_of p traces places) (h.others p f.none) ∙ f.rest)

-- who is unfinished
unfinished_at : (traces : List Trace) (places : List ℕ) (k n : ℕ) (t : Trace) → slice_get traces k ≡ Some t → slice_get places k ≡ Some n → n < length t.events.items → Among t.party (unfinished traces places)
unfinished_at [] places k n t at start below = absurd (none_some at)
unfinished_at (u ∷ us) [] k n t at start below = absurd (none_some start)
unfinished_at (u ∷ us) (m ∷ ms) zero n t at start below = go (nat_lt m (length u.events.items)) refl where
  go : (b : Bool) → nat_lt m (length u.events.items) ≡ b → Among t.party (cond b (u.party ∷ []) [] ++ unfinished us ms)
  go true e = inl (ap (λ z. z.party) (sym (some_same at)))
  go false e = absurd (omega (arith, ltb-false m (length u.events.items) e, some_same start, below, ap (λ z. length z.events.items) (some_same at)))
unfinished_at (u ∷ us) (m ∷ ms) (suc k) n t at start below = go (nat_lt m (length u.events.items)) (unfinished_at us ms k n t at start below) where
  go : (b : Bool) → Among t.party (unfinished us ms) → Among t.party (cond b (u.party ∷ []) [] ++ unfinished us ms)
  go true h = inr h
  go false h = h

-- a party of which events are left
record Unfinished (p : Party) (traces : List Trace) (places : List ℕ) : Type 0 where
  k : ℕ
  n : ℕ
  t : Trace
  trace : slice_get traces k ≡ Some t
  place : slice_get places k ≡ Some n
  party : p ≡ t.party
  below : n < length t.events.items

-- who is unfinished has events left
among_unfinished : (p : Party) (traces : List Trace) (places : List ℕ) → Among p (unfinished traces places) → Unfinished p traces places
among_unfinished p [] places h = absurd h
among_unfinished p (u ∷ us) [] h = absurd h
among_unfinished p (u ∷ us) (m ∷ ms) h = go (nat_lt m (length u.events.items)) refl h (among_unfinished p us ms) where
  later : Unfinished p us ms → Unfinished p (u ∷ us) (m ∷ ms)
  later f = record { k = suc f.k; n = f.n; t = f.t; trace = f.trace; place = f.place; party = f.party; below = f.below }

  go : (b : Bool) → nat_lt m (length u.events.items) ≡ b → Among p (cond b (u.party ∷ []) [] ++ unfinished us ms) → (Among p (unfinished us ms) → Unfinished p us ms) → Unfinished p (u ∷ us) (m ∷ ms)
  go true e (inl is) rec = record { k = 0; n = m; t = u; trace = refl; place = refl; party = is; below = ltb-true m (length u.events.items) e }
  go true e (inr i) rec = later (rec i)
  go false e i rec = later (rec i)

-- nobody is
all_done : (traces : List Trace) (places : List ℕ) (order : Order) → IsAlong traces places order → unfinished traces places ≡ [] → (p : Party) → of_party p order.events.items ≡ trace_of p traces
all_done traces places order h none p = sym (each_left traces places order p h ∙ ap (λ us. of_party p order.events.items ++ us) (go (find p traces places h.many)) ∙ append-nil (of_party p order.events.items)) where
  nobody : (q : Party) → Among q (unfinished traces places) → ⊥
  nobody q i = subst (Among q) none i

  go : Found p traces places ⊎ Lacks p traces places → rest_of p traces places ≡ []
  go (inl f) = f.rest ∙ by (nat_lt f.n (length f.t.events.items)) refl where
    by : (b : Bool) → nat_lt f.n (length f.t.events.items) ≡ b → drop f.n f.t.events.items ≡ []
    by true e = absurd (nobody f.t.party (unfinished_at traces places f.k f.n f.t f.trace f.place (ltb-true f.n (length f.t.events.items) e)))
    by false e = drop_all f.n f.t.events.items (ltb-false f.n (length f.t.events.items) e)
  go (inr f) = f.rest

-- nothing is left, so the order has all events
pub merged : (traces : List Trace) (places : List ℕ) (order : Order) → IsAlong traces places order → unfinished traces places ≡ [] → IsMerge order.size traces order.events.items
merged traces places order h none = record { enabled = h.leads.0; each = all_done traces places order h none }

-- the event at the place of a trace
pub event_there : (traces : List Trace) (k place : ℕ) (t : Trace) → slice_get traces k ≡ Some t → event_at traces k place ≡ slice_get t.events.items place
event_there [] k place t at = absurd (none_some at)
event_there (u ∷ us) zero place t at = ap (λ z. slice_get z.events.items place) (some_same at)
event_there (u ∷ us) (suc k) place t at = event_there us k place t at

-- somebody is, and none of their next events is enabled
pub stuck : (traces : List Trace) (places : List ℕ) (order : Order) → Good traces → IsAlong traces places order → (unfinished traces places ≡ [] → ⊥)
    → ((k place : ℕ) (event : Event) → slice_get places k ≡ Some place → event_at traces k place ≡ Some event → IsNext order event → ⊥) → IsStuck order.size traces (unfinished traces places)
stuck traces places order good h some blocked = record {
  order = order.events.items;
  rest = λ p. rest_of p traces places;
  enabled = h.leads.0;
  each = λ p. each_left traces places order p h;
  left = λ p. (left_to p, left_from p);
  some = some;
  refused = λ p event events is. refused p event events is (find p traces places h.many);
} where
  left_to : (p : Party) → Among p (unfinished traces places) → rest_of p traces places ≢ []
  left_to p i = go (among_unfinished p traces places i) (find p traces places h.many) where
    go : Unfinished p traces places → Found p traces places ⊎ Lacks p traces places → rest_of p traces places ≢ []
    go a (inr f) e = false≢true (sym (f.none a.k a.t a.trace) ∙ (ap (same p) (sym a.party) ∙ same-refl p))
    go a (inl f) e = by (f.k == a.k) refl where
      by : (b : Bool) → (f.k == a.k) ≡ b → ⊥
      by false differ = false≢true (sym (good.apart f.k a.k f.t a.t f.trace a.trace (λ k. eqb-false f.k a.k differ k)) ∙ (ap (λ q. same q a.t.party) (sym f.party) ∙ ap (same p) (sym a.party) ∙ same-refl p))
      by true alike =
          let k : f.k ≡ a.k = eqb-true f.k a.k alike in
          let n : f.n ≡ a.n = one_of places a.k f.n a.n (subst (λ i. slice_get places i ≡ Some f.n) k f.place) a.place in
          let t : f.t ≡ a.t = one_of traces a.k f.t a.t (subst (λ i. slice_get traces i ≡ Some f.t) k f.trace) a.trace in
          drop_some a.n a.t.events.items a.below (sym (ap (λ z. drop f.n z.events.items) t ∙ ap (λ i. drop i a.t.events.items) n) ∙ (sym f.rest ∙ e))

  left_from : (p : Party) → rest_of p traces places ≢ [] → Among p (unfinished traces places)
  left_from p is = go (find p traces places h.many) where
    go : Found p traces places ⊎ Lacks p traces places → Among p (unfinished traces places)
    go (inr f) = absurd (is f.rest)
    go (inl f) = by (nat_lt f.n (length f.t.events.items)) refl where
      by : (b : Bool) → nat_lt f.n (length f.t.events.items) ≡ b → Among p (unfinished traces places)
      by true e = subst (λ q. Among q (unfinished traces places)) (sym f.party) (unfinished_at traces places f.k f.n f.t f.trace f.place (ltb-true f.n (length f.t.events.items) e))
      by false e = absurd (is (f.rest ∙ drop_all f.n f.t.events.items (ltb-false f.n (length f.t.events.items) e)))

  refused : (p : Party) (event : Event) (events : List Event) → rest_of p traces places ≡ event ∷ events → Found p traces places ⊎ Lacks p traces places → refusal_of (world_after (first_world order.size) order.events.items) event ≢ None
  refused p event events is (inr f) e = cons_nil event events (sym is ∙ f.rest)
  refused p event events is (inl f) e = blocked f.k f.n event f.place (event_there traces f.k f.n f.t f.trace ∙ drop_first f.n f.t.events.items events event (sym f.rest ∙ is)) e

-- who is unfinished, one trace more
pub unfinished-at : (traces : List Trace) (places : List ℕ) (k n : ℕ) (t : Trace) → slice_get traces k ≡ Some t → slice_get places k ≡ Some n
    → unfinished (drop k traces) (drop k places) ≡ cond (nat_lt n (length t.events.items)) (t.party ∷ []) [] ++ unfinished (drop (k + 1) traces) (drop (k + 1) places)
unfinished-at traces places k n t at start = ap (λ us. unfinished us (drop k places)) (drop_at traces k t at) ∙ ap (λ us. unfinished (t ∷ drop (k + 1) traces) us) (drop_at places k n start)

-- and with no trace more
pub unfinished-end : (traces : List Trace) (places : List ℕ) (k : ℕ) → length traces ≤ k → unfinished (drop k traces) (drop k places) ≡ []
unfinished-end traces places k h = ap (λ us. unfinished us (drop k places)) (drop_all k traces h)
