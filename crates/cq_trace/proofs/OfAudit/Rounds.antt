-- What each step of an audit keeps: an event, a trace, and a round.
use Rattle.std.proofs.Common.{◌≡◌, ◌≤◌, ◌<◌, ℕ, zero, suc, ◌+◌, ◌∙◌, ap, sym, refl, subst, List, [], ◌∷◌, ◌++◌, length, take, drop, slice_get, append-nil, append_assoc, Bool, true, false, ◌||◌, ◌⊎◌, Some, None, Result, Ok, Err, IfOk, inl, inr, nat_lt, arith}
use Rattle.std.proofs.Math.ListN.{set, replicate}
use Rattle.std.proofs.lemmas.Bool.{false≢true, ltb-true, ltb-false}
use Rattle.cq_chain.specs.Parties.{same}
use Rattle.cq_trace.specs.within.Along.{Leads, IsNext, event_at, left_count, IsAlong}
use Rattle.cq_events.specs.Events.{refusal_of, next, after}
use Rattle.cq_events.specs.Orders.{of_party, AreEnabled}
use Rattle.cq_events.specs.Runs.{world_after}
use Rattle.cq_world.specs.Stands.{StandsFor}
use Rattle.cq_events.specs.Worlds.{World, first_world}
use Rattle.cq_trace.specs.declared.order.Order.{Order}
use Rattle.cq_events.specs.declared.event.Event.{Event}
use Rattle.cq_world.specs.declared.sim.Sim.{Sim}
use Rattle.cq_events.specs.declared.trace.Trace.{Trace}
use Rattle.cq_world.proofs.OfSim.RunSteps.{after-done, world-more}
use Rattle.cq_trace.proofs.OfAudit.Lists.{none_some, some_same, or_none, drop_taken, set_cases, take_suc, set_same}
use Rattle.cq_trace.proofs.OfAudit.Following.{Followed, along-more, count-set}
use Rattle.cq_trace.proofs.OfAudit.Leftovers.{event_there}

-- one event more
piece_more : (from place : ℕ) (es : List Event) (e : Event) → from ≤ place → slice_get es place ≡ Some e → drop from (take (place + 1) es) ≡ drop from (take place es) ++ e ∷ []
piece_more from place es e up at = ap (λ n. drop from (take n es)) plus ∙ go from place es up at where
  plus : place + 1 ≡ suc place
  plus = omega arith

  go : (from place : ℕ) (es : List Event) → from ≤ place → slice_get es place ≡ Some e → drop from (take (suc place) es) ≡ drop from (take place es) ++ e ∷ []
  go zero place es h at = take_suc es place e at
  go (suc from) zero es h at = absurd (omega (arith, h))
  go (suc from) (suc place) [] h at = absurd (none_some at)
  go (suc from) (suc place) (x ∷ xs) h at = go from place xs (omega (arith, h)) at

-- one event more came of a trace
pub came-more : (start olds news es : List Event) (from place : ℕ) (e : Event) → from ≤ place → slice_get es place ≡ Some e → olds ≡ start ++ drop from (take place es) → news ≡ olds ++ e ∷ [] → news ≡ start ++ drop from (take (place + 1) es)
came-more start olds news es from place e up at old new = new ∙ ap (λ us. us ++ e ∷ []) old ∙ append_assoc start (drop from (take place es)) (e ∷ []) ∙ sym (ap (λ us. start ++ us) (piece_more from place es e up at))

-- no event came yet
pub came-none : (start : List Event) (es : List Event) (from : ℕ) → start ≡ start ++ drop from (take from es)
came-none start es from = sym (ap (λ us. start ++ us) (drop_taken from es) ∙ append-nil start)

-- an event that is enabled comes next
enabled_more : (w : World) (es : List Event) (e : Event) → AreEnabled w es → refusal_of (world_after w es) e ≡ None → AreEnabled w (es ++ e ∷ [])
unfolding AreEnabled world_after
enabled_more w [] e h ok = (ok, tt)
enabled_more w (x ∷ es) e h ok = (h.0, enabled_more (after w x) es e h.1 ok)

-- an enabled event more, and the world after it
pub leads-more : (size : ℕ) (events news : List Event) (event copy : Event) (sim : Sim) → AreEnabled (first_world size) events → refusal_of (world_after (first_world size) events) event ≡ None
    → StandsFor sim (next (world_after (first_world size) events) event) → copy ≡ event → news ≡ events ++ copy ∷ [] → AreEnabled (first_world size) news × StandsFor sim (world_after (first_world size) news)
leads-more size events news event copy sim enabled ok stands same_event is =
    let news_are : news ≡ events ++ event ∷ [] = is ∙ ap (λ e. events ++ e ∷ []) same_event in
    let w = world_after (first_world size) events in
    subst (λ us. AreEnabled (first_world size) us × StandsFor sim (world_after (first_world size) us)) (sym news_are)
    (enabled_more (first_world size) events event enabled ok, subst (λ v. StandsFor sim v) (sym (world-more (first_world size) events event ∙ after-done w event ok)) stands)

-- where there are no events, all of them are enabled
pub enabled-none : (w : World) → AreEnabled w []
unfolding AreEnabled
enabled-none w = tt

-- what a round keeps, with this many traces followed
pub record Rounded (traces : List Trace) (start places : List ℕ) (order : Order) (k : ℕ) (moved : Bool) : Type 0 where
  pub along : IsAlong traces places order
  pub fewer : moved ≡ true → left_count traces places < left_count traces start
  pub same : moved ≡ false → places ≡ start
  pub stuck : moved ≡ false → (j place : ℕ) (event : Event) → j < k → slice_get places j ≡ Some place → event_at traces j place ≡ Some event → IsNext order event → ⊥

-- what a round keeps is kept where one trace more is followed
pub rounded : (traces : List Trace) (start places : List ℕ) (old new : Order) (k from place : ℕ) (t : Trace) (moved now : Bool) → Followed traces places old new k from place t → Rounded traces start places old k moved
    → now ≡ (moved || nat_lt from place) → new.size ≡ old.size → ((event : Event) → slice_get t.events.items place ≡ Some event → IsNext new event → ⊥) → Rounded traces start (set places k place) new (k + 1) now
rounded traces start places old new k from place t moved now h r is size blocked = record {
  along = along-more traces places old new k from place t h;
  fewer = λ so. fewer moved (nat_lt from place) refl refl (sym is ∙ so);
  same = λ unmoved_so. let parts = or_none moved (nat_lt from place) (sym is ∙ unmoved_so) in unset (stays parts.1) ∙ r.same parts.0;
  stuck = λ unmoved_so j at event below place_at event_is next. let parts = or_none moved (nat_lt from place) (sym is ∙ unmoved_so) in
      go unmoved_so j at event (set_cases places k place j at place_at) (omega (arith, below)) event_is next parts.0 (stays parts.1);
} where
  unset : place ≡ from → set places k place ≡ places
  unset e = set_same places k place (h.start ∙ ap Some (sym e))

  stays : nat_lt from place ≡ false → place ≡ from
  stays unmoved_so = omega (arith, ltb-false from place unmoved_so, h.up)

  fewer : (m n : Bool) → moved ≡ m → nat_lt from place ≡ n → (m || n) ≡ true → left_count traces (set places k place) < left_count traces start
  fewer true true e f so = omega (arith, count-set traces places k from place t h.trace h.start (ltb-true from place f) h.within, r.fewer e)
  fewer true false e f so = subst (λ us. left_count traces us < left_count traces start) (sym (unset (stays f))) (r.fewer e)
  fewer false true e f so = subst (λ us. left_count traces (set places k place) < left_count traces us) (r.same e) (count-set traces places k from place t h.trace h.start (ltb-true from place f) h.within)
  fewer false false e f so = absurd (false≢true so)

  go : now ≡ false → (j at : ℕ) (event : Event) → ((j ≡ k) × (at ≡ place)) ⊎ ((j ≡ k → ⊥) × (slice_get places j ≡ Some at)) → j ≤ k → event_at traces j at ≡ Some event → IsNext new event → moved ≡ false → place ≡ from → ⊥
  go unmoved_so j at event (inl e) below event_is next unmoved same = blocked event (sym (event_there traces k place t h.trace) ∙ ap (λ i. event_at traces k i) (sym e.1) ∙ ap (λ i. event_at traces i at) (sym e.0) ∙ event_is) next
  go unmoved_so j at event (inr e) below event_is next unmoved same = r.stuck unmoved j at event (omega (arith, below, e.0)) e.1 event_is
      (sym (ap (λ n. refusal_of (world_after (first_world n) new.events.items) event) size ∙ ap (λ us. refusal_of (world_after (first_world old.size) us) event) events_same) ∙ next)
    where
      events_same : new.events.items ≡ old.events.items
      events_same = h.came ∙ ap (λ i. old.events.items ++ drop from (take i t.events.items)) same ∙ sym (came-none old.events.items t.events.items from)

-- before the first event
pub leads-none : (size : ℕ) (events : List Event) (sim : Sim) → events ≡ [] → StandsFor sim (first_world size) → AreEnabled (first_world size) events × StandsFor sim (world_after (first_world size) events)
unfolding world_after
leads-none size events sim none stands = subst (λ us. AreEnabled (first_world size) us × StandsFor sim (world_after (first_world size) us)) (sym none) (enabled-none (first_world size), stands)

-- nothing came, and all places are the first
pub along-none : (traces : List Trace) (places : List ℕ) (order : Order) → Leads order → length places ≡ length traces → ((k place : ℕ) → slice_get places k ≡ Some place → place ≡ 0) → order.events.items ≡ [] → IsAlong traces places order
along-none traces places order leads many zeros none = record {
  leads = leads;
  many = many;
  within = λ k place t at start. omega (arith, zeros k place start);
  each = λ k place t at start. ap (of_party t.party) none ∙ sym (ap (λ n. take n t.events.items) (zeros k place start));
  others = λ p apart. ap (of_party p) none;
}

-- all places are 0 at first
pub zeros-of : (n k place : ℕ) → slice_get (replicate n 0) k ≡ Some place → place ≡ 0
zeros-of zero k place h = absurd (none_some h)
zeros-of (suc n) zero place h = sym (some_same h)
zeros-of (suc n) (suc k) place h = zeros-of n k place h

-- what follows of a success
pub if-ok : {A E : Type 0} (P Q : A → Type 0) (r : Result A E) → ((x : A) → P x → Q x) → IfOk r P → IfOk r Q
if-ok P Q (Ok x) f h = f x h
if-ok P Q (Err e) f h = tt
