-- A trace is followed for some of its events.
use Rattle.std.proofs.Common.{◌≡◌, ◌≤◌, ◌<◌, ℕ, zero, suc, ◌+◌, ◌-◌, ◌∙◌, ap, sym, subst, List, [], ◌∷◌, ◌++◌, length, take, drop, slice_get, append-nil, false, not, ◌⊎◌, Some, inl, inr, arith}
use Rattle.std.proofs.Math.ListN.{set}
use Rattle.cq_chain.specs.Parties.{same}
use Rattle.cq_trace.specs.within.Along.{Leads, left_count, IsAlong}
use Rattle.cq_trace.specs.Audits.{is_foreign}
use Rattle.cq_events.specs.Owners.{party_of}
use Rattle.cq_events.specs.Orders.{of_party}
use Rattle.cq_trace.specs.declared.order.Order.{Order}
use Rattle.cq_events.specs.declared.trace.Trace.{Trace}
use Rattle.std.proofs.lemmas.List.{length-set}
use Rattle.cq_trace.proofs.OfAudit.Lists.{none_some, some_same, no_any_take, no_any_drop, take_more, set_cases, one_of}
use Rattle.cq_trace.proofs.OfAudit.GoodTraces.{Good}
use Rattle.cq_trace.proofs.OfAudit.OneParty.{of_append, of_own, of_other}

-- events of trace k came, up to that place
pub record Followed (traces : List Trace) (places : List ℕ) (old new : Order) (k from place : ℕ) (t : Trace) : Type 0 where
  pub good : Good traces
  pub along : IsAlong traces places old
  pub leads : Leads new
  pub trace : slice_get traces k ≡ Some t
  pub start : slice_get places k ≡ Some from
  pub came : new.events.items ≡ old.events.items ++ drop from (take place t.events.items)
  pub up : from ≤ place
  pub within : place ≤ length t.events.items

-- none of the events that came is another party's
piece_own : (traces : List Trace) (places : List ℕ) (old new : Order) (k from place : ℕ) (t : Trace) → Followed traces places old new k from place t → is_foreign t.party (drop from (take place t.events.items)) ≡ false
piece_own traces places old new k from place t h = no_any_drop (λ event. not (same t.party (party_of event))) from (take place t.events.items) (no_any_take (λ event. not (same t.party (party_of event))) place t.events.items (h.good.own k t h.trace))

-- the order is along the traces, with that trace's place moved on
pub along-more : (traces : List Trace) (places : List ℕ) (old new : Order) (k from place : ℕ) (t : Trace) → Followed traces places old new k from place t → IsAlong traces (set places k place) new
along-more traces places old new k from place t h = record {
  leads = h.leads;
  many = length-set places k place ∙ h.along.many;
  within = λ j n u at_j at_n. within_by j n u at_j (set_cases places k place j n at_n);
  each = λ j n u at_j at_n. each_by j n u at_j (set_cases places k place j n at_n);
  others = λ p none. ap (of_party p) h.came ∙ of_append p old.events.items (drop from (take place t.events.items))
      ∙ ap (λ us. us ++ of_party p (drop from (take place t.events.items))) (h.along.others p none) ∙ of_other p t.party (drop from (take place t.events.items)) own (none k t h.trace);
} where
  own : is_foreign t.party (drop from (take place t.events.items)) ≡ false
  own = piece_own traces places old new k from place t h

  within_by : (j n : ℕ) (u : Trace) → slice_get traces j ≡ Some u → ((j ≡ k) × (n ≡ place)) ⊎ ((j ≡ k → ⊥) × (slice_get places j ≡ Some n)) → n ≤ length u.events.items
  within_by j n u at (inl e) = subst (λ z. n ≤ length z.events.items) (one_of traces k t u h.trace (subst (λ i. slice_get traces i ≡ Some u) e.0 at)) (omega (arith, e.1, h.within))
  within_by j n u at (inr e) = h.along.within j n u at e.1

  each_by : (j n : ℕ) (u : Trace) → slice_get traces j ≡ Some u → ((j ≡ k) × (n ≡ place)) ⊎ ((j ≡ k → ⊥) × (slice_get places j ≡ Some n)) → of_party u.party new.events.items ≡ take n u.events.items
  each_by j n u at (inl e) = subst (λ z. of_party z.party new.events.items ≡ take n z.events.items) (one_of traces k t u h.trace (subst (λ i. slice_get traces i ≡ Some u) e.0 at))
      (ap (of_party t.party) h.came ∙ of_append t.party old.events.items (drop from (take place t.events.items))
      ∙ ap (λ us. us ++ of_party t.party (drop from (take place t.events.items))) (h.along.each k from t h.trace h.start)
      ∙ ap (λ us. take from t.events.items ++ us) (of_own t.party (drop from (take place t.events.items)) own)
      ∙ take_more from place t.events.items h.up ∙ ap (λ i. take i t.events.items) (sym e.1))
  each_by j n u at (inr e) = ap (of_party u.party) h.came ∙ of_append u.party old.events.items (drop from (take place t.events.items))
      ∙ ap (λ us. of_party u.party old.events.items ++ us) (of_other u.party t.party (drop from (take place t.events.items)) own (h.good.apart j k u t at h.trace e.0))
      ∙ append-nil (of_party u.party old.events.items) ∙ h.along.each j n u at e.1

-- fewer are left
pub count-set : (traces : List Trace) (places : List ℕ) (k from place : ℕ) (t : Trace) → slice_get traces k ≡ Some t → slice_get places k ≡ Some from → from < place → place ≤ length t.events.items
    → left_count traces (set places k place) < left_count traces places
count-set [] places k from place t at start up within = absurd (none_some at)
count-set (u ∷ us) [] k from place t at start up within = absurd (none_some start)
count-set (u ∷ us) (n ∷ ns) zero from place t at start up within = fewer (ap (λ z. length z.events.items) (some_same at)) (some_same start) where
  fewer : length u.events.items ≡ length t.events.items → n ≡ from → (length u.events.items - place) + left_count us ns < (length u.events.items - n) + left_count us ns
  fewer e f = omega (arith, e, f, up, within)
count-set (u ∷ us) (n ∷ ns) (suc k) from place t at start up within = omega (arith, count-set us ns k from place t at start up within)
