-- What is kept of a history after entries come and are forgotten.
use Rattle.std.proofs.Common.{◌≡◌, ℕ, ◌+◌, ◌-◌, ◌≤◌, ◌∙◌, ap, sym, List, [], ◌∷◌, ◌++◌, length, drop, drop-drop, length-append, max, arith}
use Rattle.std.proofs.lemmas.List.{length-drop, drop-append-le, drop_all}
use Rattle.cq_base.specs.declared.ask.Entry.{Entry}
use Rattle.cq_chain.specs.within.Replicas.{Replica, Recalls}
use Rattle.cq_store.specs.Stands.{StoreKept, StandsFor, count_of}

-- so many are forgotten
pub floor-of : (kept : Replica) (history : List Entry) (floor : ℕ) → Recalls kept history floor → count_of kept.store - length kept.entries ≡ floor
floor-of kept history floor h =
    let n : length kept.entries ≡ length history - floor = ap (λ es. length es) h.after ∙ length-drop floor history in
    omega (arith, h.store.count, n, h.within)

-- one more entry
pub recalls-more : (kept : Replica) (store : StoreKept) (entries history : List Entry) (floor : ℕ) (e : Entry) → Recalls kept history floor → StandsFor store (history ++ e ∷ []) → entries ≡ kept.entries ++ e ∷ []
    → Recalls (record { store = store; entries = entries }) (history ++ e ∷ []) floor
recalls-more kept store entries history floor e h stands more = record {
  store = stands;
  within = let n = length-append history (e ∷ []) in omega (arith, n, h.within);
  after = more ∙ ap (λ es. es ++ e ∷ []) h.after ∙ sym (drop-append-le floor history (e ∷ []) h.within);
}

-- those up to a place are forgotten
pub recalls-less : (kept : Replica) (entries history : List Entry) (floor place count : ℕ) → Recalls kept history floor → place ≤ length history → count ≡ place - (count_of kept.store - length kept.entries)
    → entries ≡ drop count kept.entries → Recalls (record { store = kept.store; entries = entries }) history (max floor place)
recalls-less kept entries history floor place count h within is less =
    let n : floor + count ≡ max floor place = let f = floor-of kept history floor h in omega (arith, is, f) in
    record {
      store = h.store;
      within = omega (arith, h.within, within);
      after = less ∙ ap (λ es. drop count es) h.after ∙ drop-drop count floor history ∙ ap (λ k. drop k history) n;
    }

-- all are forgotten
pub recalls-none : (store : StoreKept) (entries history : List Entry) → StandsFor store history → entries ≡ [] → Recalls (record { store = store; entries = entries }) history (length history)
recalls-none store entries history stands none = record {
  store = stands;
  within = omega arith;
  after = none ∙ sym (drop_all (length history) history (omega arith));
}
