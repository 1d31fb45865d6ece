-- A server joins: when that is refused, and what is kept after it.
use Rattle.std.proofs.Common.{◌≡◌, ℕ, ◌∙◌, ◌==◌, ◌||◌, ap, sym, refl, subst, Bool, true, false, List, [], ◌∷◌, ◌++◌, Option, None, Some, cond, inl, inr}
use Rattle.std.proofs.lemmas.Bool.{cases_Bool, eqb-true}
use Rattle.std.proofs.lemmas.List.Folds.{list_any-append}
use Rattle.cq_base.specs.declared.party.Party.{Party}
use Rattle.cq_base.specs.declared.party.Party.TheVariants as parties
use Rattle.cq_chain.specs.declared.fault.WorldFault.TheVariants.{IdUsed}
use Rattle.cq_chain.specs.declared.server.Server as rust_server
use Rattle.cq_chain.specs.Masters.{Master, joined, refusal_of_join}
use Rattle.cq_chain.specs.Messages.{Message}
use Rattle.cq_chain.specs.Servers.{Server, joining}
use Rattle.cq_chain.specs.Stands as chain
use Rattle.cq_chain.specs.Stands.{posted}
use Rattle.cq_world.specs.within.Kept.{server_at, messages_at}
use Rattle.cq_world.specs.Stands.{IsKeptAs, Holds}
use Rattle.cq_events.specs.Worlds.{World, is_in, ordered}
use Rattle.cq_world.specs.declared.sim.Sim.{Sim}
use Rattle.cq_world.proofs.OfSim.Stands.{ordered-stands}

-- ---- refusals

refused_used : (id : ℕ) (m : Master) → is_in m.used id ≡ true → refusal_of_join id m ≡ Some IdUsed
unfolding refusal_of_join
refused_used id m used = rw used

-- what isn't refused is new
pub new-number : (id : ℕ) (m : Master) → refusal_of_join id m ≡ None → is_in m.used id ≡ false
new-number id m none = elim (cases_Bool (is_in m.used id)) [
  | inl used ↦ absurd (some_none (sym (refused_used id m used) ∙ none))
  | inr new ↦ new
]
  where
    some_none : {A : Type 0} {x : A} → Some x ≡ None → ⊥
    some_none h = cc

-- ---- servers

joined-used : (id : ℕ) (m : Master) → (joined id m).master.used ≡ m.used ++ id ∷ []
unfolding joined
joined-used id m = refl

or_false : (b : Bool) → (b || false) ≡ b
or_false true = refl
or_false false = refl

-- one number more is used
used-more : (id : ℕ) (m : Master) (q : ℕ) → is_in (joined id m).master.used q ≡ (is_in m.used q || (id == q))
used-more id m q = ap (λ us. is_in us q) (joined-used id m) ∙ list_any-append (λ other. other == q) m.used (id ∷ []) ∙ ap (λ b. is_in m.used q || b) (or_false (id == q))

-- a new one's server is as one that joins
joins : (o : Option rust_server.Server) (s : Server) (outbox : Party → List Message) → IsKeptAs o false s outbox → (s ≡ joining) × ((to : Party) → outbox to ≡ [])
joins None s outbox h = (h.1, h.2)
joins (Some kept) s outbox h = absurd (false_true h.0)
  where
    false_true : false ≡ true → ⊥
    false_true h = cc

placed : (kept : rust_server.Server) (s : Server) (outbox : Party → List Message) → chain.StandsFor kept joining (λ _. []) → (s ≡ joining) × ((to : Party) → outbox to ≡ []) → chain.StandsFor kept s outbox
placed kept s outbox made h = subst (λ t. chain.StandsFor kept t outbox) (sym h.0) (subst (λ o. chain.StandsFor kept joining o) (λ i to. sym (h.1 to) i) made)

-- after the join
pub joined-stands : (old new : Sim) (w : World) (id : ℕ) (kept : rust_server.Server) → Holds old w → is_in w.master.used id ≡ false
    → ((q : ℕ) → server_at new.servers q ≡ cond (id == q) (Some kept) (server_at old.servers q)) → new.links ≡ old.links
    → chain.StandsFor kept joining (λ _. []) → chain.MasterStandsFor new.master (joined id w.master).master (posted (w.outbox parties.Master) (joined id w.master).said) → Holds new (ordered w (joined id w.master))
joined-stands old new w id kept h fresh is links made master = ordered-stands new w (joined id w.master) at
    (λ x y. subst (λ ls. chain.AllMean (messages_at ls x y) (w.link x y)) (sym links) (h.links x y)) master h.clients
  where
    at : (q : ℕ) → IsKeptAs (server_at new.servers q) (is_in (joined id w.master).master.used q) (w.server q) (w.outbox (parties.Server q))
    at q = subst (λ b. IsKeptAs (server_at new.servers q) b (w.server q) (w.outbox (parties.Server q))) (sym (used-more id w.master q))
        (subst (λ o. IsKeptAs o (is_in w.master.used q || (id == q)) (w.server q) (w.outbox (parties.Server q))) (sym (is q)) (by (id == q) refl))
      where
        by : (b : Bool) → (id == q) ≡ b → IsKeptAs (cond b (Some kept) (server_at old.servers q)) (is_in w.master.used q || b) (w.server q) (w.outbox (parties.Server q))
        by true own =
            let new_one : is_in w.master.used q ≡ false = ap (λ i. is_in w.master.used i) (sym (eqb-true id q own)) ∙ fresh in (
              or_true (is_in w.master.used q),
              placed kept (w.server q) (w.outbox (parties.Server q)) made
                  (joins (server_at old.servers q) (w.server q) (w.outbox (parties.Server q)) (subst (λ b. IsKeptAs (server_at old.servers q) b (w.server q) (w.outbox (parties.Server q))) new_one (h.servers q))),
            )
          where
            or_true : (b : Bool) → (b || true) ≡ true
            or_true true = refl
            or_true false = refl
        by false other = subst (λ b. IsKeptAs (server_at old.servers q) b (w.server q) (w.outbox (parties.Server q))) (sym (or_false (is_in w.master.used q))) (h.servers q)
