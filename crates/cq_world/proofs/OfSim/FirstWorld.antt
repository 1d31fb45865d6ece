-- The first world, one server after the other.
use Rattle.std.proofs.Common.{◌≡◌, ℕ, zero, suc, ◌+◌, ◌∙◌, ◌==◌, ap, sym, refl, subst, Bool, true, false, ◌||◌, [], ◌∷◌, Option, Some, None, cond, inl, inr, arith, if◌then◌else◌}
use Rattle.std.proofs.lemmas.Bool.{cases_Bool, eqb-true}
use Rattle.cq_base.specs.declared.party.Party.{Party}
use Rattle.cq_chain.specs.declared.server.Server as rust_server
use Rattle.cq_chain.specs.Masters.{first_master}
use Rattle.cq_chain.specs.Servers.{first_member, joining}
use Rattle.cq_chain.specs.Stands as chain
use Rattle.cq_world.specs.within.Kept.{server_at, messages_at}
use Rattle.cq_world.specs.Stands.{IsKeptAs, StandsFor}
use Rattle.cq_events.specs.Worlds.{is_in, numbers_from, first_world}
use Rattle.cq_world.specs.declared.sim.Sim.{Sim}
use Rattle.cq_world.proofs.OfSim.Stands.{stands}

-- ---- numbers

from-none : (k : ℕ) → numbers_from k 0 ≡ []
unfolding numbers_from
from-none k = refl

from-one : (k n : ℕ) → numbers_from k (suc n) ≡ k ∷ numbers_from (k + 1) n
unfolding numbers_from
from-one k n = refl

or_assoc : (a b c : Bool) → (a || (b || c)) ≡ ((a || b) || c)
or_assoc true b c = refl
or_assoc false b c = refl

or_false : (a : Bool) → (a || false) ≡ a
or_false true = refl
or_false false = refl

-- one number more is the next one
is_in-more : (k n id : ℕ) → is_in (numbers_from k (suc n)) id ≡ (is_in (numbers_from k n) id || (n + k == id))
is_in-more k zero id =
    let same : 0 + k ≡ k = omega arith in
    ap (λ xs. is_in xs id) (from-one k 0 ∙ ap (λ xs. k ∷ xs) (from-none (k + 1))) ∙ or_false (k == id)
    ∙ sym (ap (λ xs. is_in xs id || (0 + k == id)) (from-none k) ∙ ap (λ j. j == id) same)
is_in-more k (suc n) id =
    let same : n + (k + 1) ≡ suc n + k = omega arith in
    ap (λ xs. is_in xs id) (from-one k (suc n)) ∙ ap (λ b. (k == id) || b) (is_in-more (k + 1) n id)
    ∙ or_assoc (k == id) (is_in (numbers_from (k + 1) n) id) (n + (k + 1) == id)
    ∙ ap (λ j. ((k == id) || is_in (numbers_from (k + 1) n) id) || (j == id)) same
    ∙ ap (λ xs. is_in xs id || (suc n + k == id)) (sym (from-one k n))

-- ---- servers

-- what is kept of a server's number, where that is whether it is one of the first
abbrev pub IsPlaced : ℕ → Option rust_server.Server → Bool → ℕ → Type 0
IsPlaced size o b id = IsKeptAs o b (if b then first_member size id else joining) (λ _. [])

-- so many servers are kept, as they stand at first
abbrev pub IsExtended : ℕ → ℕ → (ℕ → Option rust_server.Server) → Type 0
IsExtended size n f = (id : ℕ) → IsPlaced size (f id) (is_in (numbers_from 1 n) id) id

-- none
pub no-extended : (size : ℕ) (f : ℕ → Option rust_server.Server) → ((id : ℕ) → f id ≡ None) → IsExtended size 0 f
no-extended size f none id = subst (λ o. IsPlaced size o (is_in (numbers_from 1 0) id) id) (sym (none id)) (subst (λ b. IsPlaced size None b id) (sym (ap (λ xs. is_in xs id) (from-none 1))) (refl, refl, λ to. refl))

-- one more
pub more-extended : (size n id : ℕ) (f g : ℕ → Option rust_server.Server) (kept : rust_server.Server) → id ≡ n + 1 → IsExtended size n f
    → ((q : ℕ) → g q ≡ cond (id == q) (Some kept) (f q)) → chain.StandsFor kept (first_member size id) (λ _. []) → IsExtended size (n + 1) g
more-extended size n id f g kept own h is made q =
    let next : n + 1 ≡ suc n = omega arith in
    let now = ap (λ m. is_in (numbers_from 1 m) q) next ∙ is_in-more 1 n q ∙ ap (λ j. is_in (numbers_from 1 n) q || (j == q)) (sym own) in
    elim (cases_Bool (id == q)) [
      | inl same ↦ subst (λ o. IsPlaced size o (is_in (numbers_from 1 (n + 1)) q) q) (sym (is q ∙ ap (λ b. cond b (Some kept) (f q)) same))
          (subst (λ b. IsPlaced size (Some kept) b q) (sym (now ∙ ap (λ b. is_in (numbers_from 1 n) q || b) same ∙ or_true (is_in (numbers_from 1 n) q)))
          (refl, subst (λ j. chain.StandsFor kept (first_member size j) (λ _. [])) (eqb-true id q same) made))
      | inr other ↦ subst (λ o. IsPlaced size o (is_in (numbers_from 1 (n + 1)) q) q) (sym (is q ∙ ap (λ b. cond b (Some kept) (f q)) other))
          (subst (λ b. IsPlaced size (f q) b q) (sym (now ∙ ap (λ b. is_in (numbers_from 1 n) q || b) other ∙ or_false (is_in (numbers_from 1 n) q))) (h q))
    ]
  where
    or_true : (a : Bool) → (a || true) ≡ true
    or_true true = refl
    or_true false = refl

-- all of them, and no messages
pub first-stands : (sim : Sim) (size : ℕ) → IsExtended size size (λ id. server_at sim.servers id) → ((from to : Party) → messages_at sim.links from to ≡ []) → chain.MasterStandsFor sim.master (first_master size) (λ _. []) → StandsFor sim (first_world size)
unfolding first_world
first-stands sim size extended none master = stands sim (first_world size) (record {
  servers = extended;
  links = λ from to. subst (λ ms. chain.AllMean ms []) (sym (none from to)) tt;
  master = master;
  clients = λ to. refl;
})
