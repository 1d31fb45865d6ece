-- When two parties are the same.
use Rattle.std.proofs.Common.{◌≡◌, ℕ, ◌∙◌, ap, sym, refl, subst, cond, List, Bool, true, false, ◌&&◌, ◌==◌, inl, inr}
use Rattle.std.proofs.lemmas.Bool.{eqb-true, eqb-false, eq-eqb, ne_eqb, cases_Bool, and_parts}
use Rattle.cq_base.specs.declared.party.Party.{Party}
use Rattle.cq_base.specs.declared.party.Party.TheVariants.{Master, Clients, Server}
use Rattle.cq_chain.specs.Messages.{Message}
use Rattle.cq_chain.specs.Parties.{same}
use Rattle.cq_events.specs.Worlds.{set_pair}

pub same-true : (a b : Party) → same a b ≡ true → a ≡ b
same-true Master Master h = refl
same-true Master Clients h = absurd cc
same-true Master (Server b) h = absurd cc
same-true Clients Master h = absurd cc
same-true Clients Clients h = refl
same-true Clients (Server b) h = absurd cc
same-true (Server a) Master h = absurd cc
same-true (Server a) Clients h = absurd cc
same-true (Server a) (Server b) h = ap Server (eqb-true a b h)

pub same-refl : (a : Party) → same a a ≡ true
same-refl Master = refl
same-refl Clients = refl
same-refl (Server a) = eq-eqb a a refl

-- both, of two tests
pub both : (a b : Bool) → (a && b) ≡ true → (a ≡ true) × (b ≡ true)
both true b h = (refl, h)
both false b h = absurd cc

-- a link's ends are the same as its own
pub same-pair : (x y : Party) → (same x x && same y y) ≡ true
same-pair x y = ap (λ b. b && same y y) (same-refl x) ∙ same-refl y

pub eqb-turned : (a b : ℕ) → (a == b) ≡ (b == a)
eqb-turned a b = elim (cases_Bool (a == b)) [
  | inl e ↦ e ∙ sym (eq-eqb b a (sym (eqb-true a b e)))
  | inr e ↦ e ∙ sym (ne_eqb b a (λ k. eqb-false a b e (sym k)))
]

pub same-turned : (a b : Party) → same a b ≡ same b a
same-turned Master Master = refl
same-turned Master Clients = refl
same-turned Master (Server b) = refl
same-turned Clients Master = refl
same-turned Clients Clients = refl
same-turned Clients (Server b) = refl
same-turned (Server a) Master = refl
same-turned (Server a) Clients = refl
same-turned (Server a) (Server b) = eqb-turned a b

-- what is the same but from one party to one other
pub by_pair : (P : Party → Party → List Message → Type 0) (f : Party → Party → List Message) (from to : Party) (ms : List Message) → P from to ms → ((x y : Party) → P x y (f x y)) → (x y : Party) → P x y (set_pair f from to ms x y)
by_pair P f from to ms own others x y = go (same x from && same y to) refl where
  go : (t : Bool) → (same x from && same y to) ≡ t → P x y (cond t ms (f x y))
  go true e = let both = and_parts (same x from) (same y to) e in subst (λ z. P z y ms) (sym (same-true x from both.0)) (subst (λ z. P from z ms) (sym (same-true y to both.1)) own)
  go false e = others x y
