-- What the calls of a core tell of a node that keeps, for each party, the message that a full link handed back.
use Rattle.std.proofs.Common.{◌≡◌, ◌∙◌, ap, sym, refl, subst, cond, List, [], ◌∷◌, ◌++◌, drop, Bool, true, false, Option, Some, None}
use Rattle.cq_base.specs.declared.party.Party.{Party}
use Rattle.cq_chain.specs.declared.master.Master as rust_master
use Rattle.cq_chain.specs.declared.message.Message as rust
use Rattle.cq_chain.specs.declared.server.Server as rust_server
use Rattle.cq_chain.specs.Masters.{Master, Order}
use Rattle.cq_chain.specs.Messages.{Message}
use Rattle.cq_chain.specs.Parties.{same, addressed}
use Rattle.cq_chain.specs.Servers.{Server}
use Rattle.cq_chain.specs.Stands as chain
use Rattle.cq_chain.specs.Stands.{Means, IsFirst, posted, drained}
use Rattle.cq_chain.specs.Steps.{Step}
use Rattle.cq_events.specs.Actions.{CoreState, behind, Heads, Keeps, Puts, Steps, Orders}
use Rattle.cq_events.proofs.Parties.{same-true, same-turned}

-- what a core and what was handed back stand for, by what the core stands for
abbrev pub As : {C S : Type 0} → (C → S → (Party → List Message) → Type 0) → CoreState C → S → (Party → List Message) → Type 0
As holds a s outbox = holds a.core s (λ to. behind (a.back to) (outbox to)) × ((to : Party) → Heads (a.back to) (outbox to))

-- with that handed back for one party
abbrev pub set_back : (Party → Option rust.Message) → Party → Option rust.Message → Party → Option rust.Message
set_back back to o p = cond (same p to) o (back p)

-- ---- lists

behind_more : (o : Option rust.Message) (ms ns : List Message) → Heads o ms → behind o ms ++ ns ≡ behind o (ms ++ ns)
behind_more None ms ns h = refl
behind_more (Some x) [] ns h = absurd h
behind_more (Some x) (m ∷ ms) ns h = refl

heads_more : (o : Option rust.Message) (ms ns : List Message) → Heads o ms → Heads o (ms ++ ns)
heads_more None ms ns h = tt
heads_more (Some x) [] ns h = absurd h
heads_more (Some x) (m ∷ ms) ns h = h

-- ---- steps

-- at first nothing was handed back
pub as-first : {C S : Type 0} (holds : C → S → (Party → List Message) → Type 0) (core : C) (s : S) → holds core s (λ _. []) → As holds (record { core = core; back = λ _. None }) s (λ _. [])
as-first holds core s h = (h, λ to. tt)

-- a step of the core
as-step : {C S : Type 0} (holds : C → S → (Party → List Message) → Type 0) (old new : C) (back : Party → Option rust.Message) (s t : S) (sent : List (Party × Message))
    → ((outbox : Party → List Message) → holds old s outbox → holds new t (posted outbox sent)) → (outbox : Party → List Message) → As holds (record { core = old; back = back }) s outbox → As holds (record { core = new; back = back }) t (posted outbox sent)
as-step holds old new back s t sent does outbox h = (
  subst (holds new t) (λ i to. behind_more (back to) (outbox to) (addressed to sent) (h.1 to) i) (does (λ to. behind (back to) (outbox to)) h.0),
  λ to. heads_more (back to) (outbox to) (addressed to sent) (h.1 to),
)

pub server-step : (old new : rust_server.Server) (back : Party → Option rust.Message) (step : Server → Step) → chain.Does old new step → Steps (record { core = old; back = back }) (record { core = new; back = back }) step
server-step old new back step does s outbox h = as-step chain.StandsFor old new back s (step s).server (step s).sent (λ box. does s box) outbox h

pub master-order : (old new : rust_master.Master) (back : Party → Option rust.Message) (order : Master → Order) → chain.Orders old new order → Orders (record { core = old; back = back }) (record { core = new; back = back }) order
master-order old new back order does m outbox h = as-step chain.MasterStandsFor old new back m (order m).master (order m).said (λ box. does m box) outbox h

-- a call that changes nothing
pub as-kept : {C S : Type 0} (holds : C → S → (Party → List Message) → Type 0) (old new : C) (back : Party → Option rust.Message) → ((s : S) (outbox : Party → List Message) → holds old s outbox → holds new s outbox)
    → Keeps (As holds) (record { core = old; back = back }) (record { core = new; back = back })
as-kept holds old new back keeps s outbox h = (keeps s (λ to. behind (back to) (outbox to)) h.0, h.1)

-- ---- puts

-- a message left the core's outbox, and is kept
pub as-drawn : {C S : Type 0} (holds : C → S → (Party → List Message) → Type 0) (old new : C) (back : Party → Option rust.Message) (to : Party) (x : rust.Message) → back to ≡ None
    → ((s : S) (outbox : Party → List Message) → holds old s outbox → IsFirst (Some x) (outbox to)) → ((s : S) (outbox : Party → List Message) → holds old s outbox → holds new s (drained outbox to))
    → Keeps (As holds) (record { core = old; back = back }) (record { core = new; back = set_back back to (Some x) })
as-drawn {C} {S} holds old new back to x none first drawn s outbox h = (subst (holds new s) (λ i p. same_box p i) (drawn s box h.0), heads) where
  box : Party → List Message
  box p = behind (back p) (outbox p)

  whole : box to ≡ outbox to
  whole = ap (λ o. behind o (outbox to)) none

  same_box : (p : Party) → drained box to p ≡ behind (set_back back to (Some x) p) (outbox p)
  same_box p = ap (λ t. cond t (drop 1 (box p)) (box p)) (same-turned to p) ∙ go (same p to) refl where
    go : (t : Bool) → same p to ≡ t → cond t (drop 1 (box p)) (box p) ≡ behind (cond t (Some x) (back p)) (outbox p)
    go true e = subst (λ q. drop 1 (box q) ≡ drop 1 (outbox q)) (sym (same-true p to e)) (ap (drop 1) whole)
    go false e = refl

  heads : (p : Party) → Heads (set_back back to (Some x) p) (outbox p)
  heads p = go (same p to) refl where
    go : (t : Bool) → same p to ≡ t → Heads (cond t (Some x) (back p)) (outbox p)
    go true e = subst (λ q. IsFirst (Some x) (outbox q)) (sym (same-true p to e)) (subst (IsFirst (Some x)) whole (first s box h.0))
    go false e = h.1 p

-- what was kept is put
pub as-put : {C S : Type 0} (holds : C → S → (Party → List Message) → Type 0) (core : C) (back : Party → Option rust.Message) (to : Party) (x : rust.Message) → back to ≡ Some x
    → Puts (As holds) to x (record { core = core; back = back }) (record { core = core; back = set_back back to None })
as-put {C} {S} holds core back to x is s outbox h = (subst (λ o. Heads o (outbox to)) is (h.1 to), (subst (holds core s) (λ i p. same_box p i) h.0, heads)) where
  same_box : (p : Party) → behind (back p) (outbox p) ≡ behind (set_back back to None p) (drained outbox to p)
  same_box p = go (same p to) refl ∙ sym (ap (λ t. behind (set_back back to None p) (cond t (drop 1 (outbox p)) (outbox p))) (same-turned to p)) where
    go : (t : Bool) → same p to ≡ t → behind (back p) (outbox p) ≡ behind (cond t None (back p)) (cond t (drop 1 (outbox p)) (outbox p))
    go true e = subst (λ q. behind (back q) (outbox q) ≡ drop 1 (outbox q)) (sym (same-true p to e)) (ap (λ o. behind o (outbox to)) is)
    go false e = refl

  heads : (p : Party) → Heads (set_back back to None p) (drained outbox to p)
  heads p = subst (λ t. Heads (set_back back to None p) (cond t (drop 1 (outbox p)) (outbox p))) (sym (same-turned to p)) (go (same p to)) where
    go : (t : Bool) → Heads (cond t None (back p)) (cond t (drop 1 (outbox p)) (outbox p))
    go true = tt
    go false = h.1 p
