-- What the calls of a core tell of a process that holds, for each party, the message that is being written.
use Rattle.std.proofs.Common.{◌≡◌, ℕ, ◌∙◌, ap, sym, refl, subst, cond, List, [], ◌∷◌, ◌++◌, drop, Bool, true, false, Option, Some, None, Result, Ok, Err, OnOk}
use Rattle.cq_base.specs.declared.ask.Query.{Query}
use Rattle.cq_base.specs.declared.ask.Request.{Request}
use Rattle.cq_base.specs.declared.party.Party.{Party}
use Rattle.cq_chain.specs.declared.fault.WorldFault.{WorldFault}
use Rattle.cq_chain.specs.declared.message.Message as rust
use Rattle.cq_chain.specs.declared.server.Server as rust_server
use Rattle.cq_chain.specs.Messages.{Message}
use Rattle.cq_chain.specs.Parties.{same, addressed}
use Rattle.cq_chain.specs.Refusals.{refusal_of_arrival, refusal_of_query, refusal_of_taking}
use Rattle.cq_chain.specs.Servers.{Server}
use Rattle.cq_chain.specs.Stands as chain
use Rattle.cq_chain.specs.Stands.{Means, IsFirst, IsRefusedBy, drained}
use Rattle.cq_chain.specs.Steps.{Step, arrived, asked, takes}
use Rattle.cq_events.specs.Actions.{Arrived, Asked, Put, behind, Heads, StandsAs, Steps, Keeps}
use Rattle.cq_events.specs.Acts.{Acts}
use Rattle.cq_events.proofs.Parties.{same-true, same-refl, same-turned}
use Rattle.cq_process.specs.Asking.{ActsBeside}
use Rattle.cq_process.specs.Putting.{with_back, Passes}
use Rattle.cq_process.specs.Taking.{TakesOne}

behind_more : (o : Option rust.Message) (ms ns : List Message) → Heads o ms → behind o ms ++ ns ≡ behind o (ms ++ ns)
behind_more None ms ns h = refl
behind_more (Some x) [] ns h = absurd h
behind_more (Some x) (m ∷ ms) ns h = refl

heads_more : (o : Option rust.Message) (ms ns : List Message) → Heads o ms → Heads o (ms ++ ns)
heads_more None ms ns h = tt
heads_more (Some x) [] ns h = absurd h
heads_more (Some x) (m ∷ ms) ns h = h

-- a step of the core
step-done : (old new : rust_server.Server) (back : Party → Option rust.Message) (step : Server → Step) → chain.Does old new step → Steps (record { core = old; back = back }) (record { core = new; back = back }) step
step-done old new back step does s outbox h = (
  subst (chain.StandsFor new (step s).server) (λ i to. behind_more (back to) (outbox to) (addressed to (step s).sent) (h.1 to) i) (does s (λ to. behind (back to) (outbox to)) h.0),
  λ to. heads_more (back to) (outbox to) (addressed to (step s).sent) (h.1 to),
)

-- a core took a message, whatever it means, and didn't refuse it
pub took-done : {E : Type 0} (old new : rust_server.Server) (back : Party → Option rust.Message) (from : Party) (x : rust.Message) (r : Result (Unit {0}) E) → ((m : Message) → Means x m → OnOk r (chain.Does old new (takes from m)))
    → ((s : Server) (outbox : Party → List Message) (m : Message) → chain.StandsFor old s outbox → Means x m → OnOk r (refusal_of_taking from m s ≡ None)) → OnOk r (TakesOne old new back from x)
took-done old new back from x (Ok u) h free = (λ m means. step-done old new back (takes from m) (h m means), λ m means s outbox i. free s (λ to. behind (back to) (outbox to)) m i.0 means)
took-done old new back from x (Err e) h free = tt

-- ---- requests and queries

pub arrived-done : (old new : rust_server.Server) (back : Party → Option rust.Message) (clock : ℕ) (request : Request) (r : Result (Unit {0}) WorldFault) → OnOk r (chain.Does old new (arrived clock request))
    → ((s : Server) (outbox : Party → List Message) → chain.StandsFor old s outbox → IsRefusedBy (refusal_of_arrival s) r) → OnOk r (ActsBeside (Arrived clock request) old new back)
arrived-done old new back clock request (Ok u) h free = (step-done old new back (arrived clock request) h, λ s outbox i. free s (λ to. behind (back to) (outbox to)) i.0)
arrived-done old new back clock request (Err e) h free = tt

pub asked-done : (old new : rust_server.Server) (back : Party → Option rust.Message) (query : Query) (r : Result (Unit {0}) WorldFault) → OnOk r (chain.Does old new (asked query))
    → ((s : Server) (outbox : Party → List Message) → chain.StandsFor old s outbox → IsRefusedBy (refusal_of_query s) r) → OnOk r (ActsBeside (Asked query) old new back)
asked-done old new back query (Ok u) h free = (step-done old new back (asked query) h, λ s outbox i. free s (λ to. behind (back to) (outbox to)) i.0)
asked-done old new back query (Err e) h free = tt

-- ---- puts

-- what is held stays so
back_same : (back : Party → Option rust.Message) (to : Party) (o : Option rust.Message) → back to ≡ o → (p : Party) → back p ≡ with_back back to o p
back_same back to o is p = go (same p to) refl where
  go : (t : Bool) → same p to ≡ t → back p ≡ cond t o (back p)
  go true e = ap back (same-true p to e) ∙ is
  go false e = refl

pub passes-kept : (core : rust_server.Server) (back : Party → Option rust.Message) (to : Party) (o : Option rust.Message) → back to ≡ o → Passes core core back to o
passes-kept core back to o is = subst (λ bk. Keeps StandsAs (record { core = core; back = back }) (record { core = core; back = bk })) (λ i p. back_same back to o is p i) (λ s outbox h. h)

-- a message left the core's outbox, and is held
message-drawn : (old new : rust_server.Server) (back : Party → Option rust.Message) (to : Party) (x : rust.Message) → back to ≡ None
    → ((s : Server) (outbox : Party → List Message) → chain.StandsFor old s outbox → IsFirst (Some x) (outbox to)) → ((s : Server) (outbox : Party → List Message) → chain.StandsFor old s outbox → chain.StandsFor new s (drained outbox to))
    → Passes old new back to (Some x)
message-drawn old new back to x none first drawn s outbox h = (subst (chain.StandsFor new s) (λ i p. same_box p i) (drawn s box h.0), heads) where
  box : Party → List Message
  box p = behind (back p) (outbox p)

  whole : box to ≡ outbox to
  whole = ap (λ o. behind o (outbox to)) none

  same_box : (p : Party) → drained box to p ≡ behind (with_back back to (Some x) p) (outbox p)
  same_box p = ap (λ t. cond t (drop 1 (box p)) (box p)) (same-turned to p) ∙ go (same p to) refl where
    go : (t : Bool) → same p to ≡ t → cond t (drop 1 (box p)) (box p) ≡ behind (cond t (Some x) (back p)) (outbox p)
    go true e = subst (λ q. drop 1 (box q) ≡ drop 1 (outbox q)) (sym (same-true p to e)) (ap (drop 1) whole)
    go false e = refl

  heads : (p : Party) → Heads (with_back back to (Some x) p) (outbox p)
  heads p = go (same p to) refl where
    go : (t : Bool) → same p to ≡ t → Heads (cond t (Some x) (back p)) (outbox p)
    go true e = subst (λ q. IsFirst (Some x) (outbox q)) (sym (same-true p to e)) (subst (IsFirst (Some x)) whole (first s box h.0))
    go false e = h.1 p

-- the core's outbox gave its first message, or has none
pub passes-drawn : (old new : rust_server.Server) (back : Party → Option rust.Message) (to : Party) (o : Option rust.Message) → back to ≡ None
    → ((s : Server) (outbox : Party → List Message) → chain.StandsFor old s outbox → IsFirst o (outbox to)) → ((s : Server) (outbox : Party → List Message) → chain.StandsFor old s outbox → chain.StandsFor new s (drained outbox to)) → Passes old new back to o
passes-drawn old new back to (Some x) none first drawn = message-drawn old new back to x none first drawn
passes-drawn old new back to None none first drawn = λ s outbox h.
    let box : Party → List Message = λ p. behind (back p) (outbox p) in
    passes-kept new back to None none s outbox (subst (chain.StandsFor new s) (λ i p. same_box s box (first s box h.0) p i) (drawn s box h.0), h.1)
  where
    same_box : (s : Server) (box : Party → List Message) → box to ≡ [] → (p : Party) → drained box to p ≡ box p
    same_box s box empty p = go (same to p) refl where
      go : (t : Bool) → same to p ≡ t → cond t (drop 1 (box p)) (box p) ≡ box p
      go true e = subst (λ q. drop 1 (box q) ≡ box q) (same-true to p e) (ap (drop 1) empty ∙ sym empty)
      go false e = refl

-- what was held is put
held-put : (core : rust_server.Server) (back : Party → Option rust.Message) (to : Party) (x : rust.Message) → back to ≡ Some x → (s : Server) (outbox : Party → List Message) → StandsAs (record { core = core; back = back }) s outbox
    → IsFirst (Some x) (outbox to) × StandsAs (record { core = core; back = with_back back to None }) s (drained outbox to)
held-put core back to x is s outbox h = (subst (λ o. Heads o (outbox to)) is (h.1 to), (subst (chain.StandsFor core s) (λ i p. same_box p i) h.0, heads)) where
  same_box : (p : Party) → behind (back p) (outbox p) ≡ behind (with_back back to None p) (drained outbox to p)
  same_box p = go (same p to) refl ∙ sym (ap (λ t. behind (with_back back to None p) (cond t (drop 1 (outbox p)) (outbox p))) (same-turned to p)) where
    go : (t : Bool) → same p to ≡ t → behind (back p) (outbox p) ≡ behind (cond t None (back p)) (cond t (drop 1 (outbox p)) (outbox p))
    go true e = subst (λ q. behind (back q) (outbox q) ≡ drop 1 (outbox q)) (sym (same-true p to e)) (ap (λ o. behind o (outbox to)) is)
    go false e = refl

  heads : (p : Party) → Heads (with_back back to None p) (drained outbox to p)
  heads p = subst (λ t. Heads (with_back back to None p) (cond t (drop 1 (outbox p)) (outbox p))) (sym (same-turned to p)) (go (same p to)) where
    go : (t : Bool) → Heads (cond t None (back p)) (cond t (drop 1 (outbox p)) (outbox p))
    go true = tt
    go false = h.1 p

-- a first message was put
pub put-done : (old new : rust_server.Server) (back : Party → Option rust.Message) (to : Party) (m : rust.Message) → Passes old new back to (Some m)
    → Acts (Put to m) (record { core = old; back = back }) (record { core = new; back = with_back back to None })
put-done old new back to m passes = ((λ s outbox h. subst (λ bk. IsFirst (Some m) (outbox to) × StandsAs (record { core = new; back = bk }) s (drained outbox to)) (λ i p. twice p i) (held-put new (with_back back to (Some m)) to m here s outbox (passes s outbox h))), tt)
  where
    here : with_back back to (Some m) to ≡ Some m
    here = ap (λ t. cond t (Some m) (back to)) (same-refl to)

    twice : (p : Party) → with_back (with_back back to (Some m)) to None p ≡ with_back back to None p
    twice p = go (same p to) where
      go : (t : Bool) → cond t None (cond t (Some m) (back p)) ≡ cond t None (back p)
      go true = refl
      go false = refl
