-- Moves of a server's node, by the calls of its core.
use Rattle.std.proofs.Common.{◌≡◌, ◌∙◌, ap, sym, refl, subst, cond, List, [], drop, Bool, true, false, Option, Some, None, Result, Ok, Err, OnOk}
use Rattle.cq_base.specs.declared.party.Party.{Party}
use Rattle.cq_chain.specs.declared.message.Message as rust
use Rattle.cq_chain.specs.declared.server.Server as rust_server
use Rattle.cq_chain.specs.Messages.{Message}
use Rattle.cq_chain.specs.Parties.{same}
use Rattle.cq_chain.specs.Servers.{Server}
use Rattle.cq_chain.specs.Stands as chain
use Rattle.cq_chain.specs.Stands.{Means, IsFirst, drained}
use Rattle.cq_chain.specs.Refusals.{refusal_of_taking}
use Rattle.cq_chain.specs.Steps.{takes}
use Rattle.cq_events.specs.Acts.{Acts}
use Rattle.cq_nodes.specs.Ends.{with_back}
use Rattle.cq_nodes.specs.Moves.{Passes, TakesOne}
use Rattle.cq_events.specs.Actions.{Put, StandsAs, Keeps, Does, behind}
use Rattle.cq_nodes.proofs.ActionRuns.{does-after, server-put, server-drawn, server-took}
use Rattle.cq_events.proofs.Parties.{same-true, same-refl}

-- what was handed back stays so
pub back_same : (back : Party → Option rust.Message) (to : Party) (o : Option rust.Message) → back to ≡ o → (p : Party) → back p ≡ with_back back to o p
back_same back to o is p = go (same p to) refl where
  go : (t : Bool) → same p to ≡ t → back p ≡ cond t o (back p)
  go true e = ap back (same-true p to e) ∙ is
  go false e = refl

pub passes-kept : (core : rust_server.Server) (back : Party → Option rust.Message) (to : Party) (o : Option rust.Message) → back to ≡ o → Passes core core back to o
passes-kept core back to o is = subst (λ bk. Keeps StandsAs (record { core = core; back = back }) (record { core = core; back = bk })) (λ i p. back_same back to o is p i) (λ s outbox h. h)

-- the core's outbox gave its first message, or has none
pub passes-drawn : (old new : rust_server.Server) (back : Party → Option rust.Message) (to : Party) (o : Option rust.Message) → back to ≡ None
    → ((s : Server) (outbox : Party → List Message) → chain.StandsFor old s outbox → IsFirst o (outbox to)) → ((s : Server) (outbox : Party → List Message) → chain.StandsFor old s outbox → chain.StandsFor new s (drained outbox to)) → Passes old new back to o
passes-drawn old new back to (Some x) none first drawn = server-drawn old new back to x none first drawn
passes-drawn old new back to None none first drawn = λ s outbox h.
    let box : Party → List Message = λ p. behind (back p) (outbox p) in
    passes-kept new back to None none s outbox (subst (chain.StandsFor new s) (λ i p. same_box s box (first s box h.0) p i) (drawn s box h.0), h.1)
  where
    same_box : (s : Server) (box : Party → List Message) → box to ≡ [] → (p : Party) → drained box to p ≡ box p
    same_box s box empty p = go (same to p) refl where
      go : (t : Bool) → same to p ≡ t → cond t (drop 1 (box p)) (box p) ≡ box p
      go true e = subst (λ q. drop 1 (box q) ≡ box q) (same-true to p e) (ap (drop 1) empty ∙ sym empty)
      go false e = refl

-- a first message was put
put-does : (old new : rust_server.Server) (back : Party → Option rust.Message) (to : Party) (m : rust.Message) → Passes old new back to (Some m)
    → Does (Put to m) (record { core = old; back = back }) (record { core = new; back = with_back back to None })
put-does old new back to m passes = does-after (Put to m) (record { core = old; back = back }) (record { core = new; back = with_back back to (Some m) }) (record { core = new; back = with_back back to None }) passes
    (subst (λ bk. Does (Put to m) (record { core = new; back = with_back back to (Some m) }) (record { core = new; back = bk })) (λ i p. twice p i) (server-put new (with_back back to (Some m)) to m here))
  where
    here : with_back back to (Some m) to ≡ Some m
    here = ap (λ t. cond t (Some m) (back to)) (same-refl to)

    twice : (p : Party) → with_back (with_back back to (Some m)) to None p ≡ with_back back to None p
    twice p = go (same p to) where
      go : (t : Bool) → cond t None (cond t (Some m) (back p)) ≡ cond t None (back p)
      go true = refl
      go false = refl

pub put-done : (old new : rust_server.Server) (back : Party → Option rust.Message) (to : Party) (m : rust.Message) → Passes old new back to (Some m)
    → Acts (Put to m) (record { core = old; back = back }) (record { core = new; back = with_back back to None })
put-done old new back to m passes = (put-does old new back to m passes, tt)

-- a core took a message, whatever it means, and didn't refuse it
pub took-done : {E : Type 0} (old new : rust_server.Server) (back : Party → Option rust.Message) (from : Party) (x : rust.Message) (r : Result (Unit {0}) E) → ((m : Message) → Means x m → OnOk r (chain.Does old new (takes from m)))
    → ((s : Server) (outbox : Party → List Message) (m : Message) → chain.StandsFor old s outbox → Means x m → OnOk r (refusal_of_taking from m s ≡ None)) → OnOk r (TakesOne old new back from x)
took-done old new back from x (Ok u) h free = server-took old new back from x h (λ m means s outbox stands. free s outbox m stands means)
took-done old new back from x (Err e) h free = tt
