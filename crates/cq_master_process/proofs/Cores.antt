-- What the calls of the core are, as actions.
use Rattle.std.proofs.Common.{◌≡◌, ◌∙◌, ℕ, ap, sym, refl, subst, cond, List, [], ◌∷◌, ◌++◌, drop, map, Bool, true, false, None}
use Rattle.cq_base.specs.declared.party.Party.{Party}
use Rattle.cq_base.specs.declared.party.Party.TheVariants as parties
use Rattle.cq_chain.specs.declared.master.Master as rust_master
use Rattle.cq_chain.specs.declared.message.Message as rust
use Rattle.cq_chain.specs.Masters.{Master, hears, detected, joined, refusal_of_detection, refusal_of_join}
use Rattle.cq_chain.specs.Messages.{Message}
use Rattle.cq_chain.specs.Parties.{same}
use Rattle.cq_chain.specs.Stands as chain
use Rattle.cq_chain.specs.Stands.{KeepsMaster, MasterStandsFor, Means, drained}
use Rattle.cq_events.specs.Actions.{Put, Took, Detected, Joined, CoreState, IsMasterAs}
use Rattle.cq_events.specs.Actions as actions
use Rattle.cq_events.specs.Acts.{MasterActs}
use Rattle.cq_events.proofs.Parties.{same-true}
use Rattle.cq_master_process.specs.Cores.{Acts, alone}
use Rattle.cq_master_process.specs.Putting.{Sent, action_of}
use Rattle.cq_master_process.specs.within.Telling.{IsEmptyFor, IsFirstFor}

-- a core that keeps all that it stood for
pub keeps-alone : (a b : rust_master.Master) → KeepsMaster a b → actions.Keeps IsMasterAs (alone a) (alone b)
keeps-alone a b keeps = λ m outbox h. (keeps m outbox h.0, λ p. tt)

-- it took a message, whatever it means
pub took-alone : (a b : rust_master.Master) (from : ℕ) (x : rust.Message) → ((m : Message) → Means x m → chain.Orders a b (hears from m)) → Acts (Took (parties.Server from) x) a b
took-alone a b from x does = (λ m means s outbox h. (does m means s outbox h.0, λ p. tt), tt)

-- a detection and a join that weren't refused
pub detected-alone : (a b : rust_master.Master) (id : ℕ) → chain.Orders a b (detected id) → ((m : Master) (outbox : Party → List Message) → MasterStandsFor a m outbox → refusal_of_detection id m ≡ None) → Acts (Detected id) a b
detected-alone a b id does free = (λ m outbox h. (does m outbox h.0, λ p. tt), λ m outbox h. free m outbox h.0)

pub joined-alone : (a b : rust_master.Master) (id : ℕ) → chain.Orders a b (joined id) → ((m : Master) (outbox : Party → List Message) → MasterStandsFor a m outbox → refusal_of_join id m ≡ None) → Acts (Joined id) a b
joined-alone a b id does free = (λ m outbox h. (does m outbox h.0, λ p. tt), λ m outbox h. free m outbox h.0)

-- its outbox gave its first message
pub put-alone : (a b : rust_master.Master) (to : ℕ) (x : rust.Message) → IsFirstFor a to x
    → ((m : Master) (outbox : Party → List Message) → MasterStandsFor a m outbox → MasterStandsFor b m (drained outbox (parties.Server to))) → Acts (Put (parties.Server to) x) a b
put-alone a b to x first drawn = (λ m outbox h. (first m outbox h.0, (drawn m outbox h.0, λ p. tt)), tt)

-- an outbox in which nothing waits is as it was
same-box : (to : Party) (box : Party → List Message) → box to ≡ [] → (p : Party) → drained box to p ≡ box p
same-box to box empty p = go (same to p) refl where
  go : (t : Bool) → same to p ≡ t → cond t (drop 1 (box p)) (box p) ≡ box p
  go true e = subst (λ q. drop 1 (box q) ≡ box q) (same-true to p e) (ap (drop 1) empty ∙ sym empty)
  go false e = refl

-- or it gave none
pub none-drawn : (a b : rust_master.Master) (to : ℕ) → IsEmptyFor a to
    → ((m : Master) (outbox : Party → List Message) → MasterStandsFor a m outbox → MasterStandsFor b m (drained outbox (parties.Server to))) → KeepsMaster a b
none-drawn a b to empty drawn m outbox h = subst (MasterStandsFor b m) (λ i p. same-box (parties.Server to) outbox (empty m outbox h) p i) (drawn m outbox h)

-- ---- puts one after another

pub acts-both : (xs ys : List Sent) (a b c : CoreState rust_master.Master) → MasterActs a (map action_of xs) b → MasterActs b (map action_of ys) c → MasterActs a (map action_of (xs ++ ys)) c
acts-both [] [] a b c h k = λ m outbox i. k m outbox (h m outbox i)
acts-both [] (y ∷ ys) a b c h k = (k.0, ((λ m outbox i. k.1.0 m outbox (h m outbox i)), tt), k.2)
acts-both (x ∷ xs) ys a b c h k = (h.0, h.1, acts-both xs ys h.0 b c h.2 k)

pub acts-kept : (xs : List Sent) (a b c : CoreState rust_master.Master) → MasterActs a (map action_of xs) b → actions.Keeps IsMasterAs b c → MasterActs a (map action_of xs) c
acts-kept [] a b c h k = λ m outbox i. k m outbox (h m outbox i)
acts-kept (x ∷ xs) a b c h k = (h.0, h.1, acts-kept xs h.0 b c h.2 k)
