-- A server, or the master, takes the first message of a link.
use Rattle.std.proofs.Common.{◌≡◌, ℕ, ap, sym, refl, subst, true, false, List, [], ◌∷◌, drop, Some, None}
use Rattle.cq_base.specs.declared.party.Party.{Party}
use Rattle.cq_base.specs.declared.party.Party.TheVariants as parties
use Rattle.cq_chain.specs.declared.fault.WorldFault.{WorldFault}
use Rattle.cq_chain.specs.declared.message.Message as rust_message
use Rattle.cq_chain.specs.declared.server.Server as rust_server
use Rattle.cq_chain.specs.Faults.{IsRefusal}
use Rattle.cq_chain.specs.Masters.{hears}
use Rattle.cq_chain.specs.Messages.{Message}
use Rattle.cq_chain.specs.Refusals.{refusal_of_taking}
use Rattle.cq_chain.specs.Servers.{Server}
use Rattle.cq_chain.specs.Stands as chain
use Rattle.cq_chain.specs.Stands.{Means, AllMean, IsFirst, Does, Keeps, Orders}
use Rattle.cq_chain.specs.Steps.{takes}
use Rattle.cq_events.specs.Events.{refusal_of_take, after_take, without_first}
use Rattle.cq_world.specs.within.Kept.{messages_at}
use Rattle.cq_world.specs.Stands.{Holds}
use Rattle.cq_events.specs.Worlds.{World, is_in, set_pair}
use Rattle.cq_world.specs.declared.sim.Sim.{Sim}
use Rattle.cq_world.proofs.OfSim.Meanings.{all-drop}
use Rattle.cq_world.proofs.OfSim.Stands.{IsAt, stepped-stands, restands, links-set, ordered-same, hears-used}

pub true_false : true ≡ false → ⊥
true_false h = cc

-- A server that is kept was told the first message of a link.
pub record Took (old new : Sim) (w : World) (from to : Party) (id : ℕ) (x : rust_message.Message) (before after : rust_server.Server) : Type 0 where
  pub ends : to ≡ parties.Server id
  pub changed : IsAt old new id after
  pub holds : Holds old w
  pub there : is_in w.master.used id ≡ true
  pub stood : chain.StandsFor before (w.server id) (w.outbox (parties.Server id))
  pub first : IsFirst (Some x) (w.link from to)

-- it refused
refused_by : (w : World) (from to : Party) (id : ℕ) (x : rust_message.Message) (ms : List Message) (fault : WorldFault) → to ≡ parties.Server id → IsFirst (Some x) ms
    → ((m : Message) → Means x m → IsRefusal fault (refusal_of_taking from m (w.server id))) → IsRefusal fault (refusal_of_take w from to ms)
refused_by w from to id x [] fault is first refused = absurd first
refused_by w from to id x (m ∷ ms) fault is first refused = subst (λ p. IsRefusal fault (refusal_of_take w from p (m ∷ ms))) (sym is) (refused m first)

pub refused-by : (old new : Sim) (w : World) (from to : Party) (id : ℕ) (x : rust_message.Message) (before after : rust_server.Server) → Took old new w from to id x before after → (fault : WorldFault)
    → ((s : Server) (outbox : Party → List Message) (m : Message) → chain.StandsFor before s outbox → Means x m → IsRefusal fault (refusal_of_taking from m s)) → IsRefusal fault (refusal_of_take w from to (w.link from to))
refused-by old new w from to id x before after h fault refused = refused_by w from to id x (w.link from to) fault h.ends h.first (λ m means. refused (w.server id) (w.outbox (parties.Server id)) m h.stood means)

-- and is as it was
pub kept-stands : (old new : Sim) (w : World) (from to : Party) (id : ℕ) (x : rust_message.Message) (before after : rust_server.Server) → Took old new w from to id x before after → new.links ≡ old.links → Keeps before after → Holds new w
kept-stands old new w from to id x before after h links keeps = restands old new w id after h.changed links h.holds h.there (keeps (w.server id) (w.outbox (parties.Server id)) h.stood)

-- it took it, and the message left the link
took_stands : (old new : Sim) (w : World) (from to : Party) (id : ℕ) (x : rust_message.Message) (before after : rust_server.Server) → Took old new w from to id x before after
    → ((m : Message) → Means x m → (refusal_of_taking from m (w.server id) ≡ None) × Does before after (takes from m))
    → ((a b : Party) → AllMean (messages_at new.links a b) ((without_first w from to).link a b))
    → (ms : List Message) → IsFirst (Some x) ms → (refusal_of_take w from to ms ≡ None) × Holds new (after_take w from to ms)
took_stands old new w from to id x before after h does links [] first = absurd first
took_stands old new w from to id x before after h does links (m ∷ ms) first =
    let r = subst (λ p. (refusal_of_take w from p (m ∷ ms) ≡ None) × (((a b : Party) → AllMean (messages_at new.links a b) ((without_first w from p).link a b)) → Holds new (after_take w from p (m ∷ ms)))) (sym h.ends) (
      (does m first).0,
      λ ls. stepped-stands old new w (without_first w from (parties.Server id)) id after (takes from m (w.server id)) h.changed h.holds h.there refl refl refl ls
          ((does m first).1 (w.server id) (w.outbox (parties.Server id)) h.stood),
    ) in (r.0, r.1 links)

pub took-stands : (old new : Sim) (w : World) (from to : Party) (id : ℕ) (x : rust_message.Message) (before after : rust_server.Server) → Took old new w from to id x before after
    → ((s : Server) (outbox : Party → List Message) (m : Message) → chain.StandsFor before s outbox → Means x m → refusal_of_taking from m s ≡ None)
    → ((m : Message) → Means x m → Does before after (takes from m))
    → ((a b : Party) → messages_at new.links a b ≡ set_pair (messages_at old.links) from to (drop 1 (messages_at old.links from to)) a b)
    → (refusal_of_take w from to (w.link from to) ≡ None) × Holds new (after_take w from to (w.link from to))
took-stands old new w from to id x before after h ok does popped = took_stands old new w from to id x before after h
    (λ m means. (ok (w.server id) (w.outbox (parties.Server id)) m h.stood means, does m means))
    (links-set (messages_at old.links) (messages_at new.links) w.link from to (drop 1 (messages_at old.links from to)) (drop 1 (w.link from to)) popped (all-drop (messages_at old.links from to) (w.link from to) (h.holds.links from to)) h.holds.links)
    (w.link from to) h.first

-- ---- the master

-- it heard the first message, which left the link
heard_stands : (old new : Sim) (w : World) (from to : Party) (id : ℕ) (x : rust_message.Message) → from ≡ parties.Server id → to ≡ parties.Master → Holds old w → new.servers ≡ old.servers
    → ((m : Message) → Means x m → Orders old.master new.master (hears id m)) → ((a b : Party) → AllMean (messages_at new.links a b) ((without_first w from to).link a b))
    → (ms : List Message) → IsFirst (Some x) ms → (refusal_of_take w from to ms ≡ None) × Holds new (after_take w from to ms)
heard_stands old new w from to id x sender end h servers orders links [] first = absurd first
heard_stands old new w from to id x sender end h servers orders links (m ∷ ms) first =
    let r = subst (λ p. (refusal_of_take w p to (m ∷ ms) ≡ None) × (((a b : Party) → AllMean (messages_at new.links a b) ((without_first w p to).link a b)) → Holds new (after_take w p to (m ∷ ms)))) (sym sender)
    (subst (λ p. (refusal_of_take w (parties.Server id) p (m ∷ ms) ≡ None) × (((a b : Party) → AllMean (messages_at new.links a b) ((without_first w (parties.Server id) p).link a b)) → Holds new (after_take w (parties.Server id) p (m ∷ ms)))) (sym end) (
      refl,
      λ ls. ordered-same old new w (without_first w (parties.Server id) parties.Master) (hears id m w.master) servers (hears-used id m w.master) refl refl h ls (orders m first w.master (w.outbox parties.Master) h.master),
    )) in (r.0, r.1 links)

pub heard-stands : (old new : Sim) (w : World) (from to : Party) (id : ℕ) (x : rust_message.Message) → from ≡ parties.Server id → to ≡ parties.Master → Holds old w → new.servers ≡ old.servers
    → ((m : Message) → Means x m → Orders old.master new.master (hears id m))
    → ((a b : Party) → messages_at new.links a b ≡ set_pair (messages_at old.links) from to (drop 1 (messages_at old.links from to)) a b)
    → IsFirst (Some x) (w.link from to) → (refusal_of_take w from to (w.link from to) ≡ None) × Holds new (after_take w from to (w.link from to))
heard-stands old new w from to id x sender end h servers orders popped first = heard_stands old new w from to id x sender end h servers orders
    (links-set (messages_at old.links) (messages_at new.links) w.link from to (drop 1 (messages_at old.links from to)) (drop 1 (w.link from to)) popped (all-drop (messages_at old.links from to) (w.link from to) (h.links from to)) h.links)
    (w.link from to) first

-- it refuses none
pub heard-none : (w : World) (from to : Party) (x : rust_message.Message) (ms : List Message) → to ≡ parties.Master → IsFirst (Some x) ms → refusal_of_take w from to ms ≡ None
heard-none w from to x [] end first = absurd first
heard-none w from to x (m ∷ ms) end first = ap (λ p. refusal_of_take w from p (m ∷ ms)) end
