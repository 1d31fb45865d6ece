-- Deeds are actions of the core.
use Rattle.std.proofs.Common.{◌≡◌, ◌∙◌, ap, sym, refl, subst, cond, List, [], ◌∷◌, ◌++◌, Bool, true, false, Option, Some, None}
use Rattle.cq_base.specs.declared.party.Party.{Party}
use Rattle.cq_chain.specs.declared.message.Message as rust
use Rattle.cq_chain.specs.declared.server.Server as rust_server
use Rattle.cq_chain.specs.Parties.{same}
use Rattle.cq_chain.specs.Stands as chain
use Rattle.cq_events.specs.Actions.{Action, Arrived, Asked, Put, Took, Crashed, Detected, Joined, CoreState, StandsAs, Keeps, Does, behind}
use Rattle.cq_events.specs.Acts.{Admits, Acts, ServerActs}
use Rattle.cq_events.proofs.Parties.{same-true, same-turned}
use Rattle.cq_process.specs.Links.{ChangesOnly, held_at, held_by}
use Rattle.cq_process.specs.Outgoing.{End}
use Rattle.cq_process.specs.Putting.{with_back}
use Rattle.cq_process_laws.specs.Deeds.{Acted, Came, Deed, Ended, Lost, Missed, Read, Rested, Threw, Told, actions_in, actions_of}
use Rattle.cq_process_laws.proofs.Moments.{Did, DidAll, Now, core_now}

-- ---- actions one after another

-- an action behind a call that changed nothing
does-after : (d : Action) (a b c : CoreState rust_server.Server) → Keeps StandsAs a b → Does d b c → Does d a c
does-after (Arrived clock request) a b c k h = λ s outbox i. h s outbox (k s outbox i)
does-after (Asked query) a b c k h = λ s outbox i. h s outbox (k s outbox i)
does-after (Put to x) a b c k h = λ s outbox i. h s outbox (k s outbox i)
does-after (Took from x) a b c k h = λ m means s outbox i. h m means s outbox (k s outbox i)
does-after (Crashed count) a b c k h = (λ s outbox i. h.0 s outbox (k s outbox i), λ s outbox i. h.1 s outbox (k s outbox i))
does-after (Detected id) a b c k h = h
does-after (Joined id) a b c k h = h

-- so it is with what wasn't refused
admits-after : (d : Action) (a b : CoreState rust_server.Server) → Keeps StandsAs a b → Admits d b → Admits d a
admits-after (Arrived clock request) a b k h = λ s outbox i. h s outbox (k s outbox i)
admits-after (Asked query) a b k h = λ s outbox i. h s outbox (k s outbox i)
admits-after (Put to x) a b k h = tt
admits-after (Took from x) a b k h = λ m means s outbox i. h m means s outbox (k s outbox i)
admits-after (Crashed count) a b k h = tt
admits-after (Detected id) a b k h = tt
admits-after (Joined id) a b k h = tt

acts-kept : (actions : List Action) (a b c : CoreState rust_server.Server) → Keeps StandsAs a b → ServerActs b actions c → ServerActs a actions c
acts-kept [] a b c k h = λ s outbox i. h s outbox (k s outbox i)
acts-kept (d ∷ ds) a b c k h = (h.0, (does-after d a b h.0 k h.1.0, admits-after d a b k h.1.1), h.2)

pub acts-both : (xs ys : List Action) (a b c : CoreState rust_server.Server) → ServerActs a xs b → ServerActs b ys c → ServerActs a (xs ++ ys) c
acts-both [] ys a b c h k = acts-kept ys a b c h k
acts-both (x ∷ xs) ys a b c h k = (h.0, h.1, acts-both xs ys h.0 b c h.2 k)

-- ---- what is held

-- with what is held for one party now, the others stay
pub back-is : (old new : List (Party × End)) (to : Party) (o : Option rust.Message) → ChangesOnly old new to → held_by new to ≡ o → (p : Party) → with_back (held_by old) to o p ≡ held_by new p
back-is old new to o others is p = go (same p to) refl where
  go : (t : Bool) → same p to ≡ t → cond t o (held_by old p) ≡ held_by new p
  go true e = sym is ∙ ap (held_by new) (sym (same-true p to e))
  go false e = ap held_at (sym (others p (same-turned to p ∙ e)))

pub by-back : (P : (Party → Option rust.Message) → Type 0) (old new : List (Party × End)) (to : Party) (o : Option rust.Message) → ChangesOnly old new to → held_by new to ≡ o → P (with_back (held_by old) to o) → P (held_by new)
by-back P old new to o others is h = subst P (λ i p. back-is old new to o others is p i) h

-- nothing changes but what the core is
pub kept-beside : (a b : rust_server.Server) (back : Party → Option rust.Message) → chain.Keeps a b → Keeps StandsAs (record { core = a; back = back }) (record { core = b; back = back })
kept-beside a b back keeps s outbox h = (keeps s (λ to. behind (back to) (outbox to)) h.0, h.1)

pub kept-from : (a b : rust_server.Server) (old new : List (Party × End)) → new ≡ old → chain.Keeps a b → Keeps StandsAs (record { core = a; back = held_by old }) (record { core = b; back = held_by new })
kept-from a b old new same keeps = subst (λ ends. Keeps StandsAs (record { core = a; back = held_by old }) (record { core = b; back = held_by ends })) (sym same) (kept-beside a b (held_by old) keeps)

-- ---- deeds

one-act : (d : Action) (a b : CoreState rust_server.Server) → Acts d a b → ServerActs a (d ∷ []) b
one-act d a b h = (b, h, λ s outbox i. i)

did-acts : (deed : Deed) (a b : Now) → Did deed a b → ServerActs (core_now a) (actions_of deed) (core_now b)
did-acts Rested a b h = h.core
did-acts (Acted action) a b h = subst (λ ends. ServerActs (core_now a) (action ∷ []) (record { core = b.core; back = held_by ends })) (sym h.outgoing)
    (one-act action (core_now a) (record { core = b.core; back = held_by a.outgoing }) (h.does (held_by a.outgoing)))
did-acts (Came from number piece) a b h = kept-from a.core b.core a.outgoing b.outgoing h.only.outgoing h.keeps
did-acts (Read from number piece message) a b h = subst (λ ends. ServerActs (core_now a) (Took from message ∷ []) (record { core = b.core; back = held_by ends })) (sym h.only.outgoing)
    (one-act (Took from message) (core_now a) (record { core = b.core; back = held_by a.outgoing }) (h.takes (held_by a.outgoing)))
did-acts (Missed from number piece code) a b h = kept-from a.core b.core a.outgoing b.outgoing h.only.outgoing h.keeps
did-acts (Lost party) a b h = kept-from a.core b.core a.outgoing b.outgoing h.outgoing (subst (λ c. chain.Keeps a.core c) (sym h.core) (λ s outbox i. i))
did-acts (Told to number piece) a b h =
    by-back (λ back. Keeps StandsAs (core_now a) (record { core = b.core; back = back })) a.outgoing b.outgoing to (Some h.writes.message) h.only.others (ap held_at h.is_new ∙ h.writes.held)
    (h.writes.kept (held_by a.outgoing) (ap held_at h.is_old))
did-acts (Ended to number piece message) a b h =
    by-back (λ back. ServerActs (core_now a) (Put to message ∷ []) (record { core = b.core; back = back })) a.outgoing b.outgoing to None h.only.others (ap held_at h.is_new ∙ h.writes.held)
    (one-act (Put to message) (core_now a) (record { core = b.core; back = with_back (held_by a.outgoing) to None })
    (subst (λ m. Acts (Put to m) (core_now a) (record { core = b.core; back = with_back (held_by a.outgoing) to None })) h.message_is (h.writes.put (held_by a.outgoing) (ap held_at h.is_old))))
did-acts (Threw to messages) a b h =
    by-back (λ back. ServerActs (core_now a) (actions_of (Threw to messages)) (record { core = b.core; back = back })) a.outgoing b.outgoing to h.held h.only.others h.held_is (h.puts (held_by a.outgoing) refl)

pub deeds-act : (deeds : List Deed) (a b : Now) → DidAll a deeds b → ServerActs (core_now a) (actions_in deeds) (core_now b)
deeds-act [] a b h = subst (λ n. Keeps StandsAs (core_now a) (core_now n)) h (λ s outbox i. i)
deeds-act (deed ∷ deeds) a b h = acts-both (actions_of deed) (actions_in deeds) (core_now a) (core_now h.0) (core_now b) (did-acts deed a h.0 h.1.0) (deeds-act deeds h.0 b h.1.1)

-- ---- deeds one behind another

pub did-both : (xs ys : List Deed) (a b c : Now) → DidAll a xs b → DidAll b ys c → DidAll a (xs ++ ys) c
did-both [] ys a b c h k = subst (λ n. DidAll n ys c) (sym h) k
did-both (x ∷ xs) ys a b c h k = (h.0, (h.1.0, did-both xs ys h.0 b c h.1.1 k))
