-- Runs that go on by one more action, the actions that the calls of a core are, and the first cores.
use Rattle.std.proofs.Common.{◌≡◌, ℕ, ◌∙◌, ap, sym, refl, subst, cond, List, [], ◌∷◌, ◌++◌, length, append_assoc, true, false, Option, Some, None}
use Rattle.cq_base.specs.declared.ask.Request.{Request}
use Rattle.cq_base.specs.declared.party.Party.{Party}
use Rattle.cq_chain.specs.declared.master.Master as rust_master
use Rattle.cq_chain.specs.declared.message.Message as rust
use Rattle.cq_chain.specs.declared.server.Server as rust_server
use Rattle.cq_base.specs.declared.party.Party.TheVariants as parties
use Rattle.cq_chain.specs.Masters.{first_master}
use Rattle.cq_chain.specs.Messages.{Message}
use Rattle.cq_chain.specs.Servers.{Server, first_member, joining}
use Rattle.cq_chain.specs.Stands as chain
use Rattle.cq_chain.specs.Stands.{Means, IsFirst, posted, drained}
use Rattle.cq_chain.specs.Steps.{arrived, takes, crashed}
use Rattle.cq_events.specs.Actions.{Action, Arrived, Asked, Put, Took, Crashed, Detected, Joined, CoreState, behind, StandsAs, IsMasterAs, Keeps, Does, DoesMaster, Run, ServerRun, MasterRun, put_in, put_to, taken_in, taken_from}
use Rattle.cq_events.specs.Worlds.{is_in, numbers_from, first_world}
use Rattle.cq_chain.specs.Refusals.{refusal_of_arrival, refusal_of_taking}
use Rattle.cq_events.specs.Acts.{Admits, AdmitsOrder, Acts, ActsMaster, ServerActs, MasterActs}
use Rattle.cq_nodes.proofs.CoreStates.{set_back, as-first, as-put, as-drawn, server-step}

-- ---- runs

-- an action after a call that changed nothing
pub does-after : (d : Action) (a b c : CoreState rust_server.Server) → Keeps StandsAs a b → Does d b c → Does d a c
does-after (Arrived clock request) a b c k h = λ s outbox i. h s outbox (k s outbox i)
does-after (Asked query) a b c k h = λ s outbox i. h s outbox (k s outbox i)
does-after (Put to x) a b c k h = λ s outbox i. h s outbox (k s outbox i)
does-after (Took from x) a b c k h = λ m means s outbox i. h m means s outbox (k s outbox i)
does-after (Crashed count) a b c k h = (λ s outbox i. h.0 s outbox (k s outbox i), λ s outbox i. h.1 s outbox (k s outbox i))
does-after (Detected id) a b c k h = h
does-after (Joined id) a b c k h = h

pub orders-after : (d : Action) (a b c : CoreState rust_master.Master) → Keeps IsMasterAs a b → DoesMaster d b c → DoesMaster d a c
orders-after (Put to x) a b c k h = λ s outbox i. h s outbox (k s outbox i)
orders-after (Took from x) a b c k h = λ m means s outbox i. h m means s outbox (k s outbox i)
orders-after (Detected id) a b c k h = λ s outbox i. h s outbox (k s outbox i)
orders-after (Joined id) a b c k h = λ s outbox i. h s outbox (k s outbox i)
orders-after (Arrived clock request) a b c k h = h
orders-after (Asked query) a b c k h = h
orders-after (Crashed count) a b c k h = h

-- so it is with what wasn't refused
admits-after : (d : Action) (a b : CoreState rust_server.Server) → Keeps StandsAs a b → Admits d b → Admits d a
admits-after (Arrived clock request) a b k h = λ s outbox i. h s outbox (k s outbox i)
admits-after (Asked query) a b k h = λ s outbox i. h s outbox (k s outbox i)
admits-after (Put to x) a b k h = tt
admits-after (Took from x) a b k h = λ m means s outbox i. h m means s outbox (k s outbox i)
admits-after (Crashed count) a b k h = tt
admits-after (Detected id) a b k h = tt
admits-after (Joined id) a b k h = tt

acts-after : (d : Action) (a b c : CoreState rust_server.Server) → Keeps StandsAs a b → Acts d b c → Acts d a c
acts-after d a b c k h = (does-after d a b c k h.0, admits-after d a b k h.1)

admits-order-after : (d : Action) (a b : CoreState rust_master.Master) → Keeps IsMasterAs a b → AdmitsOrder d b → AdmitsOrder d a
admits-order-after (Arrived clock request) a b k h = tt
admits-order-after (Asked query) a b k h = tt
admits-order-after (Put to x) a b k h = tt
admits-order-after (Took from x) a b k h = tt
admits-order-after (Crashed count) a b k h = tt
admits-order-after (Detected id) a b k h = λ m outbox i. h m outbox (k m outbox i)
admits-order-after (Joined id) a b k h = λ m outbox i. h m outbox (k m outbox i)

acts-master-after : (d : Action) (a b c : CoreState rust_master.Master) → Keeps IsMasterAs a b → ActsMaster d b c → ActsMaster d a c
acts-master-after d a b c k h = (orders-after d a b c k h.0, admits-order-after d a b k h.1)

-- a run goes on by a call that changes nothing, and by one more action
pub run-kept : {A S : Type 0} (does : Action → A → A → Type 0) (stands : A → S → (Party → List Message) → Type 0) (actions : List Action) (a b c : A) → Run does (Keeps stands) a actions b → Keeps stands b c → Run does (Keeps stands) a actions c
run-kept does stands [] a b c h k = λ s outbox i. k s outbox (h s outbox i)
run-kept does stands (d ∷ ds) a b c h k = (h.0, h.1, run-kept does stands ds h.0 b c h.2 k)

run-more : {A S : Type 0} (does : Action → A → A → Type 0) (stands : A → S → (Party → List Message) → Type 0) (after : (d : Action) (a b c : A) → Keeps stands a b → does d b c → does d a c) (actions : List Action) (d : Action) (a b c : A)
    → Run does (Keeps stands) a actions b → does d b c → Run does (Keeps stands) a (actions ++ d ∷ []) c
run-more does stands after [] d a b c h k = (c, after d a b c h k, λ s outbox i. i)
run-more does stands after (e ∷ es) d a b c h k = (h.0, h.1, run-more does stands after es d h.0 b c h.2 k)

pub server-more : (actions : List Action) (d : Action) (a b c : CoreState rust_server.Server) → ServerActs a actions b → Acts d b c → ServerActs a (actions ++ d ∷ []) c
server-more = run-more Acts StandsAs acts-after

pub master-more : (actions : List Action) (d : Action) (a b c : CoreState rust_master.Master) → MasterActs a actions b → ActsMaster d b c → MasterActs a (actions ++ d ∷ []) c
master-more = run-more ActsMaster IsMasterAs acts-master-after

-- a run of actions that weren't refused is one of these actions
run-plain : {A : Type 0} (acts does : Action → A → A → Type 0) (keeps : A → A → Type 0) → ((d : Action) (a b : A) → acts d a b → does d a b) → (a : A) (actions : List Action) (b : A) → Run acts keeps a actions b → Run does keeps a actions b
run-plain acts does keeps plain a [] b h = h
run-plain acts does keeps plain a (d ∷ ds) b h = (h.0, plain d a h.0 h.1, run-plain acts does keeps plain h.0 ds b h.2)

pub server-plain : (actions : List Action) (a b : CoreState rust_server.Server) → ServerActs a actions b → ServerRun a actions b
server-plain actions a b h = run-plain Acts Does (Keeps StandsAs) (λ d x y acts. acts.0) a actions b h

pub master-plain : (actions : List Action) (a b : CoreState rust_master.Master) → MasterActs a actions b → MasterRun a actions b
master-plain actions a b h = run-plain ActsMaster DoesMaster (Keeps IsMasterAs) (λ d x y acts. acts.0) a actions b h

-- what is put and taken, with one action more
pub put-more : (to : Party) (actions : List Action) (d : Action) → put_to to (actions ++ d ∷ []) ≡ put_to to actions ++ put_in to d
put-more to [] d = none (put_in to d) where
  none : (xs : List rust.Message) → xs ++ [] ≡ xs
  none [] = refl
  none (x ∷ xs) = ap (λ us. x ∷ us) (none xs)
put-more to (e ∷ es) d = ap (λ us. put_in to e ++ us) (put-more to es d) ∙ sym (append_assoc (put_in to e) (put_to to es) (put_in to d))

pub taken-more : (from : Party) (actions : List Action) (d : Action) → taken_from from (actions ++ d ∷ []) ≡ taken_from from actions ++ taken_in from d
taken-more from [] d = none (taken_in from d) where
  none : (xs : List rust.Message) → xs ++ [] ≡ xs
  none [] = refl
  none (x ∷ xs) = ap (λ us. x ∷ us) (none xs)
taken-more from (e ∷ es) d = ap (λ us. taken_in from e ++ us) (taken-more from es d) ∙ sym (append_assoc (taken_in from e) (taken_from from es) (taken_in from d))

-- ---- the calls of servers and of the master, as actions

-- by the clauses of `arrive`, `take`, `crash` and `put`
pub server-arrived : (old new : rust_server.Server) (back : Party → Option rust.Message) (clock : ℕ) (request : Request) → chain.Does old new (arrived clock request) → ((s : Server) (outbox : Party → List Message) → chain.StandsFor old s outbox → refusal_of_arrival s ≡ None)
    → Acts (Arrived clock request) (record { core = old; back = back }) (record { core = new; back = back })
server-arrived old new back clock request h free = (server-step old new back (arrived clock request) h, λ s outbox i. free s (λ to. behind (back to) (outbox to)) i.0)

pub server-took : (old new : rust_server.Server) (back : Party → Option rust.Message) (from : Party) (x : rust.Message) → ((m : Message) → Means x m → chain.Does old new (takes from m))
    → ((m : Message) → Means x m → (s : Server) (outbox : Party → List Message) → chain.StandsFor old s outbox → refusal_of_taking from m s ≡ None) → Acts (Took from x) (record { core = old; back = back }) (record { core = new; back = back })
server-took old new back from x h free = (λ m means. server-step old new back (takes from m) (h m means), λ m means s outbox i. free m means s (λ to. behind (back to) (outbox to)) i.0)

pub server-crashed : (old new : rust_server.Server) (back : Party → Option rust.Message) (count : ℕ) → chain.Does old new crashed → ((s : Server) (outbox : Party → List Message) → chain.StandsFor old s outbox → count ≡ length s.entries)
    → Acts (Crashed count) (record { core = old; back = back }) (record { core = new; back = back })
server-crashed old new back count h is = ((server-step old new back crashed h, λ s outbox i. sym (is s (λ to. behind (back to) (outbox to)) i.0)), tt)

pub server-put : (core : rust_server.Server) (back : Party → Option rust.Message) (to : Party) (x : rust.Message) → back to ≡ Some x → Does (Put to x) (record { core = core; back = back }) (record { core = core; back = set_back back to None })
server-put core back to x is = as-put chain.StandsFor core back to x is

pub server-drawn : (old new : rust_server.Server) (back : Party → Option rust.Message) (to : Party) (x : rust.Message) → back to ≡ None
    → ((s : Server) (outbox : Party → List Message) → chain.StandsFor old s outbox → IsFirst (Some x) (outbox to)) → ((s : Server) (outbox : Party → List Message) → chain.StandsFor old s outbox → chain.StandsFor new s (drained outbox to))
    → Keeps StandsAs (record { core = old; back = back }) (record { core = new; back = set_back back to (Some x) })
server-drawn old new back to x none first drawn = as-drawn chain.StandsFor old new back to x none first drawn

-- ---- the first cores

-- a member of the first chain, a server that joins later, and the master are those of the first world
pub first-member : (size id : ℕ) (core : rust_server.Server) → is_in (numbers_from 1 size) id ≡ true → chain.StandsFor core (first_member size id) (λ _. [])
    → StandsAs (record { core = core; back = λ _. None }) ((first_world size).server id) ((first_world size).outbox (parties.Server id))
unfolding first_world
first-member size id core there h = subst (λ t. StandsAs (record { core = core; back = λ _. None }) (cond t (first_member size id) joining) (λ _. [])) (sym there) (as-first chain.StandsFor core (first_member size id) h)

pub first-joining : (size id : ℕ) (core : rust_server.Server) → is_in (numbers_from 1 size) id ≡ false → chain.StandsFor core joining (λ _. [])
    → StandsAs (record { core = core; back = λ _. None }) ((first_world size).server id) ((first_world size).outbox (parties.Server id))
unfolding first_world
first-joining size id core apart h = subst (λ t. StandsAs (record { core = core; back = λ _. None }) (cond t (first_member size id) joining) (λ _. [])) (sym apart) (as-first chain.StandsFor core joining h)

pub first-of-all : (size : ℕ) (core : rust_master.Master) → chain.MasterStandsFor core (first_master size) (λ _. []) → IsMasterAs (record { core = core; back = λ _. None }) (first_world size).master ((first_world size).outbox parties.Master)
unfolding first_world
first-of-all size core h = as-first chain.MasterStandsFor core (first_master size) h
