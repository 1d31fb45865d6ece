-- Worlds that begin with entries, computed by the definitions.
use Rattle.std.proofs.Common.{◌≡◌, ℕ, ◌==◌, ◌∙◌, ap, sym, subst, cond, List, [], ◌∷◌, ◌++◌, map, codes, Bool, true, false, Some, None, refl, ◌⊎◌, inl, inr}
use Rattle.std.proofs.lemmas.Bool.{eqb-true}
use Rattle.cq_base.specs.declared.ask.Ask.TheVariants.{Create}
use Rattle.cq_base.specs.declared.ask.Entry.{Entry}
use Rattle.cq_base.specs.declared.party.Party.{Party}
use Rattle.cq_base.specs.declared.party.Party.TheVariants.{Master, Clients, Server}
use Rattle.cq_base.specs.queue.History.{last_moment}
use Rattle.cq_chain.specs.declared.fault.WorldFault.TheVariants.{NoSuchServer, LastFull}
use Rattle.cq_chain.specs.declared.message.Message as rust
use Rattle.cq_chain.specs.Masters.{is_in, first_master, joined, hears, refusal_of_join}
use Rattle.cq_chain.specs.Parties.{same}
use Rattle.cq_chain.specs.Refusals.{refusal_of_arrival, refusal_of_taking}
use Rattle.cq_chain.specs.Servers.{alone, joining}
use Rattle.cq_chain.specs.Steps.{arrived, takes}
use Rattle.cq_events.specs.Actions.{Action, Arrived, Put, event_of, put_to, taken_from}
use Rattle.cq_events.specs.Events.{refusal_of, next, after}
use Rattle.cq_events.specs.Orders.{of_party}
use Rattle.cq_events.specs.Owners.{party_of}
use Rattle.cq_events.specs.Runs.{world_after, refused_from}
use Rattle.cq_events.specs.Worlds.{first_world, numbers_from}
use Rattle.cq_events.specs.declared.event.Event.{Event}
use Rattle.cq_events.specs.declared.event.Event.TheVariants as events
use Rattle.cq_world.proofs.Eaches.{cons_nil, prefix-none}
use Rattle.cq_real_time.specs.Interleavings.{Acted, IsInTimeFrom}
use Rattle.cq_real_time.specs.Loading.{loaded, arrivals_of}
use Rattle.cq_real_time.proofs.Loading.{loaded_none}

-- a client's request to create a queue, and the same again: a repeat is an entry, too
abbrev created : ℕ → Entry
created moment = record { moment = moment; request = record { client = 1; number = 1; ask = Create (codes "q.fifo") 30 false } }

abbrev two : List Entry
two = created 5 ∷ created 7 ∷ []

-- no entries: the first world
none_loaded : loaded [] ≡ first_world 1
none_loaded = loaded_none

-- two entries: what server 1 has, and what no other has
two_loaded : ((loaded two).server 1 ≡ record { entries = two; acked = 2; floor = 2; pred = None; succ = None; head = true; at_least = Some 0; full = true; down = false }) × ((loaded two).server 2 ≡ joining)
    × ((loaded two).outbox (Server 1) Clients ≡ []) × ((loaded two).link (Server 1) Master ≡ []) × ((loaded two).master ≡ first_master 1)
unfolding loaded
two_loaded = (refl, refl, refl, refl, refl)

-- the events by which it is reached
two_arrive : arrivals_of two ≡ events.Arrive 1 5 (created 5).request ∷ events.Put (Server 1) Clients ∷ events.Arrive 1 7 (created 7).request ∷ events.Put (Server 1) Clients ∷ []
two_arrive = refl

-- None of them is refused, and what server 1 has behind them.
two_reached : (refused_from 1 (first_world 1) (arrivals_of two) ≡ []) × ((world_after (first_world 1) (arrivals_of two)).server 1 ≡ alone two)
unfolding refused_from world_after after next refusal_of first_world numbers_from refusal_of_arrival arrived last_moment
two_reached = (refl, refl)

-- Where moments fall these events lead elsewhere: the second entry gets the moment of the first.
falling_moments : ((world_after (first_world 1) (arrivals_of (created 7 ∷ created 5 ∷ []))).server 1).entries ≡ created 7 ∷ created 7 ∷ []
unfolding world_after after next refusal_of first_world numbers_from refusal_of_arrival arrived last_moment
falling_moments = refl

-- Server 1 takes on from there: the next request is its third entry.
goes_on : ((world_after (loaded two) (events.Arrive 1 9 (created 9).request ∷ [])).server 1).entries ≡ created 5 ∷ created 7 ∷ created 9 ∷ []
unfolding loaded world_after after next refusal_of numbers_from refusal_of_arrival arrived last_moment
goes_on = refl

-- ---- from there on

-- It is the only full server: it can't crash.
only_full : refused_from 1 (loaded two) (events.Crash 1 ∷ []) ≡ (1, LastFull) ∷ []
unfolding loaded refused_from after refusal_of numbers_from
only_full = refl

-- the master doesn't know another one, before that one joins
unknown_yet : refused_from 1 (loaded two) (events.Put (Server 2) Master ∷ []) ≡ (1, NoSuchServer) ∷ []
unfolding loaded refused_from after refusal_of numbers_from
unknown_yet = refl

-- server 2 joins, and is fed
abbrev joins : List Event
joins = events.Join 2 ∷ events.Put Master (Server 2) ∷ events.Take Master (Server 2) ∷ events.Put (Server 2) Master ∷ events.Take (Server 2) Master ∷ events.Put Master (Server 1) ∷ events.Take Master (Server 1)
    ∷ events.Put (Server 1) (Server 2) ∷ events.Take (Server 1) (Server 2) ∷ []

-- so it gets the entries with which the chain began
gets_them : (refused_from 1 (loaded two) joins ≡ []) × (((world_after (loaded two) joins).server 2).entries ≡ two)
unfolding loaded refused_from world_after after next refusal_of numbers_from refusal_of_join refusal_of_taking joined hears takes
gets_them = (refl, refl)

-- ---- an order in time from there on: one more request, whose answer is put

abbrev third : Event
third = events.Arrive 1 9 (created 9).request

abbrev put : Event
put = events.Put (Server 1) Clients

abbrev did : rust.Message → Party → List Action
did x Master = []
did x (Server id) = cond (id == 1) (Arrived 9 (created 9).request ∷ Put Clients x ∷ []) []
did x Clients = []

heads_same : {A : Type 0} {x y : A} {xs ys : List A} → x ∷ xs ≡ y ∷ ys → x ≡ y
heads_same e = cc

tails_same : {A : Type 0} {x y : A} {xs ys : List A} → x ∷ xs ≡ y ∷ ys → xs ≡ ys
tails_same e = cc

ends_there : {A : Type 0} (before rest : List A) (x : A) → [] ≡ before ++ (x ∷ rest) → ⊥
ends_there [] rest x e = cons_nil x rest (sym e)
ends_there (y ∷ before) rest x e = cons_nil y (before ++ (x ∷ rest)) (sym e)

-- its events
one_of : (before rest : List Event) (event : Event) → third ∷ put ∷ [] ≡ before ++ (event ∷ rest) → (third ≡ event) ⊎ (put ≡ event)
one_of [] rest event e = inl (heads_same e)
one_of (x ∷ []) rest event e = inr (heads_same (tails_same e))
one_of (x ∷ y ∷ before) rest event e = absurd (ends_there before rest event (tails_same (tails_same e)))

-- none of these
no_take : (from to : Party) → (third ≡ events.Take from to) ⊎ (put ≡ events.Take from to) → ⊥
no_take from to (inl e) = absurd cc
no_take from to (inr e) = absurd cc

no_crash : (id : ℕ) → (third ≡ events.Crash id) ⊎ (put ≡ events.Crash id) → ⊥
no_crash id (inl e) = absurd cc
no_crash id (inr e) = absurd cc

no_detection : (id : ℕ) → (third ≡ events.Detect id) ⊎ (put ≡ events.Detect id) → ⊥
no_detection id (inl e) = absurd cc
no_detection id (inr e) = absurd cc

own_events : (x : rust.Message) (p : Party) → of_party p (third ∷ put ∷ []) ≡ map (event_of p) (did x p)
own_events x Master = refl
own_events x Clients = refl
own_events x (Server id) = go (id == 1) refl where
  go : (t : Bool) → (id == 1) ≡ t → cond t (third ∷ cond t (put ∷ []) []) (cond t (put ∷ []) []) ≡ map (event_of (Server id)) (cond t (Arrived 9 (created 9).request ∷ Put Clients x ∷ []) [])
  go true e = ap (λ i. events.Arrive i 9 (created 9).request ∷ events.Put (Server i) Clients ∷ []) (sym (eqb-true id 1 e))
  go false e = refl

nothing_taken : (x : rust.Message) (from to : Party) → taken_from from (did x to) ≡ []
nothing_taken x from Master = refl
nothing_taken x from Clients = refl
nothing_taken x from (Server id) = go (id == 1) where
  go : (t : Bool) → taken_from from (cond t (Arrived 9 (created 9).request ∷ Put Clients x ∷ []) []) ≡ []
  go true = refl
  go false = refl

one_known : (id : ℕ) (event : Event) → (third ≡ event) ⊎ (put ≡ event) → same (Server id) (party_of event) ≡ true → is_in (loaded two).master.used id ≡ true
unfolding loaded numbers_from
one_known id event is own = subst (λ i. is_in (1 ∷ []) i ≡ true) (sym (eqb-true id 1 (by_server is))) refl where
  by_server : (third ≡ event) ⊎ (put ≡ event) → (id == 1) ≡ true
  by_server (inl e) = ap (λ z. same (Server id) (party_of z)) e ∙ own
  by_server (inr e) = ap (λ z. same (Server id) (party_of z)) e ∙ own

-- Whichever cores did these actions, it is one.
in_time : (x : rust.Message) → ((p : Party) → Acted (loaded two) p (did x p)) → IsInTimeFrom (loaded two) (did x) (third ∷ put ∷ [])
in_time x acted = record {
  each = own_events x;
  acted = acted;
  links = λ from to. prefix-none (taken_from from (did x to)) (put_to to (did x from)) (nothing_taken x from to);
  causes = λ from to before rest split. absurd (no_take from to (one_of before rest (events.Take from to) split));
  detections = λ id before rest split. absurd (no_detection id (one_of before rest (events.Detect id) split));
  silence = λ id before rest event split behind. absurd (no_crash id (one_of before rest (events.Crash id) split));
  survivors = λ id before rest split. absurd (no_crash id (one_of before rest (events.Crash id) split));
  joins = λ id before rest event split own. inl (one_known id event (one_of before rest event split) own);
}
