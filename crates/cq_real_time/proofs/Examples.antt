-- Orders that miss one of the rules, each computed by the definitions to what the world refuses: so none of the rules can be
-- left out. And an order by the log.
use Rattle.std.proofs.Common.{◌≡◌, ℕ, ◌==◌, ◌∙◌, ap, sym, subst, List, [], ◌∷◌, ◌++◌, map, cond, codes, Bool, true, false, None, refl, ◌⊎◌, inl, inr}
use Rattle.std.proofs.lemmas.Bool.{eqb-true, false≢true}
use Rattle.cq_base.specs.declared.ask.Ask.TheVariants.{Create}
use Rattle.cq_base.specs.declared.party.Party.{Party}
use Rattle.cq_base.specs.declared.party.Party.TheVariants.{Master, Clients, Server}
use Rattle.cq_base.specs.Relations.{Among}
use Rattle.cq_chain.specs.declared.fault.WorldFault.TheVariants.{NoSuchServer, ServerDown, LinkEmpty, LastFull, NotDown}
use Rattle.cq_chain.specs.declared.message.Message.TheVariants as stored
use Rattle.cq_chain.specs.Masters.{is_in, first_master, joined, hears, refusal_of_detection, refusal_of_join}
use Rattle.cq_chain.specs.Parties.{same}
use Rattle.cq_chain.specs.Refusals.{refusal_of_query, refusal_of_taking}
use Rattle.cq_chain.specs.Steps.{takes}
use Rattle.cq_events.specs.Actions.{Action, Took, Crashed, Detected, Joined, event_of, put_to, taken_from}
use Rattle.cq_events.specs.Events.{refusal_of, next, after}
use Rattle.cq_events.specs.Orders.{of_party}
use Rattle.cq_events.specs.Owners.{party_of}
use Rattle.cq_events.specs.Runs.{refused_from}
use Rattle.cq_events.specs.Worlds.{first_world, numbers_from}
use Rattle.cq_events.specs.declared.event.Event.{Event}
use Rattle.cq_events.specs.declared.event.Event.TheVariants as events
use Rattle.cq_world.proofs.Eaches.{cons_nil, prefix-none}
use Rattle.cq_real_time.specs.Interleavings.{Acted, knows, another_full_by_log, IsByTheLog}

-- a message that is taken before it is put
taken_early : refused_from 1 (first_world 2) (events.Take (Server 1) (Server 2) ∷ []) ≡ (1, LinkEmpty) ∷ []
unfolding refused_from after refusal_of first_world numbers_from
taken_early = refl

-- a server that lives when it is detected
detected_alive : refused_from 1 (first_world 2) (events.Detect 2 ∷ []) ≡ (1, NotDown) ∷ []
unfolding refused_from after refusal_of first_world numbers_from
detected_alive = refl

-- a server that answers behind its crash
answers_dead : refused_from 1 (first_world 2) (events.Crash 2 ∷ events.Ask 2 (record { client = 1; tag = 1; queue = codes "q.fifo" }) ∷ []) ≡ (2, ServerDown) ∷ []
unfolding refused_from after next refusal_of first_world numbers_from refusal_of_query
answers_dead = refl

-- the only full server that crashes
last_crashes : refused_from 1 (first_world 1) (events.Crash 1 ∷ []) ≡ (1, LastFull) ∷ []
unfolding refused_from after refusal_of first_world numbers_from
last_crashes = refl

-- a server that does something before it joins
before_its_join : refused_from 1 (first_world 2) (events.Arrive 3 0 (record { client = 1; number = 1; ask = Create (codes "q.fifo") 30 false }) ∷ []) ≡ (1, NoSuchServer) ∷ []
unfolding refused_from after refusal_of first_world numbers_from
before_its_join = refl

-- ---- the log

-- server 2 joins the first chain of server 1 alone, and becomes a member
abbrev admits : List Action
admits = Joined 2 ∷ Took (Server 2) (stored.Have 1 0) ∷ Took (Server 2) (stored.Caught 1 0) ∷ []

-- It is a member now, and the master would not refuse a detection of server 1. The rule of the log does.
unready_by_log : ((knows (first_master 1) admits).chain ≡ 1 ∷ 2 ∷ []) × (refusal_of_detection 1 (knows (first_master 1) admits) ≡ None) × (another_full_by_log (first_world 1) admits 1 ≡ false)
unfolding joined hears first_world numbers_from refusal_of_detection
unready_by_log = (refl, refl, refl)

-- once the master has taken its Ready, it no longer does
ready_by_log : another_full_by_log (first_world 1) (admits ++ Took (Server 1) (stored.Adopted 2 0) ∷ Took (Server 2) stored.Ready ∷ []) 1 ≡ true
unfolding joined hears first_world numbers_from
ready_by_log = refl

-- so would a crash of server 1 be the last full one's
unready_crashes : refused_from 1 (first_world 1) (events.Join 2 ∷ events.Put Master (Server 2) ∷ events.Take Master (Server 2) ∷ events.Put (Server 2) Master ∷ events.Take (Server 2) Master ∷ events.Put Master (Server 1) ∷ events.Take Master (Server 1)
    ∷ events.Put (Server 1) (Server 2) ∷ events.Take (Server 1) (Server 2) ∷ events.Put (Server 2) Master ∷ events.Take (Server 2) Master ∷ events.Crash 1 ∷ events.Detect 1 ∷ []) ≡ (12, LastFull) ∷ (13, NotDown) ∷ []
unfolding refused_from after next refusal_of first_world numbers_from refusal_of_join refusal_of_taking joined hears takes
unready_crashes = refl

-- ---- an order by the log: of two servers the second one crashes, and is detected

abbrev order : List Event
order = events.Crash 2 ∷ events.Detect 2 ∷ []

abbrev did : Party → List Action
did Master = Detected 2 ∷ []
did (Server id) = cond (id == 2) (Crashed 0 ∷ []) []
did Clients = []

heads_same : {A : Type 0} {x y : A} {xs ys : List A} → x ∷ xs ≡ y ∷ ys → x ≡ y
heads_same e = cc

tails_same : {A : Type 0} {x y : A} {xs ys : List A} → x ∷ xs ≡ y ∷ ys → xs ≡ ys
tails_same e = cc

ends_there : {A : Type 0} (before rest : List A) (x : A) → [] ≡ before ++ (x ∷ rest) → ⊥
ends_there [] rest x e = cons_nil x rest (sym e)
ends_there (y ∷ before) rest x e = cons_nil y (before ++ (x ∷ rest)) (sym e)

-- where an event stands in it
stands : (before rest : List Event) (event : Event) → order ≡ before ++ (event ∷ rest)
    → ((before ≡ []) × (events.Crash 2 ≡ event) × (events.Detect 2 ∷ [] ≡ rest)) ⊎ ((before ≡ events.Crash 2 ∷ []) × (events.Detect 2 ≡ event) × ([] ≡ rest))
stands [] rest event e = let here : events.Crash 2 ∷ (events.Detect 2 ∷ []) ≡ event ∷ rest = e in inl (refl, heads_same here, tails_same here)
stands (x ∷ []) rest event e = let more : events.Detect 2 ∷ [] ≡ event ∷ rest = tails_same e in inr (ap (λ z. z ∷ []) (sym (heads_same e)), heads_same more, tails_same more)
stands (x ∷ y ∷ before) rest event e = let more : events.Detect 2 ∷ [] ≡ y ∷ (before ++ (event ∷ rest)) = tails_same e in absurd (ends_there before rest event (tails_same more))

crash_number : (a b : ℕ) → events.Crash a ≡ events.Crash b → a ≡ b
crash_number a b e = cc

detect_number : (a b : ℕ) → events.Detect a ≡ events.Detect b → a ≡ b
detect_number a b e = cc

detected_number : (a b : ℕ) → Detected a ≡ Detected b → a ≡ b
detected_number a b e = cc

no_take : (from to : Party) (event : Event) → event ≡ events.Take from to → (events.Crash 2 ≡ event) ⊎ (events.Detect 2 ≡ event) → ⊥
no_take from to event is (inl e) = crash (e ∙ is) where
  crash : events.Crash 2 ≡ events.Take from to → ⊥
  crash e = cc
no_take from to event is (inr e) = detect (e ∙ is) where
  detect : events.Detect 2 ≡ events.Take from to → ⊥
  detect e = cc

crash_detect : (a b : ℕ) → events.Crash a ≡ events.Detect b → ⊥
crash_detect a b e = cc

own_events : (p : Party) → of_party p order ≡ map (event_of p) (did p)
own_events Master = refl
own_events Clients = refl
own_events (Server id) = go (id == 2) refl where
  go : (t : Bool) → (id == 2) ≡ t → cond t (events.Crash 2 ∷ []) [] ≡ map (event_of (Server id)) (cond t (Crashed 0 ∷ []) [])
  go true e = ap (λ i. events.Crash i ∷ []) (sym (eqb-true id 2 e))
  go false e = refl

nothing_taken : (from to : Party) → taken_from from (did to) ≡ []
nothing_taken from Master = refl
nothing_taken from Clients = refl
nothing_taken from (Server id) = go (id == 2) where
  go : (t : Bool) → taken_from from (cond t (Crashed 0 ∷ []) []) ≡ []
  go true = refl
  go false = refl

full_there : (id : ℕ) → 2 ≡ id → another_full_by_log (first_world 2) [] id ≡ true
unfolding first_world numbers_from
full_there id is = subst (λ i. another_full_by_log (first_world 2) [] i ≡ true) is refl

of_first : (id : ℕ) → (id == 2) ≡ true → is_in (first_world 2).master.used id ≡ true
unfolding first_world numbers_from
of_first id is = subst (λ i. is_in (1 ∷ 2 ∷ []) i ≡ true) (sym (eqb-true id 2 is)) refl

-- Whichever cores did these actions, it is one.
by_the_log : ((p : Party) → Acted (first_world 2) p (did p)) → IsByTheLog 2 did order
by_the_log acted = record {
  each = own_events;
  acted = acted;
  links = λ from to. prefix-none (taken_from from (did to)) (put_to to (did from)) (nothing_taken from to);
  causes = λ from to before rest split. elim (stands before rest (events.Take from to) split) [
    | inl here ↦ absurd (no_take from to (events.Take from to) refl (inl here.1))
    | inr here ↦ absurd (no_take from to (events.Take from to) refl (inr here.1))
  ];
  detections = λ id before rest split. elim (stands before rest (events.Detect id) split) [
    | inl here ↦ absurd (crash_detect 2 id here.1)
    | inr here ↦ subst (Among (events.Crash id)) (sym here.0) (inl (ap events.Crash (sym (detect_number 2 id here.1))))
  ];
  crashes = λ id before rest split. elim (stands before rest (events.Crash id) split) [
    | inl here ↦ ([], sym here.2 ∙ ap (λ i. events.Detect i ∷ []) (crash_number 2 id here.1))
    | inr here ↦ absurd (crash_detect id 2 (sym here.1))
  ];
  silence = λ id before rest event split behind. elim (stands before rest (events.Detect id) split) [
    | inl here ↦ absurd (crash_detect 2 id here.1)
    | inr here ↦ absurd (subst (Among event) (sym here.2) behind)
  ];
  others = others_there;
  joins = λ id before rest event split own. elim (stands before rest event split) [
    | inl here ↦ inl (of_first id (ap (λ e. same (Server id) (party_of e)) here.1 ∙ own))
    | inr here ↦ absurd (false≢true (ap (λ e. same (Server id) (party_of e)) here.1 ∙ own))
  ];
} where
  others_there : (id : ℕ) (log rest : List Action) → did Master ≡ log ++ (Detected id ∷ rest) → another_full_by_log (first_world 2) log id ≡ true
  others_there id [] rest split = let here : Detected 2 ∷ [] ≡ Detected id ∷ rest = split in full_there id (detected_number 2 id (heads_same here))
  others_there id (x ∷ log) rest split = let here : Detected 2 ∷ [] ≡ x ∷ (log ++ (Detected id ∷ rest)) = split in absurd (ends_there log rest (Detected id) (tails_same here))
