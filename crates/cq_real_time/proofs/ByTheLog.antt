-- In an order by the log another server is full and lives where one crashes.
use Rattle.std.proofs.Common.{◌≡◌, ℕ, ◌∙◌, ap, sym, refl, subst, cond, List, [], ◌∷◌, ◌++◌, map, append_assoc, append-nil, Bool, true, false, ◌&&◌, ◌||◌, not, eqb, ◌⊎◌, inl, inr, None}
use Rattle.std.specs.List.{list_any}
use Rattle.std.proofs.lemmas.Bool.{eqb-true, eq-eqb, false≢true, both_ways, and_from, and_parts, or_cases, or_left, or_right}
use Rattle.cq_base.proofs.Among.{among-append, among-right}
use Rattle.cq_base.specs.declared.party.Party.{Party}
use Rattle.cq_base.specs.declared.party.Party.TheVariants as parties
use Rattle.cq_base.specs.Relations.{Among}
use Rattle.cq_chain.specs.declared.message.Message as rust
use Rattle.cq_chain.specs.declared.message.Message.TheVariants as stored
use Rattle.cq_chain.specs.Masters.{Master, is_in, is_last, without, dropped, closed_up, detected, hears, hears_from}
use Rattle.cq_chain.specs.Messages.{Message, Ready}
use Rattle.cq_chain.specs.Parties.{same, is_that}
use Rattle.cq_chain.specs.Stands.{Means}
use Rattle.cq_events.proofs.Parties.{same-true}
use Rattle.cq_events.specs.Actions.{Action, Arrived, Asked, Put, Took, Crashed, Detected, Joined, event_of}
use Rattle.cq_events.specs.Events.{refusal_of, refusal_of_detect, another_full, next, after_take}
use Rattle.cq_events.specs.Orders.{of_party}
use Rattle.cq_events.specs.Owners.{party_of}
use Rattle.cq_events.specs.Runs.{world_after}
use Rattle.cq_events.specs.Worlds.{World, first_world}
use Rattle.cq_events.specs.declared.event.Event.{Event}
use Rattle.cq_events.specs.declared.event.Event.TheVariants as events
use Rattle.cq_trace.proofs.OfLaws.ActionLists.{left, first_action}
use Rattle.cq_trace.proofs.OfLaws.Moments.{own_events}
use Rattle.cq_world.specs.Laws.{IsOut, IsOutOf}
use Rattle.cq_world.proofs.Chains.{chain-used}
use Rattle.cq_world.proofs.Eaches.{Each}
use Rattle.cq_world.proofs.ExtendedChains.{joiner-out, Apart}
use Rattle.cq_world.proofs.OfSim.RunSteps.{after-done, world-more}
use Rattle.cq_world.proofs.Prefixes.{Prefixes}
use Rattle.cq_world.proofs.Unrefused.{known-parts}
use Rattle.cq_world.proofs.Views.{view, extended}
use Rattle.cq_real_time.specs.Interleavings.{heard, learned, knows, is_ready, takes_ready, full_by_log, IsStart, IsInTimeFrom, IsByTheLogFrom, LogOrdersFromStartsAreRuns, OrdersByTheLogAreRuns}
use Rattle.cq_real_time.proofs.Acting.{Finds}
use Rattle.cq_real_time.proofs.Enabling.{IsTimely, Now, ready, after_link, later, left_each, first_now, among_split, orders_from_starts_are_runs}
use Rattle.cq_real_time.proofs.Readies.{IsTrueOf, Says, next_says, full_next}
use Rattle.cq_real_time.proofs.Starts.{start_good, start_says, start_out, first_worlds_are_starts}

-- ---- lists

-- what is found with one more at the end is found without it, or is the one more
any_more : {X : Type 0} (p : X → Bool) (xs : List X) (x : X) → list_any p (xs ++ x ∷ []) ≡ true → (list_any p xs ≡ true) ⊎ (p x ≡ true)
any_more p [] x h = elim (or_cases (p x) false h) [ inl e ↦ inr e | inr none ↦ absurd (false≢true none) ]
any_more p (y ∷ xs) x h = elim (or_cases (p y) (list_any p (xs ++ x ∷ [])) h) [
  | inl e ↦ inl (or_left (p y) (list_any p xs) e)
  | inr r ↦ elim (any_more p xs x r) [ inl k ↦ inl (or_right (p y) (list_any p xs) k) | inr k ↦ inr k ]
]

-- one of these that passes is found
any_found : (p : ℕ → Bool) (ids : List ℕ) (id : ℕ) → is_in ids id ≡ true → p id ≡ true → list_any p ids ≡ true
any_found p [] id h passes = absurd (false≢true h)
any_found p (x ∷ ids) id h passes = elim (or_cases (eqb x id) (is_in ids id) h) [
  | inl e ↦ or_left (p x) (list_any p ids) (subst (λ i. p i ≡ true) (sym (eqb-true x id e)) passes)
  | inr r ↦ or_right (p x) (list_any p ids) (any_found p ids id r passes)
]

negated : (b : Bool) → not b ≡ true → b ≡ false
negated true e = absurd (false≢true e)
negated false e = refl

-- another one of these that passes
find_another : (p : ℕ → Bool) (id : ℕ) (ids : List ℕ) → list_any (λ other. not (eqb other id) && p other) ids ≡ true → (other : ℕ) × (is_in ids other ≡ true) × (eqb other id ≡ false) × (p other ≡ true)
find_another p id [] h = absurd (false≢true h)
find_another p id (x ∷ ids) h = elim (or_cases (not (eqb x id) && p x) (list_any (λ other. not (eqb other id) && p other) ids) h) [
  | inl here ↦ let parts = and_parts (not (eqb x id)) (p x) here in (x, or_left (eqb x x) (is_in ids x) (eq-eqb x x refl), negated (eqb x id) parts.0, parts.1)
  | inr later ↦ let found = find_another p id ids later in (found.0, or_right (eqb x found.0) (is_in ids found.0) found.1, found.2, found.3)
]

-- who is left out isn't among the others
without_out : (id : ℕ) (ids : List ℕ) → is_in (without id ids) id ≡ false
without_out id [] = refl
without_out id (x ∷ ids) = go (eqb x id) refl (without_out id ids) where
  go : (t : Bool) → eqb x id ≡ t → is_in (without id ids) id ≡ false → is_in (cond (not t) (x ∷ without id ids) (without id ids)) id ≡ false
  go true e rest = rest
  go false e rest = ap (λ b. b || is_in (without id ids) id) e ∙ rest

heads_same : {A : Type 0} {x y : A} {xs ys : List A} → x ∷ xs ≡ y ∷ ys → x ≡ y
heads_same e = cc

-- ---- what the master hears

-- A message as it is kept tells the master as much as what it stands for.
heard_same : (from : Party) (x : rust.Message) (m : Message) (k : Master) → Means x m → (hears_from from m k).master ≡ (hears_from from (heard x) k).master
unfolding hears
heard_same parties.Master x m k means = refl
heard_same parties.Clients x m k means = refl
heard_same (parties.Server from) (stored.Fwd place entry) m k means = ap (λ (z : Message). (hears from z k).master) means
heard_same (parties.Server from) (stored.Snap state) m k means = ap (λ (z : Message). (hears from z k).master) means.is
heard_same (parties.Server from) (stored.Ack place) m k means = ap (λ (z : Message). (hears from z k).master) means
heard_same (parties.Server from) stored.BeHead m k means = ap (λ (z : Message). (hears from z k).master) means
heard_same (parties.Server from) (stored.Report pred) m k means = ap (λ (z : Message). (hears from z k).master) means
heard_same (parties.Server from) (stored.Adopt succ have) m k means = ap (λ (z : Message). (hears from z k).master) means
heard_same (parties.Server from) (stored.BeTail least) m k means = ap (λ (z : Message). (hears from z k).master) means
heard_same (parties.Server from) (stored.Feed succ) m k means = ap (λ (z : Message). (hears from z k).master) means
heard_same (parties.Server from) (stored.Have pred count) m k means = ap (λ (z : Message). (hears from z k).master) means
heard_same (parties.Server from) (stored.Adopted succ count) m k means = ap (λ (z : Message). (hears from z k).master) means
heard_same (parties.Server from) (stored.Caught pred count) m k means = ap (λ (z : Message). (hears from z k).master) means
heard_same (parties.Server from) stored.Ready m k means = ap (λ (z : Message). (hears from z k).master) means
heard_same (parties.Server from) (stored.Answer answer) m k means = ap (λ (z : Message). (hears from z k).master) means

ready_same : (x : rust.Message) (m : Message) → is_ready x ≡ true → Means x m → m ≡ Ready
ready_same stored.Ready m is means = means
ready_same x m is means = absurd (false≢true is)

-- what the master knows after an action of a party
abbrev learned_by : Party → Master → Action → Master
learned_by parties.Master m d = learned m d
learned_by (parties.Server id) m d = m
learned_by parties.Clients m d = m

-- and what it did
abbrev logged : List Action → Party → Action → List Action
logged log parties.Master d = log ++ d ∷ []
logged log (parties.Server id) d = log
logged log parties.Clients d = log

knows_more : (log : List Action) (m : Master) (d : Action) → knows m (log ++ d ∷ []) ≡ learned (knows m log) d
knows_more [] m d = refl
knows_more (e ∷ log) m d = knows_more log (learned m e) d

knows_logged : (m : Master) (log : List Action) (p : Party) (d : Action) → knows m (logged log p d) ≡ learned_by p (knows m log) d
knows_logged m log parties.Master d = knows_more log m d
knows_logged m log (parties.Server id) d = refl
knows_logged m log parties.Clients d = refl

taken_master : (w : World) (from : Party) (k : ℕ) (ms : List Message) → (after_take w from (parties.Server k) ms).master ≡ w.master
taken_master w from k [] = refl
taken_master w from k (m ∷ ms) = refl

taken_clients : (w : World) (from : Party) (ms : List Message) → (after_take w from parties.Clients ms).master ≡ w.master
taken_clients w from [] = refl
taken_clients w from (m ∷ ms) = refl

-- The master knows what its own actions say, and what others do changes nothing of it.
master_next : (w : World) (p : Party) (d : Action) → party_of (event_of p d) ≡ p → Finds w p d → (next w (event_of p d)).master ≡ learned_by p w.master d
unfolding next
master_next w (parties.Server id) (Arrived clock request) own finds = refl
master_next w (parties.Server id) (Asked query) own finds = refl
master_next w (parties.Server id) (Put to x) own finds = refl
master_next w (parties.Server id) (Took from x) own finds = taken_master w from id (w.link from (parties.Server id))
master_next w (parties.Server id) (Crashed count) own finds = refl
master_next w (parties.Server id) (Detected other) own finds = absurd (false≢true (sym (ap (same parties.Master) own)))
master_next w (parties.Server id) (Joined other) own finds = absurd (false≢true (sym (ap (same parties.Master) own)))
master_next w parties.Master (Arrived clock request) own finds = absurd (false≢true (ap (same parties.Master) own))
master_next w parties.Master (Asked query) own finds = absurd (false≢true (ap (same parties.Master) own))
master_next w parties.Master (Put to x) own finds = refl
master_next w parties.Master (Took from x) own finds = ap (λ (us : List Message). (after_take w from parties.Master us).master) finds.at ∙ heard_same from x finds.m w.master finds.means
master_next w parties.Master (Crashed count) own finds = absurd (false≢true (ap (same parties.Master) own))
master_next w parties.Master (Detected id) own finds = refl
master_next w parties.Master (Joined id) own finds = refl
master_next w parties.Clients (Arrived clock request) own finds = absurd (false≢true (ap (same parties.Clients) own))
master_next w parties.Clients (Asked query) own finds = absurd (false≢true (ap (same parties.Clients) own))
master_next w parties.Clients (Put to x) own finds = refl
master_next w parties.Clients (Took from x) own finds = taken_clients w from (w.link from parties.Clients)
master_next w parties.Clients (Crashed count) own finds = absurd (false≢true (ap (same parties.Clients) own))
master_next w parties.Clients (Detected id) own finds = absurd (false≢true (ap (same parties.Clients) own))
master_next w parties.Clients (Joined id) own finds = absurd (false≢true (ap (same parties.Clients) own))

-- ---- what the log tells

-- whose Ready stands first in a link is full
ready_first : (w : World) (from : Party) (id : ℕ) (m : Message) (ms : List Message) → w.link from parties.Master ≡ m ∷ ms → same from (parties.Server id) ≡ true → m ≡ Ready → Says (view w) → (w.server id).full ≡ true
ready_first w from id m ms at is says_so h =
    let here : w.link (parties.Server id) parties.Master ≡ m ∷ ms = ap (λ (p : Party). w.link p parties.Master) (sym (same-true from (parties.Server id) is)) ∙ at in
    let says : IsTrueOf (w.server id) m = (subst (λ (us : List Message). Each (IsTrueOf (w.server id)) (us ++ w.outbox (parties.Server id) parties.Master)) here (h id)).0 in
    subst (IsTrueOf (w.server id)) says_so says

ready_taken : (w : World) (d : Action) (id : ℕ) → Finds w parties.Master d → takes_ready id d ≡ true → Says (view w) → (w.server id).full ≡ true
ready_taken w (Took from x) id finds is h = let parts = and_parts (same from (parties.Server id)) (is_ready x) is in ready_first w from id finds.m finds.ms finds.at parts.0 (ready_same x finds.m parts.1 finds.means) h
ready_taken w (Arrived clock request) id finds is h = absurd (false≢true is)
ready_taken w (Asked query) id finds is h = absurd (false≢true is)
ready_taken w (Put to x) id finds is h = absurd (false≢true is)
ready_taken w (Crashed count) id finds is h = absurd (false≢true is)
ready_taken w (Detected other) id finds is h = absurd (false≢true is)
ready_taken w (Joined other) id finds is h = absurd (false≢true is)

ready_logged : (w : World) (log : List Action) (p : Party) (d : Action) (id : ℕ) → Finds w p d → Says (view w) → (list_any (takes_ready id) log ≡ true → (w.server id).full ≡ true) → list_any (takes_ready id) (logged log p d) ≡ true → (w.server id).full ≡ true
ready_logged w log parties.Master d id finds says old h = elim (any_more (takes_ready id) log d h) [ inl before ↦ old before | inr now ↦ ready_taken w d id finds now says ]
ready_logged w log (parties.Server k) d id finds says old h = old h
ready_logged w log parties.Clients d id finds says old h = old h

-- who is detected is neither a member nor joins any more
detected_out : (w : World) (id : ℕ) → Apart (extended w.master) → refusal_of w (events.Detect id) ≡ None → IsOut (next w (events.Detect id)) id
unfolding refusal_of next detected
detected_out w id apart free = go (is_that w.master.joiner id) refl where
  known : is_in w.master.used id ≡ true
  known = (known-parts (is_in w.master.used id) (refusal_of_detect w id) free).0

  no_joiner : (t : Bool) → is_that w.master.joiner id ≡ false → is_that (cond t None w.master.joiner) id ≡ false
  no_joiner true other = refl
  no_joiner false other = other

  go : (t : Bool) → is_that w.master.joiner id ≡ t → IsOutOf (cond t (dropped w.master) (closed_up id w.master)).master id
  go true is = (known, joiner-out w.master.chain w.master.joiner id apart is, refl)
  go false is = (known, without_out id w.master.chain, no_joiner (is_last w.master.chain id) is)

-- What the log tells where these events have happened.
record Tells (start : World) (before : List Event) (log : List Action) (w : World) : Type 0 where
  knows_all : w.master ≡ knows start.master log
  first : (id : ℕ) → (start.server id).full ≡ true → (w.server id).full ≡ true
  spoke : (id : ℕ) → list_any (takes_ready id) log ≡ true → (w.server id).full ≡ true
  says : Says (view w)
  gone : (id : ℕ) → Among (events.Detect id) before → IsOut w id

-- one event more
tells_next : (start : World) (before : List Event) (event : Event) (log : List Action) (p : Party) (d : Action) → IsStart start → event ≡ event_of p d → party_of event ≡ p
    → refusal_of (world_after start before) event ≡ None → Finds (world_after start before) p d
    → Tells start before log (world_after start before) → Tells start (before ++ event ∷ []) (logged log p d) (world_after start (before ++ event ∷ []))
tells_next start before event log p d s is own free finds t = record {
  knows_all = ap (λ (v : World). v.master) (world_is ∙ ap (next w) is) ∙ master_next w p d (ap party_of (sym is) ∙ own) finds ∙ ap (λ (m : Master). learned_by p m d) t.knows_all ∙ sym (knows_logged start.master log p d);
  first = λ id h. subst (λ (v : World). (v.server id).full ≡ true) (sym world_is) (full_next w event id (t.first id h));
  spoke = λ id h. subst (λ (v : World). (v.server id).full ≡ true) (sym world_is) (full_next w event id (ready_logged w log p d id finds t.says (t.spoke id) h));
  says = subst (λ (v : World). Says (view v)) (sym world_is) (next_says w event t.says);
  gone = λ id h. elim (among-append (events.Detect id) before (event ∷ []) h) [
    | inl old ↦ start_out start s before (event ∷ []) id (t.gone id old)
    | inr new ↦ elim new [
      | inl e ↦ subst (λ (v : World). IsOut v id) (sym world_is) (subst (λ (z : Event). IsOut (next w z) id) e (detected_out w id good.apart (subst (λ (z : Event). refusal_of w z ≡ None) (sym e) free)))
      | inr none ↦ absurd none
    ]
  ];
} where
  w : World
  w = world_after start before

  world_is : world_after start (before ++ event ∷ []) ≡ next (world_after start before) event
  world_is = world-more start before event ∙ after-done (world_after start before) event free

  good : Prefixes (view (world_after start before))
  good = start_good start s before

first_tells : (start : World) → IsStart start → Tells start [] [] start
first_tells start s = record {
  knows_all = refl;
  first = λ id h. h;
  spoke = λ id none. absurd (false≢true none);
  says = start_says start s;
  gone = λ id none. absurd none;
}

-- ---- orders by the log

-- an event that is a detection
abbrev is_detection : Event → Bool
is_detection (events.Detect id) = true
is_detection event = false

same_number : (a b : ℕ) → events.Detect a ≡ events.Detect b → a ≡ b
same_number a b e = cc

-- the action that is a detection
detection : (id : ℕ) (d : Action) → events.Detect id ≡ event_of parties.Master d → d ≡ Detected id
detection id (Detected other) h = ap Detected (sym (same_number id other h))
detection id (Arrived clock request) h = absurd (false≢true (sym (ap is_detection h)))
detection id (Asked query) h = absurd (false≢true (sym (ap is_detection h)))
detection id (Put to x) h = absurd (false≢true (sym (ap is_detection h)))
detection id (Took from x) h = absurd (false≢true (sym (ap is_detection h)))
detection id (Crashed count) h = absurd (false≢true (sym (ap is_detection h)))
detection id (Joined other) h = absurd (false≢true (sym (ap is_detection h)))

-- What holds at a moment of an order.
record At (start : World) (all : Party → List Action) (before rest : List Event) : Type 0 where
  actions : Party → List Action
  link : Party → Party → List rust.Message
  log : List Action
  each : (q : Party) → of_party q rest ≡ map (event_of q) (actions q)
  now : Now start before (world_after start before) actions link
  tells : Tells start before log (world_after start before)
  parts : all parties.Master ≡ log ++ actions parties.Master

module _ (start : World) (all : Party → List Action) (order : List Event) (s : IsStart start) (t : IsByTheLogFrom start all order) where
  -- nothing of a server comes behind its crash
  silent_behind : (id : ℕ) (before rest : List Event) (event : Event) → order ≡ before ++ (events.Crash id ∷ rest) → Among event rest → same (parties.Server id) (party_of event) ≡ false
  silent_behind id before rest event split h =
      let next_is = t.crashes id before rest split in
      let on : order ≡ (before ++ events.Crash id ∷ []) ++ (events.Detect id ∷ next_is.0) = split ∙ ap (λ us. before ++ (events.Crash id ∷ us)) next_is.1 ∙ sym (append_assoc before (events.Crash id ∷ []) (events.Detect id ∷ next_is.0)) in
      elim (subst (Among event) next_is.1 h) [
        | inl e ↦ ap (λ (z : Event). same (parties.Server id) (party_of z)) e
        | inr behind ↦ t.silence id (before ++ events.Crash id ∷ []) next_is.0 event on behind
      ]

  timely : IsTimely start all order
  timely = record { each = t.each; acted = t.acted; links = t.links; causes = t.causes; detections = t.detections; silence = silent_behind; joins = t.joins }

  -- a member has not crashed, unless its detection is next
  member_lives : (id other : ℕ) (before rest : List Event) (at : At start all before (events.Crash id ∷ rest)) → order ≡ before ++ (events.Crash id ∷ rest) → is_in (world_after start before).master.chain other ≡ true → ((world_after start before).server other).down ≡ false
  member_lives id other before rest at split member = go ((world_after start before).server other).down refl where
    detected_then : (a b : List Event) → before ≡ a ++ (events.Crash other ∷ b) → (later : List Event) × (b ++ (events.Crash id ∷ rest) ≡ events.Detect other ∷ later) → Among (events.Detect other) before
    detected_then a [] is next_is =
        let here : events.Crash id ∷ rest ≡ events.Detect other ∷ next_is.0 = next_is.1 in
        absurd (false≢true (ap is_detection (heads_same here)))
    detected_then a (e ∷ b) is next_is =
        let here : e ∷ (b ++ (events.Crash id ∷ rest)) ≡ events.Detect other ∷ next_is.0 = next_is.1 in
        subst (Among (events.Detect other)) (sym is) (among-right (events.Detect other) a (events.Crash other ∷ (e ∷ b)) (inr (inl (sym (heads_same here)))))

    go : (t : Bool) → ((world_after start before).server other).down ≡ t → t ≡ false
    go false down = refl
    go true down =
        let fell = among_split (events.Crash other) before (at.now.crashed other down) in
        let on = split ∙ ap (λ us. us ++ (events.Crash id ∷ rest)) fell.2 ∙ append_assoc fell.0 (events.Crash other ∷ fell.1) (events.Crash id ∷ rest) in
        let out = at.tells.gone other (detected_then fell.0 fell.1 fell.2 (t.crashes other fell.0 (fell.1 ++ (events.Crash id ∷ rest)) on)) in
        absurd (both_ways (is_in (world_after start before).master.chain other) out.1 member)

  -- what the master does next
  detects_next : (id : ℕ) (before rest : List Event) (at : At start all before (events.Crash id ∷ rest)) → order ≡ before ++ (events.Crash id ∷ rest) → (ds : List Action) × (all parties.Master ≡ at.log ++ (Detected id ∷ ds))
  detects_next id before rest at split =
      let next_is = t.crashes id before rest split in
      let own : events.Detect id ∷ of_party parties.Master next_is.0 ≡ map (event_of parties.Master) (at.actions parties.Master) = sym (ap (of_party parties.Master) next_is.1) ∙ at.each parties.Master in
      let first = first_action (event_of parties.Master) (at.actions parties.Master) (events.Detect id) (of_party parties.Master next_is.0) own in
      (first.1, at.parts ∙ ap (λ (us : List Action). at.log ++ us) (first.2 ∙ ap (λ (d : Action). d ∷ first.1) (detection id first.0 first.3)))

  -- Where a server crashes, another one is full and lives.
  survives_at : (id : ℕ) (before rest : List Event) → At start all before (events.Crash id ∷ rest) → order ≡ before ++ (events.Crash id ∷ rest) → another_full (world_after start before) id ≡ true
  survives_at id before rest at split =
      let w = world_after start before in
      let detects = detects_next id before rest at split in
      let found = find_another (full_by_log start at.log) id (knows start.master at.log).chain (t.others id at.log detects.0 detects.1) in
      let member : is_in w.master.chain found.0 ≡ true = ap (λ (m : Master). is_in m.chain found.0) at.tells.knows_all ∙ found.1 in
      let good : Prefixes (view w) = start_good start s before in
      let full : (w.server found.0).full ≡ true = elim (or_cases (start.server found.0).full (list_any (takes_ready found.0) at.log) found.3) [ inl first ↦ at.tells.first found.0 first | inr said ↦ at.tells.spoke found.0 said ] in
      any_found (λ other. not (eqb other id) && (w.server other).full && not (w.server other).down) w.master.used found.0 (chain-used (view w) found.0 good member)
      (and_from (not (eqb found.0 id) && (w.server found.0).full) (not (w.server found.0).down) (and_from (not (eqb found.0 id)) (w.server found.0).full (ap not found.2) full) (ap not (member_lives id found.0 before rest at split member)))

  survives_here : (before : List Event) (event : Event) (rest : List Event) → order ≡ before ++ (event ∷ rest) → At start all before (event ∷ rest) → (id : ℕ) → event ≡ events.Crash id → another_full (world_after start before) id ≡ true
  survives_here before event rest split at id is = survives_at id before rest (subst (λ e. At start all before (e ∷ rest)) is at) (split ∙ ap (λ e. before ++ (e ∷ rest)) is)

  -- what the master did, and has still to do
  parts_next : (actions : Party → List Action) (log : List Action) (p : Party) (d : Action) (ds : List Action) → actions p ≡ d ∷ ds → all parties.Master ≡ log ++ actions parties.Master → all parties.Master ≡ logged log p d ++ left actions p ds parties.Master
  parts_next actions log parties.Master d ds is parts = parts ∙ ap (λ us. log ++ us) is ∙ sym (append_assoc log (d ∷ []) ds)
  parts_next actions log (parties.Server id) d ds is parts = parts
  parts_next actions log parties.Clients d ds is parts = parts

  -- one moment later
  at_next : (before : List Event) (event : Event) (rest : List Event) → order ≡ before ++ (event ∷ rest) → At start all before (event ∷ rest) → At start all (before ++ event ∷ []) rest
  at_next before event rest split at =
      let p = party_of event in
      let first = first_action (event_of p) (at.actions p) event (of_party p rest) (sym (own_events p event rest refl) ∙ at.each p) in
      let survives = survives_here before event rest split at in
      let r = ready start all order s timely before event rest split at.actions at.link at.now survives p first.0 first.1 first.3 refl first.2 in
      record {
        actions = left at.actions p first.1;
        link = after_link start all order s timely before event rest split at.actions at.link at.now survives p first.0 first.1 first.3 first.2 r;
        log = logged at.log p first.0;
        each = left_each at.actions event rest first.1 at.each first.4;
        now = later start all order s timely before event rest split at.actions at.link at.now survives p first.0 first.1 first.3 first.2 r;
        tells = tells_next start before event at.log p first.0 s first.3 refl (subst (λ e. refusal_of (world_after start before) e ≡ None) (sym first.3) r.free) r.finds at.tells;
        parts = parts_next at.actions at.log p first.0 first.1 first.2 at.parts;
      }

  -- and some events later
  at_later : (more before rest : List Event) → order ≡ before ++ (more ++ rest) → At start all before (more ++ rest) → At start all (before ++ more) rest
  at_later [] before rest split at = subst (λ us. At start all us rest) (sym (append-nil before)) at
  at_later (event ∷ more) before rest split at = subst (λ us. At start all us rest) (append_assoc before (event ∷ []) more)
      (at_later more (before ++ event ∷ []) rest (split ∙ sym (append_assoc before (event ∷ []) (more ++ rest))) (at_next before event (more ++ rest) split at))

  at_first : At start all [] order
  unfolding world_after
  at_first = record {
    actions = all;
    link = λ x y. [];
    log = [];
    each = t.each;
    now = first_now start all order s timely;
    tells = first_tells start s;
    parts = refl;
  }

  -- Another one is full and lives wherever one crashes.
  survivors : (id : ℕ) (before rest : List Event) → order ≡ before ++ (events.Crash id ∷ rest) → another_full (world_after start before) id ≡ true
  survivors id before rest split = survives_at id before rest (at_later before [] (events.Crash id ∷ rest) split (subst (λ us. At start all [] us) split at_first)) split

  in_time : IsInTimeFrom start all order
  in_time = record { each = t.each; acted = t.acted; links = t.links; causes = t.causes; detections = t.detections; silence = silent_behind; survivors = survivors; joins = t.joins }

pub log_orders_from_starts_are_runs : LogOrdersFromStartsAreRuns
log_orders_from_starts_are_runs start all order s t = let now = in_time start all order s t in (now, orders_from_starts_are_runs start all order s now)

pub orders_by_the_log_are_runs : OrdersByTheLogAreRuns
orders_by_the_log_are_runs size all order some t = log_orders_from_starts_are_runs (first_world size) all order (first_worlds_are_starts size some).0 t
