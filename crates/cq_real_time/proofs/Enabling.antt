-- In an order in time each event is enabled.
use Rattle.std.proofs.Common.{◌≡◌, ◌<◌, ℕ, ◌+◌, arith, ◌∙◌, ap, sym, refl, subst, cond, List, [], ◌∷◌, ◌++◌, length, map, append_assoc, Bool, true, false, ◌&&◌, eqb, ◌⊎◌, inl, inr, Some, None}
use Rattle.std.proofs.lemmas.Bool.{eqb-true, eq-eqb, false≢true, both_ways}
use Rattle.cq_base.proofs.Among.{among-append, among-left, among-right}
use Rattle.cq_base.specs.declared.party.Party.{Party}
use Rattle.cq_base.specs.declared.party.Party.TheVariants as parties
use Rattle.cq_base.specs.Relations.{Among, IsPrefix}
use Rattle.cq_chain.specs.declared.fault.WorldFault.TheVariants.{LastFull}
use Rattle.cq_chain.specs.declared.message.Answer.{Answer}
use Rattle.cq_chain.specs.declared.message.Message as rust
use Rattle.cq_chain.specs.declared.message.Message.TheVariants as stored
use Rattle.cq_chain.specs.Messages.{Message}
use Rattle.cq_chain.specs.Parties.{same}
use Rattle.cq_chain.specs.Stands.{Means, AllMean, IsFirst}
use Rattle.cq_events.proofs.Parties.{same-true, same-refl}
use Rattle.cq_events.specs.Actions.{Action, Arrived, Asked, Put, Took, Crashed, Detected, Joined, event_of, put_to, taken_from}
use Rattle.cq_events.specs.Events.{refusal_of, refusal_of_put, refusal_of_take, refusal_at, another_full, next, has_party, is_down}
use Rattle.cq_events.specs.Orders.{of_party, AreEnabled, put_by}
use Rattle.cq_events.specs.Owners.{party_of}
use Rattle.cq_events.specs.Runs.{world_after, given_from}
use Rattle.cq_events.specs.Worlds.{World, first_world, is_in, channel}
use Rattle.cq_events.specs.declared.event.Event.{Event}
use Rattle.cq_events.specs.declared.event.Event.TheVariants as events
use Rattle.cq_trace.proofs.OfLaws.ActionLists.{left, first_action}
use Rattle.cq_trace.proofs.OfLaws.Casts.{Cast}
use Rattle.cq_trace.proofs.OfLaws.LinkLaws.{same_first}
use Rattle.cq_trace.proofs.OfLaws.GivenAnswers.{among_right, all_heard}
use Rattle.cq_trace.proofs.OfLaws.Moments.{own_events, agree}
use Rattle.cq_trace.proofs.OfLaws.NextActions.{next_action}
use Rattle.cq_world.proofs.Eaches.{cons_nil}
use Rattle.cq_world.proofs.OfLaws.Headlines.{given_of_one_object}
use Rattle.cq_world.proofs.OfSim.Refused.{at-living, refused-arrive, refused-ask, refused-crash, refused-join, detect-known, detect-dead, put-known, take-known}
use Rattle.cq_world.proofs.OfSim.RunSteps.{after-done, world-more}
use Rattle.cq_world.proofs.Prefixes.{Prefixes}
use Rattle.cq_world.proofs.Views.{view}
use Rattle.cq_real_time.specs.Interleavings.{Acted, puts_on, takes_on, IsStart, IsInTimeFrom, OrdersFromStartsAreRuns, AnswersFromStartsAreOfOneObject, OrdersInTimeAreRuns}
use Rattle.cq_real_time.proofs.Acting.{acted_lived, acted_next, server_acts, master_acts, Standing, Finds}
use Rattle.cq_real_time.proofs.Counting.{Moves, puts_more, takes_more, link_next, fallen, down_next, used_next, join_used}
use Rattle.cq_real_time.proofs.Starts.{start_good, start_unknown, first_worlds_are_starts}

-- ---- lists

-- where one of a list stands
pub among_split : {X : Type 0} (x : X) (xs : List X) → Among x xs → (before behind : List X) × (xs ≡ before ++ (x ∷ behind))
among_split x [] h = absurd h
among_split x (y ∷ xs) (inl e) = ([], xs, ap (λ z. z ∷ xs) (sym e))
among_split x (y ∷ xs) (inr h) = let rest = among_split x xs h in (y ∷ rest.0, rest.1, ap (λ us. y ∷ us) rest.2)

-- a link that is not empty has a first message
filled : {X : Type 0} (xs : List X) → 0 < length xs → (x : X) × (rest : List X) × (xs ≡ x ∷ rest)
filled [] h = absurd (omega arith)
filled (x ∷ xs) h = (x, xs, refl)

-- what stands for that begins with a message that means the first
meant : (xs : List rust.Message) (ms rest : List Message) (m : Message) → AllMean xs ms → ms ≡ m ∷ rest → (x : rust.Message) × (ls : List rust.Message) × (xs ≡ x ∷ ls) × Means x m
meant [] [] rest m h e = absurd (cons_nil m rest (sym e))
meant [] (n ∷ ns) rest m h e = absurd h
meant (x ∷ xs) [] rest m h e = absurd h
meant (x ∷ xs) (n ∷ ns) rest m h e = (x, xs, refl, subst (Means x) (heads e) h.0) where
  heads : {A : Type 0} {a b : A} {us vs : List A} → a ∷ us ≡ b ∷ vs → a ≡ b
  heads same_lists = cc

-- what waits where a message is the first
waiting : (x : rust.Message) (box : List Message) → IsFirst (Some x) box → (m : Message) × (ms : List Message) × (box ≡ m ∷ ms)
waiting x [] h = absurd h
waiting x (m ∷ ms) h = (m, ms, refl)

not_empty : (box ms : List Message) (m : Message) → box ≡ m ∷ ms → refusal_of_put box ≡ None
not_empty box ms m is = ap refusal_of_put is

-- a put on a link, where events put something there
put_behind : (from to : Party) (e : Event) (es : List Event) → (before behind : List Event) × (es ≡ before ++ (events.Put from to ∷ behind)) → (before behind : List Event) × (e ∷ es ≡ before ++ (events.Put from to ∷ behind))
put_behind from to e es rest = (e ∷ rest.0, rest.1, ap (λ us. e ∷ us) rest.2)

put_found : (from to : Party) (es : List Event) → 0 < puts_on from to es → (before behind : List Event) × (es ≡ before ++ (events.Put from to ∷ behind))
put_found from to [] h = absurd (omega arith)
put_found from to (events.Put a b ∷ es) h = go (λ some. put_found from to es some) (same from a) (same to b) refl refl h where
  go : (0 < puts_on from to es → (before behind : List Event) × (es ≡ before ++ (events.Put from to ∷ behind))) → (s t : Bool) → same from a ≡ s → same to b ≡ t → 0 < cond (s && t) 1 0 + puts_on from to es
      → (before behind : List Event) × (events.Put a b ∷ es ≡ before ++ (events.Put from to ∷ behind))
  go rest true true e f some = ([], es, ap (λ z. events.Put z b ∷ es) (sym (same-true from a e)) ∙ ap (λ z. events.Put from z ∷ es) (sym (same-true to b f)))
  go rest true false e f some = put_behind from to (events.Put a b) es (rest (omega arith))
  go rest false t e f some = put_behind from to (events.Put a b) es (rest (omega arith))
put_found from to (events.Arrive at clock request ∷ es) h = put_behind from to (events.Arrive at clock request) es (put_found from to es (omega arith))
put_found from to (events.Ask at query ∷ es) h = put_behind from to (events.Ask at query) es (put_found from to es (omega arith))
put_found from to (events.Take a b ∷ es) h = put_behind from to (events.Take a b) es (put_found from to es (omega arith))
put_found from to (events.Crash id ∷ es) h = put_behind from to (events.Crash id) es (put_found from to es (omega arith))
put_found from to (events.Detect id ∷ es) h = put_behind from to (events.Detect id) es (put_found from to es (omega arith))
put_found from to (events.Join id ∷ es) h = put_behind from to (events.Join id) es (put_found from to es (omega arith))

-- ---- at one moment

-- An order in time, but for what is asked where a server crashes.
pub record IsTimely (start : World) (actions : Party → List Action) (order : List Event) : Type 0 where
  pub each : (p : Party) → of_party p order ≡ map (event_of p) (actions p)
  pub acted : (p : Party) → Acted start p (actions p)
  pub links : (from to : Party) → IsPrefix (taken_from from (actions to)) (put_to to (actions from))
  pub causes : (from to : Party) (before rest : List Event) → order ≡ before ++ (events.Take from to ∷ rest) → takes_on from to before < puts_on from to before
  pub detections : (id : ℕ) (before rest : List Event) → order ≡ before ++ (events.Detect id ∷ rest) → Among (events.Crash id) before
  pub silence : (id : ℕ) (before rest : List Event) (event : Event) → order ≡ before ++ (events.Crash id ∷ rest) → Among event rest → same (parties.Server id) (party_of event) ≡ false
  pub joins : (id : ℕ) (before rest : List Event) (event : Event) → order ≡ before ++ (event ∷ rest) → same (parties.Server id) (party_of event) ≡ true
      → (is_in start.master.used id ≡ true) ⊎ Among (events.Join id) before

-- What holds where these events have happened.
pub record Now (start : World) (before : List Event) (w : World) (actions : Party → List Action) (link : Party → Party → List rust.Message) : Type 0 where
  pub cast : Cast w actions link
  pub acted : (q : Party) → Acted w q (actions q)
  pub counts : (x y : Party) → same parties.Clients y ≡ false → length (w.link x y) + takes_on x y before ≡ puts_on x y before
  pub fell : (id : ℕ) → Among (events.Crash id) before → (w.server id).down ≡ true
  pub crashed : (id : ℕ) → (w.server id).down ≡ true → Among (events.Crash id) before
  pub used : (id : ℕ) → (is_in start.master.used id ≡ true) ⊎ Among (events.Join id) before → is_in w.master.used id ≡ true

-- The next event isn't refused, finds what it takes, and moves what it puts or takes.
pub record Ready (w : World) (p : Party) (d : Action) : Type 0 where
  pub free : refusal_of w (event_of p d) ≡ None
  pub finds : Finds w p d
  pub moves : Moves w (event_of p d)

module _ (start : World) (all : Party → List Action) (order : List Event) (s : IsStart start) (t : IsTimely start all order)
    (before : List Event) (event : Event) (rest : List Event) (split : order ≡ before ++ (event ∷ rest))
    (actions : Party → List Action) (link : Party → Party → List rust.Message) (now : Now start before (world_after start before) actions link)
    (survives : (id : ℕ) → event ≡ events.Crash id → another_full (world_after start before) id ≡ true) where
  abbrev w : World
  w = world_after start before

  -- an event earlier still, and what follows it
  earlier : (a b : List Event) (e : Event) → before ≡ a ++ (e ∷ b) → order ≡ a ++ (e ∷ (b ++ (event ∷ rest)))
  earlier a b e is = split ∙ ap (λ us. us ++ (event ∷ rest)) is ∙ append_assoc a (e ∷ b) (event ∷ rest)

  -- who acts has not crashed
  lives : (id : ℕ) → same (parties.Server id) (party_of event) ≡ true → (w.server id).down ≡ false
  lives id own = go (w.server id).down refl where
    go : (b : Bool) → (w.server id).down ≡ b → (w.server id).down ≡ false
    go false e = e
    go true e =
        let at = among_split (events.Crash id) before (now.crashed id e) in
        absurd (both_ways (same (parties.Server id) (party_of event)) (t.silence id at.0 (at.1 ++ (event ∷ rest)) event (earlier at.0 at.1 (events.Crash id) at.2) (among-right event at.1 (event ∷ rest) (inl refl))) own)

  -- and was used
  known : (id : ℕ) → same (parties.Server id) (party_of event) ≡ true → is_in w.master.used id ≡ true
  known id own = now.used id (t.joins id before rest event split own)

  -- so was who did something before
  known_before : (id : ℕ) (a b : List Event) (e : Event) → before ≡ a ++ (e ∷ b) → same (parties.Server id) (party_of e) ≡ true → is_in w.master.used id ≡ true
  known_before id a b e is own = now.used id (wider (t.joins id a (b ++ (event ∷ rest)) e (earlier a b e is) own)) where
    wider : (is_in start.master.used id ≡ true) ⊎ Among (events.Join id) a → (is_in start.master.used id ≡ true) ⊎ Among (events.Join id) before
    wider (inl first) = inl first
    wider (inr joined) = inr (subst (Among (events.Join id)) (sym is) (among-left (events.Join id) a (e ∷ b) joined))

  -- who put something on a link
  sender : (from to : Party) → takes_on from to before < puts_on from to before → has_party w from ≡ true
  sender parties.Master to more = refl
  sender parties.Clients to more = refl
  sender (parties.Server id) to more =
      let found = put_found (parties.Server id) to before (omega arith) in
      known_before id found.0 found.1 (events.Put (parties.Server id) to) found.2 (same-refl (parties.Server id))

  -- a message that waits for a server waits for one that was used
  receiver : (p to : Party) (m : Message) (ms : List Message) → same parties.Clients p ≡ false → w.outbox p to ≡ m ∷ ms → has_party w to ≡ true
  receiver p parties.Master m ms is at = refl
  receiver p parties.Clients m ms is at = refl
  receiver p (parties.Server j) m ms is at = go (is_in w.master.used j) refl where
    nothing : (q : Party) → same parties.Clients q ≡ false → is_in w.master.used j ≡ false → channel w q (parties.Server j) ≡ []
    nothing parties.Master other unused = (start_unknown start s before j unused).0
    nothing (parties.Server i) other unused = (start_unknown start s before j unused).1 i
    nothing parties.Clients other unused = absurd (false≢true (sym other))

    behind : (xs ys : List Message) → xs ++ ys ≡ [] → ys ≡ []
    behind [] ys h = h
    behind (x ∷ xs) ys h = absurd (cons_nil x (xs ++ ys) h)

    go : (b : Bool) → is_in w.master.used j ≡ b → is_in w.master.used j ≡ true
    go true e = e
    go false e = absurd (cons_nil m ms (sym at ∙ behind (w.link p (parties.Server j)) (w.outbox p (parties.Server j)) (nothing p is e)))

  both_true : (a b : Bool) → a ≡ true → b ≡ true → (a && b) ≡ true
  both_true a b e f = ap (λ x. x && b) e ∙ f

  -- a put
  putting : (p to : Party) (x : rust.Message) → same parties.Clients p ≡ false → has_party w p ≡ true → is_down w p ≡ false → IsFirst (Some x) (w.outbox p to) → Ready w p (Put to x)
  putting p to x other known_p lives_p first =
      let waits = waiting x (w.outbox p to) first in
      record {
        free = put-known w p to (both_true (has_party w p) (has_party w to) known_p (receiver p to waits.0 waits.1 other waits.2)) lives_p ∙ not_empty (w.outbox p to) waits.1 waits.0 waits.2;
        finds = tt;
        moves = waits;
      }

  -- what stands in the link of a take
  standing : (from p : Party) (x : rust.Message) (after_it : List Action) → same parties.Clients p ≡ false → event ≡ events.Take from p → actions p ≡ Took from x ∷ after_it → Standing w from p x
  standing from p x after_it other is next_is =
      let more = t.causes from p before rest (split ∙ ap (λ e. before ++ (e ∷ rest)) is) in
      let count = now.counts from p other in
      let here = filled (w.link from p) (omega arith) in
      let real = meant (link from p) (w.link from p) here.1 here.0 (now.cast.means from p) here.2 in
      record {
        m = here.0;
        ms = here.1;
        at = here.2;
        means = subst (λ z. Means z here.0) (same_first w actions link p from x real.0 after_it real.1 now.cast next_is real.2) real.3;
      }

  -- a take
  taking : (from p : Party) (x : rust.Message) → same parties.Clients p ≡ false → event ≡ events.Take from p → has_party w p ≡ true → is_down w p ≡ false → (at : Standing w from p x) → refusal_at w from p at.m ≡ None → Ready w p (Took from x)
  taking from p x other is known_p lives_p at free = record {
    free = take-known w from p (both_true (has_party w from) (has_party w p) (sender from p (t.causes from p before rest (split ∙ ap (λ e. before ++ (e ∷ rest)) is))) known_p) lives_p
        ∙ ap (refusal_of_take w from p) at.at ∙ free;
    finds = at;
    moves = (at.m, at.ms, at.at);
  }

  -- The next action of a party.
  pub ready : (p : Party) (d : Action) (after_it : List Action) → event ≡ event_of p d → party_of event ≡ p → actions p ≡ d ∷ after_it → Ready w p d
  ready parties.Clients d after_it is own next_is = absurd (cons_nil d after_it (sym next_is ∙ now.acted parties.Clients))
  ready (parties.Server id) (Arrived clock request) after_it is own next_is =
      let self : same (parties.Server id) (party_of event) ≡ true = ap (same (parties.Server id)) own ∙ same-refl (parties.Server id) in
      let goes = server_acts (w.server id) (w.outbox (parties.Server id)) (actions (parties.Server id)) after_it (Arrived clock request) next_is (now.acted (parties.Server id)) in
      record { free = refused-arrive w id clock request ∙ at-living w id _ (known id self) (lives id self) ∙ goes.4.1 (w.server id) (w.outbox (parties.Server id)) goes.3; finds = tt; moves = tt }
  ready (parties.Server id) (Asked query) after_it is own next_is =
      let self : same (parties.Server id) (party_of event) ≡ true = ap (same (parties.Server id)) own ∙ same-refl (parties.Server id) in
      let goes = server_acts (w.server id) (w.outbox (parties.Server id)) (actions (parties.Server id)) after_it (Asked query) next_is (now.acted (parties.Server id)) in
      record { free = refused-ask w id query ∙ at-living w id _ (known id self) (lives id self) ∙ goes.4.1 (w.server id) (w.outbox (parties.Server id)) goes.3; finds = tt; moves = tt }
  ready (parties.Server id) (Crashed count) after_it is own next_is =
      let self : same (parties.Server id) (party_of event) ≡ true = ap (same (parties.Server id)) own ∙ same-refl (parties.Server id) in
      let other = survives id is in
      record { free = refused-crash w id ∙ at-living w id _ (known id self) (lives id self) ∙ ap (λ (b : Bool). cond b None (Some LastFull)) other; finds = tt; moves = tt }
  ready (parties.Server id) (Put to x) after_it is own next_is =
      let self : same (parties.Server id) (party_of event) ≡ true = ap (same (parties.Server id)) own ∙ same-refl (parties.Server id) in
      let goes = server_acts (w.server id) (w.outbox (parties.Server id)) (actions (parties.Server id)) after_it (Put to x) next_is (now.acted (parties.Server id)) in
      putting (parties.Server id) to x refl (known id self) (lives id self) (goes.4.0 (w.server id) (w.outbox (parties.Server id)) goes.3).0
  ready (parties.Server id) (Took from x) after_it is own next_is =
      let self : same (parties.Server id) (party_of event) ≡ true = ap (same (parties.Server id)) own ∙ same-refl (parties.Server id) in
      let goes = server_acts (w.server id) (w.outbox (parties.Server id)) (actions (parties.Server id)) after_it (Took from x) next_is (now.acted (parties.Server id)) in
      let at = standing from (parties.Server id) x after_it refl is next_is in
      taking from (parties.Server id) x refl is (known id self) (lives id self) at (goes.4.1 at.m at.means (w.server id) (w.outbox (parties.Server id)) goes.3)
  ready (parties.Server id) (Detected other) after_it is own next_is = absurd (server_acts (w.server id) (w.outbox (parties.Server id)) (actions (parties.Server id)) after_it (Detected other) next_is (now.acted (parties.Server id))).4.0
  ready (parties.Server id) (Joined other) after_it is own next_is = absurd (server_acts (w.server id) (w.outbox (parties.Server id)) (actions (parties.Server id)) after_it (Joined other) next_is (now.acted (parties.Server id))).4.0
  ready parties.Master (Put to x) after_it is own next_is =
      let goes = master_acts w.master (w.outbox parties.Master) (actions parties.Master) after_it (Put to x) next_is (now.acted parties.Master) in
      putting parties.Master to x refl refl refl (goes.4.0 w.master (w.outbox parties.Master) goes.3).0
  ready parties.Master (Took from x) after_it is own next_is = taking from parties.Master x refl is refl refl (standing from parties.Master x after_it refl is next_is) refl
  ready parties.Master (Detected id) after_it is own next_is =
      let goes = master_acts w.master (w.outbox parties.Master) (actions parties.Master) after_it (Detected id) next_is (now.acted parties.Master) in
      let crash = t.detections id before rest (split ∙ ap (λ e. before ++ (e ∷ rest)) is) in
      let at = among_split (events.Crash id) before crash in
      record {
        free = detect-known w id (known_before id at.0 at.1 (events.Crash id) at.2 (same-refl (parties.Server id))) ∙ detect-dead w id (now.fell id crash) ∙ goes.4.1 w.master (w.outbox parties.Master) goes.3;
        finds = tt;
        moves = tt;
      }
  ready parties.Master (Joined id) after_it is own next_is =
      let goes = master_acts w.master (w.outbox parties.Master) (actions parties.Master) after_it (Joined id) next_is (now.acted parties.Master) in
      record { free = refused-join w id ∙ goes.4.1 w.master (w.outbox parties.Master) goes.3; finds = tt; moves = tt }
  ready parties.Master (Arrived clock request) after_it is own next_is = absurd (master_acts w.master (w.outbox parties.Master) (actions parties.Master) after_it (Arrived clock request) next_is (now.acted parties.Master)).4.0
  ready parties.Master (Asked query) after_it is own next_is = absurd (master_acts w.master (w.outbox parties.Master) (actions parties.Master) after_it (Asked query) next_is (now.acted parties.Master)).4.0
  ready parties.Master (Crashed count) after_it is own next_is = absurd (master_acts w.master (w.outbox parties.Master) (actions parties.Master) after_it (Crashed count) next_is (now.acted parties.Master)).4.0

  -- ---- after it

  good : Prefixes (view w)
  good = start_good start s before

  fallen_still : (e : Event) (id : ℕ) (down : Bool) → down ≡ true → fallen e id down ≡ true
  fallen_still (events.Crash k) id down is = go (eqb id k) where
    go : (b : Bool) → cond b true down ≡ true
    go true = refl
    go false = is
  fallen_still (events.Arrive at clock request) id down is = is
  fallen_still (events.Ask at query) id down is = is
  fallen_still (events.Put a b) id down is = is
  fallen_still (events.Take a b) id down is = is
  fallen_still (events.Detect k) id down is = is
  fallen_still (events.Join k) id down is = is

  fallen_now : (id : ℕ) (down : Bool) → fallen (events.Crash id) id down ≡ true
  fallen_now id down = ap (λ b. cond b true down) (eq-eqb id id refl)

  fallen_by : (e : Event) (id : ℕ) (down : Bool) → fallen e id down ≡ true → (down ≡ true) ⊎ (events.Crash id ≡ e)
  fallen_by (events.Crash k) id down is = go (eqb id k) refl is where
    go : (b : Bool) → eqb id k ≡ b → cond b true down ≡ true → (down ≡ true) ⊎ (events.Crash id ≡ events.Crash k)
    go true e h = inr (ap events.Crash (eqb-true id k e))
    go false e h = inl h
  fallen_by (events.Arrive at clock request) id down is = inl is
  fallen_by (events.Ask at query) id down is = inl is
  fallen_by (events.Put a b) id down is = inl is
  fallen_by (events.Take a b) id down is = inl is
  fallen_by (events.Detect k) id down is = inl is
  fallen_by (events.Join k) id down is = inl is

  module _ (p : Party) (d : Action) (after_it : List Action) (is : event ≡ event_of p d) (next_is : actions p ≡ d ∷ after_it) (r : Ready w p d) where
    world_is : world_after start (before ++ event ∷ []) ≡ next w event
    world_is = world-more start before event ∙ after-done w event (subst (λ e. refusal_of w e ≡ None) (sym is) r.free)

    at_next : next w event ≡ next w (event_of p d)
    at_next = ap (next w) is

    moves_it : Moves w event
    moves_it = subst (Moves w) (sym is) r.moves

    counts_after : (x y : Party) → same parties.Clients y ≡ false → length ((next w event).link x y) + takes_on x y (before ++ event ∷ []) ≡ puts_on x y (before ++ event ∷ [])
    counts_after x y other =
        let count = now.counts x y other in
        let links = link_next w event moves_it x y other in
        let puts = puts_more x y before event in
        let takes = takes_more x y before event in
        omega arith

    fell_after : (id : ℕ) → Among (events.Crash id) (before ++ event ∷ []) → ((next w event).server id).down ≡ true
    fell_after id h = down_next w event id ∙ elim (among-append (events.Crash id) before (event ∷ []) h) [
      | inl old ↦ fallen_still event id (w.server id).down (now.fell id old)
      | inr new ↦ elim new [ inl e ↦ subst (λ z. fallen z id (w.server id).down ≡ true) e (fallen_now id (w.server id).down) | inr none ↦ absurd none ]
    ]

    crashed_after : (id : ℕ) → ((next w event).server id).down ≡ true → Among (events.Crash id) (before ++ event ∷ [])
    crashed_after id down = elim (fallen_by event id (w.server id).down (sym (down_next w event id) ∙ down)) [
      | inl old ↦ among-left (events.Crash id) before (event ∷ []) (now.crashed id old)
      | inr new ↦ among-right (events.Crash id) before (event ∷ []) (inl new)
    ]

    used_after : (id : ℕ) → (is_in start.master.used id ≡ true) ⊎ Among (events.Join id) (before ++ event ∷ []) → is_in (next w event).master.used id ≡ true
    used_after id (inl first) = used_next w event id good (now.used id (inl first))
    used_after id (inr joined) = elim (among-append (events.Join id) before (event ∷ []) joined) [
      | inl old ↦ used_next w event id good (now.used id (inr old))
      | inr new ↦ elim new [ inl e ↦ subst (λ z. is_in (next w z).master.used id ≡ true) e (join_used w id) | inr none ↦ absurd none ]
    ]

    abbrev pub after_link : Party → Party → List rust.Message
    after_link = (next_action w actions link p d after_it now.cast next_is r.free).link

    now_after : Now start (before ++ event ∷ []) (next w event) (left actions p after_it) after_link
    now_after = record {
      cast = subst (λ v. Cast v (left actions p after_it) after_link) (sym at_next) (next_action w actions link p d after_it now.cast next_is r.free).cast;
      acted = λ q. subst (λ v. Acted v q (left actions p after_it q)) (sym at_next) (acted_next w actions p d after_it now.acted next_is r.finds q);
      counts = counts_after;
      fell = fell_after;
      crashed = crashed_after;
      used = used_after;
    }

    pub later : Now start (before ++ event ∷ []) (world_after start (before ++ event ∷ [])) (left actions p after_it) after_link
    later = subst (λ v. Now start (before ++ event ∷ []) v (left actions p after_it) after_link) (sym world_is) now_after

-- ---- all moments

-- what each party has still to do after the next event
pub left_each : (actions : Party → List Action) (event : Event) (rest : List Event) (ds : List Action) → ((q : Party) → of_party q (event ∷ rest) ≡ map (event_of q) (actions q))
    → of_party (party_of event) rest ≡ map (event_of (party_of event)) ds → (q : Party) → of_party q rest ≡ map (event_of q) (left actions (party_of event) ds q)
left_each actions event rest ds each own q = go (same q (party_of event)) refl where
  go : (b : Bool) → same q (party_of event) ≡ b → of_party q rest ≡ map (event_of q) (cond b ds (actions q))
  go true e = subst (λ p. of_party p rest ≡ map (event_of p) ds) (sym (same-true q (party_of event) e)) own
  go false e = sym (ap (λ b. cond b (event ∷ of_party q rest) (of_party q rest)) e) ∙ each q

module _ (start : World) (all : Party → List Action) (order : List Event) (s : IsStart start) (t : IsTimely start all order) where
  -- where nothing has happened
  pub first_now : Now start [] start all (λ x y. [])
  first_now = record {
    cast = record { lived = λ p. acted_lived start p (all p) (t.acted p); means = λ x y. subst (AllMean []) (sym (s.links x y)) tt; law = t.links };
    acted = t.acted;
    counts = λ x y other. let none = ap (λ (ms : List Message). length ms) (s.links x y) in omega arith;
    fell = λ id h. absurd h;
    crashed = λ id h. absurd (false≢true (sym (s.lives id) ∙ h));
    used = λ id h. elim h [ inl first ↦ first | inr none ↦ absurd none ];
  }

module _ (start : World) (all : Party → List Action) (order : List Event) (s : IsStart start) (t : IsInTimeFrom start all order) where
  pub timely : IsTimely start all order
  timely = record { each = t.each; acted = t.acted; links = t.links; causes = t.causes; detections = t.detections; silence = t.silence; joins = t.joins }

  enabled_from : (rest before : List Event) (actions : Party → List Action) (link : Party → Party → List rust.Message) → order ≡ before ++ rest → ((q : Party) → of_party q rest ≡ map (event_of q) (actions q))
      → Now start before (world_after start before) actions link → AreEnabled (world_after start before) rest
  unfolding AreEnabled
  enabled_from [] before actions link split each now = tt
  enabled_from (event ∷ rest) before actions link split each now =
      let p = party_of event in
      let first = first_action (event_of p) (actions p) event (of_party p rest) (sym (own_events p event rest refl) ∙ each p) in
      let survives = λ (id : ℕ) (is : event ≡ events.Crash id). t.survivors id before rest (split ∙ ap (λ e. before ++ (e ∷ rest)) is) in
      let r = ready start all order s timely before event rest split actions link now survives p first.0 first.1 first.3 refl first.2 in
      let w = world_after start before in (
        subst (λ e. refusal_of w e ≡ None) (sym first.3) r.free,
        subst (λ v. AreEnabled v rest) (world-more start before event)
            (enabled_from rest (before ++ event ∷ []) (left actions p first.1) (after_link start all order s timely before event rest split actions link now survives p first.0 first.1 first.3 first.2 r)
            (split ∙ sym (append_assoc before (event ∷ []) rest)) (left_each actions event rest first.1 each first.4)
            (later start all order s timely before event rest split actions link now survives p first.0 first.1 first.3 first.2 r)),
      )

  enabled : AreEnabled start order
  unfolding world_after
  enabled = enabled_from order [] all (λ x y. []) refl t.each (first_now start all order s timely)

  -- an answer that a party put to the clients is given
  pub heard : (from : Party) (a : Answer) → Among (stored.Answer a) (put_to parties.Clients (all from)) → (n : ℕ) × Among (n, a) (given_from 1 start order)
  heard from a i =
      let links = agree order start all (λ x y. []) (first_now start all order s timely).cast enabled t.each in
      all_heard order 1 a start from enabled (among_right a (put_to parties.Clients (all from)) (put_by start order from parties.Clients) (links from parties.Clients) i)

pub orders_from_starts_are_runs : OrdersFromStartsAreRuns
orders_from_starts_are_runs start all order s t = enabled start all order s t

pub answers_from_starts : AnswersFromStartsAreOfOneObject
answers_from_starts start all order s t from a i =
    let given = heard start all order s t from a i in
    given_of_one_object s.size s.past order given.0 a s.some (subst (λ (v : World). Among (given.0, a) (given_from 1 v order)) (sym s.reached) given.1)

pub orders_in_time_are_runs : OrdersInTimeAreRuns
orders_in_time_are_runs size all order some t = enabled (first_world size) all order (first_worlds_are_starts size some).0 t
