-- What a server's node did, after one more step.
use Rattle.std.proofs.Common.{arith, ◌⊎◌, ◌≤◌, inl, inr, length, ◌≡◌, ◌==◌, ℕ, ◌∙◌, ap, sym, refl, subst, cond, List, [], ◌∷◌, ◌++◌, append_assoc, map, ◌<◌, Bool, true, false, Option, Some, None, Result, Ok, Err}
use Rattle.std.proofs.lemmas.Bool.{eqb-true}
use Rattle.cq_base.specs.declared.ask.Request.{Request}
use Rattle.cq_base.specs.declared.party.Party.{Party}
use Rattle.cq_base.specs.declared.party.Party.TheVariants as parties
use Rattle.cq_chain.specs.declared.message.Message as rust
use Rattle.cq_chain.specs.declared.server.Server as rust_server
use Rattle.cq_chain.specs.Parties.{same}
use Rattle.cq_chain.specs.Stands as chain
use Rattle.cq_nodes.specs.declared.ends.In.{In}
use Rattle.cq_nodes.specs.declared.ends.Out.{Out}
use Rattle.cq_nodes.specs.declared.ends.ToClients.{ToClients}
use Rattle.cq_nodes.specs.Ends.{party_at, back_of, listed, if_for, of_client}
use Rattle.cq_nodes.specs.Moves.{ArePut, PutsAt, AreTaken, TakesAt, PutsToOne, Part, Arrives}
use Rattle.cq_events.specs.Acts.{Acts}
use Rattle.cq_nodes.specs.Nodes.{ServerDid, ServerRan, IsBound, MayDo, HasRoom, HasNoLink, HasNoWay, request_in, requests_in}
use Rattle.cq_nodes.proofs.Bounds.{bound_more, bound_starved, part_both}
use Rattle.cq_nodes.proofs.ActionRuns.{server-more, run-kept, put-more, taken-more}
use Rattle.cq_nodes.proofs.Places.{both_no, itself, apart_of, is_apart, empty_end}
use Rattle.cq_nodes.proofs.CoreStates.{as-kept}
use Rattle.cq_events.specs.Actions.{Action, Put, Took, Arrived, Crashed, StandsAs, Keeps, event_of, put_in, put_to, taken_in, taken_from}
use Rattle.cq_events.specs.declared.event.Event.{Event}
use Rattle.cq_events.specs.declared.event.Event.TheVariants as events

pub events_more : (f : Action → Event) (actions : List Action) (d : Action) → map f (actions ++ d ∷ []) ≡ map f actions ++ f d ∷ []
events_more f [] d = refl
events_more f (e ∷ es) d = ap (λ us. f e ∷ us) (events_more f es d)

-- two places have the same party if they are the same
same_at : (a b : ℕ) → same (party_at a) (party_at b) ≡ (a == b)
same_at a b = go (a == 0) (b == 0) refl refl where
  zero_first : (n : ℕ) → (n == 0) ≡ false → false ≡ (0 == n)
  zero_first n e = sym (is_apart 0 n (λ z. apart_of n 0 e (sym z)))

  go : (s t : Bool) → (a == 0) ≡ s → (b == 0) ≡ t → same (cond s parties.Master (parties.Server a)) (cond t parties.Master (parties.Server b)) ≡ (a == b)
  go true true e f = sym (subst (λ n. (a == n) ≡ true) (eqb-true a 0 e ∙ sym (eqb-true b 0 f)) (itself a))
  go true false e f = subst (λ n. false ≡ (n == b)) (sym (eqb-true a 0 e)) (zero_first b f)
  go false true e f = subst (λ n. false ≡ (a == n)) (sym (eqb-true b 0 f)) (sym e)
  go false false e f = refl

not_clients : (place : ℕ) → same parties.Clients (party_at place) ≡ false
not_clients place = go (place == 0) where
  go : (t : Bool) → same parties.Clients (cond t parties.Master (parties.Server place)) ≡ false
  go true = refl
  go false = refl

-- the party at a place is none that has no link
no_link : (places place : ℕ) → place < places → (p : Party) → HasNoLink places p → same p (party_at place) ≡ false
no_link places place linked parties.Clients apart = not_clients place
no_link places place linked parties.Master apart = absurd (omega (arith, linked, apart))
no_link places place linked (parties.Server id) apart = go (place == 0) refl where
  go : (t : Bool) → (place == 0) ≡ t → same (parties.Server id) (cond t parties.Master (parties.Server place)) ≡ false
  go true at_zero = refl
  go false past = past_it apart where
    past_it : (id ≡ 0) ⊎ (places ≤ id) → (id == place) ≡ false
    past_it (inl none) = is_apart id place (λ e. apart_of place 0 past (sym e ∙ none))
    past_it (inr over) = is_apart id place (λ e. absurd (omega (arith, e, over, linked)))

-- nor is it one to which none is
way_link : (places : ℕ) (p : Party) → HasNoWay places p → HasNoLink places p
way_link places parties.Master apart = apart
way_link places parties.Clients apart = tt
way_link places (parties.Server id) apart = apart

no_way_clients : (places : ℕ) (p : Party) → HasNoWay places p → same p parties.Clients ≡ false
no_way_clients places parties.Master apart = refl
no_way_clients places parties.Clients apart = absurd apart
no_way_clients places (parties.Server id) apart = refl

-- what a call answers that took nothing
abbrev is_taken : {E : Type 0} → Result Bool E → Bool
is_taken (Ok taken) = taken
is_taken (Err fault) = false

pub not_taken : {E : Type 0} (r : Result Bool E) (fault : E) → r ≡ Err fault → r ≡ Ok true → ⊥
not_taken r fault is h = both_no true refl (ap is_taken (sym h ∙ is))

pub none_taken : {E : Type 0} (r : Result Bool E) (taken : Bool) → r ≡ Ok taken → taken ≡ false → r ≡ Ok true → ⊥
none_taken r taken is isnt h = both_no true refl (ap is_taken (sym h ∙ is) ∙ isnt)

-- what a call answers to which no request came
abbrev is_some_ok : {A E : Type 0} → Result (Option A) E → Bool
is_some_ok (Ok (Some x)) = true
is_some_ok (Ok None) = false
is_some_ok (Err fault) = false

pub refused_came : {A E : Type 0} (r : Result (Option A) E) (fault : E) → r ≡ Err fault → (x : A) → r ≡ Ok (Some x) → ⊥
refused_came r fault is x h = both_no true refl (ap is_some_ok (sym h ∙ is))

pub none_came : {A E : Type 0} (r : Result (Option A) E) → r ≡ Ok None → (x : A) → r ≡ Ok (Some x) → ⊥
none_came r is x h = both_no true refl (ap is_some_ok (sym h ∙ is))

-- a node with room has it, ended or not
pub room_if : (ended : Bool) (len capacity : ℕ) → len < capacity → HasRoom ended len capacity
room_if true len capacity h = tt
room_if false len capacity h = h

-- ---- what was done

pub did_more : (size id : ℕ) (old new : rust_server.Server) (back now : Party → Option rust.Message) (trace longer : List Event) (actions : List Action) (d : Action) → ServerDid size id old back trace actions
    → Acts d (record { core = old; back = back }) (record { core = new; back = now }) → longer ≡ trace ++ event_of (parties.Server id) d ∷ [] → ServerDid size id new now longer (actions ++ d ∷ [])
did_more size id old new back now trace longer actions d h does is = record {
  first = h.first;
  stood = h.stood;
  run = server-more actions d h.first (record { core = old; back = back }) (record { core = new; back = now }) h.run does;
  events = is ∙ ap (λ us. us ++ event_of (parties.Server id) d ∷ []) h.events ∙ sym (events_more (event_of (parties.Server id)) actions d);
}

pub did_kept : (size id : ℕ) (old new : rust_server.Server) (back now : Party → Option rust.Message) (trace longer : List Event) (actions : List Action) → ServerDid size id old back trace actions
    → Keeps StandsAs (record { core = old; back = back }) (record { core = new; back = now }) → longer ≡ trace → ServerDid size id new now longer actions
did_kept size id old new back now trace longer actions h keeps is = record {
  first = h.first;
  stood = h.stood;
  run = run-kept Acts StandsAs actions h.first (record { core = old; back = back }) (record { core = new; back = now }) h.run keeps;
  events = is ∙ h.events;
}

-- ---- a node

-- what goes to one client, with one message more
client_more : (second : Bool) (xs : List rust.Message) (x : rust.Message) → of_client second (xs ++ x ∷ []) ≡ of_client second xs ++ if_for second x
client_more second [] x = empty_end (if_for second x)
client_more second (y ∷ ys) x = ap (λ us. if_for second y ++ us) (client_more second ys x) ∙ sym (append_assoc (if_for second y) (of_client second ys) (if_for second x))

module _ {P T I : Type 0} (put : P → List rust.Message) (taken : T → List rust.Message) (got : I → List Request) (size id : ℕ) (old new : rust_server.Server) (outs : List (Out P)) (clients : ToClients P) (ins : List (In T)) (inbox : I) (trace longer : List Event) (due : Option ℕ) (starved : Bool)
    (h : ServerRan put taken got size id old outs clients ins inbox trace due starved) where
  -- what was put and taken before
  abbrev pub sent : ℕ → List rust.Message
  sent at = put_to (party_at at) h.actions

  abbrev pub seen : ℕ → List rust.Message
  seen at = taken_from (party_at at) h.actions

  abbrev pub answers : List rust.Message
  answers = put_to parties.Clients h.actions

  -- it did one thing more
  ran_more : (d : Action) (outs_now : List (Out P)) (clients_now : ToClients P) (ins_now : List (In T)) (inbox_now : I) (starved_now : Bool)
      → Acts d (record { core = old; back = back_of outs clients.kept }) (record { core = new; back = back_of outs_now clients_now.kept }) → longer ≡ trace ++ event_of (parties.Server id) d ∷ []
      → ArePut put outs_now (λ at. sent at ++ put_in (party_at at) d) → AreTaken taken ins_now (λ at. seen at ++ taken_in (party_at at) d)
      → ((p : Party) → HasNoLink (length ins_now) p → taken_from p h.actions ++ taken_in p d ≡ [])
      → ((p : Party) → HasNoWay (length outs_now) p → put_to p h.actions ++ put_in p d ≡ [])
      → put clients_now.first ≡ of_client false (answers ++ put_in parties.Clients d) → put clients_now.second ≡ of_client true (answers ++ put_in parties.Clients d)
      → IsBound due starved_now (got inbox_now) (h.actions ++ d ∷ []) → ServerRan put taken got size id new outs_now clients_now ins_now inbox_now longer due starved_now
  ran_more d outs_now clients_now ins_now inbox_now starved_now does is puts takes others unput firsts seconds bound = record {
    actions = h.actions ++ d ∷ [];
    did = did_more size id old new (back_of outs clients.kept) (back_of outs_now clients_now.kept) trace longer h.actions d h.did does is;
    puts = λ at out here. puts at out here ∙ sym (put-more (party_at at) h.actions d);
    takes = λ at end here. takes at end here ∙ ap (λ us. us ++ listed end.unread) (sym (taken-more (party_at at) h.actions d));
    others = λ p apart. taken-more p h.actions d ∙ others p apart;
    unput = λ p apart. put-more p h.actions d ∙ unput p apart;
    firsts = firsts ∙ ap (of_client false) (sym (put-more parties.Clients h.actions d));
    seconds = seconds ∙ ap (of_client true) (sym (put-more parties.Clients h.actions d));
    bound = bound;
  }

  -- it did nothing
  ran_kept : (outs_now : List (Out P)) (clients_now : ToClients P) (ins_now : List (In T)) (inbox_now : I)
      → Keeps StandsAs (record { core = old; back = back_of outs clients.kept }) (record { core = new; back = back_of outs_now clients_now.kept }) → longer ≡ trace
      → ArePut put outs_now sent → AreTaken taken ins_now seen → length ins_now ≡ length ins → length outs_now ≡ length outs → put clients_now.first ≡ put clients.first → put clients_now.second ≡ put clients.second → Part (requests_in h.actions) (got inbox_now)
      → ServerRan put taken got size id new outs_now clients_now ins_now inbox_now longer due starved
  ran_kept outs_now clients_now ins_now inbox_now keeps is puts takes count ways firsts seconds arrived = record {
    actions = h.actions;
    did = did_kept size id old new (back_of outs clients.kept) (back_of outs_now clients_now.kept) trace longer h.actions h.did keeps is;
    puts = puts;
    takes = takes;
    others = λ p apart. h.others p (subst (λ n. HasNoLink n p) count apart);
    unput = λ p apart. h.unput p (subst (λ n. HasNoWay n p) ways apart);
    firsts = firsts ∙ h.firsts;
    seconds = seconds ∙ h.seconds;
    bound = record { may = h.bound.may; arrived = arrived };
  }

  -- what was put and taken stays, where an action puts and takes nothing there
  sent_still : (at : ℕ) → sent at ≡ sent at ++ []
  sent_still at = sym (empty_end (sent at))

  seen_still : AreTaken taken ins (λ at. seen at ++ [])
  seen_still at end here = h.takes at end here ∙ ap (λ us. us ++ listed end.unread) (sym (empty_end (seen at)))

  others_still : (p : Party) → HasNoLink (length ins) p → taken_from p h.actions ++ [] ≡ []
  others_still p apart = empty_end (taken_from p h.actions) ∙ h.others p apart

  unput_still : (p : Party) → HasNoWay (length outs) p → put_to p h.actions ++ [] ≡ []
  unput_still p apart = empty_end (put_to p h.actions) ∙ h.unput p apart

  -- an action is what the server may do, and no request arrives
  still_bound : (d : Action) → MayDo due starved d → request_in d ≡ [] → IsBound due starved (got inbox) (h.actions ++ d ∷ [])
  still_bound d may none = bound_more due starved (got inbox) (got inbox) h.actions d h.bound may (subst (λ us. Part us (got inbox)) (sym (empty_end (requests_in h.actions)) ∙ ap (λ us. requests_in h.actions ++ us) (sym none)) h.bound.arrived)

  -- it put a message
  pub ran_put : (after : List (Out P)) (place : ℕ) → length after ≡ length outs → PutsAt put old new outs after clients.kept sent place → longer ≡ trace ++ events.Put (parties.Server id) (party_at place) ∷ []
      → ServerRan put taken got size id new after clients ins inbox longer due starved
  ran_put after place count one is =
      let d : Action = Put (party_at place) one.message in
      ran_more d after clients ins inbox starved one.done is
      (λ at out here. one.lists at out here ∙ ap (λ t. sent at ++ cond t (one.message ∷ []) []) (sym (same_at at place)))
      seen_still others_still
      (λ p apart. ap (λ t. put_to p h.actions ++ cond t (one.message ∷ []) []) (no_link (length after) place one.linked p (way_link (length after) p apart)) ∙ unput_still p (subst (λ n. HasNoWay n p) count apart))
      (h.firsts ∙ ap (of_client false) none) (h.seconds ∙ ap (of_client true) none) (still_bound d tt refl)
    where
      none : answers ≡ answers ++ cond (same parties.Clients (party_at place)) (one.message ∷ []) []
      none = sym (empty_end answers) ∙ ap (λ t. answers ++ cond t (one.message ∷ []) []) (sym (not_clients place))

  -- it put one to a client
  pub ran_answered : (after : ToClients P) → PutsToOne put old new outs clients after → longer ≡ trace ++ events.Put (parties.Server id) parties.Clients ∷ []
      → ServerRan put taken got size id new outs after ins inbox longer due starved
  ran_answered after one is =
      let d : Action = Put parties.Clients one.message in
      ran_more d outs after ins inbox starved one.done is
      (λ at out here. h.puts at out here ∙ sent_still at ∙ ap (λ t. sent at ++ cond t (one.message ∷ []) []) (sym (not_at at)))
      seen_still others_still (λ p apart. ap (λ t. put_to p h.actions ++ cond t (one.message ∷ []) []) (no_way_clients (length outs) p apart) ∙ unput_still p apart)
      (one.firsts ∙ ap (λ us. us ++ if_for false one.message) h.firsts ∙ sym (client_more false answers one.message)) (one.seconds ∙ ap (λ us. us ++ if_for true one.message) h.seconds ∙ sym (client_more true answers one.message)) (still_bound d tt refl)
    where
      not_at : (at : ℕ) → same (party_at at) parties.Clients ≡ false
      not_at at = go (at == 0) where
        go : (t : Bool) → same (cond t parties.Master (parties.Server at)) parties.Clients ≡ false
        go true = refl
        go false = refl

  -- it took one
  pub ran_taken : (after : List (In T)) (place : ℕ) → length after ≡ length ins → TakesAt taken old new (back_of outs clients.kept) after seen place → longer ≡ trace ++ events.Take (party_at place) (parties.Server id) ∷ []
      → ServerRan put taken got size id new outs clients after inbox longer due starved
  ran_taken after place count one is =
      let d : Action = Took (party_at place) one.message in
      ran_more d outs clients after inbox starved one.done is
      (λ at out here. h.puts at out here ∙ sent_still at)
      (λ at end here. one.lists at end here ∙ ap (λ us. us ++ listed end.unread) (ap (λ t. seen at ++ cond t (one.message ∷ []) []) (sym (same_at at place))))
      (λ p apart. ap (λ t. taken_from p h.actions ++ cond t (one.message ∷ []) []) (no_link (length after) place one.linked p apart) ∙ others_still p (subst (λ n. HasNoLink n p) count apart))
      unput_still
      (h.firsts ∙ ap (of_client false) (sym (empty_end answers))) (h.seconds ∙ ap (of_client true) (sym (empty_end answers))) (still_bound d tt refl)

  -- a request arrived
  pub ran_arrived : (after : I) (clock : ℕ) (request : Request) → Arrives old new (back_of outs clients.kept) clock request (got inbox) (got after) → longer ≡ trace ++ events.Arrive id clock request ∷ []
      → ServerRan put taken got size id new outs clients ins after longer due starved
  ran_arrived after clock request one is =
      let d : Action = Arrived clock request in
      ran_more d outs clients ins after starved one.done is (λ at out here. h.puts at out here ∙ sent_still at) seen_still others_still unput_still
      (h.firsts ∙ ap (of_client false) (sym (empty_end answers))) (h.seconds ∙ ap (of_client true) (sym (empty_end answers)))
      (bound_more due starved (got inbox) (got after) h.actions d h.bound tt (subst (λ us. Part (requests_in h.actions ++ request ∷ []) us) (sym one.list) (part_both (requests_in h.actions) (got inbox) request h.bound.arrived)))

  -- it crashed
  pub ran_crashed : (count : ℕ) → Acts (Crashed count) (record { core = old; back = back_of outs clients.kept }) (record { core = new; back = back_of outs clients.kept }) → MayDo due starved (Crashed count)
      → longer ≡ trace ++ events.Crash id ∷ [] → ServerRan put taken got size id new outs clients ins inbox longer due starved
  ran_crashed count does may is =
      let d : Action = Crashed count in
      ran_more d outs clients ins inbox starved does is (λ at out here. h.puts at out here ∙ sent_still at) seen_still others_still unput_still
      (h.firsts ∙ ap (of_client false) (sym (empty_end answers))) (h.seconds ∙ ap (of_client true) (sym (empty_end answers))) (still_bound d may refl)

  -- it put none
  pub ran_idle : (after : List (Out P)) → length after ≡ length outs → Keeps StandsAs (record { core = old; back = back_of outs clients.kept }) (record { core = new; back = back_of after clients.kept })
      → ((sent : ℕ → List rust.Message) → ArePut put outs sent → ArePut put after sent) → longer ≡ trace → ServerRan put taken got size id new after clients ins inbox longer due starved
  ran_idle after count keeps lists is = ran_kept after clients ins inbox keeps is (lists sent h.puts) h.takes refl count refl refl h.bound.arrived

  -- it put none to the clients
  pub ran_silent : (after : ToClients P) → Keeps StandsAs (record { core = old; back = back_of outs clients.kept }) (record { core = new; back = back_of outs after.kept })
      → put after.first ≡ put clients.first → put after.second ≡ put clients.second → longer ≡ trace → ServerRan put taken got size id new outs after ins inbox longer due starved
  ran_silent after keeps first second is = ran_kept outs after ins inbox keeps is h.puts h.takes refl refl first second h.bound.arrived

  -- it took none
  pub ran_waiting : (after : List (In T)) → length after ≡ length ins → chain.Keeps old new → ((seen : ℕ → List rust.Message) → AreTaken taken ins seen → AreTaken taken after seen) → longer ≡ trace
      → ServerRan put taken got size id new outs clients after inbox longer due starved
  ran_waiting after count keeps lists is = ran_kept outs clients after inbox (as-kept chain.StandsFor old new (back_of outs clients.kept) keeps) is h.puts (lists seen h.takes) count refl refl refl h.bound.arrived

  -- no request arrived
  pub ran_unasked : (after : I) → chain.Keeps old new → ((xs : List Request) → Part xs (got inbox) → Part xs (got after)) → longer ≡ trace
      → ServerRan put taken got size id new outs clients ins after longer due starved
  ran_unasked after keeps lists is = ran_kept outs clients ins after (as-kept chain.StandsFor old new (back_of outs clients.kept) keeps) is h.puts h.takes refl refl refl refl (lists (requests_in h.actions) h.bound.arrived)

-- what it did, it may have done without memory
pub ran_starved : {P T I : Type 0} (put : P → List rust.Message) (taken : T → List rust.Message) (got : I → List Request) (size id : ℕ) (core : rust_server.Server) (outs : List (Out P)) (clients : ToClients P) (ins : List (In T)) (inbox : I) (trace : List Event) (due : Option ℕ) (starved : Bool)
    → ServerRan put taken got size id core outs clients ins inbox trace due starved → ServerRan put taken got size id core outs clients ins inbox trace due true
ran_starved put taken got size id core outs clients ins inbox trace due starved h = record {
  actions = h.actions;
  did = h.did;
  puts = h.puts;
  takes = h.takes;
  others = h.others;
  unput = h.unput;
  firsts = h.firsts;
  seconds = h.seconds;
  bound = bound_starved due starved (got inbox) h.actions h.bound;
}
