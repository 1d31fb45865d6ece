-- What the master's node did, after one more step.
use Rattle.std.proofs.Common.{arith, ◌≡◌, ◌+◌, ◌≤◌, ℕ, nat_le, length, Bool, true, false, cond, zero, suc, ◌∙◌, ap, sym, refl, subst, List, [], ◌∷◌, ◌++◌, map, slice_get, Option, Some, None, ◌⊎◌, inl, inr}
use Rattle.std.proofs.lemmas.Option.{same_Some, none-some, get_or_from_slice_get, slice_get_within}
use Rattle.std.proofs.lemmas.List.{length-map}
use Rattle.std.specs.List.{All}
use Rattle.std.specs.Option.{IfSome}
use Rattle.cq_base.specs.declared.party.Party.{Party}
use Rattle.cq_base.specs.declared.party.Party.TheVariants as parties
use Rattle.cq_base.specs.Relations.{Among}
use Rattle.cq_chain.specs.declared.master.Master as rust_master
use Rattle.cq_chain.specs.declared.message.Message as rust
use Rattle.cq_chain.specs.Masters.{first_master}
use Rattle.cq_chain.specs.Parties.{same}
use Rattle.cq_chain.specs.Stands as chain
use Rattle.cq_nodes.specs.declared.ends.In.{In}
use Rattle.cq_nodes.specs.declared.ends.Out.{Out}
use Rattle.cq_live_plan.specs.declared.joins.Join.{Join}
use Rattle.cq_nodes.specs.Ends.{listed, kept_at}
use Rattle.cq_nodes.specs.FreshLinks.{AreUnput, AreUntaken}
use Rattle.cq_nodes.specs.MasterMoves.{back_for, back_of_servers, PutsFor, TakesOf}
use Rattle.cq_nodes.specs.MasterNodes.{MasterDid, AreToJoin, HasNoPlace, MasterRan, MasterLived}
use Rattle.cq_nodes.specs.Moves.{ArePut, AreTaken}
use Rattle.cq_nodes.specs.Turns.{due_of}
use Rattle.cq_events.specs.Acts.{ActsMaster}
use Rattle.cq_nodes.proofs.ActionRuns.{master-more, master-plain, run-kept, put-more, taken-more, first-of-all}
use Rattle.cq_nodes.proofs.NodeSteps.{events_more}
use Rattle.cq_nodes.proofs.Places.{empty_end, is_apart}
use Rattle.cq_nodes.proofs.CoreStates.{as-kept}
use Rattle.cq_events.specs.Actions.{Action, Put, Took, Detected, Joined, IsMasterAs, Keeps, event_of, put_to, put_in, taken_from, taken_in}
use Rattle.cq_events.specs.declared.event.Event.{Event}
use Rattle.cq_events.specs.declared.event.Event.TheVariants as events

-- ---- what was done

master_did_more : (size : ℕ) (old new : rust_master.Master) (back now : Party → Option rust.Message) (trace longer : List Event) (actions : List Action) (d : Action) → MasterDid size old back trace actions
    → ActsMaster d (record { core = old; back = back }) (record { core = new; back = now }) → longer ≡ trace ++ event_of parties.Master d ∷ [] → MasterDid size new now longer (actions ++ d ∷ [])
master_did_more size old new back now trace longer actions d h does is = record {
  first = h.first;
  stood = h.stood;
  run = master-more actions d h.first (record { core = old; back = back }) (record { core = new; back = now }) h.run does;
  events = is ∙ ap (λ us. us ++ event_of parties.Master d ∷ []) h.events ∙ sym (events_more (event_of parties.Master) actions d);
}

master_did_kept : (size : ℕ) (old new : rust_master.Master) (back now : Party → Option rust.Message) (trace longer : List Event) (actions : List Action) → MasterDid size old back trace actions
    → Keeps IsMasterAs (record { core = old; back = back }) (record { core = new; back = now }) → longer ≡ trace → MasterDid size new now longer actions
master_did_kept size old new back now trace longer actions h keeps is = record {
  first = h.first;
  stood = h.stood;
  run = run-kept ActsMaster IsMasterAs actions h.first (record { core = old; back = back }) (record { core = new; back = now }) h.run keeps;
  events = is ∙ h.events;
}

among_more : {X : Type 0} (x : X) (xs : List X) (y : X) → Among x (xs ++ y ∷ []) → Among x xs ⊎ (x ≡ y)
among_more x [] y (inl is) = inr is
among_more x [] y (inr none) = absurd none
among_more x (z ∷ xs) y (inl is) = inl (inl is)
among_more x (z ∷ xs) y (inr later) = go (among_more x xs y later) where
  go : Among x xs ⊎ (x ≡ y) → ((x ≡ z) ⊎ Among x xs) ⊎ (x ≡ y)
  go (inl here) = inl (inr here)
  go (inr is) = inr is

-- one more action, where its server was asked for if it is a join
asked_more : (joins : List Join) (actions : List Action) (d : Action) → ((id : ℕ) → Joined id ≡ d → Among id (map (λ join. join.server) joins)) → AreToJoin joins actions → AreToJoin joins (actions ++ d ∷ [])
asked_more joins actions d own asked id here = go (among_more (Joined id) actions d here) where
  go : Among (Joined id) actions ⊎ (Joined id ≡ d) → Among id (map (λ join. join.server) joins)
  go (inl before) = asked id before
  go (inr is) = own id is

-- a party with no place is none of the servers that have one
no_server : (places id : ℕ) → (1 ≤ id) × (id ≤ places) → (p : Party) → HasNoPlace places p → same p (parties.Server id) ≡ false
no_server places id placed parties.Master apart = refl
no_server places id placed parties.Clients apart = refl
no_server places id placed (parties.Server other) (inl none) = is_apart other id (λ e. absurd (omega (arith, e, none, placed)))
no_server places id placed (parties.Server other) (inr past) = is_apart other id (λ e. absurd (omega (arith, e, past, placed)))

-- ends of the same links are as many
pub same_count : {X E L : Type 0} (end : X → E) (link : E → L) (xs ys : List X) → map link (map end xs) ≡ map link (map end ys) → length xs ≡ length ys
same_count end link xs ys same_links = sym (length-map xs end) ∙ sym (length-map (map end xs) link) ∙ ap length same_links ∙ length-map (map end ys) link ∙ length-map ys end

-- the trace with one event more, in room that was made for it
pub noted : (trace with_room longer : List Event) (event : Event) → longer ≡ with_room ++ event ∷ [] → with_room ≡ trace → longer ≡ trace ++ event ∷ []
noted trace with_room longer event is same = is ∙ ap (λ us. us ++ event ∷ []) same

-- ---- a node

module _ {P T : Type 0} (put : P → List rust.Message) (taken : T → List rust.Message) (size : ℕ) (joins : List Join) (old new : rust_master.Master) (outs : List (Out P)) (ins : List (In T)) (trace longer : List Event)
    (h : MasterRan put taken size joins old outs ins trace) where
  -- it put a message
  pub master_put : (after : List (Out P)) (to : ℕ) → length after ≡ length outs → PutsFor put old new outs after (λ at. put_to (parties.Server (at + 1)) h.actions) to → longer ≡ trace ++ events.Put parties.Master (parties.Server to) ∷ [] → MasterRan put taken size joins new after ins longer
  master_put after to count one is =
      let d : Action = Put (parties.Server to) one.message in
      record {
        actions = h.actions ++ d ∷ [];
        did = master_did_more size old new (back_of_servers outs) (back_of_servers after) trace longer h.actions d h.did one.done is;
        puts = λ at out here. one.lists at out here ∙ sym (put-more (parties.Server (at + 1)) h.actions d);
        takes = λ at end here. h.takes at end here ∙ ap (λ us. us ++ listed end.unread) (sym (taken-more (parties.Server (at + 1)) h.actions d ∙ empty_end (taken_from (parties.Server (at + 1)) h.actions)));
        others = λ p apart. taken-more p h.actions d ∙ empty_end (taken_from p h.actions) ∙ h.others p apart;
        unput = λ p apart. put-more p h.actions d ∙ ap (λ t. put_to p h.actions ++ cond t (one.message ∷ []) []) (no_server (length after) to one.linked p apart)
            ∙ empty_end (put_to p h.actions) ∙ h.unput p (subst (λ n. HasNoPlace n p) count apart);
        asked = asked_more joins h.actions d (λ id same. absurd (cc)) h.asked;
      }

  -- it took one
  pub master_took : (after : List (In T)) (from : ℕ) → length after ≡ length ins → TakesOf taken old new (back_of_servers outs) after (λ at. taken_from (parties.Server (at + 1)) h.actions) from → longer ≡ trace ++ events.Take (parties.Server from) parties.Master ∷ [] → MasterRan put taken size joins new outs after longer
  master_took after from count one is =
      let d : Action = Took (parties.Server from) one.message in
      record {
        actions = h.actions ++ d ∷ [];
        did = master_did_more size old new (back_of_servers outs) (back_of_servers outs) trace longer h.actions d h.did one.done is;
        puts = λ at out here. h.puts at out here ∙ sym (put-more (parties.Server (at + 1)) h.actions d ∙ empty_end (put_to (parties.Server (at + 1)) h.actions));
        takes = λ at end here. one.lists at end here ∙ ap (λ us. us ++ listed end.unread) (sym (taken-more (parties.Server (at + 1)) h.actions d));
        others = λ p apart. taken-more p h.actions d ∙ ap (λ t. taken_from p h.actions ++ cond t (one.message ∷ []) []) (no_server (length after) from one.linked p apart)
            ∙ empty_end (taken_from p h.actions) ∙ h.others p (subst (λ n. HasNoPlace n p) count apart);
        unput = λ p apart. put-more p h.actions d ∙ empty_end (put_to p h.actions) ∙ h.unput p apart;
        asked = asked_more joins h.actions d (λ id same. absurd (cc)) h.asked;
      }

  -- it put and took none, but did this
  alone : (d : Action) → ActsMaster d (record { core = old; back = back_of_servers outs }) (record { core = new; back = back_of_servers outs }) → longer ≡ trace ++ event_of parties.Master d ∷ []
      → ((to : Party) → put_in to d ≡ []) → ((from : Party) → taken_in from d ≡ []) → ((id : ℕ) → Joined id ≡ d → Among id (map (λ join. join.server) joins)) → MasterRan put taken size joins new outs ins longer
  alone d done is puts_none takes_none own = record {
    actions = h.actions ++ d ∷ [];
    did = master_did_more size old new (back_of_servers outs) (back_of_servers outs) trace longer h.actions d h.did done is;
    puts = λ at out here. h.puts at out here ∙ sym (put-more (parties.Server (at + 1)) h.actions d ∙ ap (λ us. put_to (parties.Server (at + 1)) h.actions ++ us) (puts_none (parties.Server (at + 1))) ∙ empty_end (put_to (parties.Server (at + 1)) h.actions));
    takes = λ at end here. h.takes at end here ∙ ap (λ us. us ++ listed end.unread) (sym (taken-more (parties.Server (at + 1)) h.actions d ∙ ap (λ us. taken_from (parties.Server (at + 1)) h.actions ++ us) (takes_none (parties.Server (at + 1))) ∙ empty_end (taken_from (parties.Server (at + 1)) h.actions)));
    others = λ p apart. taken-more p h.actions d ∙ ap (λ us. taken_from p h.actions ++ us) (takes_none p) ∙ empty_end (taken_from p h.actions) ∙ h.others p apart;
    unput = λ p apart. put-more p h.actions d ∙ ap (λ us. put_to p h.actions ++ us) (puts_none p) ∙ empty_end (put_to p h.actions) ∙ h.unput p apart;
    asked = asked_more joins h.actions d own h.asked;
  }

  -- it detected a crash
  pub master_detected : (id : ℕ) → ActsMaster (Detected id) (record { core = old; back = back_of_servers outs }) (record { core = new; back = back_of_servers outs }) → longer ≡ trace ++ events.Detect id ∷ [] → MasterRan put taken size joins new outs ins longer
  master_detected id done is = alone (Detected id) done is (λ to. refl) (λ from. refl) (λ other same. absurd (cc))

  -- a server joined that was asked for
  pub master_joined : (id : ℕ) → Among id (map (λ join. join.server) joins) → ActsMaster (Joined id) (record { core = old; back = back_of_servers outs }) (record { core = new; back = back_of_servers outs }) → longer ≡ trace ++ events.Join id ∷ [] → MasterRan put taken size joins new outs ins longer
  master_joined id named done is = alone (Joined id) done is (λ to. refl) (λ from. refl) (λ other same. subst (λ n. Among n (map (λ join. join.server) joins)) (cc) named)

  -- it put none
  pub master_idle : (after : List (Out P)) → length after ≡ length outs → Keeps IsMasterAs (record { core = old; back = back_of_servers outs }) (record { core = new; back = back_of_servers after })
      → ((sent : ℕ → List rust.Message) → ArePut put outs sent → ArePut put after sent) → longer ≡ trace → MasterRan put taken size joins new after ins longer
  master_idle after count keeps lists is = record {
    actions = h.actions;
    did = master_did_kept size old new (back_of_servers outs) (back_of_servers after) trace longer h.actions h.did keeps is;
    puts = lists (λ at. put_to (parties.Server (at + 1)) h.actions) h.puts;
    takes = h.takes;
    others = h.others;
    unput = λ p apart. h.unput p (subst (λ n. HasNoPlace n p) count apart);
    asked = h.asked;
  }

  -- it took none, or the core refused
  pub master_waiting : (after : List (In T)) → length after ≡ length ins → chain.KeepsMaster old new → ((seen : ℕ → List rust.Message) → AreTaken taken ins seen → AreTaken taken after seen) → longer ≡ trace → MasterRan put taken size joins new outs after longer
  master_waiting after count keeps lists is = record {
    actions = h.actions;
    did = master_did_kept size old new (back_of_servers outs) (back_of_servers outs) trace longer h.actions h.did (as-kept chain.MasterStandsFor old new (back_of_servers outs) keeps) is;
    puts = h.puts;
    takes = lists (λ at. taken_from (parties.Server (at + 1)) h.actions) h.takes;
    others = λ p apart. h.others p (subst (λ n. HasNoPlace n p) count apart);
    unput = h.unput;
    asked = h.asked;
  }

-- ---- after the last turn

pub master_lived : {P T : Type 0} (put : P → List rust.Message) (taken : T → List rust.Message) (size : ℕ) (joins : List Join) (core : rust_master.Master) (outs : List (Out P)) (ins : List (In T)) (trace : List Event)
    → MasterRan put taken size joins core outs ins trace → MasterLived put taken size joins outs ins trace
master_lived put taken size joins core outs ins trace h = record {
  actions = h.actions;
  lived = inr (h.did.first, record { core = core; back = back_of_servers outs }, h.did.stood, master-plain h.actions h.did.first (record { core = core; back = back_of_servers outs }) h.did.run);
  unrefused = (h.did.first, record { core = core; back = back_of_servers outs }, h.did.stood, h.did.run);
  events = h.did.events;
  puts = h.puts;
  takes = h.takes;
  others = h.others;
  unput = h.unput;
  asked = h.asked;
}

-- ---- before the first turn

at_place : {X : Type 0} (Q : X → Type 0) (xs : List X) (i : ℕ) (x : X) → All Q xs → slice_get xs i ≡ Some x → Q x
at_place Q xs i x all here = subst Q (get_or_from_slice_get xs i x x here) (all i x (slice_get_within xs i x here))

none_back : {P : Type 0} (put : P → List rust.Message) (outs : List (Out P)) → AreUnput put outs → (p : Party) → None ≡ back_of_servers outs p
none_back put outs unput parties.Master = refl
none_back put outs unput parties.Clients = refl
none_back {P} put outs unput (parties.Server id) = go id where
  kept : (o : Option (Out P)) (place : ℕ) → slice_get outs place ≡ o → None ≡ kept_at o
  kept None place is = refl
  kept (Some out) place is = sym (at_place (λ out. (put out.end ≡ []) × (out.kept ≡ None)) outs place out unput is).1

  go : (id : ℕ) → None ≡ back_for outs id
  go zero = refl
  go (suc place) = kept (slice_get outs place) place refl

pub master_begun : {P T : Type 0} (put : P → List rust.Message) (taken : T → List rust.Message) (size : ℕ) (joins : List Join) (core : rust_master.Master) (outs : List (Out P)) (ins : List (In T))
    → chain.MasterStandsFor core (first_master size) (λ _. []) → AreUnput put outs → AreUntaken taken ins → MasterRan put taken size joins core outs ins []
master_begun put taken size joins core outs ins stands unput untaken = record {
  actions = [];
  did = record {
    first = record { core = core; back = λ _. None };
    stood = first-of-all size core stands;
    run = subst (λ back. Keeps IsMasterAs (record { core = core; back = λ _. None }) (record { core = core; back = back })) (λ i p. none_back put outs unput p i) (λ m outbox h. h);
    events = refl;
  };
  puts = λ at out here. (at_place (λ out. (put out.end ≡ []) × (out.kept ≡ None)) outs at out unput here).0;
  takes = λ at end here. let fresh = at_place (λ end. (taken end.end ≡ []) × (end.unread ≡ None)) ins at end untaken here in fresh.0 ∙ ap listed (sym fresh.1);
  others = λ p apart. refl;
  unput = λ p apart. refl;
  asked = λ id none. absurd none;
}

-- ---- joins

pub among_joins : (joins : List Join) (place : ℕ) (join : Join) → slice_get joins place ≡ Some join → Among join.server (map (λ other. other.server) joins)
among_joins [] place join is = absurd (none-some join is)
among_joins (first ∷ rest) zero join is = inl (ap (λ other. other.server) (sym (same_Some first join is)))
among_joins (first ∷ rest) (suc place) join is = inr (among_joins rest place join is)

-- a join that is due is one of them
pub due_among : (joins : List Join) (place : ℕ) (join : Join) (turn : ℕ) (due : Option ℕ) → slice_get joins place ≡ Some join → due ≡ due_of turn (Some join) → IfSome due (λ id. Among id (map (λ other. other.server) joins))
due_among joins place join turn due here is = subst (λ o. IfSome o (λ id. Among id (map (λ (other : Join). other.server) joins))) (sym is) (go (nat_le join.after turn)) where
  go : (t : Bool) → IfSome (cond t (Some join.server) None) (λ id. Among id (map (λ other. other.server) joins))
  go true = among_joins joins place join here
  go false = tt
