-- The next action of a party is what the world does at its event.
use Rattle.std.proofs.Common.{◌≡◌, ℕ, ◌∙◌, ap, sym, refl, subst, cond, List, [], ◌∷◌, ◌++◌, drop, Bool, true, false, ◌&&◌, Some, None, inr}
use Rattle.cq_base.specs.declared.party.Party.{Party}
use Rattle.cq_base.specs.declared.party.Party.TheVariants as parties
use Rattle.cq_base.specs.Relations.{IsPrefix}
use Rattle.cq_chain.specs.declared.fault.WorldFault.TheVariants.{LinkEmpty}
use Rattle.cq_chain.specs.declared.message.Message as rust
use Rattle.cq_chain.specs.Masters.{Order, detected, joined, hears_from}
use Rattle.cq_chain.specs.Messages.{Message}
use Rattle.cq_chain.specs.Parties.{same}
use Rattle.cq_chain.specs.Stands.{Means, AllMean, IsFirst, posted}
use Rattle.cq_chain.specs.Steps.{Step, arrived, asked, takes, crashed}
use Rattle.cq_events.specs.Actions.{Action, Arrived, Asked, Put, Took, Crashed, Detected, Joined, event_of, put_in, taken_in, put_to, taken_from, ServerLives, MasterLives, Lived}
use Rattle.cq_events.specs.Events.{refusal_of, refusal_of_take, next, first_of, after_put, after_take, has_party, is_down, unless_down}
use Rattle.cq_events.specs.Orders.{put_by_event}
use Rattle.cq_events.specs.Worlds.{World, set_pair, stepped, ordered}
use Rattle.cq_events.specs.declared.event.Event.{Event}
use Rattle.cq_events.specs.declared.event.Event.TheVariants as events
use Rattle.cq_world.proofs.Eaches.{some_none, cons_nil}
use Rattle.cq_world.proofs.OfSim.Meanings.{all-append, all-drop, first-alone}
use Rattle.cq_world.proofs.OfSim.Refused.{next-arrive, next-ask, next-crash, next-detect, next-join, next-put, next-take}
use Rattle.cq_world.proofs.OfSim.Stands.{links-set}
use Rattle.cq_world.proofs.Unrefused.{known-parts, lives-parts}
use Rattle.cq_trace.proofs.OfLaws.ActionLists.{left}
use Rattle.cq_trace.proofs.OfLaws.Casts.{Cast, Next, server_goes, master_goes, stepped_lived, ordered_lived, server_put_lived, master_put_lived}
use Rattle.cq_trace.proofs.OfLaws.LinkLaws.{no_message, cons_same, still_law, put_law, given_law, take_law, same_first}

-- nothing is put where an action puts nothing
none_put : (t : Bool) → AllMean (cond t no_message no_message) []
none_put true = tt
none_put false = tt

-- a step of a server for which no message moves
server_still : (w : World) (actions : Party → List Action) (link : Party → Party → List rust.Message) (id : ℕ) (d : Action) (event : Event) (step : Step) (rest : List Action) → Cast w actions link → actions (parties.Server id) ≡ d ∷ rest
    → ((x : Party) → taken_in x d ≡ []) → ((y : Party) → put_in y d ≡ []) → ((x y : Party) → put_by_event w event x y ≡ [])
    → ServerLives step.server (posted (w.outbox (parties.Server id)) step.sent) rest → Next w (stepped w id step) event actions (parties.Server id) d rest
server_still w actions link id d event step rest cast is taken put none own = record {
  link = link;
  cast = record {
    lived = stepped_lived w w.link actions id step rest cast.lived own;
    means = cast.means;
    law = still_law w actions link (parties.Server id) d rest cast is taken put;
  };
  put = λ x y. subst (λ us. AllMean (cond (same x (parties.Server id)) us []) (put_by_event w event x y)) (sym (put y)) (subst (λ us. AllMean (cond (same x (parties.Server id)) [] []) us) (sym (none x y)) (none_put (same x (parties.Server id))));
}

-- and an order of the master
master_still : (w : World) (actions : Party → List Action) (link : Party → Party → List rust.Message) (d : Action) (event : Event) (order : Order) (rest : List Action) → Cast w actions link → actions parties.Master ≡ d ∷ rest
    → ((x : Party) → taken_in x d ≡ []) → ((y : Party) → put_in y d ≡ []) → ((x y : Party) → put_by_event w event x y ≡ [])
    → MasterLives order.master (posted (w.outbox parties.Master) order.said) rest → Next w (ordered w order) event actions parties.Master d rest
master_still w actions link d event order rest cast is taken put none own = record {
  link = link;
  cast = record {
    lived = ordered_lived w w.link actions order rest cast.lived own;
    means = cast.means;
    law = still_law w actions link parties.Master d rest cast is taken put;
  };
  put = λ x y. subst (λ us. AllMean (cond (same x parties.Master) us []) (put_by_event w event x y)) (sym (put y)) (subst (λ us. AllMean (cond (same x parties.Master) [] []) us) (sym (none x y)) (none_put (same x parties.Master)));
}

-- what a put puts
put_piece : (w : World) (p to : Party) (m : rust.Message) → IsFirst (Some m) (w.outbox p to) → (x y : Party) → AllMean (cond (same x p) (put_in y (Put to m)) []) (put_by_event w (events.Put p to) x y)
put_piece w p to m first x y = go (same x p) (same y to) where
  go : (s t : Bool) → AllMean (cond s (cond t (m ∷ []) []) []) (cond s (cond t (first_of (w.outbox p to)) []) [])
  go true true = first-alone m (w.outbox p to) first
  go true false = tt
  go false t = tt

-- the links after it
put_means : (w : World) (link : Party → Party → List rust.Message) (p to : Party) (m : rust.Message) → IsFirst (Some m) (w.outbox p to) → ((x y : Party) → AllMean (link x y) (w.link x y))
    → (x y : Party) → AllMean (set_pair link p to (link p to ++ m ∷ []) x y) (set_pair w.link p to (w.link p to ++ first_of (w.outbox p to)) x y)
put_means w link p to m first all = links-set link (set_pair link p to (link p to ++ m ∷ [])) w.link p to (link p to ++ m ∷ []) (w.link p to ++ first_of (w.outbox p to)) (λ x y. refl)
    (all-append (link p to) (m ∷ []) (w.link p to) (first_of (w.outbox p to)) (all p to) (first-alone m (w.outbox p to) first)) all

-- a put
put_next : (w : World) (actions : Party → List Action) (link : Party → Party → List rust.Message) (p to : Party) (m : rust.Message) (rest : List Action) → Cast w actions link → actions p ≡ Put to m ∷ rest → same parties.Clients p ≡ false → IsFirst (Some m) (w.outbox p to)
    → ((l : Party → Party → List Message) (q : Party) → Lived (record w { outbox = set_pair w.outbox p to (drop 1 (w.outbox p to)); link = l }) q (left actions p rest q)) → Next w (after_put w p to) (events.Put p to) actions p (Put to m) rest
put_next w actions link p parties.Clients m rest cast is other first lived = record {
  link = link;
  cast = record { lived = lived w.link; means = cast.means; law = given_law w actions link p m rest cast is other };
  put = put_piece w p parties.Clients m first;
}
put_next w actions link p parties.Master m rest cast is other first lived = record {
  link = set_pair link p parties.Master (link p parties.Master ++ m ∷ []);
  cast = record { lived = lived (set_pair w.link p parties.Master (w.link p parties.Master ++ first_of (w.outbox p parties.Master))); means = put_means w link p parties.Master m first cast.means; law = put_law w actions link p parties.Master m rest cast is };
  put = put_piece w p parties.Master m first;
}
put_next w actions link p (parties.Server k) m rest cast is other first lived = record {
  link = set_pair link p (parties.Server k) (link p (parties.Server k) ++ m ∷ []);
  cast = record { lived = lived (set_pair w.link p (parties.Server k) (w.link p (parties.Server k) ++ first_of (w.outbox p (parties.Server k)))); means = put_means w link p (parties.Server k) m first cast.means; law = put_law w actions link p (parties.Server k) m rest cast is };
  put = put_piece w p (parties.Server k) m first;
}

-- what isn't refused takes something
take_filled : (w : World) (from to : Party) → refusal_of w (events.Take from to) ≡ None → (m : Message) × (ms : List Message) × (w.link from to ≡ m ∷ ms)
unfolding refusal_of
take_filled w from to h = go (w.link from to) refl (lives-parts (is_down w to) (refusal_of_take w from to (w.link from to)) (known-parts (has_party w from && has_party w to) (unless_down (is_down w to) (refusal_of_take w from to (w.link from to))) h).1).1 where
  go : (ms : List Message) → w.link from to ≡ ms → refusal_of_take w from to ms ≡ None → (m : Message) × (rest : List Message) × (w.link from to ≡ m ∷ rest)
  go [] e r = absurd (some_none LinkEmpty r)
  go (m ∷ ms) e r = (m, ms, e)

-- something stands in the real link then, and means the same
real_filled : (xs : List rust.Message) (ms rest : List Message) (m : Message) → AllMean xs ms → ms ≡ m ∷ rest → (x : rust.Message) × (ls : List rust.Message) × (xs ≡ x ∷ ls) × Means x m
real_filled [] [] rest m h e = absurd (cons_nil m rest (sym e))
real_filled [] (n ∷ ns) rest m h e = absurd h
real_filled (x ∷ xs) [] rest m h e = absurd h
real_filled (x ∷ xs) (n ∷ ns) rest m h e = (x, xs, refl, subst (Means x) (cons_same e) h.0)

-- a take: what the world takes is what the party took
record Taking (w : World) (actions : Party → List Action) (link : Party → Party → List rust.Message) (p from : Party) (x : rust.Message) (rest : List Action) : Type 0 where
  m : Message
  ms : List Message
  at : w.link from p ≡ m ∷ ms
  means : Means x m
  links : (a b : Party) → AllMean (set_pair link from p (drop 1 (link from p)) a b) (set_pair w.link from p (drop 1 (w.link from p)) a b)
  law : (a b : Party) → IsPrefix (taken_from a (left actions p rest b)) (set_pair link from p (drop 1 (link from p)) a b ++ put_to b (left actions p rest a))

-- what a take needs of the cast
take_next : (w : World) (actions : Party → List Action) (link : Party → Party → List rust.Message) (p from : Party) (x : rust.Message) (rest : List Action) → Cast w actions link → actions p ≡ Took from x ∷ rest → refusal_of w (events.Take from p) ≡ None
    → Taking w actions link p from x rest
take_next w actions link p from x rest cast is ok =
    let some = take_filled w from p ok in
    let real = real_filled (link from p) (w.link from p) some.1 some.0 (cast.means from p) some.2 in
    record {
      m = some.0;
      ms = some.1;
      at = some.2;
      means = subst (λ z. Means z some.0) (same_first w actions link p from x real.0 rest real.1 cast is real.2) real.3;
      links = links-set link (set_pair link from p (drop 1 (link from p))) w.link from p (drop 1 (link from p)) (drop 1 (w.link from p)) (λ a b. refl) (all-drop (link from p) (w.link from p) (cast.means from p)) cast.means;
      law = take_law w actions link p from x real.0 rest real.1 cast is real.2;
    }

-- The next action of a party.
pub next_action : (w : World) (actions : Party → List Action) (link : Party → Party → List rust.Message) (p : Party) (d : Action) (rest : List Action) → Cast w actions link → actions p ≡ d ∷ rest → refusal_of w (event_of p d) ≡ None
    → Next w (next w (event_of p d)) (event_of p d) actions p d rest
next_action w actions link parties.Clients d rest cast is ok = absurd (cons_nil d rest (sym is ∙ cast.lived parties.Clients))
next_action w actions link (parties.Server id) (Arrived clock request) rest cast is ok =
    let goes = server_goes (w.server id) (w.outbox (parties.Server id)) (actions (parties.Server id)) rest (Arrived clock request) is (cast.lived (parties.Server id)) in
    subst (λ v. Next w v (events.Arrive id clock request) actions (parties.Server id) (Arrived clock request) rest) (sym (next-arrive w id clock request))
    (server_still w actions link id (Arrived clock request) (events.Arrive id clock request) (arrived clock request (w.server id)) rest cast is (λ x. refl) (λ y. refl) (λ x y. refl)
    (inr (goes.1, goes.2, goes.4 (w.server id) (w.outbox (parties.Server id)) goes.3, goes.5)))
next_action w actions link (parties.Server id) (Asked query) rest cast is ok =
    let goes = server_goes (w.server id) (w.outbox (parties.Server id)) (actions (parties.Server id)) rest (Asked query) is (cast.lived (parties.Server id)) in
    subst (λ v. Next w v (events.Ask id query) actions (parties.Server id) (Asked query) rest) (sym (next-ask w id query))
    (server_still w actions link id (Asked query) (events.Ask id query) (asked query (w.server id)) rest cast is (λ x. refl) (λ y. refl) (λ x y. refl)
    (inr (goes.1, goes.2, goes.4 (w.server id) (w.outbox (parties.Server id)) goes.3, goes.5)))
next_action w actions link (parties.Server id) (Crashed count) rest cast is ok =
    let goes = server_goes (w.server id) (w.outbox (parties.Server id)) (actions (parties.Server id)) rest (Crashed count) is (cast.lived (parties.Server id)) in
    subst (λ v. Next w v (events.Crash id) actions (parties.Server id) (Crashed count) rest) (sym (next-crash w id))
    (server_still w actions link id (Crashed count) (events.Crash id) (crashed (w.server id)) rest cast is (λ x. refl) (λ y. refl) (λ x y. refl)
    (inr (goes.1, goes.2, goes.4.0 (w.server id) (w.outbox (parties.Server id)) goes.3, goes.5)))
next_action w actions link (parties.Server id) (Put to x) rest cast is ok =
    let goes = server_goes (w.server id) (w.outbox (parties.Server id)) (actions (parties.Server id)) rest (Put to x) is (cast.lived (parties.Server id)) in
    let done = goes.4 (w.server id) (w.outbox (parties.Server id)) goes.3 in
    subst (λ v. Next w v (events.Put (parties.Server id) to) actions (parties.Server id) (Put to x) rest) (sym (next-put w (parties.Server id) to))
    (put_next w actions link (parties.Server id) to x rest cast is refl done.0 (λ l. server_put_lived w l actions id to rest cast.lived (inr (goes.1, goes.2, done.1, goes.5))))
next_action w actions link (parties.Server id) (Took from x) rest cast is ok =
    let goes = server_goes (w.server id) (w.outbox (parties.Server id)) (actions (parties.Server id)) rest (Took from x) is (cast.lived (parties.Server id)) in
    let taking = take_next w actions link (parties.Server id) from x rest cast is ok in
    subst (λ v. Next w v (events.Take from (parties.Server id)) actions (parties.Server id) (Took from x) rest) (sym (next-take w from (parties.Server id) ∙ ap (after_take w from (parties.Server id)) taking.at)) (record {
      link = set_pair link from (parties.Server id) (drop 1 (link from (parties.Server id)));
      cast = record {
        lived = stepped_lived w (set_pair w.link from (parties.Server id) (drop 1 (w.link from (parties.Server id)))) actions id (takes from taking.m (w.server id)) rest cast.lived
            (inr (goes.1, goes.2, goes.4 taking.m taking.means (w.server id) (w.outbox (parties.Server id)) goes.3, goes.5));
        means = taking.links;
        law = taking.law;
      };
      put = λ a b. none_put (same a (parties.Server id));
    })
next_action w actions link (parties.Server id) (Detected other) rest cast is ok = absurd (server_goes (w.server id) (w.outbox (parties.Server id)) (actions (parties.Server id)) rest (Detected other) is (cast.lived (parties.Server id))).4
next_action w actions link (parties.Server id) (Joined other) rest cast is ok = absurd (server_goes (w.server id) (w.outbox (parties.Server id)) (actions (parties.Server id)) rest (Joined other) is (cast.lived (parties.Server id))).4
next_action w actions link parties.Master (Detected id) rest cast is ok =
    let goes = master_goes w.master (w.outbox parties.Master) (actions parties.Master) rest (Detected id) is (cast.lived parties.Master) in
    subst (λ v. Next w v (events.Detect id) actions parties.Master (Detected id) rest) (sym (next-detect w id))
    (master_still w actions link (Detected id) (events.Detect id) (detected id w.master) rest cast is (λ x. refl) (λ y. refl) (λ x y. refl)
    (inr (goes.1, goes.2, goes.4 w.master (w.outbox parties.Master) goes.3, goes.5)))
next_action w actions link parties.Master (Joined id) rest cast is ok =
    let goes = master_goes w.master (w.outbox parties.Master) (actions parties.Master) rest (Joined id) is (cast.lived parties.Master) in
    subst (λ v. Next w v (events.Join id) actions parties.Master (Joined id) rest) (sym (next-join w id))
    (master_still w actions link (Joined id) (events.Join id) (joined id w.master) rest cast is (λ x. refl) (λ y. refl) (λ x y. refl)
    (inr (goes.1, goes.2, goes.4 w.master (w.outbox parties.Master) goes.3, goes.5)))
next_action w actions link parties.Master (Put to x) rest cast is ok =
    let goes = master_goes w.master (w.outbox parties.Master) (actions parties.Master) rest (Put to x) is (cast.lived parties.Master) in
    let done = goes.4 w.master (w.outbox parties.Master) goes.3 in
    subst (λ v. Next w v (events.Put parties.Master to) actions parties.Master (Put to x) rest) (sym (next-put w parties.Master to))
    (put_next w actions link parties.Master to x rest cast is refl done.0 (λ l. master_put_lived w l actions to rest cast.lived (inr (goes.1, goes.2, done.1, goes.5))))
next_action w actions link parties.Master (Took from x) rest cast is ok =
    let goes = master_goes w.master (w.outbox parties.Master) (actions parties.Master) rest (Took from x) is (cast.lived parties.Master) in
    let taking = take_next w actions link parties.Master from x rest cast is ok in
    subst (λ v. Next w v (events.Take from parties.Master) actions parties.Master (Took from x) rest) (sym (next-take w from parties.Master ∙ ap (after_take w from parties.Master) taking.at)) (record {
      link = set_pair link from parties.Master (drop 1 (link from parties.Master));
      cast = record {
        lived = ordered_lived w (set_pair w.link from parties.Master (drop 1 (w.link from parties.Master))) actions (hears_from from taking.m w.master) rest cast.lived
            (inr (goes.1, goes.2, goes.4 taking.m taking.means w.master (w.outbox parties.Master) goes.3, goes.5));
        means = taking.links;
        law = taking.law;
      };
      put = λ a b. none_put (same a parties.Master);
    })
next_action w actions link parties.Master (Arrived clock request) rest cast is ok = absurd (master_goes w.master (w.outbox parties.Master) (actions parties.Master) rest (Arrived clock request) is (cast.lived parties.Master)).4
next_action w actions link parties.Master (Asked query) rest cast is ok = absurd (master_goes w.master (w.outbox parties.Master) (actions parties.Master) rest (Asked query) is (cast.lived parties.Master)).4
next_action w actions link parties.Master (Crashed count) rest cast is ok = absurd (master_goes w.master (w.outbox parties.Master) (actions parties.Master) rest (Crashed count) is (cast.lived parties.Master)).4
