-- What parties have still to do by their cores from a world on, after the next action of one of them.
use Rattle.std.proofs.Common.{◌≡◌, ℕ, ◌∙◌, ap, sym, refl, subst, cond, List, [], ◌∷◌, ◌++◌, drop, Bool, true, false, ◌&&◌, ◌==◌, inl, inr}
use Rattle.std.proofs.lemmas.Bool.{eqb-true}
use Rattle.cq_base.specs.declared.party.Party.{Party}
use Rattle.cq_base.specs.declared.party.Party.TheVariants as parties
use Rattle.cq_chain.specs.declared.master.Master as rust_master
use Rattle.cq_chain.specs.declared.message.Message as rust
use Rattle.cq_chain.specs.declared.server.Server as rust_server
use Rattle.cq_chain.specs.Masters.{Master, Order, detected, joined, hears_from}
use Rattle.cq_chain.specs.Messages.{Message}
use Rattle.cq_chain.specs.Parties.{same, addressed}
use Rattle.cq_chain.specs.Servers.{Server}
use Rattle.cq_chain.specs.Stands.{Means, posted, drained}
use Rattle.cq_chain.specs.Steps.{Step, arrived, asked, takes, crashed}
use Rattle.cq_events.proofs.Parties.{same-true, same-refl, same-turned}
use Rattle.cq_events.specs.Actions.{Action, Arrived, Asked, Put, Took, Crashed, Detected, Joined, event_of, CoreState, StandsAs, IsMasterAs, ServerRun, MasterRun, Lived}
use Rattle.cq_events.specs.Events.{next, after_take, first_of, put_on}
use Rattle.cq_events.specs.Worlds.{World, set_pair, stepped, ordered}
use Rattle.cq_events.specs.Acts.{Acts, ActsMaster, ServerActs, MasterActs}
use Rattle.cq_trace.proofs.OfLaws.ActionLists.{left}
use Rattle.cq_world.proofs.Eaches.{cons_nil}
use Rattle.cq_world.proofs.OfSim.Refused.{next-arrive, next-ask, next-crash, next-detect, next-join, next-put, next-take}
use Rattle.cq_real_time.specs.Interleavings.{ServerActed, MasterActed, Acted}

-- ---- what was not refused was done

did_server : (actions : List Action) (a b : CoreState rust_server.Server) → ServerActs a actions b → ServerRun a actions b
did_server [] a b h = h
did_server (d ∷ actions) a b h = (h.0, h.1.0, did_server actions h.0 b h.2)

did_master : (actions : List Action) (a b : CoreState rust_master.Master) → MasterActs a actions b → MasterRun a actions b
did_master [] a b h = h
did_master (d ∷ actions) a b h = (h.0, h.1.0, did_master actions h.0 b h.2)

pub acted_lived : (w : World) (p : Party) (actions : List Action) → Acted w p actions → Lived w p actions
acted_lived w (parties.Server id) actions (inl none) = inl none
acted_lived w (parties.Server id) actions (inr h) = inr (h.0, h.1, h.2, did_server actions h.0 h.1 h.3)
acted_lived w parties.Master actions (inl none) = inl none
acted_lived w parties.Master actions (inr h) = inr (h.0, h.1, h.2, did_master actions h.0 h.1 h.3)
acted_lived w parties.Clients actions none = none

-- ---- the next action

-- what a server does next
pub server_acts : (s : Server) (outbox : Party → List Message) (actions rest : List Action) (d : Action) → actions ≡ d ∷ rest → ServerActed s outbox actions
    → (a mid b : CoreState rust_server.Server) × StandsAs a s outbox × Acts d a mid × ServerActs mid rest b
server_acts s outbox actions rest d is (inl none) = absurd (cons_nil d rest (sym is ∙ none))
server_acts s outbox actions rest d is (inr h) = let run = subst (λ ds. ServerActs h.0 ds h.1) is h.3 in (h.0, run.0, h.1, h.2, run.1, run.2)

-- and what the master does
pub master_acts : (m : Master) (outbox : Party → List Message) (actions rest : List Action) (d : Action) → actions ≡ d ∷ rest → MasterActed m outbox actions
    → (a mid b : CoreState rust_master.Master) × IsMasterAs a m outbox × ActsMaster d a mid × MasterActs mid rest b
master_acts m outbox actions rest d is (inl none) = absurd (cons_nil d rest (sym is ∙ none))
master_acts m outbox actions rest d is (inr h) = let run = subst (λ ds. MasterActs h.0 ds h.1) is h.3 in (h.0, run.0, h.1, h.2, run.1, run.2)

-- after a step of a server, whatever the links
stepped_acted : (w : World) (link : Party → Party → List Message) (actions : Party → List Action) (id : ℕ) (step : Step) (rest : List Action) → ((q : Party) → Acted w q (actions q))
    → ServerActed step.server (posted (w.outbox (parties.Server id)) step.sent) rest → (q : Party) → Acted (stepped (record w { link = link }) id step) q (left actions (parties.Server id) rest q)
stepped_acted w link actions id step rest all own parties.Master = all parties.Master
stepped_acted w link actions id step rest all own parties.Clients = all parties.Clients
stepped_acted w link actions id step rest all own (parties.Server j) = go (j == id) refl where
  go : (t : Bool) → (j == id) ≡ t → ServerActed (cond t step.server (w.server j)) (λ y. cond t (w.outbox (parties.Server j) y ++ addressed y step.sent) (w.outbox (parties.Server j) y)) (cond t rest (actions (parties.Server j)))
  go true e = subst (λ i. ServerActed step.server (posted (w.outbox (parties.Server i)) step.sent) rest) (sym (eqb-true j id e)) own
  go false e = all (parties.Server j)

-- after an order of the master
ordered_acted : (w : World) (link : Party → Party → List Message) (actions : Party → List Action) (order : Order) (rest : List Action) → ((q : Party) → Acted w q (actions q))
    → MasterActed order.master (posted (w.outbox parties.Master) order.said) rest → (q : Party) → Acted (ordered (record w { link = link }) order) q (left actions parties.Master rest q)
ordered_acted w link actions order rest all own parties.Master = own
ordered_acted w link actions order rest all own parties.Clients = all parties.Clients
ordered_acted w link actions order rest all own (parties.Server j) = all (parties.Server j)

-- an outbox without its first message
drained_as : (outbox : Party → List Message) (to y : Party) → drained outbox to y ≡ cond (same y to) (drop 1 (outbox to)) (outbox y)
drained_as outbox to y = go (same y to) refl where
  go : (t : Bool) → same y to ≡ t → drained outbox to y ≡ cond t (drop 1 (outbox to)) (outbox y)
  go true e = subst (λ z. drained outbox to z ≡ drop 1 (outbox to)) (sym (same-true y to e)) (ap (λ b. cond b (drop 1 (outbox to)) (outbox to)) (same-refl to))
  go false e = ap (λ b. cond b (drop 1 (outbox y)) (outbox y)) (same-turned to y ∙ e)

-- after a server put the first message of an outbox
server_put_acted : (w : World) (link : Party → Party → List Message) (actions : Party → List Action) (id : ℕ) (to : Party) (rest : List Action) → ((q : Party) → Acted w q (actions q))
    → ServerActed (w.server id) (drained (w.outbox (parties.Server id)) to) rest
    → (q : Party) → Acted (record w { outbox = set_pair w.outbox (parties.Server id) to (drop 1 (w.outbox (parties.Server id) to)); link = link }) q (left actions (parties.Server id) rest q)
server_put_acted w link actions id to rest all own parties.Master = all parties.Master
server_put_acted w link actions id to rest all own parties.Clients = all parties.Clients
server_put_acted w link actions id to rest all own (parties.Server j) = go (j == id) refl where
  go : (t : Bool) → (j == id) ≡ t → ServerActed (w.server j) (λ y. cond (t && same y to) (drop 1 (w.outbox (parties.Server id) to)) (w.outbox (parties.Server j) y)) (cond t rest (actions (parties.Server j)))
  go true e = subst (λ i. ServerActed (w.server i) (λ y. cond (same y to) (drop 1 (w.outbox (parties.Server id) to)) (w.outbox (parties.Server i) y)) rest) (sym (eqb-true j id e))
      (subst (λ o. ServerActed (w.server id) o rest) (λ i y. drained_as (w.outbox (parties.Server id)) to y i) own)
  go false e = all (parties.Server j)

-- and after the master did
master_put_acted : (w : World) (link : Party → Party → List Message) (actions : Party → List Action) (to : Party) (rest : List Action) → ((q : Party) → Acted w q (actions q))
    → MasterActed w.master (drained (w.outbox parties.Master) to) rest
    → (q : Party) → Acted (record w { outbox = set_pair w.outbox parties.Master to (drop 1 (w.outbox parties.Master to)); link = link }) q (left actions parties.Master rest q)
master_put_acted w link actions to rest all own parties.Master = subst (λ o. MasterActed w.master o rest) (λ i y. drained_as (w.outbox parties.Master) to y i) own
master_put_acted w link actions to rest all own parties.Clients = all parties.Clients
master_put_acted w link actions to rest all own (parties.Server j) = all (parties.Server j)

-- a message that stands first in a link, and may be what the party took
pub record Standing (w : World) (from p : Party) (x : rust.Message) : Type 0 where
  pub m : Message
  pub ms : List Message
  pub at : w.link from p ≡ m ∷ ms
  pub means : Means x m

-- what a take finds
abbrev pub Finds : World → Party → Action → Type 0
Finds w p (Took from x) = Standing w from p x
Finds w p d = Unit {0}

-- Each party has still to do what it had, and one of them what follows its next action.
pub acted_next : (w : World) (actions : Party → List Action) (p : Party) (d : Action) (rest : List Action) → ((q : Party) → Acted w q (actions q)) → actions p ≡ d ∷ rest → Finds w p d
    → (q : Party) → Acted (next w (event_of p d)) q (left actions p rest q)
acted_next w actions parties.Clients d rest all is finds = absurd (cons_nil d rest (sym is ∙ all parties.Clients))
acted_next w actions (parties.Server id) (Arrived clock request) rest all is finds =
    let goes = server_acts (w.server id) (w.outbox (parties.Server id)) (actions (parties.Server id)) rest (Arrived clock request) is (all (parties.Server id)) in
    λ q. subst (λ v. Acted v q (left actions (parties.Server id) rest q)) (sym (next-arrive w id clock request))
    (stepped_acted w w.link actions id (arrived clock request (w.server id)) rest all (inr (goes.1, goes.2, goes.4.0 (w.server id) (w.outbox (parties.Server id)) goes.3, goes.5)) q)
acted_next w actions (parties.Server id) (Asked query) rest all is finds =
    let goes = server_acts (w.server id) (w.outbox (parties.Server id)) (actions (parties.Server id)) rest (Asked query) is (all (parties.Server id)) in
    λ q. subst (λ v. Acted v q (left actions (parties.Server id) rest q)) (sym (next-ask w id query))
    (stepped_acted w w.link actions id (asked query (w.server id)) rest all (inr (goes.1, goes.2, goes.4.0 (w.server id) (w.outbox (parties.Server id)) goes.3, goes.5)) q)
acted_next w actions (parties.Server id) (Crashed count) rest all is finds =
    let goes = server_acts (w.server id) (w.outbox (parties.Server id)) (actions (parties.Server id)) rest (Crashed count) is (all (parties.Server id)) in
    λ q. subst (λ v. Acted v q (left actions (parties.Server id) rest q)) (sym (next-crash w id))
    (stepped_acted w w.link actions id (crashed (w.server id)) rest all (inr (goes.1, goes.2, goes.4.0.0 (w.server id) (w.outbox (parties.Server id)) goes.3, goes.5)) q)
acted_next w actions (parties.Server id) (Put to x) rest all is finds =
    let goes = server_acts (w.server id) (w.outbox (parties.Server id)) (actions (parties.Server id)) rest (Put to x) is (all (parties.Server id)) in
    let done = goes.4.0 (w.server id) (w.outbox (parties.Server id)) goes.3 in
    λ q. subst (λ v. Acted v q (left actions (parties.Server id) rest q)) (sym (next-put w (parties.Server id) to))
    (server_put_acted w (put_on w.link (parties.Server id) to (first_of (w.outbox (parties.Server id) to))) actions id to rest all (inr (goes.1, goes.2, done.1, goes.5)) q)
acted_next w actions (parties.Server id) (Took from x) rest all is finds =
    let goes = server_acts (w.server id) (w.outbox (parties.Server id)) (actions (parties.Server id)) rest (Took from x) is (all (parties.Server id)) in
    λ q. subst (λ v. Acted v q (left actions (parties.Server id) rest q)) (sym (next-take w from (parties.Server id) ∙ ap (after_take w from (parties.Server id)) finds.at))
    (stepped_acted w (set_pair w.link from (parties.Server id) (drop 1 (w.link from (parties.Server id)))) actions id (takes from finds.m (w.server id)) rest all
    (inr (goes.1, goes.2, goes.4.0 finds.m finds.means (w.server id) (w.outbox (parties.Server id)) goes.3, goes.5)) q)
acted_next w actions (parties.Server id) (Detected other) rest all is finds = absurd (server_acts (w.server id) (w.outbox (parties.Server id)) (actions (parties.Server id)) rest (Detected other) is (all (parties.Server id))).4.0
acted_next w actions (parties.Server id) (Joined other) rest all is finds = absurd (server_acts (w.server id) (w.outbox (parties.Server id)) (actions (parties.Server id)) rest (Joined other) is (all (parties.Server id))).4.0
acted_next w actions parties.Master (Detected id) rest all is finds =
    let goes = master_acts w.master (w.outbox parties.Master) (actions parties.Master) rest (Detected id) is (all parties.Master) in
    λ q. subst (λ v. Acted v q (left actions parties.Master rest q)) (sym (next-detect w id))
    (ordered_acted w w.link actions (detected id w.master) rest all (inr (goes.1, goes.2, goes.4.0 w.master (w.outbox parties.Master) goes.3, goes.5)) q)
acted_next w actions parties.Master (Joined id) rest all is finds =
    let goes = master_acts w.master (w.outbox parties.Master) (actions parties.Master) rest (Joined id) is (all parties.Master) in
    λ q. subst (λ v. Acted v q (left actions parties.Master rest q)) (sym (next-join w id))
    (ordered_acted w w.link actions (joined id w.master) rest all (inr (goes.1, goes.2, goes.4.0 w.master (w.outbox parties.Master) goes.3, goes.5)) q)
acted_next w actions parties.Master (Put to x) rest all is finds =
    let goes = master_acts w.master (w.outbox parties.Master) (actions parties.Master) rest (Put to x) is (all parties.Master) in
    let done = goes.4.0 w.master (w.outbox parties.Master) goes.3 in
    λ q. subst (λ v. Acted v q (left actions parties.Master rest q)) (sym (next-put w parties.Master to))
    (master_put_acted w (put_on w.link parties.Master to (first_of (w.outbox parties.Master to))) actions to rest all (inr (goes.1, goes.2, done.1, goes.5)) q)
acted_next w actions parties.Master (Took from x) rest all is finds =
    let goes = master_acts w.master (w.outbox parties.Master) (actions parties.Master) rest (Took from x) is (all parties.Master) in
    λ q. subst (λ v. Acted v q (left actions parties.Master rest q)) (sym (next-take w from parties.Master ∙ ap (after_take w from parties.Master) finds.at))
    (ordered_acted w (set_pair w.link from parties.Master (drop 1 (w.link from parties.Master))) actions (hears_from from finds.m w.master) rest all
    (inr (goes.1, goes.2, goes.4.0 finds.m finds.means w.master (w.outbox parties.Master) goes.3, goes.5)) q)
acted_next w actions parties.Master (Arrived clock request) rest all is finds = absurd (master_acts w.master (w.outbox parties.Master) (actions parties.Master) rest (Arrived clock request) is (all parties.Master)).4.0
acted_next w actions parties.Master (Asked query) rest all is finds = absurd (master_acts w.master (w.outbox parties.Master) (actions parties.Master) rest (Asked query) is (all parties.Master)).4.0
acted_next w actions parties.Master (Crashed count) rest all is finds = absurd (master_acts w.master (w.outbox parties.Master) (actions parties.Master) rest (Crashed count) is (all parties.Master)).4.0
