-- What parties have still to do from a world on.
use Rattle.std.proofs.Common.{◌≡◌, ℕ, ◌∙◌, ap, sym, refl, subst, cond, List, [], ◌∷◌, ◌++◌, drop, Bool, true, false, ◌&&◌, ◌==◌, inl, inr}
use Rattle.std.proofs.lemmas.Bool.{eqb-true}
use Rattle.cq_base.specs.declared.party.Party.{Party}
use Rattle.cq_base.specs.declared.party.Party.TheVariants as parties
use Rattle.cq_base.specs.Relations.{IsPrefix}
use Rattle.cq_chain.specs.declared.master.Master as rust_master
use Rattle.cq_chain.specs.declared.message.Message as rust
use Rattle.cq_chain.specs.declared.server.Server as rust_server
use Rattle.cq_chain.specs.Masters.{Master, Order}
use Rattle.cq_chain.specs.Messages.{Message}
use Rattle.cq_chain.specs.Parties.{same, addressed}
use Rattle.cq_chain.specs.Servers.{Server}
use Rattle.cq_chain.specs.Stands.{AllMean, posted, drained}
use Rattle.cq_chain.specs.Steps.{Step}
use Rattle.cq_events.specs.Actions.{Action, put_in, put_to, taken_from, CoreState, StandsAs, IsMasterAs, ServerRun, MasterRun, Does, DoesMaster, ServerLives, MasterLives, Lived}
use Rattle.cq_events.specs.Orders.{put_by_event}
use Rattle.cq_events.specs.Worlds.{World, set_pair, stepped, ordered}
use Rattle.cq_events.specs.declared.event.Event.{Event}
use Rattle.cq_world.proofs.Eaches.{cons_nil}
use Rattle.cq_events.proofs.Parties.{same-true, same-refl, same-turned}
use Rattle.cq_trace.proofs.OfLaws.ActionLists.{left}

-- What parties have still to do from a world on, and what stands in the real links then.
pub record Cast (w : World) (actions : Party → List Action) (link : Party → Party → List rust.Message) : Type 0 where
  pub lived : (p : Party) → Lived w p (actions p)
  pub means : (from to : Party) → AllMean (link from to) (w.link from to)
  pub law : (from to : Party) → IsPrefix (taken_from from (actions to)) (link from to ++ put_to to (actions from))

-- The same after the next action, and what that one puts.
pub record Next (w v : World) (event : Event) (actions : Party → List Action) (p : Party) (d : Action) (rest : List Action) : Type 0 where
  pub link : Party → Party → List rust.Message
  pub cast : Cast v (left actions p rest) link
  pub put : (from to : Party) → AllMean (cond (same from p) (put_in to d) []) (put_by_event w event from to)

-- what a server still does
pub server_goes : (s : Server) (outbox : Party → List Message) (actions rest : List Action) (d : Action) → actions ≡ d ∷ rest → ServerLives s outbox actions
    → (a mid b : CoreState rust_server.Server) × StandsAs a s outbox × Does d a mid × ServerRun mid rest b
server_goes s outbox actions rest d is (inl none) = absurd (cons_nil d rest (sym is ∙ none))
server_goes s outbox actions rest d is (inr h) = let run = subst (λ ds. ServerRun h.0 ds h.1) is h.3 in (h.0, run.0, h.1, h.2, run.1, run.2)

-- and the master
pub master_goes : (m : Master) (outbox : Party → List Message) (actions rest : List Action) (d : Action) → actions ≡ d ∷ rest → MasterLives m outbox actions
    → (a mid b : CoreState rust_master.Master) × IsMasterAs a m outbox × DoesMaster d a mid × MasterRun mid rest b
master_goes m outbox actions rest d is (inl none) = absurd (cons_nil d rest (sym is ∙ none))
master_goes m outbox actions rest d is (inr h) = let run = subst (λ ds. MasterRun h.0 ds h.1) is h.3 in (h.0, run.0, h.1, h.2, run.1, run.2)

-- after a step of a server, whatever the links
pub stepped_lived : (w : World) (link : Party → Party → List Message) (actions : Party → List Action) (id : ℕ) (step : Step) (rest : List Action) → ((q : Party) → Lived w q (actions q))
    → ServerLives step.server (posted (w.outbox (parties.Server id)) step.sent) rest → (q : Party) → Lived (stepped (record w { link = link }) id step) q (left actions (parties.Server id) rest q)
stepped_lived w link actions id step rest all own parties.Master = all parties.Master
stepped_lived w link actions id step rest all own parties.Clients = all parties.Clients
stepped_lived w link actions id step rest all own (parties.Server j) = go (j == id) refl where
  go : (t : Bool) → (j == id) ≡ t → ServerLives (cond t step.server (w.server j)) (λ y. cond t (w.outbox (parties.Server j) y ++ addressed y step.sent) (w.outbox (parties.Server j) y)) (cond t rest (actions (parties.Server j)))
  go true e = subst (λ i. ServerLives step.server (posted (w.outbox (parties.Server i)) step.sent) rest) (sym (eqb-true j id e)) own
  go false e = all (parties.Server j)

-- after an order of the master
pub ordered_lived : (w : World) (link : Party → Party → List Message) (actions : Party → List Action) (order : Order) (rest : List Action) → ((q : Party) → Lived w q (actions q))
    → MasterLives order.master (posted (w.outbox parties.Master) order.said) rest → (q : Party) → Lived (ordered (record w { link = link }) order) q (left actions parties.Master rest q)
ordered_lived w link actions order rest all own parties.Master = own
ordered_lived w link actions order rest all own parties.Clients = all parties.Clients
ordered_lived w link actions order rest all own (parties.Server j) = all (parties.Server j)

-- an outbox without its first message
drained_as : (outbox : Party → List Message) (to y : Party) → drained outbox to y ≡ cond (same y to) (drop 1 (outbox to)) (outbox y)
drained_as outbox to y = go (same y to) refl where
  go : (t : Bool) → same y to ≡ t → drained outbox to y ≡ cond t (drop 1 (outbox to)) (outbox y)
  go true e = subst (λ z. drained outbox to z ≡ drop 1 (outbox to)) (sym (same-true y to e)) (ap (λ b. cond b (drop 1 (outbox to)) (outbox to)) (same-refl to))
  go false e = ap (λ b. cond b (drop 1 (outbox y)) (outbox y)) (turned ∙ e) where
    turned : same to y ≡ same y to
    turned = same-turned to y

-- after a server put the first message of an outbox
pub server_put_lived : (w : World) (link : Party → Party → List Message) (actions : Party → List Action) (id : ℕ) (to : Party) (rest : List Action) → ((q : Party) → Lived w q (actions q))
    → ServerLives (w.server id) (drained (w.outbox (parties.Server id)) to) rest
    → (q : Party) → Lived (record w { outbox = set_pair w.outbox (parties.Server id) to (drop 1 (w.outbox (parties.Server id) to)); link = link }) q (left actions (parties.Server id) rest q)
server_put_lived w link actions id to rest all own parties.Master = all parties.Master
server_put_lived w link actions id to rest all own parties.Clients = all parties.Clients
server_put_lived w link actions id to rest all own (parties.Server j) = go (j == id) refl where
  go : (t : Bool) → (j == id) ≡ t → ServerLives (w.server j) (λ y. cond (t && same y to) (drop 1 (w.outbox (parties.Server id) to)) (w.outbox (parties.Server j) y)) (cond t rest (actions (parties.Server j)))
  go true e = subst (λ i. ServerLives (w.server i) (λ y. cond (same y to) (drop 1 (w.outbox (parties.Server id) to)) (w.outbox (parties.Server i) y)) rest) (sym (eqb-true j id e))
      (subst (λ o. ServerLives (w.server id) o rest) (λ i y. drained_as (w.outbox (parties.Server id)) to y i) own)
  go false e = all (parties.Server j)

-- and after the master did
pub master_put_lived : (w : World) (link : Party → Party → List Message) (actions : Party → List Action) (to : Party) (rest : List Action) → ((q : Party) → Lived w q (actions q))
    → MasterLives w.master (drained (w.outbox parties.Master) to) rest
    → (q : Party) → Lived (record w { outbox = set_pair w.outbox parties.Master to (drop 1 (w.outbox parties.Master to)); link = link }) q (left actions parties.Master rest q)
master_put_lived w link actions to rest all own parties.Master = subst (λ o. MasterLives w.master o rest) (λ i y. drained_as (w.outbox parties.Master) to y i) own
master_put_lived w link actions to rest all own parties.Clients = all parties.Clients
master_put_lived w link actions to rest all own (parties.Server j) = all (parties.Server j)
