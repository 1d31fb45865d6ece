-- What is kept of a world stands for it, after one of its servers or links changed.
use Rattle.std.proofs.Common.{◌≡◌, ℕ, ◌∙◌, ap, sym, refl, subst, Bool, true, false, not, ◌&&◌, ◌==◌, List, [], ◌∷◌, ◌++◌, drop, append-nil, Option, Some, None, inl, inr, if◌then◌else◌}
use Rattle.std.specs.Option.{is_some}
use Rattle.std.proofs.lemmas.Bool.{cases_Bool, eqb-true, eq-eqb}
use Rattle.cq_base.specs.declared.party.Party.{Party}
use Rattle.cq_base.specs.declared.party.Party.TheVariants as parties
use Rattle.cq_chain.specs.declared.message.Message as rust_message
use Rattle.cq_chain.specs.declared.master.Master as rust_master
use Rattle.cq_chain.specs.declared.server.Server as rust_server
use Rattle.cq_chain.specs.Fifos.{Fifo}
use Rattle.cq_chain.specs.Masters.{Master, Order, no_order, dropped, closed_up, detected, hears, joins_behind, admitted, stands_before, is_last}
use Rattle.cq_chain.specs.Messages.{Message, Fwd, Snap, Ack, BeHead, Report, Adopt, BeTail, Feed, Have, Adopted, Caught, Ready, Answers}
use Rattle.cq_chain.specs.Parties.{same, addressed, is_that}
use Rattle.cq_chain.specs.Servers.{Server, joining}
use Rattle.cq_chain.specs.Stands as chain
use Rattle.cq_chain.specs.Stands.{AllMean, IsFirst, posted, drained}
use Rattle.cq_chain.specs.Steps.{Step}
use Rattle.cq_events.specs.Events.{without_first, first_of}
use Rattle.cq_world.specs.within.Kept.{server_at, messages_at, after_popping, after_posting}
use Rattle.cq_world.specs.Stands.{IsKeptAs, Holds, StandsFor, IsFound}
use Rattle.cq_events.specs.Worlds.{World, is_in, set_pair, stepped, ordered}
use Rattle.cq_world.specs.declared.links.LinkKey.{LinkKey}
use Rattle.cq_world.specs.declared.sim.Sim.{Sim}
use Rattle.cq_world.proofs.OfSim.LinksKept.{set-same}
use Rattle.cq_world.proofs.OfSim.Meanings.{all-append, all-drop, first-alone}
use Rattle.cq_events.proofs.Parties.{same-true, same-turned, eqb-turned}

pub holds : (sim : Sim) (w : World) → StandsFor sim w → Holds sim w
unfolding StandsFor
holds sim w h = h

pub stands : (sim : Sim) (w : World) → Holds sim w → StandsFor sim w
unfolding StandsFor
stands sim w h = h

-- ---- one server

-- what is kept of a server that is found
pub known : (o : Option rust_server.Server) (kept : rust_server.Server) (is : Bool) (s : Server) (outbox : Party → List Message) → o ≡ Some kept → IsKeptAs o is s outbox → (is ≡ true) × chain.StandsFor kept s outbox
known o kept is s outbox found h = subst (λ p. IsKeptAs p is s outbox) found h

-- and of one that isn't
pub unknown : (o : Option rust_server.Server) (is : Bool) (s : Server) (outbox : Party → List Message) → o ≡ None → IsKeptAs o is s outbox → (is ≡ false) × (s ≡ joining) × ((to : Party) → outbox to ≡ [])
unknown o is s outbox none h = subst (λ p. IsKeptAs p is s outbox) none h

-- One server changed, and no other, nor the master.
pub record IsAt (old new : Sim) (at : ℕ) (kept : rust_server.Server) : Type 0 where
  pub here : server_at new.servers at ≡ Some kept
  pub others : (id : ℕ) → (at == id) ≡ false → server_at new.servers id ≡ server_at old.servers id
  pub master : new.master ≡ old.master

-- The other servers of a world are as they were.
pub record IsElsewhere (w v : World) (at : ℕ) : Type 0 where
  pub master : v.master ≡ w.master
  pub server : (id : ℕ) → (at == id) ≡ false → v.server id ≡ w.server id
  pub outbox : (id : ℕ) → (at == id) ≡ false → v.outbox (parties.Server id) ≡ w.outbox (parties.Server id)

-- then all servers are kept
pub servers-at : (old new : Sim) (w v : World) (at : ℕ) (kept : rust_server.Server) → IsAt old new at kept → IsElsewhere w v at → Holds old w → is_in w.master.used at ≡ true → chain.StandsFor kept (v.server at) (v.outbox (parties.Server at))
    → (id : ℕ) → IsKeptAs (server_at new.servers id) (is_in v.master.used id) (v.server id) (v.outbox (parties.Server id))
servers-at old new w v at kept is apart h there now id = elim (cases_Bool (at == id)) [
  | inl own ↦ subst (λ i. IsKeptAs (server_at new.servers i) (is_in v.master.used i) (v.server i) (v.outbox (parties.Server i))) (eqb-true at id own)
      (subst (λ o. IsKeptAs o (is_in v.master.used at) (v.server at) (v.outbox (parties.Server at))) (sym is.here) (ap (λ u. is_in u.used at) apart.master ∙ there, now))
  | inr other ↦ subst (λ o. IsKeptAs o (is_in v.master.used id) (v.server id) (v.outbox (parties.Server id))) (sym (is.others id other))
      (subst (λ u. IsKeptAs (server_at old.servers id) (is_in u.used id) (v.server id) (v.outbox (parties.Server id))) (sym apart.master)
      (subst (λ s. IsKeptAs (server_at old.servers id) (is_in w.master.used id) s (v.outbox (parties.Server id))) (sym (apart.server id other))
      (subst (λ o. IsKeptAs (server_at old.servers id) (is_in w.master.used id) (w.server id) o) (sym (apart.outbox id other)) (h.servers id))))
]

-- after a step the others are as they were
stepped-elsewhere : (w : World) (at : ℕ) (step : Step) → IsElsewhere w (stepped w at step) at
stepped-elsewhere w at step = record {
  master = refl;
  server = λ id other. ap (λ b. if b then step.server else w.server id) (eqb-turned id at ∙ other);
  outbox = λ id other. ap (λ b. λ (y : Party). if b then w.outbox (parties.Server id) y ++ addressed y step.sent else w.outbox (parties.Server id) y) (eqb-turned id at ∙ other);
}

-- and the one has made it
stepped-here : (w : World) (at : ℕ) (step : Step) (kept : rust_server.Server) → chain.StandsFor kept step.server (posted (w.outbox (parties.Server at)) step.sent)
    → chain.StandsFor kept ((stepped w at step).server at) ((stepped w at step).outbox (parties.Server at))
stepped-here w at step kept h =
    subst (λ b. chain.StandsFor kept (if b then step.server else w.server at) ((stepped w at step).outbox (parties.Server at))) (sym (eq-eqb at at refl))
    (subst (λ b. chain.StandsFor kept step.server (λ y. if b then w.outbox (parties.Server at) y ++ addressed y step.sent else w.outbox (parties.Server at) y)) (sym (eq-eqb at at refl)) h)

-- a step of one server, while links may change
pub stepped-stands : (old new : Sim) (w v : World) (at : ℕ) (kept : rust_server.Server) (step : Step) → IsAt old new at kept → Holds old w → is_in w.master.used at ≡ true
    → v.master ≡ w.master → v.server ≡ w.server → v.outbox ≡ w.outbox → ((from to : Party) → AllMean (messages_at new.links from to) (v.link from to))
    → chain.StandsFor kept step.server (posted (w.outbox (parties.Server at)) step.sent) → Holds new (stepped v at step)
stepped-stands old new w v at kept step is h there used servers outboxes links now =
    let u : World = record w { link = v.link } in
    let e : stepped v at step ≡ stepped u at step = stepped-same v u at step used servers outboxes refl in
    subst (λ x. Holds new x) (sym e) (record {
      servers = servers-at old new w (stepped u at step) at kept is (record { master = refl; server = (stepped-elsewhere w at step).server; outbox = (stepped-elsewhere w at step).outbox }) h there (stepped-here w at step kept now);
      links = links;
      master = subst (λ k. chain.MasterStandsFor k w.master (w.outbox parties.Master)) (sym is.master) h.master;
      clients = h.clients;
    })
  where
    stepped-same : (v u : World) (at : ℕ) (step : Step) → v.master ≡ u.master → v.server ≡ u.server → v.outbox ≡ u.outbox → v.link ≡ u.link → stepped v at step ≡ stepped u at step
    stepped-same v u at step a b c d = λ i. record {
      server = (stepped (record { server = b i; outbox = c i; link = d i; master = a i }) at step).server;
      outbox = (stepped (record { server = b i; outbox = c i; link = d i; master = a i }) at step).outbox;
      link = d i;
      master = a i;
    }

-- ---- links

-- a link that was set, and its messages
pub links-set : (f g : Party → Party → List rust_message.Message) (link : Party → Party → List Message) (from to : Party) (xs : List rust_message.Message) (ms : List Message)
    → ((x y : Party) → g x y ≡ set_pair f from to xs x y) → AllMean xs ms → ((x y : Party) → AllMean (f x y) (link x y)) → (x y : Party) → AllMean (g x y) (set_pair link from to ms x y)
links-set f g link from to xs ms is own all x y = subst (λ zs. AllMean zs (set_pair link from to ms x y)) (sym (is x y)) (by (same x from && same y to))
  where
    by : (b : Bool) → AllMean (if b then xs else f x y) (if b then ms else link x y)
    by true = own
    by false = all x y

-- ---- outboxes

-- a party's outboxes, where the first message to one party was drawn
drained-here : (f : Party → List Message) (to y : Party) → (if same y to then drop 1 (f to) else f y) ≡ drained f to y
drained-here f to y = elim (cases_Bool (same y to)) [
  | inl own ↦ ap (λ b. if b then drop 1 (f to) else f y) own ∙ ap (λ z. drop 1 (f z)) (sym (same-true y to own)) ∙ sym (ap (λ b. if b then drop 1 (f y) else f y) (same-turned to y ∙ own))
  | inr other ↦ ap (λ b. if b then drop 1 (f to) else f y) other ∙ sym (ap (λ b. if b then drop 1 (f y) else f y) (same-turned to y ∙ other))
]

drawn-here : (w : World) (at : ℕ) (to y : Party) → (after_popping w (parties.Server at) to).outbox (parties.Server at) y ≡ drained (w.outbox (parties.Server at)) to y
drawn-here w at to y = ap (λ b. if b && same y to then drop 1 (w.outbox (parties.Server at) to) else w.outbox (parties.Server at) y) (eq-eqb at at refl) ∙ drained-here (w.outbox (parties.Server at)) to y

drawn-elsewhere : (w : World) (at : ℕ) (to : Party) → IsElsewhere w (after_popping w (parties.Server at) to) at
drawn-elsewhere w at to = record {
  master = refl;
  server = λ id other. refl;
  outbox = λ id other. ap (λ b. λ (y : Party). if b && same y to then drop 1 (w.outbox (parties.Server at) to) else w.outbox (parties.Server id) y) (eqb-turned id at ∙ other);
}

-- a server's outbox was drained
pub drawn-stands : (old new : Sim) (w : World) (at : ℕ) (kept : rust_server.Server) (to : Party) → IsAt old new at kept → new.links ≡ old.links → Holds old w → is_in w.master.used at ≡ true
    → chain.StandsFor kept (w.server at) (drained (w.outbox (parties.Server at)) to) → Holds new (after_popping w (parties.Server at) to)
drawn-stands old new w at kept to is links h there now = record {
  servers = servers-at old new w (after_popping w (parties.Server at) to) at kept is (drawn-elsewhere w at to) h there
      (subst (λ o. chain.StandsFor kept (w.server at) o) (λ i y. sym (drawn-here w at to y) i) now);
  links = λ x y. subst (λ ls. AllMean (messages_at ls x y) (w.link x y)) (sym links) (h.links x y);
  master = subst (λ k. chain.MasterStandsFor k w.master (w.outbox parties.Master)) (sym is.master) h.master;
  clients = h.clients;
}

-- nothing is drawn of nothing
pub drawn-nothing : (w : World) (from to : Party) → w.outbox from to ≡ [] → after_popping w from to ≡ w
drawn-nothing w from to none = λ i. record w { outbox = λ x y. set-same w.outbox from to (drop 1 (w.outbox from to)) (none ∙ sym (ap (drop 1) none)) x y i }

-- a server that stands for what it did
pub restands : (old new : Sim) (w : World) (at : ℕ) (kept : rust_server.Server) → IsAt old new at kept → new.links ≡ old.links → Holds old w → is_in w.master.used at ≡ true
    → chain.StandsFor kept (w.server at) (w.outbox (parties.Server at)) → Holds new w
restands old new w at kept is links h there now = record {
  servers = servers-at old new w w at kept is (record { master = refl; server = λ id other. refl; outbox = λ id other. refl }) h there now;
  links = λ x y. subst (λ ls. AllMean (messages_at ls x y) (w.link x y)) (sym links) (h.links x y);
  master = subst (λ k. chain.MasterStandsFor k w.master (w.outbox parties.Master)) (sym is.master) h.master;
  clients = h.clients;
}

-- ---- the master

-- it has nothing for itself, nor for the clients
pub to-itself : (kept : rust_master.Master) (m : Master) (outbox : Party → List Message) → chain.MasterStandsFor kept m outbox → outbox parties.Master ≡ []
unfolding chain.MasterStandsFor
to-itself kept m outbox h = h.master

pub to-clients : (kept : rust_master.Master) (m : Master) (outbox : Party → List Message) → chain.MasterStandsFor kept m outbox → outbox parties.Clients ≡ []
unfolding chain.MasterStandsFor
to-clients kept m outbox h = h.clients

pub nothing-for : (kept : rust_master.Master) (m : Master) (outbox : Party → List Message) (to : Party) → chain.MasterStandsFor kept m outbox → ((id : ℕ) → to ≡ parties.Server id → ⊥) → outbox to ≡ []
nothing-for kept m outbox parties.Master h other = to-itself kept m outbox h
nothing-for kept m outbox parties.Clients h other = to-clients kept m outbox h
nothing-for kept m outbox (parties.Server id) h other = absurd (other id refl)

-- after an order, while links may change and servers join
pub ordered-stands : (new : Sim) (v : World) (order : Order) → ((id : ℕ) → IsKeptAs (server_at new.servers id) (is_in order.master.used id) (v.server id) (v.outbox (parties.Server id)))
    → ((from to : Party) → AllMean (messages_at new.links from to) (v.link from to)) → chain.MasterStandsFor new.master order.master (posted (v.outbox parties.Master) order.said) → ((to : Party) → v.outbox parties.Clients to ≡ []) → Holds new (ordered v order)
ordered-stands new v order servers links master clients = record {
  servers = servers;
  links = links;
  master = master;
  clients = clients;
}

-- no order changes nothing
pub unordered : (w : World) → ordered w (no_order w.master) ≡ w
unordered w = λ i. record w { outbox = λ x y. sent-none x y (same x parties.Master) i }
  where
    sent-none : (x y : Party) (b : Bool) → (if b then w.outbox x y ++ [] else w.outbox x y) ≡ w.outbox x y
    sent-none x y true = append-nil (w.outbox x y)
    sent-none x y false = refl

used-either : (b : Bool) (x y : Order) (used : List ℕ) → x.master.used ≡ used → y.master.used ≡ used → (if b then x else y).master.used ≡ used
used-either true x y used h k = h
used-either false x y used h k = k

-- what it says of a loss, and what it hears, uses up no number
pub detected-used : (id : ℕ) (m : Master) → (detected id m).master.used ≡ m.used
unfolding detected
detected-used id m = used-either (is_that m.joiner id) (dropped m) (closed_up id m) m.used refl refl

pub hears-used : (from : ℕ) (message : Message) (m : Master) → (hears from message m).master.used ≡ m.used
unfolding hears
hears-used from (Fwd place entry) m = refl
hears-used from (Snap entries) m = refl
hears-used from (Ack place) m = refl
hears-used from BeHead m = refl
hears-used from (Report pred) m = refl
hears-used from (Adopt succ have) m = refl
hears-used from (BeTail least) m = refl
hears-used from (Feed succ) m = refl
hears-used from (Have p count) m = used-either (stands_before p from m.chain) _ _ m.used refl (used-either (joins_behind p from m) _ (no_order m) m.used refl refl)
hears-used from (Caught p count) m = used-either (joins_behind p from m) (admitted p from count m) (no_order m) m.used refl refl
hears-used from (Adopted s count) m = used-either (is_last m.chain s && not m.told) _ (no_order m) m.used refl refl
hears-used from Ready m = used-either (is_last m.chain from) _ (no_order m) m.used refl refl
hears-used from (Answers answer) m = refl

-- after an order that uses up no number, while links may change
pub ordered-same : (old new : Sim) (w v : World) (order : Order) → new.servers ≡ old.servers → order.master.used ≡ w.master.used → v.server ≡ w.server → v.outbox ≡ w.outbox → Holds old w
    → ((from to : Party) → AllMean (messages_at new.links from to) (v.link from to)) → chain.MasterStandsFor new.master order.master (posted (w.outbox parties.Master) order.said) → Holds new (ordered v order)
ordered-same old new w v order servers used states outboxes h links master = ordered-stands new v order
    (λ id. subst (λ o. IsKeptAs (server_at new.servers id) (is_in order.master.used id) (v.server id) (o (parties.Server id))) (sym outboxes)
    (subst (λ s. IsKeptAs (server_at new.servers id) (is_in order.master.used id) (s id) (w.outbox (parties.Server id))) (sym states)
    (subst (λ us. IsKeptAs (server_at new.servers id) (is_in us id) (w.server id) (w.outbox (parties.Server id))) (sym used)
    (subst (λ ss. IsKeptAs (server_at ss id) (is_in w.master.used id) (w.server id) (w.outbox (parties.Server id))) (sym servers) (h.servers id)))))
    links (subst (λ o. chain.MasterStandsFor new.master order.master (posted (o parties.Master) order.said)) (sym outboxes) master)
    (λ to. ap (λ o. o parties.Clients to) outboxes ∙ h.clients to)

-- the master stands for what it did
pub remains-master : (old new : Sim) (w : World) → new.servers ≡ old.servers → new.links ≡ old.links → Holds old w → chain.MasterStandsFor new.master w.master (w.outbox parties.Master) → Holds new w
remains-master old new w servers links h now = record {
  servers = λ id. subst (λ ss. IsKeptAs (server_at ss id) (is_in w.master.used id) (w.server id) (w.outbox (parties.Server id))) (sym servers) (h.servers id);
  links = λ x y. subst (λ ls. AllMean (messages_at ls x y) (w.link x y)) (sym links) (h.links x y);
  master = now;
  clients = h.clients;
}

-- more room for servers
pub same-servers : (old new : Sim) (w : World) → ((id : ℕ) → server_at new.servers id ≡ server_at old.servers id) → new.links ≡ old.links → new.master ≡ old.master → Holds old w → Holds new w
same-servers old new w servers links master h = record {
  servers = λ id. subst (λ o. IsKeptAs o (is_in w.master.used id) (w.server id) (w.outbox (parties.Server id))) (sym (servers id)) (h.servers id);
  links = λ x y. subst (λ ls. AllMean (messages_at ls x y) (w.link x y)) (sym links) (h.links x y);
  master = subst (λ k. chain.MasterStandsFor k w.master (w.outbox parties.Master)) (sym master) h.master;
  clients = h.clients;
}

-- its outbox was drained
pub drawn-master : (old new : Sim) (w : World) (to : Party) → new.servers ≡ old.servers → new.links ≡ old.links → Holds old w
    → chain.MasterStandsFor new.master w.master (drained (w.outbox parties.Master) to) → Holds new (after_popping w parties.Master to)
drawn-master old new w to servers links h now = record {
  servers = λ id. subst (λ ss. IsKeptAs (server_at ss id) (is_in w.master.used id) (w.server id) (w.outbox (parties.Server id))) (sym servers) (h.servers id);
  links = λ x y. subst (λ ls. AllMean (messages_at ls x y) (w.link x y)) (sym links) (h.links x y);
  master = subst (λ o. chain.MasterStandsFor new.master w.master o) (λ i y. sym (drained-here (w.outbox parties.Master) to y) i) now;
  clients = h.clients;
}

-- a server is known if it is kept
pub kept-known : (o : Option rust_server.Server) (is : Bool) (s : Server) (outbox : Party → List Message) → IsKeptAs o is s outbox → is_some o ≡ is
kept-known None is s outbox h = sym h.0
kept-known (Some kept) is s outbox h = sym h.0

-- what is found under a number
pub found : (w : World) (id : ℕ) (o p : Option rust_server.Server) → o ≡ p → IsKeptAs p (is_in w.master.used id) (w.server id) (w.outbox (parties.Server id)) → IsFound w id o
found w id o None same h = subst (λ q. IsFound w id q) (sym same) h.0
found w id o (Some kept) same h = subst (λ q. IsFound w id q) (sym same) h

-- ---- links

-- other fifos with the same messages
pub reserved-stands : (old : Sim) (links : List (LinkKey × Fifo)) (w : World) → ((x y : Party) → messages_at links x y ≡ messages_at old.links x y) → Holds old w → Holds (record { alloc = old.alloc; servers = old.servers; links = links; master = old.master }) w
reserved-stands old links w same h = record {
  servers = h.servers;
  links = λ x y. subst (λ ms. AllMean ms (w.link x y)) (sym (same x y)) (h.links x y);
  master = h.master;
  clients = h.clients;
}

-- a link without its first message
pub without-stands : (old : Sim) (links : List (LinkKey × Fifo)) (w : World) (from to : Party) → ((x y : Party) → messages_at links x y ≡ set_pair (messages_at old.links) from to (drop 1 (messages_at old.links from to)) x y)
    → Holds old w → Holds (record { alloc = old.alloc; servers = old.servers; links = links; master = old.master }) (without_first w from to)
without-stands old links w from to popped h = record {
  servers = h.servers;
  links = links-set (messages_at old.links) (messages_at links) w.link from to (drop 1 (messages_at old.links from to)) (drop 1 (w.link from to)) popped
      (all-drop (messages_at old.links from to) (w.link from to) (h.links from to)) h.links;
  master = h.master;
  clients = h.clients;
}

-- a link with what was drawn from an outbox
pub posted-stands : (drawn : Sim) (links : List (LinkKey × Fifo)) (w : World) (from to : Party) (x : rust_message.Message)
    → ((a b : Party) → messages_at links a b ≡ set_pair (messages_at drawn.links) from to (messages_at drawn.links from to ++ x ∷ []) a b) → IsFirst (Some x) (w.outbox from to)
    → Holds drawn (after_popping w from to) → Holds (record { alloc = drawn.alloc; servers = drawn.servers; links = links; master = drawn.master }) (after_posting w from to)
posted-stands drawn links w from to x pushed first h = record {
  servers = h.servers;
  links = links-set (messages_at drawn.links) (messages_at links) w.link from to (messages_at drawn.links from to ++ x ∷ []) (w.link from to ++ first_of (w.outbox from to)) pushed
      (all-append (messages_at drawn.links from to) (x ∷ []) (w.link from to) (first_of (w.outbox from to)) (h.links from to) (first-alone x (w.outbox from to) first)) h.links;
  master = h.master;
  clients = h.clients;
}
