-- What the master stands for after a part of a call.
use Rattle.std.proofs.Common.{◌≡◌, ℕ, ◌∙◌, ap, sym, List, [], ◌∷◌, ◌++◌, length, Some, None, Bool, true, false, append-nil, subst, refl, not, ◌&&◌, ◌||◌, ◌<◌, ◌≤◌, is_none, if◌then◌else◌, inl, inr, Result, Ok, Err, OnOk}
use Rattle.std.proofs.lemmas.Bool.{lt-ltb, le-ltb, cases_Bool}
use Rattle.cq_base.specs.declared.party.Party.{Party}
use Rattle.cq_base.specs.declared.party.Party.TheVariants as parties
use Rattle.cq_chain.specs.declared.fault.WorldFault.{WorldFault}
use Rattle.cq_chain.specs.declared.fault.WorldFault.TheVariants.{NoSuchServer, LastFull, JoinPending, IdUsed, ChainFull}
use Rattle.cq_chain.specs.declared.master.Master as stored
use Rattle.cq_chain.specs.declared.message.Message as rust
use Rattle.cq_chain.specs.declared.message.Message.TheVariants as sent
use Rattle.cq_chain.specs.Fifos.{Fifo}
use Rattle.cq_chain.specs.within.Boxes.{messages_for}
use Rattle.cq_chain.specs.Masters.{Master, Order, no_order, is_in, is_last, stands_before, without, dropped, closed_up, detected, joined, joins_behind, admitted, hears, said_of_join, refusal_of_detection, refusal_of_join}
use Rattle.cq_chain.specs.Messages.{Message, Feed, Have, Adopted, Caught, Ready, Adopt, BeTail}
use Rattle.cq_chain.specs.Parties.{addressed, is_that}
use Rattle.cq_chain.specs.Stands.{Means, AllMean, MasterHolds, MasterStandsFor, Orders, posted}
use Rattle.cq_chain.specs.within.Waiting.{Waits, Posts, KeepsAll, AllFor}
use Rattle.cq_chain.proofs.Mailing.{waits-kept}

pub master-stands : (kept : stored.Master) (m : Master) (outbox : Party → List Message) → MasterHolds kept m outbox → MasterStandsFor kept m outbox
unfolding MasterStandsFor
master-stands kept m outbox h = h

pub master-parts : (kept : stored.Master) (m : Master) (outbox : Party → List Message) → MasterStandsFor kept m outbox → MasterHolds kept m outbox
unfolding MasterStandsFor
master-parts kept m outbox h = h

-- with other outboxes
pub with_master_boxes : (kept : stored.Master) (m : Master) (outbox next : Party → List Message) (boxes : List (Party × Fifo)) → MasterStandsFor kept m outbox → Waits boxes next → next parties.Master ≡ [] → next parties.Clients ≡ []
    → MasterStandsFor (record kept { outboxes = boxes }) m next
with_master_boxes kept m outbox next boxes h waits master clients = let p = master-parts kept m outbox h in master-stands (record kept { outboxes = boxes }) m next (record {
  chain = p.chain;
  told = p.told;
  ready = p.ready;
  joiner = p.joiner;
  used = p.used;
  waiting = waits;
  master = master;
  clients = clients;
})

-- with room
pub with_master_room : (kept : stored.Master) (m : Master) (outbox : Party → List Message) (boxes : List (Party × Fifo)) → MasterStandsFor kept m outbox → KeepsAll kept.outboxes boxes → MasterStandsFor (record kept { outboxes = boxes }) m outbox
with_master_room kept m outbox boxes h keeps = let p = master-parts kept m outbox h in
    with_master_boxes kept m outbox outbox boxes h (waits-kept kept.outboxes boxes keeps outbox p.waiting) p.master p.clients

-- the same waits
pub with_master_outbox : (kept : stored.Master) (m : Master) (outbox next : Party → List Message) → MasterStandsFor kept m outbox → ((p : Party) → outbox p ≡ next p) → MasterStandsFor kept m next
with_master_outbox kept m outbox next h same = let p = master-parts kept m outbox h in
    with_master_boxes kept m outbox next kept.outboxes h (λ q. subst (λ ms. AllMean (messages_for kept.outboxes q) ms) (same q) (p.waiting q)) (sym (same parties.Master) ∙ p.master) (sym (same parties.Clients) ∙ p.clients)

-- nothing is said
pub nothing-said : (kept : stored.Master) (m : Master) (outbox : Party → List Message) → MasterStandsFor kept m outbox → MasterStandsFor kept m (posted outbox [])
nothing-said kept m outbox h = with_master_outbox kept m outbox (posted outbox []) h (λ p. sym (append-nil (outbox p)))

-- what is said to a server is for no other party
said-to_server : (to : ℕ) (y : rust.Message) (all : List (Party × Message)) → AllFor (parties.Server to) (y ∷ []) all → (addressed parties.Master all ≡ []) × (addressed parties.Clients all ≡ [])
said-to_server to y [] h = absurd h
said-to_server to y (x ∷ []) h = rw h.0 (refl, refl)
said-to_server to y (x ∷ z ∷ zs) h = absurd h.1.1

-- it is said
pub said-stands : (kept : stored.Master) (m : Master) (outbox : Party → List Message) (boxes : List (Party × Fifo)) (to : ℕ) (y : rust.Message) (all : List (Party × Message)) → MasterStandsFor kept m outbox → AllFor (parties.Server to) (y ∷ []) all
    → Posts kept.outboxes boxes all → MasterStandsFor (record kept { outboxes = boxes }) m (posted outbox all)
said-stands kept m outbox boxes to y all h for posts = let p = master-parts kept m outbox h in let none = said-to_server to y all for in
    with_master_boxes kept m outbox (posted outbox all) boxes h (posts outbox p.waiting) (rw (p.master, none.0)) (rw (p.clients, none.1))

-- one message is for its party
pub one-for : (to : Party) (y : rust.Message) (all : List (Party × Message)) (boxes new : List (Party × Fifo)) → AllFor to (y ∷ []) all → ((m : Message) → Means y m → Posts boxes new ((to, m) ∷ [])) → Posts boxes new all
one-for to y [] boxes new h posts = absurd h
one-for to y ((p, m) ∷ []) boxes new h posts = subst (λ q. Posts boxes new ((q, m) ∷ [])) (sym h.0) (posts m h.1.0)
one-for to y (a ∷ b ∷ rest) boxes new h posts = absurd h.1.1

-- ---- refusals

pub joiner-not-refused : (id : ℕ) (m : Master) → is_that m.joiner id ≡ true → refusal_of_detection id m ≡ None
unfolding refusal_of_detection
joiner-not-refused id m joins = rw joins

pub stranger-refused : (id : ℕ) (m : Master) → is_that m.joiner id ≡ false → is_in m.chain id ≡ false → refusal_of_detection id m ≡ Some NoSuchServer
unfolding refusal_of_detection
stranger-refused id m joins h = rw (joins, h)

pub last-refused : (id : ℕ) (m : Master) → is_that m.joiner id ≡ false → is_in m.chain id ≡ true → length m.chain ≤ 1 → refusal_of_detection id m ≡ Some LastFull
unfolding refusal_of_detection
last-refused id m joins h few = rw (joins, h, le-ltb 1 (length m.chain) few)

pub detection-not-refused : (id : ℕ) (m : Master) → is_that m.joiner id ≡ false → is_in m.chain id ≡ true → 1 < length m.chain → refusal_of_detection id m ≡ None
unfolding refusal_of_detection
detection-not-refused id m joins h more = rw (joins, h, lt-ltb 1 (length m.chain) more)

pub used-refused : (id : ℕ) (m : Master) → is_in m.used id ≡ true → refusal_of_join id m ≡ Some IdUsed
unfolding refusal_of_join
used-refused id m h = rw h

pub full-refused : (id : ℕ) (m : Master) → is_in m.used id ≡ false → 8 ≤ length m.chain → refusal_of_join id m ≡ Some ChainFull
unfolding refusal_of_join
full-refused id m h many = rw (h, le-ltb (length m.chain) 8 many)

pub pending-refused : (id : ℕ) (m : Master) → is_in m.used id ≡ false → length m.chain < 8 → (m.ready && is_none m.joiner) ≡ false → refusal_of_join id m ≡ Some JoinPending
unfolding refusal_of_join
pending-refused id m h room pending = rw (h, lt-ltb (length m.chain) 8 room, pending)

pub join-not-refused : (id : ℕ) (m : Master) → is_in m.used id ≡ false → length m.chain < 8 → (m.ready && is_none m.joiner) ≡ true → refusal_of_join id m ≡ None
unfolding refusal_of_join
join-not-refused id m h room open_now = rw (h, lt-ltb (length m.chain) 8 room, open_now)

some_none : (fault : WorldFault) → Some fault ≡ None → ⊥
some_none fault h = cc

-- a join that isn't refused is of a number that wasn't used
pub unused-number : (id : ℕ) (m : Master) → refusal_of_join id m ≡ None → is_in m.used id ≡ false
unused-number id m h = elim (cases_Bool (is_in m.used id)) [
  | inl e ↦ absurd (some_none IdUsed (sym (used-refused id m e) ∙ h))
  | inr e ↦ e
]

-- ---- what the master hears

-- who joins behind whom
pub joins-by_last : (p from : ℕ) (m : Master) (last : Bool) → is_that m.joiner from ≡ true → last ≡ is_last m.chain p → last ≡ joins_behind p from m
joins-by_last p from m last joins is = rw joins is

pub joins-no : (p from : ℕ) (m : Master) → is_that m.joiner from ≡ false → false ≡ joins_behind p from m
joins-no p from m joins = rw joins

-- an order, by what it is
pub orders-by : (kept : stored.Master) (outbox : Party → List Message) (order other : Order) → order ≡ other → MasterStandsFor kept other.master (posted outbox other.said) → MasterStandsFor kept order.master (posted outbox order.said)
orders-by kept outbox order other is h = subst (λ x. MasterStandsFor kept x.master (posted outbox x.said)) (sym is) h

pub hears-ready_of_last : (from : ℕ) (m : Master) → is_last m.chain from ≡ true → hears from Ready m ≡ record { master = record m { ready = true }; said = [] }
unfolding hears
hears-ready_of_last from m h = rw h

pub hears-ready_of_other : (from : ℕ) (m : Master) → is_last m.chain from ≡ false → hears from Ready m ≡ no_order m
unfolding hears
hears-ready_of_other from m h = rw h

pub hears-caught : (from p n : ℕ) (m : Master) → joins_behind p from m ≡ true → hears from (Caught p n) m ≡ admitted p from n m
unfolding hears
hears-caught from p n m h = rw h

pub hears-stale_caught : (from p n : ℕ) (m : Master) → joins_behind p from m ≡ false → hears from (Caught p n) m ≡ no_order m
unfolding hears
hears-stale_caught from p n m h = rw h

pub hears-have : (from p n : ℕ) (m : Master) → stands_before p from m.chain ≡ true → hears from (Have p n) m ≡ record { master = m; said = (parties.Server p, Adopt from n) ∷ [] }
unfolding hears
hears-have from p n m h = rw h

pub hears-have_of_joiner : (from p n : ℕ) (m : Master) → stands_before p from m.chain ≡ false → joins_behind p from m ≡ true → hears from (Have p n) m ≡ record { master = m; said = (parties.Server p, Feed (Some from)) ∷ [] }
unfolding hears
hears-have_of_joiner from p n m h joins = rw (h, joins)

pub hears-stale_have : (from p n : ℕ) (m : Master) → stands_before p from m.chain ≡ false → joins_behind p from m ≡ false → hears from (Have p n) m ≡ no_order m
unfolding hears
hears-stale_have from p n m h joins = rw (h, joins)

pub hears-adopted : (from s n : ℕ) (m : Master) → is_last m.chain s ≡ true → m.told ≡ false → hears from (Adopted s n) m ≡ record { master = record m { told = true }; said = (parties.Server s, BeTail n) ∷ [] }
unfolding hears
hears-adopted from s n m last told = rw (last, told)

pub hears-adopted_of_other : (from s n : ℕ) (m : Master) → is_last m.chain s ≡ false → hears from (Adopted s n) m ≡ no_order m
unfolding hears
hears-adopted_of_other from s n m last = rw last

pub hears-adopted_again : (from s n : ℕ) (m : Master) → is_last m.chain s ≡ true → m.told ≡ true → hears from (Adopted s n) m ≡ no_order m
unfolding hears
hears-adopted_again from s n m last told = rw (last, told)

-- ---- what it knows

pub with_ready : (kept : stored.Master) (m : Master) (outbox : Party → List Message) → MasterStandsFor kept m outbox → MasterStandsFor (record kept { ready = true }) (record m { ready = true }) outbox
with_ready kept m outbox h = let p = master-parts kept m outbox h in master-stands (record kept { ready = true }) (record m { ready = true }) outbox (record {
  chain = p.chain;
  told = p.told;
  ready = refl;
  joiner = p.joiner;
  used = p.used;
  waiting = p.waiting;
  master = p.master;
  clients = p.clients;
})

pub with_told : (kept : stored.Master) (m : Master) (outbox : Party → List Message) → MasterStandsFor kept m outbox → MasterStandsFor (record kept { told = true }) (record m { told = true }) outbox
with_told kept m outbox h = let p = master-parts kept m outbox h in master-stands (record kept { told = true }) (record m { told = true }) outbox (record {
  chain = p.chain;
  told = refl;
  ready = p.ready;
  joiner = p.joiner;
  used = p.used;
  waiting = p.waiting;
  master = p.master;
  clients = p.clients;
})

-- without a member
pub without-stands : (old new : stored.Master) (m : Master) (outbox : Party → List Message) (id : ℕ) → MasterStandsFor old m outbox → new.chain.items ≡ without id old.chain.items → new.told ≡ (is_last old.chain.items id || old.told)
    → new.ready ≡ (not (is_last old.chain.items id) && old.ready) → new.joiner ≡ (if is_last old.chain.items id then None else old.joiner) → new.used ≡ old.used → new.outboxes ≡ old.outboxes
    → MasterStandsFor new (closed_up id m).master outbox
without-stands old new m outbox id h chain told ready joins used boxes = let p = master-parts old m outbox h in master-stands new (closed_up id m).master outbox (record {
  chain = chain ∙ ap (λ xs. without id xs) p.chain;
  told = told ∙ ap (λ xs. is_last xs id || old.told) p.chain ∙ ap (λ t. is_last m.chain id || t) p.told;
  ready = ready ∙ ap (λ xs. not (is_last xs id) && old.ready) p.chain ∙ ap (λ r. not (is_last m.chain id) && r) p.ready;
  joiner = joins ∙ ap (λ xs. if is_last xs id then None else old.joiner) p.chain ∙ ap (λ j. if is_last m.chain id then None else j) p.joiner;
  used = ap (λ u. u.keys) used ∙ p.used;
  waiting = subst (λ b. (to : Party) → AllMean (messages_for b to) (outbox to)) (sym boxes) p.waiting;
  master = p.master;
  clients = p.clients;
})

pub detected-joiner : (id : ℕ) (m : Master) → is_that m.joiner id ≡ true → detected id m ≡ dropped m
unfolding detected
detected-joiner id m joins = rw joins

pub detected-member : (id : ℕ) (m : Master) → is_that m.joiner id ≡ false → detected id m ≡ closed_up id m
unfolding detected
detected-member id m joins = rw joins

-- with no server that joins
pub with_no_joiner : (kept : stored.Master) (m : Master) (outbox : Party → List Message) → MasterStandsFor kept m outbox → MasterStandsFor (record kept { joiner = None }) (dropped m).master outbox
with_no_joiner kept m outbox h = let p = master-parts kept m outbox h in master-stands (record kept { joiner = None }) (dropped m).master outbox (record {
  chain = p.chain;
  told = p.told;
  ready = p.ready;
  joiner = refl;
  used = p.used;
  waiting = p.waiting;
  master = p.master;
  clients = p.clients;
})

-- with a server that joins
pub joined-stands : (old new : stored.Master) (m : Master) (outbox : Party → List Message) (id : ℕ) → MasterStandsFor old m outbox → new.chain ≡ old.chain → new.used.keys ≡ old.used.keys ++ id ∷ []
    → new.told ≡ old.told → new.ready ≡ old.ready → new.joiner ≡ Some id → new.outboxes ≡ old.outboxes → MasterStandsFor new (joined id m).master outbox
unfolding joined
joined-stands old new m outbox id h chain used told ready joins boxes = let p = master-parts old m outbox h in master-stands new (joined id m).master outbox (record {
  chain = ap (λ xs. xs.items) chain ∙ p.chain;
  told = told ∙ p.told;
  ready = ready ∙ p.ready;
  joiner = joins;
  used = used ∙ ap (λ xs. xs ++ id ∷ []) p.used;
  waiting = subst (λ b. (to : Party) → AllMean (messages_for b to) (outbox to)) (sym boxes) p.waiting;
  master = p.master;
  clients = p.clients;
})

pub joined-said : (id : ℕ) (m : Master) → said_of_join id m.chain ≡ (joined id m).said
unfolding joined
joined-said id m = refl

-- with a member more, which joined behind p
pub admitted-stands : (old new : stored.Master) (m : Master) (outbox : Party → List Message) (p id n : ℕ) → MasterStandsFor old m outbox → new.chain.items ≡ old.chain.items ++ id ∷ [] → new.used ≡ old.used → new.told ≡ false → new.ready ≡ false
    → new.joiner ≡ None → new.outboxes ≡ old.outboxes → MasterStandsFor new (admitted p id n m).master outbox
admitted-stands old new m outbox pred id n h chain used told ready joins boxes = let p = master-parts old m outbox h in master-stands new (admitted pred id n m).master outbox (record {
  chain = chain ∙ ap (λ xs. xs ++ id ∷ []) p.chain;
  told = told;
  ready = ready;
  joiner = joins;
  used = ap (λ u. u.keys) used ∙ p.used;
  waiting = subst (λ b. (to : Party) → AllMean (messages_for b to) (outbox to)) (sym boxes) p.waiting;
  master = p.master;
  clients = p.clients;
})

-- the same members and numbers
pub same-stands : (old new : stored.Master) (m : Master) (outbox : Party → List Message) → MasterStandsFor old m outbox → new.chain.items ≡ old.chain.items → new.used.keys ≡ old.used.keys → new.told ≡ old.told → new.ready ≡ old.ready
    → new.joiner ≡ old.joiner → new.outboxes ≡ old.outboxes → MasterStandsFor new m outbox
same-stands old new m outbox h chain used told ready joins boxes = let p = master-parts old m outbox h in master-stands new m outbox (record {
  chain = chain ∙ p.chain;
  told = told ∙ p.told;
  ready = ready ∙ p.ready;
  joiner = joins ∙ p.joiner;
  used = used ∙ p.used;
  waiting = subst (λ b. (to : Party) → AllMean (messages_for b to) (outbox to)) (sym boxes) p.waiting;
  master = p.master;
  clients = p.clients;
})

-- what it doesn't hear
pub hears-others : (from : ℕ) (message : rust.Message) (x : Message) (m : Master) → ((pred count : ℕ) → message ≡ sent.Have pred count → ⊥) → ((pred count : ℕ) → message ≡ sent.Caught pred count → ⊥)
    → ((succ count : ℕ) → message ≡ sent.Adopted succ count → ⊥) → (message ≡ sent.Ready → ⊥) → Means message x → hears from x m ≡ no_order m
unfolding hears
hears-others from (sent.Fwd place e) x m have caught adopted ready h = ap (λ y. hears from y m) h
hears-others from (sent.Snap state) x m have caught adopted ready h = ap (λ y. hears from y m) h.is
hears-others from (sent.Ack place) x m have caught adopted ready h = ap (λ y. hears from y m) h
hears-others from sent.BeHead x m have caught adopted ready h = ap (λ y. hears from y m) h
hears-others from (sent.Report pred) x m have caught adopted ready h = ap (λ y. hears from y m) h
hears-others from (sent.Adopt succ n) x m have caught adopted ready h = ap (λ y. hears from y m) h
hears-others from (sent.BeTail least) x m have caught adopted ready h = ap (λ y. hears from y m) h
hears-others from (sent.Feed succ) x m have caught adopted ready h = ap (λ y. hears from y m) h
hears-others from (sent.Have pred count) x m have caught adopted ready h = absurd (have pred count refl)
hears-others from (sent.Adopted succ count) x m have caught adopted ready h = absurd (adopted succ count refl)
hears-others from (sent.Caught pred count) x m have caught adopted ready h = absurd (caught pred count refl)
hears-others from sent.Ready x m have caught adopted ready h = absurd (ready refl)
hears-others from (sent.Answer answer) x m have caught adopted ready h = ap (λ y. hears from y m) h

-- an order that succeeded, by what it is
pub orders-as : {E : Type 0} (old new : stored.Master) (order other : Master → Order) (r : Result (Unit {0}) E) → ((m : Master) (outbox : Party → List Message) → MasterStandsFor old m outbox → other m ≡ order m) → OnOk r (Orders old new order) → OnOk r (Orders old new other)
orders-as old new order other (Ok x) same does = λ m outbox h. orders-by new outbox (other m) (order m) (same m outbox h) (does m outbox h)
orders-as old new order other (Err e) same does = tt
