-- What a server stands for after it took an order of the master, a snapshot, or a crash.
use Rattle.std.proofs.Common.{◌≡◌, ℕ, ◌∙◌, List, [], ◌∷◌, ◌++◌, length, Option, Some, None, Bool, true, false, not, ◌&&◌, subst, refl, nat_le, arith, is_none, if◌then◌else◌, Result, Ok, Err, OnOk}
use Rattle.cq_base.specs.declared.ask.Entry.{Entry}
use Rattle.cq_base.specs.declared.party.Party.{Party}
use Rattle.cq_base.specs.declared.party.Party.TheVariants as parties
use Rattle.cq_chain.specs.declared.server.Server as stored
use Rattle.cq_chain.specs.Fifos.{Fifo}
use Rattle.cq_chain.specs.Messages.{Message, Snap, Ack, Have, Adopted, Caught, Ready}
use Rattle.cq_chain.specs.Servers.{Server, acts, is_that}
use Rattle.cq_chain.specs.Stands.{StandsFor, Does, posted}
use Rattle.cq_chain.specs.Steps.{Step, silent, when, to_server, tail_news, with_history, restored, reported, repair, adopting, feeding, as_tail, tailed, is_restoring, takes}
use Rattle.cq_chain.specs.within.Replicas.{Replica, Recalls}
use Rattle.cq_chain.specs.within.Waiting.{Posts, KeepsAll, Waits}
use Rattle.cq_store.specs.Stands as stores
use Rattle.cq_store.specs.Stands.{count_of}
use Rattle.cq_chain.proofs.ServerStands.{stands, stands-by, parts, nothing-sent}

-- room is made twice
pub keeps-then : (a b c : List (Party × Fifo)) → KeepsAll a b → KeepsAll b c → KeepsAll a c
keeps-then a b c h k = ((λ to. k.0 to ∙ h.0 to), (λ to. omega (arith, h.1 to, k.1 to)))

-- a server that is down
down-stands : (kept : stored.Server) (s : Server) (outbox : Party → List Message) → StandsFor kept s outbox → StandsFor (record kept { down = true }) (record s { down = true }) outbox
down-stands kept s outbox h = let p = parts kept s outbox h in stands (record kept { down = true }) (record s { down = true }) outbox (record {
  entries = p.entries;
  acked = p.acked;
  pred = p.pred;
  succ = p.succ;
  head = p.head;
  at_least = p.at_least;
  full = p.full;
  down = refl;
  waiting = p.waiting;
})

pub crashed-stands : (kept : stored.Server) (s : Server) (outbox : Party → List Message) → StandsFor kept s outbox → StandsFor (record kept { down = true }) (record s { down = true }) (posted outbox [])
crashed-stands kept s outbox h = nothing-sent (record kept { down = true }) (record s { down = true }) outbox (down-stands kept s outbox h)

-- the head
head-stands : (kept : stored.Server) (s : Server) (outbox : Party → List Message) → StandsFor kept s outbox → StandsFor (record kept { head = true; pred = None }) (record s { head = true; pred = None }) outbox
head-stands kept s outbox h = let p = parts kept s outbox h in stands (record kept { head = true; pred = None }) (record s { head = true; pred = None }) outbox (record {
  entries = p.entries;
  acked = p.acked;
  pred = refl;
  succ = p.succ;
  head = refl;
  at_least = p.at_least;
  full = p.full;
  down = p.down;
  waiting = p.waiting;
})

pub headed-stands : (kept : stored.Server) (s : Server) (outbox : Party → List Message) → StandsFor kept s outbox → StandsFor (record kept { head = true; pred = None }) (record s { head = true; pred = None }) (posted outbox [])
headed-stands kept s outbox h = nothing-sent (record kept { head = true; pred = None }) (record s { head = true; pred = None }) outbox (head-stands kept s outbox h)

-- a new predecessor
pub reported-stands : (kept : stored.Server) (s : Server) (outbox : Party → List Message) (boxes : List (Party × Fifo)) (pred n k : ℕ) → StandsFor kept s outbox
    → Posts kept.outboxes boxes ((parties.Master, Have pred n) ∷ (parties.Server pred, Ack k) ∷ []) → n ≡ count_of kept.replica.store → k ≡ kept.acked
    → StandsFor (record kept { pred = Some pred; outboxes = boxes }) (reported pred s).server (posted outbox (reported pred s).sent)
reported-stands kept s outbox boxes pred n k h posts is_n is_k = let p = parts kept s outbox h in
    let sent : (parties.Master, Have pred n) ∷ (parties.Server pred, Ack k) ∷ [] ≡ (reported pred s).sent = rw (is_n, p.entries.store.count, is_k, p.acked) in
    stands (record kept { pred = Some pred; outboxes = boxes }) (reported pred s).server (posted outbox (reported pred s).sent) (record {
      entries = p.entries;
      acked = p.acked;
      pred = refl;
      succ = p.succ;
      head = p.head;
      at_least = p.at_least;
      full = p.full;
      down = p.down;
      waiting = subst (λ xs. Waits boxes (posted outbox xs)) sent (posts outbox p.waiting);
    })

-- a new successor
pub adopting-stands : (kept : stored.Server) (s : Server) (outbox : Party → List Message) (boxes : List (Party × Fifo)) (succ have n : ℕ) → StandsFor kept s outbox
    → Posts kept.outboxes boxes (when (not (is_that s.succ succ)) (repair succ have s) ++ (parties.Master, Adopted succ n) ∷ []) → n ≡ count_of kept.replica.store
    → StandsFor (record kept { at_least = None; succ = Some succ; outboxes = boxes }) (adopting succ have s).server (posted outbox (adopting succ have s).sent)
adopting-stands kept s outbox boxes succ have n h posts is_n = let p = parts kept s outbox h in
    let is : n ≡ length s.entries = is_n ∙ p.entries.store.count in
    stands (record kept { at_least = None; succ = Some succ; outboxes = boxes }) (adopting succ have s).server (posted outbox (adopting succ have s).sent) (record {
      entries = p.entries;
      acked = p.acked;
      pred = p.pred;
      succ = refl;
      head = p.head;
      at_least = refl;
      full = p.full;
      down = p.down;
      waiting = subst (λ i. Waits boxes (posted outbox (when (not (is_that s.succ succ)) (repair succ have s) ++ (parties.Master, Adopted succ i) ∷ []))) is (posts outbox p.waiting);
    })

-- a successor that is fed
pub feeding-stands : (kept : stored.Server) (s : Server) (outbox : Party → List Message) (boxes : List (Party × Fifo)) (succ : ℕ) → StandsFor kept s outbox → Posts kept.outboxes boxes ((parties.Server succ, Snap s.entries) ∷ [])
    → StandsFor (record kept { succ = Some succ; outboxes = boxes }) (feeding (Some succ) s).server (posted outbox (feeding (Some succ) s).sent)
feeding-stands kept s outbox boxes succ h posts = let p = parts kept s outbox h in
    stands (record kept { succ = Some succ; outboxes = boxes }) (feeding (Some succ) s).server (posted outbox (feeding (Some succ) s).sent) (record {
      entries = p.entries;
      acked = p.acked;
      pred = p.pred;
      succ = refl;
      head = p.head;
      at_least = p.at_least;
      full = p.full;
      down = p.down;
      waiting = posts outbox p.waiting;
    })

-- no successor any more
alone-stands : (kept : stored.Server) (s : Server) (outbox : Party → List Message) → StandsFor kept s outbox → StandsFor (record kept { succ = None }) (record s { succ = None }) outbox
alone-stands kept s outbox h = let p = parts kept s outbox h in stands (record kept { succ = None }) (record s { succ = None }) outbox (record {
  entries = p.entries;
  acked = p.acked;
  pred = p.pred;
  succ = refl;
  head = p.head;
  at_least = p.at_least;
  full = p.full;
  down = p.down;
  waiting = p.waiting;
})

pub feeding_none-stands : (kept : stored.Server) (s : Server) (outbox : Party → List Message) → StandsFor kept s outbox → StandsFor (record kept { succ = None }) (feeding None s).server (posted outbox (feeding None s).sent)
feeding_none-stands kept s outbox h = nothing-sent (record kept { succ = None }) (record s { succ = None }) outbox (alone-stands kept s outbox h)

-- by whether the server acts
pub feeds-acting : (succ : Option ℕ) (s : Server) → acts s ≡ true → (if acts s then feeding succ s else silent s) ≡ feeding succ s
feeds-acting succ s h = rw h

pub feeds-silent : (succ : Option ℕ) (s : Server) → acts s ≡ false → (if acts s then feeding succ s else silent s) ≡ silent s
feeds-silent succ s h = rw h

-- what a snapshot makes a server tell: a tail, or one that is to be it
pub restored-tail : (old now : Server) (from least : ℕ) → now.at_least ≡ Some least → tail_news old now ++ [] ≡ tail_news old now ++ when (is_none now.at_least) ((parties.Master, Caught from (length now.entries)) ∷ [])
restored-tail old now from least h = rw h

-- and another one
pub restored-caught : (old now : Server) (from : ℕ) → now.at_least ≡ None → (parties.Master, Caught from (length now.entries)) ∷ [] ≡ tail_news old now ++ when (is_none now.at_least) ((parties.Master, Caught from (length now.entries)) ∷ [])
restored-caught old now from h = rw h

-- the tail
pub tail-stands : (kept : stored.Server) (s : Server) (outbox : Party → List Message) (least : ℕ) → StandsFor kept s outbox → StandsFor (record kept { at_least = Some least; succ = None }) (as_tail least s) outbox
tail-stands kept s outbox least h = let p = parts kept s outbox h in stands (record kept { at_least = Some least; succ = None }) (as_tail least s) outbox (record {
  entries = p.entries;
  acked = p.acked;
  pred = p.pred;
  succ = refl;
  head = p.head;
  at_least = refl;
  full = p.full;
  down = p.down;
  waiting = p.waiting;
})

both-when : {A : Type 0} (b : Bool) (xs ys : List A) → when b xs ++ when (b && not false) ys ≡ when b (xs ++ ys)
both-when true xs ys = refl
both-when false xs ys = refl

-- what a new tail tells: it did not act before
pub tailed-news : (least : ℕ) (s : Server) → tail_news (record s { at_least = None; succ = None }) (as_tail least s) ≡ (tailed least s).sent
tailed-news least s = both-when (acts (as_tail least s)) (to_server s.pred (Ack (length s.entries))) ((parties.Master, Ready) ∷ [])

-- the history of a snapshot
pub history-stands : (kept : stored.Server) (s : Server) (outbox : Party → List Message) (replica : Replica) (es : List Entry) → StandsFor kept s outbox → Recalls replica es (length es)
    → StandsFor (record kept { replica = replica }) (with_history s es) outbox
history-stands kept s outbox replica es h recalls = let p = parts kept s outbox h in stands (record kept { replica = replica }) (with_history s es) outbox (record {
  entries = recalls;
  acked = p.acked;
  pred = p.pred;
  succ = p.succ;
  head = p.head;
  at_least = p.at_least;
  full = p.full;
  down = p.down;
  waiting = p.waiting;
})

-- whether a snapshot is taken, by what the server keeps
pub restoring-of : (s : Server) (kept : stored.Server) (outbox : Party → List Message) (from : ℕ) (state : stores.StoreKept) (es : List Entry) → StandsFor kept s outbox → stores.StandsFor state es
    → (is_that kept.pred from && is_none kept.succ && nat_le (count_of kept.replica.store) (count_of state)) ≡ is_restoring s from es
restoring-of s kept outbox from state es h is = let p = parts kept s outbox h in rw (p.pred, p.succ, p.entries.store.count, is.count)

pub takes-restoring : (s : Server) (from : ℕ) (es : List Entry) → is_restoring s from es ≡ true → takes (parties.Server from) (Snap es) s ≡ restored from es s
unfolding takes
takes-restoring s from es h = rw h

pub takes-no_snapshot : (s : Server) (from : ℕ) (es : List Entry) → is_restoring s from es ≡ false → takes (parties.Server from) (Snap es) s ≡ silent s
unfolding takes
takes-no_snapshot s from es h = rw h

-- a step that succeeded, by what it is
pub does-by : {E : Type 0} (old new : stored.Server) (step other : Server → Step) (r : Result (Unit {0}) E) → ((s : Server) → other s ≡ step s) → OnOk r (Does old new step) → OnOk r (Does old new other)
does-by old new step other (Ok x) same does = λ s outbox h. stands-by new outbox (other s) (step s) (same s) (does s outbox h)
does-by old new step other (Err e) same does = tt

-- the same where it is told by what the server stands for
pub does-as : {E : Type 0} (old new : stored.Server) (step other : Server → Step) (r : Result (Unit {0}) E) → ((s : Server) (outbox : Party → List Message) → StandsFor old s outbox → other s ≡ step s) → OnOk r (Does old new step) → OnOk r (Does old new other)
does-as old new step other (Ok x) same does = λ s outbox h. stands-by new outbox (other s) (step s) (same s outbox h) (does s outbox h)
does-as old new step other (Err e) same does = tt
