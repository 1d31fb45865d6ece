-- A server alone, and its master, by what is kept of them.
use Rattle.std.proofs.Common.{◌≡◌, ℕ, suc, zero, ◌==◌, ◌≤◌, ◌∙◌, arith, refl, sym, subst, Bool, true, false, List, [], ◌∷◌, drop, length, Option, None, Some}
use Rattle.std.specs.List.{list_all}
use Rattle.std.specs.Map.{values_of}
use Rattle.cq_base.specs.declared.ask.Entry.{Entry}
use Rattle.cq_base.specs.declared.party.Party.{Party}
use Rattle.cq_base.specs.declared.party.Party.TheVariants as parties
use Rattle.cq_chain.specs.declared.master.Master as rust_master
use Rattle.cq_chain.specs.declared.server.Server as rust_server
use Rattle.cq_chain.specs.Fifos.{Fifo}
use Rattle.cq_chain.specs.Masters.{Master, first_master, numbers_from}
use Rattle.cq_chain.specs.Messages.{Message}
use Rattle.cq_chain.specs.Parties.{same}
use Rattle.cq_chain.specs.Servers.{Server, alone}
use Rattle.cq_chain.specs.Stands.{AllMean, MasterStandsFor, StandsFor}
use Rattle.cq_chain.specs.within.Boxes.{messages_for}
use Rattle.cq_store.specs.Stands as stores
use Rattle.cq_store.specs.Stands.{count_of}
use Rattle.cq_chain.proofs.Fifos.{all-empty}
use Rattle.cq_chain.proofs.MasterStands.{master-parts, master-stands}
use Rattle.cq_chain.proofs.ServerStands.{parts, stands}

-- ---- what waits

none-mean : (ms : List Message) → AllMean [] ms → ms ≡ []
none-mean [] h = refl
none-mean (m ∷ ms) h = absurd h

-- nothing waits where no fifo has a message
pub nothing-waits : (boxes : List (Party × Fifo)) (outbox : Party → List Message) (empty : Bool) → empty ≡ list_all (λ fifo. length fifo.messages == 0) (values_of boxes) → empty ≡ true
    → ((to : Party) → AllMean (messages_for boxes to) (outbox to)) → (to : Party) → outbox to ≡ []
nothing-waits boxes outbox empty so is waits to = none-mean (outbox to) (subst (λ xs. AllMean xs (outbox to)) (all-empty (same to) boxes (sym so ∙ is)) (waits to))

-- ---- a server

abbrev server-by : List Entry → ℕ → ℕ → Option ℕ → Option ℕ → Bool → Option ℕ → Bool → Bool → Server
server-by entries acked floor pred succ head at_least full down = record { entries = entries; acked = acked; floor = floor; pred = pred; succ = succ; head = head; at_least = at_least; full = full; down = down }

server-of : (entries : List Entry) (acked floor : ℕ) (pred succ : Option ℕ) (head : Bool) (at_least : Option ℕ) (full down : Bool) → acked ≡ length entries → floor ≡ length entries
    → pred ≡ None → succ ≡ None → head ≡ true → at_least ≡ Some 0 → full ≡ true → down ≡ false
    → server-by entries acked floor pred succ head at_least full down ≡ alone entries
server-of entries acked floor pred succ head at_least full down a b c d e f g h = rw a (rw b (rw c (rw d (rw e (rw f (rw g (rw h refl)))))))

-- all is forgotten where nothing is left
all-dropped : {A : Type 0} (n : ℕ) (xs : List A) → drop n xs ≡ [] → length xs ≤ n
all-dropped n [] h = omega arith
all-dropped zero (x ∷ xs) h = absurd cc
all-dropped (suc n) (x ∷ xs) h = let rest : length xs ≤ n = all-dropped n xs h in omega (arith, rest)

pub is-server-alone : (kept : rust_server.Server) (s : Server) (outbox : Party → List Message) → StandsFor kept s outbox
    → (kept.pred ≡ None) × (kept.succ ≡ None) × (kept.head ≡ true) × (kept.at_least ≡ Some 0) × (kept.full ≡ true) × (kept.down ≡ false)
    → (kept.acked ≡ count_of kept.replica.store) × (kept.replica.entries ≡ []) → s ≡ alone s.entries
is-server-alone kept s outbox h only settled =
    let p = parts kept s outbox h in
    let over : length s.entries ≤ s.floor = all-dropped s.floor s.entries (sym p.entries.after ∙ settled.1) in
    let under : s.floor ≤ length s.entries = p.entries.within in
    let floor : s.floor ≡ length s.entries = omega (arith, over, under) in
    server-of s.entries s.acked s.floor s.pred s.succ s.head s.at_least s.full s.down (sym p.acked ∙ settled.0 ∙ p.entries.store.count) floor
    (sym p.pred ∙ only.0) (sym p.succ ∙ only.1) (sym p.head ∙ only.2) (sym p.at_least ∙ only.3) (sym p.full ∙ only.4) (sym p.down ∙ only.5)

-- a server that has settled alone, of which nothing waits, stands for a server alone behind all entries for which its store stands
pub stands-alone : (kept : rust_server.Server) (entries : List Entry) (outbox : Party → List Message)
    → (kept.pred ≡ None) × (kept.succ ≡ None) × (kept.head ≡ true) × (kept.at_least ≡ Some 0) × (kept.full ≡ true) × (kept.down ≡ false)
    → (kept.acked ≡ count_of kept.replica.store) × (kept.replica.entries ≡ []) → stores.StandsFor kept.replica.store entries
    → ((to : Party) → AllMean (messages_for kept.outboxes to) (outbox to)) → StandsFor kept (alone entries) outbox
stands-alone kept entries outbox only settled own waits = stands kept (alone entries) outbox (record {
  entries = record { store = own; within = omega arith; after = settled.1 ∙ sym (drop-all entries) };
  acked = settled.0 ∙ own.count;
  pred = only.0;
  succ = only.1;
  head = only.2;
  at_least = only.3;
  full = only.4;
  down = only.5;
  waiting = waits;
})
  where
    drop-all : {A : Type 0} (xs : List A) → drop (length xs) xs ≡ []
    drop-all [] = refl
    drop-all (x ∷ xs) = drop-all xs

-- where no fifo has a message, nothing may be said to wait
pub nothing-means : (boxes : List (Party × Fifo)) (outbox : Party → List Message) (empty : Bool) → empty ≡ list_all (λ fifo. length fifo.messages == 0) (values_of boxes) → empty ≡ true
    → ((to : Party) → outbox to ≡ []) → (to : Party) → AllMean (messages_for boxes to) (outbox to)
nothing-means boxes outbox empty so is nothing to = subst (λ xs. AllMean xs (outbox to)) (sym (all-empty (same to) boxes (sym so ∙ is))) (subst (λ ms. AllMean [] ms) (sym (nothing to)) tt)

-- ---- the master

one-number : numbers_from 1 1 ≡ 1 ∷ []
unfolding numbers_from
one-number = refl

abbrev master-by : List ℕ → Bool → Bool → Option ℕ → List ℕ → Master
master-by chain told ready joiner used = record { chain = chain; told = told; ready = ready; joiner = joiner; used = used }

master-of : (chain : List ℕ) (told ready : Bool) (joiner : Option ℕ) (used : List ℕ) → chain ≡ numbers_from 1 1 → told ≡ true → ready ≡ true → joiner ≡ None → used ≡ numbers_from 1 1
    → master-by chain told ready joiner used ≡ first_master 1
master-of chain told ready joiner used a b c d e = rw a (rw b (rw c (rw d (rw e refl))))

pub is-master-alone : (kept : rust_master.Master) (m : Master) (outbox : Party → List Message) → MasterStandsFor kept m outbox
    → (kept.chain.items ≡ 1 ∷ []) × (kept.used.keys ≡ 1 ∷ []) → (kept.told ≡ true) × (kept.ready ≡ true) × (kept.joiner ≡ None) → m ≡ first_master 1
is-master-alone kept m outbox h members settled =
    let p = master-parts kept m outbox h in
    master-of m.chain m.told m.ready m.joiner m.used (sym p.chain ∙ members.0 ∙ sym one-number) (sym p.told ∙ settled.0) (sym p.ready ∙ settled.1) (sym p.joiner ∙ settled.2)
    (sym p.used ∙ members.1 ∙ sym one-number)

-- a master that has settled alone, of which nothing waits, stands for that of a first chain of one
pub master-stands-alone : (kept : rust_master.Master) (outbox : Party → List Message)
    → (kept.chain.items ≡ 1 ∷ []) × (kept.used.keys ≡ 1 ∷ []) → (kept.told ≡ true) × (kept.ready ≡ true) × (kept.joiner ≡ None)
    → ((to : Party) → AllMean (messages_for kept.outboxes to) (outbox to)) → ((to : Party) → outbox to ≡ []) → MasterStandsFor kept (first_master 1) outbox
master-stands-alone kept outbox members settled waits nothing = master-stands kept (first_master 1) outbox (record {
  chain = members.0 ∙ sym one-number;
  told = settled.0;
  ready = settled.1;
  joiner = settled.2;
  used = members.1 ∙ sym one-number;
  waiting = waits;
  master = nothing parties.Master;
  clients = nothing parties.Clients;
})
