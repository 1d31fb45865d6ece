-- What a server stands for after a part of a step.
use Rattle.std.proofs.Common.{◌≡◌, ℕ, ◌+◌, ◌∙◌, ap, sym, List, [], ◌∷◌, ◌++◌, length, Option, true, false, append-nil, subst, refl, if◌then◌else◌, max, nat_lt, Result, Ok, Err, OnErr}
use Rattle.cq_base.specs.declared.ask.Entry.{Entry}
use Rattle.cq_base.specs.declared.ask.Query.{Query}
use Rattle.cq_base.specs.declared.ask.Request.{Request}
use Rattle.cq_base.specs.queue.History.{last_moment}
use Rattle.cq_base.specs.declared.party.Party.{Party}
use Rattle.cq_base.specs.declared.party.Party.TheVariants as parties
use Rattle.cq_chain.specs.declared.message.Answer.{Answer}
use Rattle.cq_chain.specs.declared.server.Server as stored
use Rattle.cq_chain.specs.Fifos.{Fifo}
use Rattle.cq_chain.specs.within.Boxes.{messages_for}
use Rattle.cq_chain.specs.within.Replicas.{Replica, Recalls}
use Rattle.cq_chain.specs.Messages.{Message, Fwd, Ack, Ready, Answers}
use Rattle.cq_chain.specs.Servers.{Server, acts, reaches}
use Rattle.cq_chain.specs.Stands.{AllMean, Holds, StandsFor, posted}
use Rattle.cq_chain.specs.Steps.{Step, settled, appended, passed_on, tail_news, to_server, answer_to, answer_to_query, stamped, arrived, asked, acknowledged}
use Rattle.cq_chain.specs.within.Waiting.{Waits, Posts, KeepsAll}
use Rattle.cq_store.specs.Stands.{count_of}
use Rattle.cq_chain.proofs.Mailing.{means-length, waits-kept, posts-after, posted-append}

-- ---- the parts

pub stands : (kept : stored.Server) (s : Server) (outbox : Party → List Message) → Holds kept s outbox → StandsFor kept s outbox
unfolding StandsFor
stands kept s outbox h = h

pub parts : (kept : stored.Server) (s : Server) (outbox : Party → List Message) → StandsFor kept s outbox → Holds kept s outbox
unfolding StandsFor
parts kept s outbox h = h

-- what holds in any case holds after an error
pub on_err : {T E Q : Type 0} (r : Result T E) → Q → OnErr r Q
on_err (Ok x) q = tt
on_err (Err e) q = q

-- it acts
pub acting : (kept : stored.Server) (s : Server) (outbox : Party → List Message) → StandsFor kept s outbox → reaches (count_of kept.replica.store) kept.at_least ≡ acts s
acting kept s outbox h = let p = parts kept s outbox h in ap (λ n. reaches n kept.at_least) p.entries.store.count ∙ ap (λ l. reaches (length s.entries) l) p.at_least

-- ---- outboxes

-- with other outboxes
pub with_boxes : (kept : stored.Server) (s : Server) (outbox next : Party → List Message) (boxes : List (Party × Fifo)) → StandsFor kept s outbox → Waits boxes next → StandsFor (record kept { outboxes = boxes }) s next
with_boxes kept s outbox next boxes h waits = let p = parts kept s outbox h in stands (record kept { outboxes = boxes }) s next (record {
  entries = p.entries;
  acked = p.acked;
  pred = p.pred;
  succ = p.succ;
  head = p.head;
  at_least = p.at_least;
  full = p.full;
  down = p.down;
  waiting = waits;
})

-- with another replica of the same
pub with_replica : (kept : stored.Server) (s : Server) (outbox : Party → List Message) (replica : Replica) → StandsFor kept s outbox → Recalls replica s.entries s.floor → StandsFor (record kept { replica = replica }) s outbox
with_replica kept s outbox replica h recalls = let p = parts kept s outbox h in stands (record kept { replica = replica }) s outbox (record {
  entries = recalls;
  acked = p.acked;
  pred = p.pred;
  succ = p.succ;
  head = p.head;
  at_least = p.at_least;
  full = p.full;
  down = p.down;
  waiting = p.waiting;
})

-- with room
pub with_room : (kept : stored.Server) (s : Server) (outbox : Party → List Message) (boxes : List (Party × Fifo)) → StandsFor kept s outbox → KeepsAll kept.outboxes boxes → StandsFor (record kept { outboxes = boxes }) s outbox
with_room kept s outbox boxes h keeps = with_boxes kept s outbox outbox boxes h (waits-kept kept.outboxes boxes keeps outbox (parts kept s outbox h).waiting)

-- with messages
pub with_posts : (kept : stored.Server) (s : Server) (outbox : Party → List Message) (boxes : List (Party × Fifo)) (sent all : List (Party × Message)) → StandsFor kept s outbox → Posts kept.outboxes boxes sent → sent ≡ all
    → StandsFor (record kept { outboxes = boxes }) s (posted outbox all)
with_posts kept s outbox boxes sent all h posts same = subst (λ xs. StandsFor (record kept { outboxes = boxes }) s (posted outbox xs)) same
    (with_boxes kept s outbox (posted outbox sent) boxes h (posts outbox (parts kept s outbox h).waiting))

-- the same waits
pub with_outbox : (kept : stored.Server) (s : Server) (outbox next : Party → List Message) → StandsFor kept s outbox → ((p : Party) → outbox p ≡ next p) → StandsFor kept s next
with_outbox kept s outbox next h same = with_boxes kept s outbox next kept.outboxes h (λ p. subst (λ ms. AllMean (messages_for kept.outboxes p) ms) (same p) ((parts kept s outbox h).waiting p))

-- nothing is sent
pub nothing-sent : (kept : stored.Server) (s : Server) (outbox : Party → List Message) → StandsFor kept s outbox → StandsFor kept s (posted outbox [])
nothing-sent kept s outbox h = with_outbox kept s outbox (posted outbox []) h (λ p. sym (append-nil (outbox p)))

-- one after the other
pub sent-after : (kept : stored.Server) (s : Server) (outbox : Party → List Message) (xs ys : List (Party × Message)) → StandsFor kept s (posted (posted outbox xs) ys) → StandsFor kept s (posted outbox (xs ++ ys))
sent-after kept s outbox xs ys h = with_outbox kept s (posted (posted outbox xs) ys) (posted outbox (xs ++ ys)) h (posted-append outbox xs ys)

-- how many wait
pub waiting-length : (kept : stored.Server) (s : Server) (outbox : Party → List Message) (to : Party) → StandsFor kept s outbox → length (messages_for kept.outboxes to) ≡ length (outbox to)
waiting-length kept s outbox to h = means-length (messages_for kept.outboxes to) (outbox to) ((parts kept s outbox h).waiting to)

-- ---- parts of steps

-- a server that acts is settled
pub settled-stands : (kept : stored.Server) (s : Server) (outbox : Party → List Message) (n : ℕ) (replica : Replica) → StandsFor kept s outbox → acts s ≡ true → n ≡ count_of kept.replica.store
    → ((history : List Entry) (floor : ℕ) → Recalls kept.replica history floor → Recalls replica history (length history)) → StandsFor (record kept { acked = n; replica = replica; full = true }) (settled s) outbox
settled-stands kept s outbox n replica h acting is_n forgets = let p = parts kept s outbox h in
    let now : Server = record s { acked = length s.entries; floor = length s.entries; full = true } in
    subst (λ t. StandsFor (record kept { acked = n; replica = replica; full = true }) t outbox) (sym (ap (λ b. if b then now else s) acting))
    (stands (record kept { acked = n; replica = replica; full = true }) now outbox (record {
      entries = forgets s.entries s.floor p.entries;
      acked = is_n ∙ p.entries.store.count;
      pred = p.pred;
      succ = p.succ;
      head = p.head;
      at_least = p.at_least;
      full = refl;
      down = p.down;
      waiting = p.waiting;
    }))

-- with one more entry
pub appended-stands : (kept : stored.Server) (s : Server) (outbox : Party → List Message) (e : Entry) (replica : Replica) → StandsFor kept s outbox → Recalls replica (s.entries ++ e ∷ []) s.floor → StandsFor (record kept { replica = replica }) (appended s e) outbox
appended-stands kept s outbox e replica h more = let p = parts kept s outbox h in stands (record kept { replica = replica }) (appended s e) outbox (record {
  entries = more;
  acked = p.acked;
  pred = p.pred;
  succ = p.succ;
  head = p.head;
  at_least = p.at_least;
  full = p.full;
  down = p.down;
  waiting = p.waiting;
})

-- what is passed on, by whether the server acts
pub passes-answer : (s : Server) (e : Entry) (succ : Option ℕ) (n : ℕ) (answer : Answer) → acts (appended s e) ≡ true → succ ≡ s.succ → n ≡ length s.entries + 1 → answer ≡ answer_to s.entries e
    → to_server succ (Fwd n e) ++ (parties.Clients, Answers answer) ∷ [] ≡ passed_on s e
passes-answer s e succ n answer acting is_succ is_n is = rw (acting, is_succ, is_n, is)

pub passes-none : (s : Server) (e : Entry) (succ : Option ℕ) (n : ℕ) → acts (appended s e) ≡ false → succ ≡ s.succ → n ≡ length s.entries + 1 → to_server succ (Fwd n e) ++ [] ≡ passed_on s e
passes-none s e succ n acting is_succ is_n = rw (acting, is_succ, is_n)

-- what a tail tells, by whether it acted before
pub tells-ready : (old now : Server) (pred : Option ℕ) (n : ℕ) → acts now ≡ true → acts old ≡ false → pred ≡ old.pred → n ≡ length now.entries → to_server pred (Ack n) ++ (parties.Master, Ready) ∷ [] ≡ tail_news old now
tells-ready old now pred n acting acted is_pred is_n = rw (acting, acted, is_pred, is_n)

pub tells-place : (old now : Server) (pred : Option ℕ) (n : ℕ) → acts now ≡ true → acts old ≡ true → pred ≡ old.pred → n ≡ length now.entries → to_server pred (Ack n) ++ [] ≡ tail_news old now
tells-place old now pred n acting acted is_pred is_n = rw (acting, acted, is_pred, is_n)

-- ---- whole steps

-- a step, by what it is
pub stands-by : (kept : stored.Server) (outbox : Party → List Message) (step other : Step) → step ≡ other → StandsFor kept other.server (posted outbox other.sent) → StandsFor kept step.server (posted outbox step.sent)
stands-by kept outbox step other same h = subst (λ x. StandsFor kept x.server (posted outbox x.sent)) (sym same) h

pub stamped-by : (entries : List Entry) (clock last : ℕ) (request : Request) (e : Entry) → e ≡ record { moment = max clock last; request = request } → last ≡ last_moment entries → e ≡ stamped entries clock request
stamped-by entries clock last request e is same = subst (λ l. e ≡ record { moment = max clock l; request = request }) same is

pub arrived-stands : (new : stored.Server) (clock : ℕ) (request : Request) (s : Server) (outbox : Party → List Message) (e : Entry) → e ≡ stamped s.entries clock request
    → StandsFor new (settled (appended s e)) (posted outbox (passed_on s e)) → StandsFor new (arrived clock request s).server (posted outbox (arrived clock request s).sent)
unfolding arrived
arrived-stands new clock request s outbox e is h = subst (λ d. StandsFor new (settled (appended s d)) (posted outbox (passed_on s d))) is h

pub asked-stands : (kept : stored.Server) (boxes mid : List (Party × Fifo)) (query : Query) (s : Server) (outbox : Party → List Message) (answer : Answer) → StandsFor kept s outbox → KeepsAll kept.outboxes mid
    → Posts mid boxes ((parties.Clients, Answers answer) ∷ []) → answer ≡ answer_to_query s.entries query → StandsFor (record kept { outboxes = boxes }) (asked query s).server (posted outbox (asked query s).sent)
unfolding asked
asked-stands kept boxes mid query s outbox answer h keeps posts is = with_posts kept s outbox boxes ((parties.Clients, Answers answer) ∷ []) ((parties.Clients, Answers (answer_to_query s.entries query)) ∷ []) h
    (posts-after kept.outboxes mid boxes ((parties.Clients, Answers answer) ∷ []) keeps posts) (ap (λ a. (parties.Clients, Answers a) ∷ []) is)

-- no news is ignored
pub ignored-stands : (kept : stored.Server) (n : ℕ) (s : Server) (outbox : Party → List Message) → StandsFor kept s outbox → nat_lt s.acked n ≡ false → StandsFor kept (acknowledged n s).server (posted outbox (acknowledged n s).sent)
ignored-stands kept n s outbox h old = rw old (nothing-sent kept s outbox h)

-- an acknowledgement is kept and passed on
pub acknowledged-stands : (kept : stored.Server) (boxes mid : List (Party × Fifo)) (n k : ℕ) (replica : Replica) (s : Server) (outbox : Party → List Message) → StandsFor kept s outbox → KeepsAll kept.outboxes mid
    → Posts mid boxes (to_server kept.pred (Ack k)) → k ≡ n → Recalls replica s.entries (max s.floor n) → nat_lt s.acked n ≡ true
    → StandsFor (record kept { acked = k; replica = replica; outboxes = boxes }) (acknowledged n s).server (posted outbox (acknowledged n s).sent)
acknowledged-stands kept boxes mid n k replica s outbox h keeps posts is_k forgets news = let p = parts kept s outbox h in
    let now : Server = record s { acked = n; floor = max s.floor n } in
    rw news (stands (record kept { acked = k; replica = replica; outboxes = boxes }) now (posted outbox (to_server s.pred (Ack n))) (record {
      entries = forgets;
      acked = is_k;
      pred = p.pred;
      succ = p.succ;
      head = p.head;
      at_least = p.at_least;
      full = p.full;
      down = p.down;
      waiting = subst (λ sent. Waits boxes (posted outbox sent)) (ap (λ q. to_server q (Ack k)) p.pred ∙ ap (λ i. to_server s.pred (Ack i)) is_k)
          (posts-after kept.outboxes mid boxes (to_server kept.pred (Ack k)) keeps posts outbox p.waiting);
    }))
