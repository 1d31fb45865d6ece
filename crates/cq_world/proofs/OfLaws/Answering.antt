-- Every answer that is made is the queue object's, over what is committed then.
use Rattle.std.proofs.Common.{◌≡◌, ℕ, ◌+◌, ◌≤◌, ◌∙◌, ◌&&◌, ap, sym, arith, List, [], ◌∷◌, ◌++◌, length, drop, Option, Some, None, is_none, not, Bool, true, false, cond, inl, inr, refl, min, max, nat_lt, nat_le, append-nil, append_assoc, length-append}
use Rattle.std.proofs.lemmas.Bool.{and_parts}
use Rattle.cq_base.specs.declared.ask.Entry.{Entry}
use Rattle.cq_base.specs.declared.ask.Query.{Query}
use Rattle.cq_base.specs.declared.ask.Request.{Request}
use Rattle.cq_base.specs.declared.party.Party.{Party}
use Rattle.cq_base.specs.declared.party.Party.TheVariants as parties
use Rattle.cq_base.specs.Relations.{IsPrefix, Pairwise}
use Rattle.cq_base.proofs.Among.{among-append}
use Rattle.cq_chain.specs.declared.fault.WorldFault.{WorldFault}
use Rattle.cq_chain.specs.declared.message.Answer.{Answer}
use Rattle.cq_chain.specs.Messages.{Message, Fwd, Snap, Ack, BeHead, Report, Adopt, BeTail, Feed, Adopted, Caught, Ready, Answers}
use Rattle.cq_chain.specs.Parties.{addressed}
use Rattle.cq_chain.specs.Refusals.{refusal_of_arrival, refusal_of_query}
use Rattle.cq_chain.specs.Servers.{Server, acts, reaches, is_that}
use Rattle.cq_chain.specs.Steps.{silent, to_server, when, appended, settled, begins_to_act, answer_to, passed_on, tail_news, stamped, arrived, asked, is_next, forwarded, is_restoring, with_history, restored, feeding, forwards, repair, as_tail, tailed, takes}
use Rattle.cq_events.specs.Worlds.{World, is_in, channel, stepped}
use Rattle.cq_events.specs.Events.{has_party, unless_down, is_down, refusal_of, refusal_of_take, after, next, unless_refused, answers_in, after_take}
use Rattle.cq_world.specs.Laws.{IsAnswered}
use Rattle.cq_events.specs.Runs.{world_after, longer, acting_history, longest_at, longest_from, sent_by, sent_by_taking, made_if, made_from}
use Rattle.cq_events.specs.declared.event.Event.{Event}
use Rattle.cq_events.specs.declared.event.Event.TheVariants.{Arrive, Ask, Put, Take, Crash, Detect, Join}
use Rattle.cq_world.proofs.Commits.Steps.{take-acting, arrive-acting, ask-acting}
use Rattle.cq_world.proofs.Commits.Turns.{Acting, turn-own}
use Rattle.cq_world.proofs.Eaches.{Each, each-append, each-among, each-follows, each-when, each-to_server, prefix-trans}
use Rattle.cq_world.proofs.Prefixes.{Turn}
use Rattle.cq_world.proofs.Running.{Good, onward, list-turned, runs-grow}
use Rattle.cq_world.proofs.Settled.{is_settled}
use Rattle.cq_world.proofs.Views.{view, view-step, view-taken}
use Rattle.cq_world.proofs.Prefixes.Steps.{lives-placed, acting-member, head-member, take-turn, arrive-turn, ask-turn}
use Rattle.cq_world.proofs.Unrefused.{known-parts, lives-parts, server-parts, at-head, at-tail}

-- ---- what is said to the clients

-- P holds of the answer that a message to that party is, if it is one to the clients
abbrev pub TellsTo : (Answer → Type 0) → Party → Message → Type 0
TellsTo P parties.Clients (Answers a) = P a
TellsTo P to m = Unit {0}

-- P holds of all answers among what is sent
abbrev pub AllTell : (Answer → Type 0) → List (Party × Message) → Type 0
AllTell P sent = Each (λ x. TellsTo P x.0 x.1) sent

answers_first : (P : Answer → Type 0) (m : Message) (ms : List Message) → TellsTo P parties.Clients m → Each P (answers_in ms) → Each P (answers_in (m ∷ ms))
answers_first P (Answers a) ms h k = (h, k)
answers_first P m ms h k = k

-- so it holds of all answers to the clients
pub each-made : (P : Answer → Type 0) (sent : List (Party × Message)) → AllTell P sent → Each P (answers_in (addressed parties.Clients sent))
each-made P [] h = tt
each-made P ((parties.Master, m) ∷ xs) h = each-made P xs h.1
each-made P ((parties.Server id, m) ∷ xs) h = each-made P xs h.1
each-made P ((parties.Clients, m) ∷ xs) h = answers_first P m (answers_in_all xs) h.0 (each-made P xs h.1) where
  answers_in_all : List (Party × Message) → List Message
  answers_in_all ys = addressed parties.Clients ys

-- ---- answers and lists

-- an answer over a list is one over a longer list
answered-longer : (xs ys : List Entry) (w : World) (events : List Event) (a : Answer) → IsPrefix xs ys → IsAnswered xs w events a → IsAnswered ys w events a
answered-longer xs ys w events a h (inl (before, rest, e, split, is)) = inl (before, rest ++ h.0, e, h.1 ∙ ap (λ us. us ++ h.0) split ∙ append_assoc before (e ∷ rest) h.0, is)
answered-longer xs ys w events a h (inr q) = inr (record {
  earlier = q.earlier;
  later = q.later;
  at = q.at;
  query = q.query;
  asked = q.asked;
  free = q.free;
  prefix = prefix-trans ((world_after w q.earlier).server q.at).entries xs ys q.prefix h;
  answer = q.answer;
})

-- what an event alone is answered, it is answered with others after it
answered-first : (list : List Entry) (w : World) (event : Event) (events : List Event) (a : Answer) → IsAnswered list w (event ∷ []) a → IsAnswered list w (event ∷ events) a
answered-first list w event events a (inl request) = inl request
answered-first list w event events a (inr q) = inr (record {
  earlier = q.earlier;
  later = q.later ++ events;
  at = q.at;
  query = q.query;
  asked = ap (λ us. us ++ events) q.asked ∙ append_assoc q.earlier (Ask q.at q.query ∷ q.later) events;
  free = q.free;
  prefix = q.prefix;
  answer = q.answer;
})

-- what events are answered after another one, they are answered with it
answered-later : (list : List Entry) (w : World) (event : Event) (events : List Event) (a : Answer) → IsAnswered list (after w event) events a → IsAnswered list w (event ∷ events) a
unfolding world_after
answered-later list w event events a (inl request) = inl request
answered-later list w event events a (inr q) = inr (record {
  earlier = event ∷ q.earlier;
  later = q.later;
  at = q.at;
  query = q.query;
  asked = ap (λ us. event ∷ us) q.asked;
  free = q.free;
  prefix = q.prefix;
  answer = q.answer;
})

-- ---- steps

-- what a server says when it passes an entry on, if it is the last
pub told_entry : (P : Answer → Type 0) (s : Server) (e : Entry) → (acts (appended s e) ≡ true → P (answer_to s.entries e)) → AllTell P (passed_on s e)
told_entry P s e h = each-append (λ x. TellsTo P x.0 x.1) (to_server s.succ (Fwd (length s.entries + 1) e)) (when (acts (appended s e)) ((parties.Clients, Answers (answer_to s.entries e)) ∷ []))
    (each-to_server (λ x. TellsTo P x.0 x.1) s.succ (Fwd (length s.entries + 1) e) (λ id. tt))
    (each-when (λ x. TellsTo P x.0 x.1) (acts (appended s e)) ((parties.Clients, Answers (answer_to s.entries e)) ∷ []) (λ acting. (h acting, tt)))

-- what a tail says of itself says nothing to the clients
told_tail : (P : Answer → Type 0) (before now : Server) → AllTell P (tail_news before now)
told_tail P before now = each-append (λ x. TellsTo P x.0 x.1) (when (acts now) (to_server before.pred (Ack (length now.entries)))) (when (begins_to_act before now) ((parties.Master, Ready) ∷ []))
    (each-when (λ x. TellsTo P x.0 x.1) (acts now) (to_server before.pred (Ack (length now.entries))) (λ h. each-to_server (λ x. TellsTo P x.0 x.1) before.pred (Ack (length now.entries)) (λ id. tt)))
    (each-when (λ x. TellsTo P x.0 x.1) (begins_to_act before now) ((parties.Master, Ready) ∷ []) (λ h. (tt, tt)))

-- entries that are sent one by one say nothing to the clients
told_forwards : (P : Answer → Type 0) (to place : ℕ) (es : List Entry) → AllTell P (forwards to place es)
unfolding forwards
told_forwards P to place [] = tt
told_forwards P to place (e ∷ es) = (tt, told_forwards P to (place + 1) es)

told_repair : (P : Answer → Type 0) (to have : ℕ) (s : Server) → AllTell P (repair to have s)
told_repair P to have s = go (nat_le s.floor have) where
  go : (t : Bool) → AllTell P (cond t (forwards to (have + 1) (drop have s.entries)) ((parties.Server to, Snap s.entries) ∷ []))
  go true = told_forwards P to (have + 1) (drop have s.entries)
  go false = (tt, tt)

told_tailed : (P : Answer → Type 0) (least : ℕ) (s : Server) → AllTell P (tailed least s).sent
told_tailed P least s = each-when (λ x. TellsTo P x.0 x.1) (acts (as_tail least s)) (to_server s.pred (Ack (length s.entries)) ++ (parties.Master, Ready) ∷ [])
    (λ h. each-append (λ x. TellsTo P x.0 x.1) (to_server s.pred (Ack (length s.entries))) ((parties.Master, Ready) ∷ []) (each-to_server (λ x. TellsTo P x.0 x.1) s.pred (Ack (length s.entries)) (λ id. tt)) (tt, tt))

-- ---- what is right

-- An answer is over this list, and bears its length.
abbrev pub IsRight : List Entry → World → List Event → Answer → Type 0
IsRight list w events a = IsAnswered list w events a × (a.length ≡ length list)

-- the answer to an entry that has come to a server that acts now
entry_right : (s : Server) (e : Entry) (list : List Entry) (w : World) (events : List Event) → list ≡ (settled (appended s e)).entries → IsRight list w events (answer_to s.entries e)
entry_right s e list w events is = let whole = is ∙ (is_settled (appended s e)).entries in (inl (s.entries, [], e, whole, refl), sym (ap length whole ∙ length-append s.entries (e ∷ [])))

-- a server that settles acts as before
settled_does : (x : Server) → acts x ≡ true → acts (settled x) ≡ true
settled_does x does = let now = is_settled x in ap (λ us. reaches (length us) (settled x).at_least) now.entries ∙ ap (λ o. reaches (length x.entries) o) now.at_least ∙ does

-- the same of a server at which a request arrived
arrived_entries : (clock : ℕ) (request : Request) (s : Server) (list : List Entry) → acts (appended s (stamped s.entries clock request)) ≡ true → s.down ≡ false
    → (acts (arrived clock request s).server ≡ true → (arrived clock request s).server.down ≡ false → list ≡ (arrived clock request s).server.entries) → list ≡ (settled (appended s (stamped s.entries clock request))).entries
unfolding arrived
arrived_entries clock request s list does lives h = h (settled_does (appended s (stamped s.entries clock request)) does) ((is_settled (appended s (stamped s.entries clock request))).down ∙ lives)

arrived_tells : (clock : ℕ) (request : Request) (s : Server) (P : Answer → Type 0) → (acts (appended s (stamped s.entries clock request)) ≡ true → P (answer_to s.entries (stamped s.entries clock request))) → AllTell P (arrived clock request s).sent
unfolding arrived
arrived_tells clock request s P h = told_entry P s (stamped s.entries clock request) h

asked_tells : (w : World) (k : ℕ) (query : Query) (list : List Entry) → refusal_of w (Ask k query) ≡ None → list ≡ (w.server k).entries → AllTell (IsRight list w (Ask k query ∷ [])) (asked query (w.server k)).sent
unfolding asked world_after
asked_tells w k query list free is = (
  (
    inr (record {
      earlier = [];
      later = [];
      at = k;
      query = query;
      asked = refl;
      free = free;
      prefix = ([], is ∙ sym (append-nil (w.server k).entries));
      answer = refl;
    }),
    sym (ap length is),
  ),
  tt,
)

query_own : (query : Query) (s : Server) (c : List Entry) → s.down ≡ false → acts s ≡ true → (acts (asked query s).server ≡ true → (asked query s).server.down ≡ false → longer c (acting_history (asked query s).server) ≡ (asked query s).server.entries) → longer c (acting_history (asked query s).server) ≡ s.entries
unfolding asked
query_own query s c lives does h = h does lives

-- what a server says when it takes a message of another one
-- what a server says of a snapshot tells clients nothing
told_restored : (P : Answer → Type 0) (from : ℕ) (entries : List Entry) (s : Server) → AllTell P (restored from entries s).sent
told_restored P from entries s = each-append (λ x. TellsTo P x.0 x.1) (tail_news s (with_history s entries)) (when (is_none s.at_least) ((parties.Master, Caught from (length entries)) ∷ [])) (told_tail P s (with_history s entries))
    (each-when (λ x. TellsTo P x.0 x.1) (is_none s.at_least) ((parties.Master, Caught from (length entries)) ∷ []) (λ none. (tt, tt)))

told_taking : (w new : World) (c : List Entry) (p k : ℕ) (m : Message) (rest : List Message) (events : List Event) → Good w c → is_in w.master.used k ≡ true → (w.server k).down ≡ false
    → channel w (parties.Server p) (parties.Server k) ≡ m ∷ rest
    → longest_at new c ≡ longer c (acting_history (takes (parties.Server p) m (w.server k)).server) → AllTell (IsRight (longest_at new c) w events) (takes (parties.Server p) m (w.server k)).sent
unfolding takes
told_taking w new c p k (Fwd place e) rest events good known lives at is =
    go (is_next (w.server k) p place e) is (take-turn (view w) (parties.Server p) k (Fwd place e) rest good.prefixes known lives at) (take-acting (view w) c (parties.Server p) k (Fwd place e) rest good.prefixes good.commits known lives at) where
      go : (t : Bool) → longest_at new c ≡ longer c (acting_history (cond t (forwarded e (w.server k)) (silent (w.server k))).server)
          → Turn (view w) (parties.Server p) k rest (cond t (forwarded e (w.server k)) (silent (w.server k))).server (cond t (forwarded e (w.server k)) (silent (w.server k))).sent
          → Acting (view w) c (parties.Server p) k rest (cond t (forwarded e (w.server k)) (silent (w.server k))).server (cond t (forwarded e (w.server k)) (silent (w.server k))).sent
          → AllTell (IsRight (longest_at new c) w events) (cond t (forwarded e (w.server k)) (silent (w.server k))).sent
      go true list t a = each-append (λ x. TellsTo (IsRight (longest_at new c) w events) x.0 x.1) (passed_on (w.server k) e) (tail_news (w.server k) (appended (w.server k) e))
          (told_entry (IsRight (longest_at new c) w events) (w.server k) e (λ does. entry_right (w.server k) e (longest_at new c) w events
          (list ∙ turn-own (view w) c (parties.Server p) k rest (forwarded e (w.server k)).server (forwarded e (w.server k)).sent good.prefixes good.commits t a (settled_does (appended (w.server k) e) does) ((is_settled (appended (w.server k) e)).down ∙ lives))))
          (told_tail (IsRight (longest_at new c) w events) (w.server k) (appended (w.server k) e))
      go false list t a = tt
told_taking w new c p k (Snap entries) rest events good known lives at is = go (is_restoring (w.server k) p entries) where
  go : (t : Bool) → AllTell (IsRight (longest_at new c) w events) (cond t (restored p entries (w.server k)) (silent (w.server k))).sent
  go true = told_restored (IsRight (longest_at new c) w events) p entries (w.server k)
  go false = tt
told_taking w new c p k (Ack n) rest events good known lives at is = go (nat_lt (w.server k).acked (min n (length (w.server k).entries))) where
  go : (t : Bool) → AllTell (IsRight (longest_at new c) w events) (cond t (record { server = record (w.server k) { acked = min n (length (w.server k).entries); floor = max (w.server k).floor (min n (length (w.server k).entries)) }; sent = to_server (w.server k).pred (Ack (min n (length (w.server k).entries))) }) (silent (w.server k))).sent
  go true = each-to_server (λ x. TellsTo (IsRight (longest_at new c) w events) x.0 x.1) (w.server k).pred (Ack (min n (length (w.server k).entries))) (λ i. tt)
  go false = tt
told_taking w new c p k m rest events good known lives at is = tt

-- what a server says when it takes a message of the master
told_order : (P : Answer → Type 0) (s : Server) (m : Message) → AllTell P (takes parties.Master m s).sent
unfolding takes
told_order P s BeHead = tt
told_order P s (Report p) = (tt, (tt, tt))
told_order P s (Adopt succ have) = each-append (λ x. TellsTo P x.0 x.1) (when (not (is_that s.succ succ)) (repair succ have s)) ((parties.Master, Adopted succ (length s.entries)) ∷ [])
    (each-when (λ x. TellsTo P x.0 x.1) (not (is_that s.succ succ)) (repair succ have s) (λ new. told_repair P succ have s)) (tt, tt)
told_order P s (Feed succ) = go (acts s) where
  go : (t : Bool) → AllTell P (cond t (feeding succ s) (silent s)).sent
  go true = each-to_server (λ x. TellsTo P x.0 x.1) succ (Snap s.entries) (λ i. tt)
  go false = tt
told_order P s (BeTail least) = told_tailed P least s
told_order P s m = tt

-- what is said by the taking of the first message of a link
told_taken : (w : World) (c : List Entry) (from to : Party) (ms : List Message) (events : List Event) → w.link from to ≡ ms → has_party w to ≡ true → is_down w to ≡ false → Good w c
    → AllTell (IsRight (longest_at (after_take w from to ms) c) w events) (sent_by_taking w from to ms)
unfolding takes
told_taken w c from to [] events at known lives good = tt
told_taken w c from parties.Master (m ∷ ms) events at known lives good = tt
told_taken w c from parties.Clients (m ∷ ms) events at known lives good = tt
told_taken w c parties.Master (parties.Server k) (m ∷ ms) events at known lives good = told_order (IsRight (longest_at (after_take w parties.Master (parties.Server k) (m ∷ ms)) c) w events) (w.server k) m
told_taken w c parties.Clients (parties.Server k) (m ∷ ms) events at known lives good = tt
told_taken w c (parties.Server p) (parties.Server k) (m ∷ ms) events at known lives good =
    let new = after_take w (parties.Server p) (parties.Server k) (m ∷ ms) in
    let step = takes (parties.Server p) m (w.server k) in
    told_taking w new c p k m (ms ++ w.outbox (parties.Server p) (parties.Server k)) events good known lives (ap (λ us. us ++ w.outbox (parties.Server p) (parties.Server k)) at)
    (list-turned w new c (parties.Server p) k (ms ++ w.outbox (parties.Server p) (parties.Server k)) step.server step.sent good (view-taken w (parties.Server p) k m ms step at) known)

-- what is said when a request arrives
arrive_right : (w : World) (c : List Entry) (k clock : ℕ) (request : Request) → Good w c → (is_in w.master.used k ≡ true) × ((w.server k).down ≡ false) × (refusal_of_arrival (w.server k) ≡ None)
    → AllTell (IsRight (longest_at (stepped w k (arrived clock request (w.server k))) c) w (Arrive k clock request ∷ [])) (arrived clock request (w.server k)).sent
arrive_right w c k clock request good parts = arrived_tells clock request (w.server k) (IsRight (longest_at (stepped w k (arrived clock request (w.server k))) c) w (Arrive k clock request ∷ [])) right where
  own : acts (arrived clock request (w.server k)).server ≡ true → (arrived clock request (w.server k)).server.down ≡ false → longest_at (stepped w k (arrived clock request (w.server k))) c ≡ (arrived clock request (w.server k)).server.entries
  own does lives = list-turned w (stepped w k (arrived clock request (w.server k))) c parties.Clients k (channel w parties.Clients (parties.Server k)) (arrived clock request (w.server k)).server (arrived clock request (w.server k)).sent good (view-step w k (arrived clock request (w.server k))) parts.0
      ∙ turn-own (view w) c parties.Clients k (channel w parties.Clients (parties.Server k)) (arrived clock request (w.server k)).server (arrived clock request (w.server k)).sent good.prefixes good.commits
      (arrive-turn (view w) k clock request good.prefixes parts.0 parts.1 (at-head (w.server k) parts.2))
      (arrive-acting (view w) c k clock request good.prefixes good.commits (head-member (view w) k (lives-placed (view w) k good.prefixes parts.0 parts.1) (at-head (w.server k) parts.2)) (at-head (w.server k) parts.2)) does lives

  right : acts (appended (w.server k) (stamped (w.server k).entries clock request)) ≡ true → IsRight (longest_at (stepped w k (arrived clock request (w.server k))) c) w (Arrive k clock request ∷ []) (answer_to (w.server k).entries (stamped (w.server k).entries clock request))
  right does = entry_right (w.server k) (stamped (w.server k).entries clock request) (longest_at (stepped w k (arrived clock request (w.server k))) c) w (Arrive k clock request ∷ [])
      (arrived_entries clock request (w.server k) (longest_at (stepped w k (arrived clock request (w.server k))) c) does parts.1 own)

-- what is said to a query
query_right : (w : World) (c : List Entry) (k : ℕ) (query : Query) → Good w c → refusal_of w (Ask k query) ≡ None → (is_in w.master.used k ≡ true) × ((w.server k).down ≡ false) × (refusal_of_query (w.server k) ≡ None)
    → AllTell (IsRight (longest_at (stepped w k (asked query (w.server k))) c) w (Ask k query ∷ [])) (asked query (w.server k)).sent
query_right w c k query good free parts = asked_tells w k query (longest_at (stepped w k (asked query (w.server k))) c) free
    (list-turned w (stepped w k (asked query (w.server k))) c parties.Clients k (channel w parties.Clients (parties.Server k)) (asked query (w.server k)).server (asked query (w.server k)).sent good (view-step w k (asked query (w.server k))) parts.0
    ∙ query_own query (w.server k) c parts.1 (at-tail (w.server k) parts.2) (λ does lives. turn-own (view w) c parties.Clients k (channel w parties.Clients (parties.Server k)) (asked query (w.server k)).server (asked query (w.server k)).sent good.prefixes good.commits
    (ask-turn (view w) k query good.prefixes parts.0 parts.1) (ask-acting (view w) c k query good.prefixes good.commits (acting-member (view w) k (lives-placed (view w) k good.prefixes parts.0 parts.1) (at-tail (w.server k) parts.2))) does lives))

-- what is said by an event that isn't refused
told_event : (w : World) (c : List Entry) (event : Event) → Good w c → refusal_of w event ≡ None → AllTell (IsRight (longest_at (next w event) c) w (event ∷ [])) (sent_by w event)
unfolding refusal_of next
told_event w c (Arrive at clock request) good free = arrive_right w c at clock request good (server-parts w at (refusal_of_arrival (w.server at)) free)
told_event w c (Ask at query) good free = query_right w c at query good free (server-parts w at (refusal_of_query (w.server at)) free)
told_event w c (Put from to) good free = tt
told_event w c (Take from to) good free =
    let known = known-parts (has_party w from && has_party w to) (unless_down (is_down w to) (refusal_of_take w from to (w.link from to))) free in
    let lives = lives-parts (is_down w to) (refusal_of_take w from to (w.link from to)) known.1 in
    told_taken w c from to (w.link from to) (Take from to ∷ []) refl (and_parts (has_party w from) (has_party w to) known.0).1 lives.0 good
told_event w c (Crash id) good free = tt
told_event w c (Detect id) good free = tt
told_event w c (Join id) good free = tt

made_by : (w : World) (c : List Entry) (event : Event) (refusal : Option WorldFault) → refusal_of w event ≡ refusal → Good w c → Each (IsRight (longest_at (unless_refused w event refusal) c) w (event ∷ [])) (made_if w event refusal)
made_by w c event None free good = each-made (IsRight (longest_at (next w event) c) w (event ∷ [])) (sent_by w event) (told_event w c event good free)
made_by w c event (Some fault) refused good = tt

-- The answers that an event makes.
pub made-right : (w : World) (c : List Entry) (event : Event) → Good w c → Each (IsRight (longest_at (after w event) c) w (event ∷ [])) (made_if w event (refusal_of w event))
unfolding after
made-right w c event good = made_by w c event (refusal_of w event) refl good

-- ---- runs

-- The answers that all events make.
pub all-answered : (events : List Event) (w : World) (c : List Entry) → Good w (longest_at w c) → Each (IsAnswered (longest_from c w events) w events) (made_from w events)
unfolding made_from longest_from
all-answered [] w c good = tt
all-answered (event ∷ events) w c good =
    let now = longest_at w c in
    let step = onward w now event good in
    let last = longest_from now (after w event) events in
    each-append (IsAnswered last w (event ∷ events)) (made_if w event (refusal_of w event)) (made_from (after w event) events)
    (each-follows (IsRight (longest_at (after w event) now) w (event ∷ [])) (IsAnswered last w (event ∷ events)) (made_if w event (refusal_of w event))
    (λ a right. answered-first last w event events a (answered-longer (longest_at (after w event) now) last w (event ∷ []) a (runs-grow events (after w event) now step.good) right.0)) (made-right w now event good))
    (each-follows (IsAnswered last (after w event) events) (IsAnswered last w (event ∷ events)) (made_from (after w event) events)
    (λ a. answered-later last w event events a) (all-answered events (after w event) now step.good))

-- a prefix isn't longer
pub prefix_length : (xs ys : List Entry) → IsPrefix xs ys → length xs ≤ length ys
prefix_length xs ys h = omega (arith, ap length h.1, length-append xs h.0)

-- No answer bears a length below what was committed before.
pub all-long : (events : List Event) (w : World) (c : List Entry) → Good w (longest_at w c) → Each (λ a. length (longest_at w c) ≤ a.length) (made_from w events)
unfolding made_from
all-long [] w c good = tt
all-long (event ∷ events) w c good =
    let now = longest_at w c in
    let step = onward w now event good in
    let grows = prefix_length now (longest_at (after w event) now) step.grows in
    each-append (λ a. length now ≤ a.length) (made_if w event (refusal_of w event)) (made_from (after w event) events)
    (each-follows (IsRight (longest_at (after w event) now) w (event ∷ [])) (λ a. length now ≤ a.length) (made_if w event (refusal_of w event)) (λ a right. omega (arith, right.1, grows)) (made-right w now event good))
    (each-follows (λ a. length (longest_at (after w event) now) ≤ a.length) (λ a. length now ≤ a.length) (made_from (after w event) events) (λ a long. omega (arith, long, grows)) (all-long events (after w event) now step.good))

-- No answer bears a length above what is committed after it.
pub all-within : (events : List Event) (w : World) (c : List Entry) → Good w (longest_at w c) → Each (λ a. a.length ≤ length (longest_from c w events)) (made_from w events)
unfolding made_from longest_from
all-within [] w c good = tt
all-within (event ∷ events) w c good =
    let now = longest_at w c in
    let step = onward w now event good in
    let last = longest_from now (after w event) events in
    let grows = prefix_length (longest_at (after w event) now) last (runs-grow events (after w event) now step.good) in
    each-append (λ a. a.length ≤ length last) (made_if w event (refusal_of w event)) (made_from (after w event) events)
    (each-follows (IsRight (longest_at (after w event) now) w (event ∷ [])) (λ a. a.length ≤ length last) (made_if w event (refusal_of w event)) (λ a right. omega (arith, right.1, grows)) (made-right w now event good))
    (all-within events (after w event) now step.good)

-- of answers of one length, and others that aren't shorter
never_falls : (n : ℕ) (xs ys : List Answer) → Each (λ a. a.length ≡ n) xs → Each (λ a. n ≤ a.length) ys → Pairwise (λ a b. a.length ≤ b.length) ys → Pairwise (λ a b. a.length ≤ b.length) (xs ++ ys)
never_falls n [] ys h k rest = rest
never_falls n (x ∷ xs) ys h k rest = (
  (λ y among. elim (among-append y xs ys among) [
    | inl here ↦ omega (arith, h.0, each-among (λ a. a.length ≡ n) y xs h.1 here)
    | inr there ↦ omega (arith, h.0, each-among (λ a. n ≤ a.length) y ys k there)
  ]),
  never_falls n xs ys h.1 k rest,
)

-- The lengths of answers never fall.
pub all-rising : (events : List Event) (w : World) (c : List Entry) → Good w (longest_at w c) → Pairwise (λ a b. a.length ≤ b.length) (made_from w events)
unfolding made_from
all-rising [] w c good = tt
all-rising (event ∷ events) w c good =
    let now = longest_at w c in
    let step = onward w now event good in
    never_falls (length (longest_at (after w event) now)) (made_if w event (refusal_of w event)) (made_from (after w event) events)
    (each-follows (IsRight (longest_at (after w event) now) w (event ∷ [])) (λ a. a.length ≡ length (longest_at (after w event) now)) (made_if w event (refusal_of w event)) (λ a right. right.1) (made-right w now event good))
    (all-long events (after w event) now step.good) (all-rising events (after w event) now step.good)
