-- Who has said to the master that it acts is full, and who is full stays so.
use Rattle.std.proofs.Common.{◌≡◌, ℕ, ◌+◌, ◌∙◌, ap, sym, refl, subst, cond, List, [], ◌∷◌, ◌++◌, length, drop, nat_lt, nat_le, is_none, min, max, Bool, true, false, ◌&&◌, not, eqb, Option, Some, None}
use Rattle.std.proofs.lemmas.Bool.{eqb-true, and_parts}
use Rattle.cq_base.specs.declared.ask.Entry.{Entry}
use Rattle.cq_base.specs.declared.ask.Query.{Query}
use Rattle.cq_base.specs.declared.ask.Request.{Request}
use Rattle.cq_base.specs.declared.party.Party.{Party}
use Rattle.cq_base.specs.declared.party.Party.TheVariants as parties
use Rattle.cq_chain.specs.Masters.{Order, detected, joined, hears_from}
use Rattle.cq_chain.specs.Messages.{Message, Fwd, Snap, Ack, BeHead, Report, Adopt, BeTail, Feed, Have, Adopted, Caught, Ready, Answers}
use Rattle.cq_chain.specs.Parties.{same, addressed, is_that}
use Rattle.cq_chain.specs.Servers.{Server, acts}
use Rattle.cq_chain.specs.Steps.{Step, silent, to_server, when, settled, appended, stamped, answer_to, begins_to_act, passed_on, tail_news, forwards, repair, is_next, is_restoring, with_history, as_tail, forwarded, restored, adopting, tailed, feeding, arrived, asked, takes, crashed}
use Rattle.cq_events.proofs.Parties.{same-true}
use Rattle.cq_events.specs.Events.{next, after_put, after_take, without_first}
use Rattle.cq_events.specs.Worlds.{World, first_world, stepped, ordered, channel, set_pair}
use Rattle.cq_events.specs.declared.event.Event.{Event}
use Rattle.cq_events.specs.declared.event.Event.TheVariants as events
use Rattle.cq_world.proofs.Eaches.{Each, each-append, each-follows, each-addressed}
use Rattle.cq_world.proofs.Running.{view_ordered}
use Rattle.cq_world.proofs.Views.{View, view, turn, drained, view-put, view-given, view-step, view-taken, view-without}
use Rattle.cq_real_time.proofs.Known.{each_end}

-- ---- what a server says

-- where it says that it acts, it is full
abbrev pub IsTrueOf : Server → Message → Type 0
IsTrueOf s Ready = s.full ≡ true
IsTrueOf s m = Unit {0}

-- What a step of a server leads to, and what it says.
pub record Honest (s : Server) (step : Step) : Type 0 where
  pub stays : s.full ≡ true → step.server.full ≡ true
  pub says : Each (λ x. IsTrueOf step.server x.1) step.sent

settled_stays : (s : Server) → s.full ≡ true → (settled s).full ≡ true
settled_stays s h = go (acts s) where
  go : (t : Bool) → (cond t (record s { acked = length s.entries; floor = length s.entries; full = true }) s).full ≡ true
  go true = refl
  go false = h

settled_acting : (s : Server) → acts s ≡ true → (settled s).full ≡ true
settled_acting s h = ap (λ b. (cond b (record s { acked = length s.entries; floor = length s.entries; full = true }) s).full) h

silent_honest : (s : Server) → Honest s (silent s)
silent_honest s = record { stays = λ h. h; says = tt }

-- what is sent is true, in parts
both_true : (s : Server) (xs ys : List (Party × Message)) → Each (λ x. IsTrueOf s x.1) xs → Each (λ x. IsTrueOf s x.1) ys → Each (λ x. IsTrueOf s x.1) (xs ++ ys)
both_true s xs ys h k = each-append (λ x. IsTrueOf s x.1) xs ys h k

true_when : (s : Server) (b : Bool) (out : List (Party × Message)) → (b ≡ true → Each (λ x. IsTrueOf s x.1) out) → Each (λ x. IsTrueOf s x.1) (when b out)
true_when s true out h = h refl
true_when s false out h = tt

true_to : (s : Server) (o : Option ℕ) (m : Message) → IsTrueOf s m → Each (λ x. IsTrueOf s x.1) (to_server o m)
true_to s None m h = tt
true_to s (Some id) m h = (h, tt)

passed_says : (now s : Server) (e : Entry) → Each (λ x. IsTrueOf now x.1) (passed_on s e)
passed_says now s e = both_true now (to_server s.succ (Fwd (length s.entries + 1) e)) (when (acts (appended s e)) ((parties.Clients, Answers (answer_to s.entries e)) ∷ []))
    (true_to now s.succ (Fwd (length s.entries + 1) e) tt)
    (true_when now (acts (appended s e)) ((parties.Clients, Answers (answer_to s.entries e)) ∷ []) (λ does. (tt, tt)))

news_say : (new before now : Server) → (acts now ≡ true → new.full ≡ true) → Each (λ x. IsTrueOf new x.1) (tail_news before now)
news_say new before now full = both_true new (when (acts now) (to_server before.pred (Ack (length now.entries)))) (when (begins_to_act before now) ((parties.Master, Ready) ∷ []))
    (true_when new (acts now) (to_server before.pred (Ack (length now.entries))) (λ does. true_to new before.pred (Ack (length now.entries)) tt))
    (true_when new (begins_to_act before now) ((parties.Master, Ready) ∷ []) (λ begins. (full (and_parts (acts now) (not (acts before)) begins).0, tt)))

forwards_say : (now : Server) (to place : ℕ) (es : List Entry) → Each (λ x. IsTrueOf now x.1) (forwards to place es)
unfolding forwards
forwards_say now to place [] = tt
forwards_say now to place (e ∷ es) = (tt, forwards_say now to (place + 1) es)

repair_says : (now : Server) (to have : ℕ) (s : Server) → Each (λ x. IsTrueOf now x.1) (repair to have s)
repair_says now to have s = go (nat_le s.floor have) where
  go : (t : Bool) → Each (λ x. IsTrueOf now x.1) (cond t (forwards to (have + 1) (drop have s.entries)) ((parties.Server to, Snap s.entries) ∷ []))
  go true = forwards_say now to (have + 1) (drop have s.entries)
  go false = (tt, tt)

-- one step or another
either_honest : (s : Server) (t : Bool) (a b : Step) → Honest s a → Honest s b → Honest s (cond t a b)
either_honest s true a b h k = h
either_honest s false a b h k = k

arrived_honest : (clock : ℕ) (request : Request) (s : Server) → Honest s (arrived clock request s)
unfolding arrived
arrived_honest clock request s = record {
  stays = settled_stays (appended s (stamped s.entries clock request));
  says = passed_says (settled (appended s (stamped s.entries clock request))) s (stamped s.entries clock request);
}

asked_honest : (query : Query) (s : Server) → Honest s (asked query s)
unfolding asked
asked_honest query s = record { stays = λ h. h; says = (tt, tt) }

crashed_honest : (s : Server) → Honest s (crashed s)
crashed_honest s = record { stays = λ h. h; says = tt }

forwarded_honest : (e : Entry) (s : Server) → Honest s (forwarded e s)
forwarded_honest e s = record {
  stays = settled_stays (appended s e);
  says = both_true (settled (appended s e)) (passed_on s e) (tail_news s (appended s e)) (passed_says (settled (appended s e)) s e) (news_say (settled (appended s e)) s (appended s e) (settled_acting (appended s e)));
}

restored_honest : (from : ℕ) (entries : List Entry) (s : Server) → Honest s (restored from entries s)
restored_honest from entries s = record {
  stays = settled_stays (with_history s entries);
  says = both_true (settled (with_history s entries)) (tail_news s (with_history s entries)) (when (is_none s.at_least) ((parties.Master, Caught from (length entries)) ∷ []))
      (news_say (settled (with_history s entries)) s (with_history s entries) (settled_acting (with_history s entries)))
      (true_when (settled (with_history s entries)) (is_none s.at_least) ((parties.Master, Caught from (length entries)) ∷ []) (λ none. (tt, tt)));
}

adopting_honest : (succ have : ℕ) (s : Server) → Honest s (adopting succ have s)
adopting_honest succ have s = record {
  stays = λ h. h;
  says = both_true (adopting succ have s).server (when (not (is_that s.succ succ)) (repair succ have s)) ((parties.Master, Adopted succ (length s.entries)) ∷ [])
      (true_when (adopting succ have s).server (not (is_that s.succ succ)) (repair succ have s) (λ other. repair_says (adopting succ have s).server succ have s)) (tt, tt);
}

tail_honest : (least : ℕ) (s : Server) → Honest s (tailed least s)
tail_honest least s = record {
  stays = settled_stays (as_tail least s);
  says = true_when (settled (as_tail least s)) (acts (as_tail least s)) (to_server s.pred (Ack (length s.entries)) ++ (parties.Master, Ready) ∷ [])
      (λ does. both_true (settled (as_tail least s)) (to_server s.pred (Ack (length s.entries))) ((parties.Master, Ready) ∷ []) (true_to (settled (as_tail least s)) s.pred (Ack (length s.entries)) tt) (settled_acting (as_tail least s) does, tt));
}

feeding_honest : (succ : Option ℕ) (s : Server) → Honest s (feeding succ s)
feeding_honest succ s = record { stays = λ h. h; says = true_to (feeding succ s).server succ (Snap s.entries) tt }

takes_honest : (from : Party) (m : Message) (s : Server) → Honest s (takes from m s)
unfolding takes
takes_honest (parties.Server from) (Fwd place e) s = either_honest s (is_next s from place e) (forwarded e s) (silent s) (forwarded_honest e s) (silent_honest s)
takes_honest (parties.Server from) (Snap entries) s = either_honest s (is_restoring s from entries) (restored from entries s) (silent s) (restored_honest from entries s) (silent_honest s)
takes_honest (parties.Server from) (Ack n) s = either_honest s (nat_lt s.acked (min n (length s.entries))) (record { server = record s { acked = min n (length s.entries); floor = max s.floor (min n (length s.entries)) }; sent = to_server s.pred (Ack (min n (length s.entries))) }) (silent s)
    (record { stays = λ h. h; says = true_to (record s { acked = min n (length s.entries); floor = max s.floor (min n (length s.entries)) }) s.pred (Ack (min n (length s.entries))) tt }) (silent_honest s)
takes_honest parties.Master BeHead s = record { stays = λ h. h; says = tt }
takes_honest parties.Master (Report p) s = record { stays = λ h. h; says = (tt, (tt, tt)) }
takes_honest parties.Master (Adopt t have) s = adopting_honest t have s
takes_honest parties.Master (BeTail least) s = tail_honest least s
takes_honest parties.Master (Feed other) s = either_honest s (acts s) (feeding other s) (silent s) (feeding_honest other s) (silent_honest s)
takes_honest parties.Clients (Fwd place e) s = silent_honest s
takes_honest parties.Clients (Snap entries) s = silent_honest s
takes_honest parties.Clients (Ack n) s = silent_honest s
takes_honest parties.Clients BeHead s = silent_honest s
takes_honest parties.Clients (Report p) s = silent_honest s
takes_honest parties.Clients (Adopt t n) s = silent_honest s
takes_honest parties.Clients (BeTail least) s = silent_honest s
takes_honest parties.Clients (Feed other) s = silent_honest s
takes_honest parties.Clients (Have p n) s = silent_honest s
takes_honest parties.Clients (Adopted t n) s = silent_honest s
takes_honest parties.Clients (Caught p n) s = silent_honest s
takes_honest parties.Clients Ready s = silent_honest s
takes_honest parties.Clients (Answers a) s = silent_honest s
takes_honest (parties.Server from) BeHead s = silent_honest s
takes_honest (parties.Server from) (Report p) s = silent_honest s
takes_honest (parties.Server from) (Adopt t n) s = silent_honest s
takes_honest (parties.Server from) (BeTail least) s = silent_honest s
takes_honest (parties.Server from) (Feed other) s = silent_honest s
takes_honest (parties.Server from) (Have p n) s = silent_honest s
takes_honest (parties.Server from) (Adopted t n) s = silent_honest s
takes_honest (parties.Server from) (Caught p n) s = silent_honest s
takes_honest (parties.Server from) Ready s = silent_honest s
takes_honest (parties.Server from) (Answers a) s = silent_honest s
takes_honest parties.Master (Fwd place e) s = silent_honest s
takes_honest parties.Master (Snap entries) s = silent_honest s
takes_honest parties.Master (Ack n) s = silent_honest s
takes_honest parties.Master (Have p n) s = silent_honest s
takes_honest parties.Master (Adopted t n) s = silent_honest s
takes_honest parties.Master (Caught p n) s = silent_honest s
takes_honest parties.Master Ready s = silent_honest s
takes_honest parties.Master (Answers a) s = silent_honest s

-- ---- turns, and channels that go on

-- what each server has on its way to the master is true of it
abbrev pub Says : View → Type 0
Says v = (id : ℕ) → Each (IsTrueOf (v.server id)) (v.channel (parties.Server id) parties.Master)

-- what is true of a server stays so while it stays full
still_true : (old new : Server) → (old.full ≡ true → new.full ≡ true) → (m : Message) → IsTrueOf old m → IsTrueOf new m
still_true old new stays Ready h = stays h
still_true old new stays m h = tt

says_turn : (v : View) (from : Party) (k : ℕ) (rest : List Message) (s : Server) (out : List (Party × Message)) → ((v.server k).full ≡ true → s.full ≡ true) → Each (λ x. IsTrueOf s x.1) out → Says v → Says (turn v from k rest s out)
says_turn v from k rest s out stays says h id = go (eqb id k) refl where
  base : List Message
  base = set_pair v.channel from (parties.Server k) rest (parties.Server id) parties.Master

  row : Each (IsTrueOf (v.server id)) base
  row = other (same (parties.Server id) from) where
    other : (t : Bool) → Each (IsTrueOf (v.server id)) (cond (t && false) rest (v.channel (parties.Server id) parties.Master))
    other true = h id
    other false = h id

  go : (t : Bool) → eqb id k ≡ t → Each (IsTrueOf (cond t s (v.server id))) (cond t (base ++ addressed parties.Master out) base)
  go true own = each-append (IsTrueOf s) base (addressed parties.Master out)
      (each-follows (IsTrueOf (v.server id)) (IsTrueOf s) base (still_true (v.server id) s (subst (λ i. (v.server i).full ≡ true → s.full ≡ true) (sym (eqb-true id k own)) stays)) row)
      (each-addressed (IsTrueOf s) parties.Master out says)
  go false other = row

says_drained : (v : View) (from to : Party) (prefix rest : List Message) → v.channel from to ≡ prefix ++ rest → Says v → Says (drained v from to rest)
says_drained v from to prefix rest at h id = go (same (parties.Server id) from) (same parties.Master to) refl refl where
  go : (a b : Bool) → same (parties.Server id) from ≡ a → same parties.Master to ≡ b → Each (IsTrueOf (v.server id)) (cond (a && b) rest (v.channel (parties.Server id) parties.Master))
  go true true e f = each_end (IsTrueOf (v.server id)) prefix rest (subst (Each (IsTrueOf (v.server id))) (ap (λ y. v.channel (parties.Server id) y) (same-true parties.Master to f) ∙ ap (λ x. v.channel x to) (same-true (parties.Server id) from e) ∙ at) (h id))
  go true false e f = h id
  go false b e f = h id

-- ---- events

stepped_says : (w : World) (k : ℕ) (step : Step) → Honest (w.server k) step → Says (view w) → Says (view (stepped w k step))
stepped_says w k step honest h = subst (λ (v : View). Says v) (sym (view-step w k step)) (says_turn (view w) parties.Clients k (channel w parties.Clients (parties.Server k)) step.server step.sent honest.stays honest.says h)

ordered_says : (w : World) (order : Order) → Says (view w) → Says (view (ordered w order))
ordered_says w order h = subst (λ (v : View). Says v) (sym (view_ordered w order)) (λ id. h id)

put_says : (w : World) (from to : Party) → Says (view w) → Says (view (after_put w from to))
put_says w from parties.Clients h = subst (λ (v : View). Says v) (sym (view-given w from)) (λ id. given id (same (parties.Server id) from)) where
  given : (id : ℕ) (t : Bool) → Each (IsTrueOf (w.server id)) (cond (t && false) (w.link from parties.Clients ++ drop 1 (w.outbox from parties.Clients)) (channel w (parties.Server id) parties.Master))
  given id true = h id
  given id false = h id
put_says w from parties.Master h = subst (λ (v : View). Says v) (sym (view-put w from parties.Master refl)) h
put_says w from (parties.Server id) h = subst (λ (v : View). Says v) (sym (view-put w from (parties.Server id) refl)) h

take_says : (w : World) (from to : Party) (ms : List Message) → w.link from to ≡ ms → Says (view w) → Says (view (after_take w from to ms))
take_says w from to [] at h = h
take_says w from parties.Clients (m ∷ ms) at h = subst (λ (v : View). Says v) (sym (view-without w from parties.Clients m ms at))
    (says_drained (view w) from parties.Clients (m ∷ []) (ms ++ w.outbox from parties.Clients) (ap (λ us. us ++ w.outbox from parties.Clients) at) h)
take_says w from parties.Master (m ∷ ms) at h = ordered_says (without_first w from parties.Master) (hears_from from m w.master)
    (subst (λ (v : View). Says v) (sym (view-without w from parties.Master m ms at)) (says_drained (view w) from parties.Master (m ∷ []) (ms ++ w.outbox from parties.Master) (ap (λ us. us ++ w.outbox from parties.Master) at) h))
take_says w from (parties.Server k) (m ∷ ms) at h =
    let step = takes from m (w.server k) in
    let honest = takes_honest from m (w.server k) in
    subst (λ (v : View). Says v) (sym (view-taken w from k m ms step at)) (says_turn (view w) from k (ms ++ w.outbox from (parties.Server k)) step.server step.sent honest.stays honest.says h)

pub next_says : (w : World) (event : Event) → Says (view w) → Says (view (next w event))
unfolding next
next_says w (events.Arrive at clock request) h = stepped_says w at (arrived clock request (w.server at)) (arrived_honest clock request (w.server at)) h
next_says w (events.Ask at query) h = stepped_says w at (asked query (w.server at)) (asked_honest query (w.server at)) h
next_says w (events.Put from to) h = put_says w from to h
next_says w (events.Take from to) h = take_says w from to (w.link from to) refl h
next_says w (events.Crash k) h = stepped_says w k (crashed (w.server k)) (crashed_honest (w.server k)) h
next_says w (events.Detect k) h = ordered_says w (detected k w.master) h
next_says w (events.Join k) h = ordered_says w (joined k w.master) h

pub first_says : (size : ℕ) → Says (view (first_world size))
unfolding first_world
first_says size id = tt

-- ---- who is full

stepped_full : (w : World) (k : ℕ) (step : Step) → ((w.server k).full ≡ true → step.server.full ≡ true) → (id : ℕ) → (w.server id).full ≡ true → ((stepped w k step).server id).full ≡ true
stepped_full w k step stays id full = go (eqb id k) refl where
  go : (t : Bool) → eqb id k ≡ t → (cond t step.server (w.server id)).full ≡ true
  go true e = stays (subst (λ i. (w.server i).full ≡ true) (eqb-true id k e) full)
  go false e = full

taken_full : (w : World) (from to : Party) (ms : List Message) (id : ℕ) → (w.server id).full ≡ true → ((after_take w from to ms).server id).full ≡ true
taken_full w from to [] id full = full
taken_full w from parties.Master (m ∷ ms) id full = full
taken_full w from parties.Clients (m ∷ ms) id full = full
taken_full w from (parties.Server k) (m ∷ ms) id full = stepped_full (without_first w from (parties.Server k)) k (takes from m (w.server k)) (takes_honest from m (w.server k)).stays id full

-- Who is full stays so.
pub full_next : (w : World) (event : Event) (id : ℕ) → (w.server id).full ≡ true → ((next w event).server id).full ≡ true
unfolding next
full_next w (events.Arrive at clock request) id full = stepped_full w at (arrived clock request (w.server at)) (arrived_honest clock request (w.server at)).stays id full
full_next w (events.Ask at query) id full = stepped_full w at (asked query (w.server at)) (asked_honest query (w.server at)).stays id full
full_next w (events.Put from to) id full = full
full_next w (events.Take from to) id full = taken_full w from to (w.link from to) id full
full_next w (events.Crash k) id full = stepped_full w k (crashed (w.server k)) (crashed_honest (w.server k)).stays id full
full_next w (events.Detect k) id full = full
full_next w (events.Join k) id full = full
