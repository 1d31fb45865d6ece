-- No server has an unknown one as its neighbour, and nothing is on its way to an unknown one.
use Rattle.std.proofs.Common.{◌≡◌, ℕ, ◌+◌, ◌∙◌, ap, sym, List, [], ◌∷◌, ◌++◌, length, drop, nat_lt, nat_le, is_none, ◌&&◌, not, Option, Some, None, Bool, true, false, cond, subst, refl}
use Rattle.std.proofs.lemmas.Bool.{both_ways}
use Rattle.cq_base.specs.declared.ask.Entry.{Entry}
use Rattle.cq_base.specs.declared.ask.Query.{Query}
use Rattle.cq_base.specs.declared.ask.Request.{Request}
use Rattle.cq_base.specs.declared.party.Party.{Party}
use Rattle.cq_base.specs.declared.party.Party.TheVariants as parties
use Rattle.cq_chain.specs.Masters.{Master, is_in}
use Rattle.cq_chain.specs.Messages.{Message, Fwd, Snap, Ack, BeHead, Report, Adopt, BeTail, Feed, Have, Adopted, Caught, Ready, Answers}
use Rattle.cq_chain.specs.Parties.{same, addressed, is_that}
use Rattle.cq_chain.specs.Servers.{Server, acts}
use Rattle.cq_chain.specs.Steps.{Step, silent, to_server, when, settled, appended, stamped, answer_to, begins_to_act, passed_on, tail_news, forwards, repair, is_next, is_restoring, with_history, as_tail, arrived, asked, takes, crashed}
use Rattle.cq_events.proofs.Parties.{same-true}
use Rattle.cq_world.proofs.Eaches.{Each, each-append, each-follows, by_id}
use Rattle.cq_world.proofs.Views.{View, turn, said, drained}

-- ---- the sentences

-- a server, if one is named, was used
abbrev pub IsUsed : List ℕ → Option ℕ → Type 0
IsUsed used None = Unit {0}
IsUsed used (Some id) = is_in used id ≡ true

-- the master's message names such a server
abbrev pub NamesUsed : List ℕ → Message → Type 0
NamesUsed used (Report p) = is_in used p ≡ true
NamesUsed used (Adopt s n) = is_in used s ≡ true
NamesUsed used (Feed succ) = IsUsed used succ
NamesUsed used m = Unit {0}

-- what is sent goes to no other server
abbrev pub GoesTo : List ℕ → Party → Type 0
GoesTo used (parties.Server id) = is_in used id ≡ true
GoesTo used p = Unit {0}

pub record Known (v : View) : Type 0 where
  pub preds : (id : ℕ) → IsUsed v.master.used (v.server id).pred
  pub succs : (id : ℕ) → IsUsed v.master.used (v.server id).succ
  pub told : (id : ℕ) → Each (NamesUsed v.master.used) (v.channel parties.Master (parties.Server id))
  pub unsent : (p id : ℕ) → is_in v.master.used id ≡ false → v.channel (parties.Server p) (parties.Server id) ≡ []

-- ---- lists

-- the end of a list of such messages
pub each_end : {X : Type 0} (P : X → Type 0) (xs ys : List X) → Each P (xs ++ ys) → Each P ys
each_end P [] ys h = h
each_end P (x ∷ xs) ys h = each_end P xs ys h.1

-- the end of an empty list
pub none_end : {X : Type 0} (xs ys : List X) → xs ++ ys ≡ [] → ys ≡ []
none_end [] ys h = h
none_end (x ∷ xs) ys h = absurd (cc)

-- nothing goes to a server that wasn't used
pub none_addressed : (used : List ℕ) (id : ℕ) (out : List (Party × Message)) → is_in used id ≡ false → Each (λ x. GoesTo used x.0) out → addressed (parties.Server id) out ≡ []
none_addressed used id [] unused h = refl
none_addressed used id (x ∷ out) unused h = go (none_addressed used id out unused h.1) (same (parties.Server id) x.0) refl where
  go : addressed (parties.Server id) out ≡ [] → (t : Bool) → same (parties.Server id) x.0 ≡ t → cond t (x.1 ∷ addressed (parties.Server id) out) (addressed (parties.Server id) out) ≡ []
  go rest false e = rest
  go rest true e = absurd (both_ways (is_in used id) unused (subst (GoesTo used) (sym (same-true (parties.Server id) x.0 e)) h.0))

-- ---- turns, orders, and channels that go on

pub known_turn : (v : View) (from : Party) (k : ℕ) (prefix rest : List Message) (s : Server) (out : List (Party × Message)) → v.channel from (parties.Server k) ≡ prefix ++ rest
    → IsUsed v.master.used s.pred → IsUsed v.master.used s.succ → Each (λ x. GoesTo v.master.used x.0) out → Known v → Known (turn v from k rest s out)
known_turn v from k prefix rest s out at pred succ goes h = record {
  preds = by_id (λ j x. IsUsed v.master.used x.pred) v.server k s pred h.preds;
  succs = by_id (λ j x. IsUsed v.master.used x.succ) v.server k s succ h.succs;
  told = λ id. told id (same parties.Master from) (same (parties.Server id) (parties.Server k)) refl refl;
  unsent = λ p id unused. unsent p id unused (same (parties.Server p) (parties.Server k)) (same (parties.Server p) from) (same (parties.Server id) (parties.Server k)) refl refl;
}
  where
    told : (id : ℕ) (a b : Bool) → same parties.Master from ≡ a → same (parties.Server id) (parties.Server k) ≡ b → Each (NamesUsed v.master.used) (cond (a && b) rest (v.channel parties.Master (parties.Server id)))
    told id true true e f = each_end (NamesUsed v.master.used) prefix rest (subst (Each (NamesUsed v.master.used)) (ap (λ y. v.channel parties.Master y) (same-true (parties.Server id) (parties.Server k) f) ∙ ap (λ x. v.channel x (parties.Server k)) (same-true parties.Master from e) ∙ at) (h.told id))
    told id true false e f = h.told id
    told id false b e f = h.told id

    left : (p id : ℕ) → is_in v.master.used id ≡ false → (a b : Bool) → same (parties.Server p) from ≡ a → same (parties.Server id) (parties.Server k) ≡ b → cond (a && b) rest (v.channel (parties.Server p) (parties.Server id)) ≡ []
    left p id unused true true e f = none_end prefix rest (sym (ap (λ y. v.channel (parties.Server p) y) (same-true (parties.Server id) (parties.Server k) f) ∙ ap (λ x. v.channel x (parties.Server k)) (same-true (parties.Server p) from e) ∙ at) ∙ h.unsent p id unused)
    left p id unused true false e f = h.unsent p id unused
    left p id unused false b e f = h.unsent p id unused

    unsent : (p id : ℕ) → is_in v.master.used id ≡ false → (t a b : Bool) → same (parties.Server p) from ≡ a → same (parties.Server id) (parties.Server k) ≡ b
        → cond t (cond (a && b) rest (v.channel (parties.Server p) (parties.Server id)) ++ addressed (parties.Server id) out) (cond (a && b) rest (v.channel (parties.Server p) (parties.Server id))) ≡ []
    unsent p id unused true a b e f = ap (λ us. us ++ addressed (parties.Server id) out) (left p id unused a b e f) ∙ none_addressed v.master.used id out unused goes
    unsent p id unused false a b e f = left p id unused a b e f

-- more servers are used
used_still : (old new : List ℕ) (o : Option ℕ) → ((id : ℕ) → is_in old id ≡ true → is_in new id ≡ true) → IsUsed old o → IsUsed new o
used_still old new None more h = tt
used_still old new (Some id) more h = more id h

names_still : (old new : List ℕ) (m : Message) → ((id : ℕ) → is_in old id ≡ true → is_in new id ≡ true) → NamesUsed old m → NamesUsed new m
names_still old new (Report p) more h = more p h
names_still old new (Adopt s n) more h = more s h
names_still old new (Feed succ) more h = used_still old new succ more h
names_still old new (Fwd place e) more h = tt
names_still old new (Snap entries) more h = tt
names_still old new (Ack n) more h = tt
names_still old new BeHead more h = tt
names_still old new (BeTail least) more h = tt
names_still old new (Have p n) more h = tt
names_still old new (Adopted s n) more h = tt
names_still old new (Caught p n) more h = tt
names_still old new Ready more h = tt
names_still old new (Answers a) more h = tt

-- who isn't used now wasn't
still_unused : (old new : List ℕ) (id : ℕ) → ((id : ℕ) → is_in old id ≡ true → is_in new id ≡ true) → is_in new id ≡ false → is_in old id ≡ false
still_unused old new id more unused = go (is_in old id) refl where
  go : (t : Bool) → is_in old id ≡ t → is_in old id ≡ false
  go true e = absurd (both_ways (is_in new id) unused (more id e))
  go false e = e

each_told : (used : List ℕ) (id : ℕ) (out : List (Party × Message)) → Each (λ x. NamesUsed used x.1) out → Each (NamesUsed used) (addressed (parties.Server id) out)
each_told used id [] h = tt
each_told used id (x ∷ out) h = go (each_told used id out h.1) (same (parties.Server id) x.0) where
  go : Each (NamesUsed used) (addressed (parties.Server id) out) → (t : Bool) → Each (NamesUsed used) (cond t (x.1 ∷ addressed (parties.Server id) out) (addressed (parties.Server id) out))
  go rest true = (h.0, rest)
  go rest false = rest

pub known_said : (v : View) (m : Master) (out : List (Party × Message)) → ((id : ℕ) → is_in v.master.used id ≡ true → is_in m.used id ≡ true) → Each (λ x. NamesUsed m.used x.1) out → Known v → Known (said v m out)
known_said v m out more names h = record {
  preds = λ id. used_still v.master.used m.used (v.server id).pred more (h.preds id);
  succs = λ id. used_still v.master.used m.used (v.server id).succ more (h.succs id);
  told = λ id. each-append (NamesUsed m.used) (v.channel parties.Master (parties.Server id)) (addressed (parties.Server id) out) (each-follows (NamesUsed v.master.used) (NamesUsed m.used) (v.channel parties.Master (parties.Server id)) (λ x. names_still v.master.used m.used x more) (h.told id)) (each_told m.used id out names);
  unsent = λ p id unused. h.unsent p id (still_unused v.master.used m.used id more unused);
}

pub known_drained : (v : View) (from to : Party) (prefix rest : List Message) → v.channel from to ≡ prefix ++ rest → Known v → Known (drained v from to rest)
known_drained v from to prefix rest at h = record {
  preds = h.preds;
  succs = h.succs;
  told = λ id. told id (same parties.Master from) (same (parties.Server id) to) refl refl;
  unsent = λ p id unused. unsent p id unused (same (parties.Server p) from) (same (parties.Server id) to) refl refl;
}
  where
    here : (x y : Party) → same x from ≡ true → same y to ≡ true → v.channel x y ≡ prefix ++ rest
    here x y e f = ap (λ b. v.channel x b) (same-true y to f) ∙ ap (λ a. v.channel a to) (same-true x from e) ∙ at

    told : (id : ℕ) (a b : Bool) → same parties.Master from ≡ a → same (parties.Server id) to ≡ b → Each (NamesUsed v.master.used) (cond (a && b) rest (v.channel parties.Master (parties.Server id)))
    told id true true e f = each_end (NamesUsed v.master.used) prefix rest (subst (Each (NamesUsed v.master.used)) (here parties.Master (parties.Server id) e f) (h.told id))
    told id true false e f = h.told id
    told id false b e f = h.told id

    unsent : (p id : ℕ) → is_in v.master.used id ≡ false → (a b : Bool) → same (parties.Server p) from ≡ a → same (parties.Server id) to ≡ b → cond (a && b) rest (v.channel (parties.Server p) (parties.Server id)) ≡ []
    unsent p id unused true true e f = none_end prefix rest (sym (here (parties.Server p) (parties.Server id) e f) ∙ h.unsent p id unused)
    unsent p id unused true false e f = h.unsent p id unused
    unsent p id unused false b e f = h.unsent p id unused

-- ---- what a server sends

-- What a step leads to, and to whom it sends.
pub record Steady (used : List ℕ) (step : Step) : Type 0 where
  pub pred : IsUsed used step.server.pred
  pub succ : IsUsed used step.server.succ
  pub goes : Each (λ x. GoesTo used x.0) step.sent

goes_server : (used : List ℕ) (o : Option ℕ) (m : Message) → IsUsed used o → Each (λ x. GoesTo used x.0) (to_server o m)
goes_server used None m h = tt
goes_server used (Some id) m h = (h, tt)

goes_when : (used : List ℕ) (b : Bool) (out : List (Party × Message)) → Each (λ x. GoesTo used x.0) out → Each (λ x. GoesTo used x.0) (when b out)
goes_when used true out h = h
goes_when used false out h = tt

goes_both : (used : List ℕ) (xs ys : List (Party × Message)) → Each (λ x. GoesTo used x.0) xs → Each (λ x. GoesTo used x.0) ys → Each (λ x. GoesTo used x.0) (xs ++ ys)
goes_both used xs ys h k = each-append (λ x. GoesTo used x.0) xs ys h k

settled_pred : (used : List ℕ) (s : Server) → IsUsed used s.pred → IsUsed used (settled s).pred
settled_pred used s h = go (acts s) where
  go : (t : Bool) → IsUsed used (cond t (record s { acked = length s.entries; floor = length s.entries; full = true }) s).pred
  go true = h
  go false = h

settled_succ : (used : List ℕ) (s : Server) → IsUsed used s.succ → IsUsed used (settled s).succ
settled_succ used s h = go (acts s) where
  go : (t : Bool) → IsUsed used (cond t (record s { acked = length s.entries; floor = length s.entries; full = true }) s).succ
  go true = h
  go false = h

still : (used : List ℕ) (s : Server) → IsUsed used s.pred → IsUsed used s.succ → Steady used (silent s)
still used s pred succ = record { pred = pred; succ = succ; goes = tt }

passed_goes : (used : List ℕ) (s : Server) (e : Entry) → IsUsed used s.succ → Each (λ x. GoesTo used x.0) (passed_on s e)
passed_goes used s e succ = goes_both used (to_server s.succ (Fwd (length s.entries + 1) e)) (when (acts (appended s e)) ((parties.Clients, Answers (answer_to s.entries e)) ∷ [])) (goes_server used s.succ (Fwd (length s.entries + 1) e) succ)
    (goes_when used (acts (appended s e)) ((parties.Clients, Answers (answer_to s.entries e)) ∷ []) (tt, tt))

news_goes : (used : List ℕ) (before now : Server) → IsUsed used before.pred → Each (λ x. GoesTo used x.0) (tail_news before now)
news_goes used before now pred = goes_both used (when (acts now) (to_server before.pred (Ack (length now.entries)))) (when (begins_to_act before now) ((parties.Master, Ready) ∷ []))
    (goes_when used (acts now) (to_server before.pred (Ack (length now.entries))) (goes_server used before.pred (Ack (length now.entries)) pred)) (goes_when used (begins_to_act before now) ((parties.Master, Ready) ∷ []) (tt, tt))

forwards_go : (used : List ℕ) (to place : ℕ) (es : List Entry) → is_in used to ≡ true → Each (λ x. GoesTo used x.0) (forwards to place es)
unfolding forwards
forwards_go used to place [] h = tt
forwards_go used to place (e ∷ es) h = (h, forwards_go used to (place + 1) es h)

repair_goes : (used : List ℕ) (to have : ℕ) (s : Server) → is_in used to ≡ true → Each (λ x. GoesTo used x.0) (repair to have s)
repair_goes used to have s h = go (nat_le s.floor have) where
  go : (t : Bool) → Each (λ x. GoesTo used x.0) (cond t (forwards to (have + 1) (drop have s.entries)) ((parties.Server to, Snap s.entries) ∷ []))
  go true = forwards_go used to (have + 1) (drop have s.entries) h
  go false = (h, tt)

-- a step or none
either_step : (used : List ℕ) (t : Bool) (a b : Step) → Steady used a → Steady used b → Steady used (cond t a b)
either_step used true a b h k = h
either_step used false a b h k = k

pub arrived_steady : (used : List ℕ) (clock : ℕ) (request : Request) (s : Server) → IsUsed used s.pred → IsUsed used s.succ → Steady used (arrived clock request s)
unfolding arrived
arrived_steady used clock request s pred succ = record {
  pred = settled_pred used (appended s (stamped s.entries clock request)) pred;
  succ = settled_succ used (appended s (stamped s.entries clock request)) succ;
  goes = passed_goes used s (stamped s.entries clock request) succ;
}

pub asked_steady : (used : List ℕ) (query : Query) (s : Server) → IsUsed used s.pred → IsUsed used s.succ → Steady used (asked query s)
unfolding asked
asked_steady used query s pred succ = record { pred = pred; succ = succ; goes = (tt, tt) }

pub crashed_steady : (used : List ℕ) (s : Server) → IsUsed used s.pred → IsUsed used s.succ → Steady used (crashed s)
crashed_steady used s pred succ = record { pred = pred; succ = succ; goes = tt }

pub takes_steady : (used : List ℕ) (from : Party) (m : Message) (s : Server) → IsUsed used s.pred → IsUsed used s.succ → (same parties.Master from ≡ true → NamesUsed used m) → Steady used (takes from m s)
unfolding takes
takes_steady used (parties.Server from) (Fwd place e) s pred succ names = either_step used (is_next s from place e) _ _
    (record { pred = settled_pred used (appended s e) pred; succ = settled_succ used (appended s e) succ; goes = goes_both used (passed_on s e) (tail_news s (appended s e)) (passed_goes used s e succ) (news_goes used s (appended s e) pred) }) (still used s pred succ)
takes_steady used (parties.Server from) (Snap entries) s pred succ names = either_step used (is_restoring s from entries) _ _
    (record { pred = settled_pred used (with_history s entries) pred; succ = settled_succ used (with_history s entries) succ; goes = goes_both used (tail_news s (with_history s entries)) (when (is_none s.at_least) ((parties.Master, Caught from (length entries)) ∷ [])) (news_goes used s (with_history s entries) pred) (goes_when used (is_none s.at_least) ((parties.Master, Caught from (length entries)) ∷ []) (tt, tt)) }) (still used s pred succ)
takes_steady used (parties.Server from) (Ack n) s pred succ names = either_step used (nat_lt s.acked _) _ _
    (record { pred = pred; succ = succ; goes = goes_server used s.pred _ pred }) (still used s pred succ)
takes_steady used parties.Master BeHead s pred succ names = record { pred = tt; succ = succ; goes = tt }
takes_steady used parties.Master (Report p) s pred succ names = record { pred = names refl; succ = succ; goes = (tt, (names refl, tt)) }
takes_steady used parties.Master (Adopt t have) s pred succ names = record {
  pred = pred;
  succ = names refl;
  goes = goes_both used (when (not (is_that s.succ t)) (repair t have s)) ((parties.Master, Adopted t (length s.entries)) ∷ []) (goes_when used (not (is_that s.succ t)) (repair t have s) (repair_goes used t have s (names refl))) (tt, tt);
}
takes_steady used parties.Master (BeTail least) s pred succ names = record {
  pred = settled_pred used (as_tail least s) pred;
  succ = settled_succ used (as_tail least s) tt;
  goes = goes_when used (acts (as_tail least s)) (to_server s.pred (Ack (length s.entries)) ++ (parties.Master, Ready) ∷ []) (goes_both used (to_server s.pred (Ack (length s.entries))) ((parties.Master, Ready) ∷ []) (goes_server used s.pred (Ack (length s.entries)) pred) (tt, tt));
}
takes_steady used parties.Master (Feed other) s pred succ names = either_step used (acts s) _ _ (record { pred = pred; succ = names refl; goes = goes_server used other _ (names refl) }) (still used s pred succ)
takes_steady used parties.Clients m s pred succ names = clients m where
  clients : (n : Message) → Steady used (takes parties.Clients n s)
  clients (Fwd place e) = still used s pred succ
  clients (Snap entries) = still used s pred succ
  clients (Ack n) = still used s pred succ
  clients BeHead = still used s pred succ
  clients (Report p) = still used s pred succ
  clients (Adopt t n) = still used s pred succ
  clients (BeTail least) = still used s pred succ
  clients (Feed other) = still used s pred succ
  clients (Have p n) = still used s pred succ
  clients (Adopted t n) = still used s pred succ
  clients (Caught p n) = still used s pred succ
  clients Ready = still used s pred succ
  clients (Answers a) = still used s pred succ
takes_steady used (parties.Server from) BeHead s pred succ names = still used s pred succ
takes_steady used (parties.Server from) (Report p) s pred succ names = still used s pred succ
takes_steady used (parties.Server from) (Adopt t n) s pred succ names = still used s pred succ
takes_steady used (parties.Server from) (BeTail least) s pred succ names = still used s pred succ
takes_steady used (parties.Server from) (Feed other) s pred succ names = still used s pred succ
takes_steady used (parties.Server from) (Have p n) s pred succ names = still used s pred succ
takes_steady used (parties.Server from) (Adopted t n) s pred succ names = still used s pred succ
takes_steady used (parties.Server from) (Caught p n) s pred succ names = still used s pred succ
takes_steady used (parties.Server from) Ready s pred succ names = still used s pred succ
takes_steady used (parties.Server from) (Answers a) s pred succ names = still used s pred succ
takes_steady used parties.Master (Fwd place e) s pred succ names = still used s pred succ
takes_steady used parties.Master (Snap entries) s pred succ names = still used s pred succ
takes_steady used parties.Master (Ack n) s pred succ names = still used s pred succ
takes_steady used parties.Master (Have p n) s pred succ names = still used s pred succ
takes_steady used parties.Master (Adopted t n) s pred succ names = still used s pred succ
takes_steady used parties.Master (Caught p n) s pred succ names = still used s pred succ
takes_steady used parties.Master Ready s pred succ names = still used s pred succ
takes_steady used parties.Master (Answers a) s pred succ names = still used s pred succ
