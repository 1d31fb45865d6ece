-- Each step of a server that lives keeps the sentences on who may act and what is committed.
use Rattle.std.proofs.Common.{◌≡◌, ℕ, ◌+◌, ◌≤◌, ◌∙◌, ap, sym, List, [], ◌∷◌, ◌++◌, length, drop, ◌&&◌, ◌⊎◌, not, Option, Some, None, is_none, is_some, Bool, true, false, cond, eqb, arith, subst, refl, inl, inr, min, max, nat_le, nat_lt, append-nil, length-append}
use Rattle.std.proofs.lemmas.Bool.{eqb-true, false≢true, both_ways, cases_Bool, and_parts, or_right, le-leb, leb-true}
use Rattle.cq_base.specs.declared.ask.Entry.{Entry}
use Rattle.cq_base.specs.declared.ask.Query.{Query}
use Rattle.cq_base.specs.declared.ask.Request.{Request}
use Rattle.cq_base.specs.declared.party.Party.{Party}
use Rattle.cq_base.specs.declared.party.Party.TheVariants as parties
use Rattle.cq_chain.specs.Masters.{is_in, is_last, stands_before}
use Rattle.cq_chain.specs.Messages.{Message, Fwd, Snap, Ack, BeHead, Report, Adopt, BeTail, Feed, Adopted, Caught, Ready, Answers}
use Rattle.cq_chain.specs.Parties.{same, addressed}
use Rattle.cq_chain.specs.Servers.{Server, acts, reaches, is_that}
use Rattle.cq_chain.specs.Steps.{silent, to_server, when, appended, settled, begins_to_act, answer_to, passed_on, tail_news, stamped, arrived, asked, is_next, forwarded, is_restoring, with_history, restored, forwards, repair, adopting, feeding, as_tail, tailed, takes, crashed}
use Rattle.cq_events.specs.Worlds.{set_at}
use Rattle.cq_world.proofs.Chains.{Before, among-in, last-in, before-last, before-either, before-not-last, before-only, before-prefix, chain-apart}
use Rattle.cq_world.proofs.Commits.{Commits, harmless_tails, tails, readies, Names, Pairs, Retires, HandsOver, Enough, Zero, NotOn, bit, waits, Free, acts-least, least-none, some-least}
use Rattle.cq_world.proofs.Commits.Turns.{Acting, by_server, readies-append, stage_one}
use Rattle.cq_world.proofs.Eaches.{Each, each-append, each-follows, some_none}
use Rattle.cq_world.proofs.Settled.{IsSettled, is_settled}
use Rattle.cq_world.proofs.Prefixes.Orders.{linked_some}
use Rattle.cq_world.proofs.ExtendedChains.{member-extended, member-other}
use Rattle.cq_world.proofs.Prefixes.{Prefixes, LinkedExtended, Harmless, Outsider, master_after}
use Rattle.cq_world.proofs.Views.{View, extended, turn}
use Rattle.cq_world.proofs.Prefixes.Steps.{Placed, lives-placed, full-member, aside-acts, take-turn}

-- ---- what is said to the master

pub addressed-append : (to : Party) (xs ys : List (Party × Message)) → addressed to (xs ++ ys) ≡ addressed to xs ++ addressed to ys
addressed-append to [] ys = refl
addressed-append to (x ∷ xs) ys = go (same to x.0) (addressed-append to xs ys) where
  go : (t : Bool) → addressed to (xs ++ ys) ≡ addressed to xs ++ addressed to ys → cond t (x.1 ∷ addressed to (xs ++ ys)) (addressed to (xs ++ ys)) ≡ cond t (x.1 ∷ addressed to xs) (addressed to xs) ++ addressed to ys
  go true e = ap (λ us. x.1 ∷ us) e
  go false e = e

-- what goes to a server isn't for the master
server_news : (o : Option ℕ) (m : Message) → addressed parties.Master (to_server o m) ≡ []
server_news None m = refl
server_news (Some id) m = refl

passed_news : (s : Server) (e : Entry) → addressed parties.Master (passed_on s e) ≡ []
passed_news s e = addressed-append parties.Master (to_server s.succ (Fwd (length s.entries + 1) e)) (when (acts (appended s e)) ((parties.Clients, Answers (answer_to s.entries e)) ∷ []))
    ∙ ap (λ us. us ++ addressed parties.Master (when (acts (appended s e)) ((parties.Clients, Answers (answer_to s.entries e)) ∷ []))) (server_news s.succ (Fwd (length s.entries + 1) e)) ∙ go (acts (appended s e)) where
      go : (t : Bool) → addressed parties.Master (when t ((parties.Clients, Answers (answer_to s.entries e)) ∷ [])) ≡ []
      go true = refl
      go false = refl

-- of what a tail says of itself, that it acts
ready_news : (t : Bool) → addressed parties.Master (when t ((parties.Master, Ready) ∷ [])) ≡ when t (Ready ∷ [])
ready_news true = refl
ready_news false = refl

tail_master : (before now : Server) → addressed parties.Master (tail_news before now) ≡ when (begins_to_act before now) (Ready ∷ [])
tail_master before now = addressed-append parties.Master (when (acts now) (to_server before.pred (Ack (length now.entries)))) (when (begins_to_act before now) ((parties.Master, Ready) ∷ []))
    ∙ ap (λ us. us ++ addressed parties.Master (when (begins_to_act before now) ((parties.Master, Ready) ∷ []))) (go (acts now)) ∙ ready_news (begins_to_act before now) where
      go : (t : Bool) → addressed parties.Master (when t (to_server before.pred (Ack (length now.entries)))) ≡ []
      go true = server_news before.pred (Ack (length now.entries))
      go false = refl

forwards_news : (to place : ℕ) (es : List Entry) → addressed parties.Master (forwards to place es) ≡ []
unfolding forwards
forwards_news to place [] = refl
forwards_news to place (e ∷ es) = forwards_news to (place + 1) es

pub repair_news : (to have : ℕ) (s : Server) → addressed parties.Master (repair to have s) ≡ []
repair_news to have s = go (nat_le s.floor have) where
  go : (t : Bool) → addressed parties.Master (cond t (forwards to (have + 1) (drop have s.entries)) ((parties.Server to, Snap s.entries) ∷ [])) ≡ []
  go true = forwards_news to (have + 1) (drop have s.entries)
  go false = refl

-- the same, if there is one
pub new_repair_news : (b : Bool) (to have : ℕ) (s : Server) → addressed parties.Master (when b (repair to have s)) ≡ []
new_repair_news true to have s = repair_news to have s
new_repair_news false to have s = refl

-- what is told of a snapshot
caught_news : (t : Bool) (from n : ℕ) → addressed parties.Master (when t ((parties.Master, Caught from n) ∷ [])) ≡ when t (Caught from n ∷ [])
caught_news true from n = refl
caught_news false from n = refl

pub restored_news : (from : ℕ) (entries : List Entry) (s : Server) → addressed parties.Master (restored from entries s).sent ≡ when (begins_to_act s (with_history s entries)) (Ready ∷ []) ++ when (is_none s.at_least) (Caught from (length entries) ∷ [])
restored_news from entries s = addressed-append parties.Master (tail_news s (with_history s entries)) (when (is_none s.at_least) ((parties.Master, Caught from (length entries)) ∷ []))
    ∙ ap (λ us. us ++ addressed parties.Master (when (is_none s.at_least) ((parties.Master, Caught from (length entries)) ∷ []))) (tail_master s (with_history s entries))
    ∙ ap (λ us. when (begins_to_act s (with_history s entries)) (Ready ∷ []) ++ us) (caught_news (is_none s.at_least) from (length entries))

-- ---- messages that say nothing of who acts

abbrev Calm : Message → Type 0
Calm Ready = ⊥
Calm (Adopt s n) = ⊥
Calm (Adopted s n) = ⊥
Calm m = Unit {0}

calm_names : (used : List ℕ) (m : Message) → Calm m → Names used m
calm_names used (Adopt s n) h = absurd h
calm_names used (Adopted s n) h = absurd h
calm_names used m h = tt

calm_hands : (n : ℕ) (free : Type 0) (x : ℕ) (m : Message) → Calm m → HandsOver n free x m
calm_hands n free x (Adopted s i) h = absurd h
calm_hands n free x m h = tt

calm_not_on : (j : ℕ) (m : Message) → Calm m → NotOn j m
calm_not_on j (Adopt s n) h = absurd h
calm_not_on j (Adopted s n) h = absurd h
calm_not_on j m h = tt

calm_readies : (ms : List Message) → Each Calm ms → readies ms ≡ 0
calm_readies [] h = refl
calm_readies (Ready ∷ ms) h = absurd h.0
calm_readies (m ∷ ms) h = skip m h (calm_readies ms h.1) where
  skip : (y : Message) → Each Calm (y ∷ ms) → readies ms ≡ 0 → readies (y ∷ ms) ≡ 0
  skip Ready g e = absurd g.0
  skip y g e = e

calm_caught : (t : Bool) (from n : ℕ) → Each Calm (when t (Caught from n ∷ []))
calm_caught true from n = (tt, tt)
calm_caught false from n = tt

-- what says that a server acts, or nothing
ready_names : (used : List ℕ) (t : Bool) → Each (Names used) (when t (Ready ∷ []))
ready_names used true = (tt, tt)
ready_names used false = tt

ready_hands : (n : ℕ) (free : Type 0) (x : ℕ) (t : Bool) → Each (HandsOver n free x) (when t (Ready ∷ []))
ready_hands n free x true = (tt, tt)
ready_hands n free x false = tt

ready_count : (t : Bool) → readies (when t (Ready ∷ [])) ≡ bit t
ready_count true = refl
ready_count false = refl

ready_not_on : (j : ℕ) (t : Bool) → Each (NotOn j) (when t (Ready ∷ []))
ready_not_on j true = (tt, tt)
ready_not_on j false = tt

-- ---- who lives

-- a full server lives after a turn in which this one stays what it was
still_lives : (v : View) (c : List Entry) (k : ℕ) (s : Server) → Commits v c → ((v.server k).full ≡ true → s.full ≡ true) → s.down ≡ (v.server k).down
    → (id : ℕ) × (is_in v.master.used id ≡ true) × ((set_at v.server k s id).full ≡ true) × ((set_at v.server k s id).down ≡ false)
still_lives v c k s h full down = let both = go (eqb h.lives.0 k) refl in (h.lives.0, h.lives.1, both.0, both.1) where
  go : (t : Bool) → eqb h.lives.0 k ≡ t → ((cond t s (v.server h.lives.0)).full ≡ true) × ((cond t s (v.server h.lives.0)).down ≡ false)
  go true e = (full (subst (λ i. (v.server i).full ≡ true) (eqb-true h.lives.0 k e) h.lives.2), down ∙ subst (λ i. (v.server i).down ≡ false) (eqb-true h.lives.0 k e) h.lives.3)
  go false e = (h.lives.2, h.lives.3)

-- ---- steps that leave all that matters

pub plain-acting : (v : View) (c : List Entry) (from : Party) (k : ℕ) (rest : List Message) (s : Server) (out : List (Party × Message)) → Prefixes v → Commits v c → is_in v.master.chain k ≡ true
    → s.entries ≡ (v.server k).entries → s.at_least ≡ (v.server k).at_least → s.full ≡ (v.server k).full
    → tails (master_after v from k rest) ≡ tails (v.channel parties.Master (parties.Server k)) → Each Calm (addressed parties.Master out)
    → (id : ℕ) × (is_in v.master.used id ≡ true) × ((set_at v.server k s id).full ≡ true) × ((set_at v.server k s id).down ≡ false) → Acting v c from k rest s out
plain-acting v c from k rest s out g h member entries least full same_tails calm lives = record {
  acting = λ does. full ∙ h.acting k (sym same_acts ∙ does);
  fulls = λ is. inl (sym full ∙ is);
  stays_full = λ was. full ∙ was;
  named = each-follows Calm (Names v.master.used) (addressed parties.Master out) (calm_names v.master.used) calm;
  stages = omega (arith, same_tails, calm_readies (addressed parties.Master out) calm, same_waits);
  alone = λ is not_last. h.alone k member (ap (λ o. is_some o) (sym least) ∙ is) not_last;
  untold = λ last told. least ∙ h.untold k last told;
  heard = λ last told none. ap (λ o. is_some o) least ∙ h.heard k last told (sym same_tails ∙ none);
  free = λ told none. least ∙ none;
  hands_over = λ told x last. each-follows Calm (HandsOver (length c) (Free (turn v from k rest s out)) x) (addressed parties.Master out) (calm_hands (length c) (Free (turn v from k rest s out)) x) calm;
  young_least = λ n young is. h.young_least k n member young (sym least ∙ is);
  old_least = λ n old is. subst (λ us. n ≤ length us) (sym entries) (h.old_least k n member old (sym least ∙ is));
  tells = λ young does. absurd (both_ways (v.server k).full young (h.acting k (sym same_acts ∙ does)));
  others = λ j joins. each-follows Calm (NotOn j) (addressed parties.Master out) (calm_not_on j) calm;
  quiet = λ joins. calm_readies (addressed parties.Master out) calm;
  lives = lives;
} where
  same_acts : acts s ≡ acts (v.server k)
  same_acts = ap (λ o. reaches (length s.entries) o) least ∙ ap (λ us. reaches (length us) (v.server k).at_least) entries

  same_waits : bit (waits s) ≡ bit (waits (v.server k))
  same_waits = ap (λ o. bit (is_some o && not (acts s))) least ∙ ap (λ b. bit (is_some (v.server k).at_least && not b)) same_acts

-- ---- steps by which the history grows

-- with more entries it acts if it did
still_reaches : (o : Option ℕ) (n m : ℕ) → n ≤ m → reaches n o ≡ true → reaches m o ≡ true
still_reaches None n m le h = absurd (false≢true h)
still_reaches (Some least) n m le h = le-leb least m (omega (arith, leb-true least n h, le))

-- its stage is the same: it says that it acts when it waits no more
same_stage : (o : Option ℕ) (n m : ℕ) → n ≤ m → bit (reaches m o && not (reaches n o)) + bit (is_some o && not (reaches m o)) ≡ bit (is_some o && not (reaches n o))
same_stage None n m le = refl
same_stage (Some least) n m le = go (reaches n (Some least)) (reaches m (Some least)) refl refl where
  go : (a b : Bool) → reaches n (Some least) ≡ a → reaches m (Some least) ≡ b → bit (b && not a) + bit (not b) ≡ bit (not a)
  go true true e f = refl
  go true false e f = absurd (both_ways (reaches m (Some least)) f (still_reaches (Some least) n m le e))
  go false true e f = refl
  go false false e f = refl

settled_full : (x : Server) → (settled x).full ≡ true → (x.full ≡ true) ⊎ (acts x ≡ true)
settled_full x = go (acts x) refl where
  go : (t : Bool) → acts x ≡ t → (cond t (record x { acked = length x.entries; floor = length x.entries; full = true }) x).full ≡ true → (x.full ≡ true) ⊎ (acts x ≡ true)
  go true e h = inr e
  go false e h = inl h

settled_acting : (x : Server) → acts x ≡ true → (settled x).full ≡ true
settled_acting x h = ap (λ b. (cond b (record x { acked = length x.entries; floor = length x.entries; full = true }) x).full) h

settled_stays : (x : Server) → x.full ≡ true → (settled x).full ≡ true
settled_stays x h = go (acts x) where
  go : (t : Bool) → (cond t (record x { acked = length x.entries; floor = length x.entries; full = true }) x).full ≡ true
  go true = refl
  go false = h

-- a server that settles acts as before
settled_acts : (x : Server) → acts (settled x) ≡ acts x
settled_acts x = let now = is_settled x in ap (λ us. reaches (length us) (settled x).at_least) now.entries ∙ ap (λ o. reaches (length x.entries) o) now.at_least

pub grown-acting : (v : View) (c : List Entry) (from : Party) (k : ℕ) (rest : List Message) (x : Server) (out : List (Party × Message)) (more : List Message) → Prefixes v → Commits v c → is_in v.master.chain k ≡ true
    → length (v.server k).entries ≤ length x.entries → x.at_least ≡ (v.server k).at_least → x.full ≡ (v.server k).full → x.down ≡ (v.server k).down
    → tails (master_after v from k rest) ≡ tails (v.channel parties.Master (parties.Server k)) → addressed parties.Master out ≡ when (begins_to_act (v.server k) x) (Ready ∷ []) ++ more → Each Calm more → Acting v c from k rest (settled x) out
grown-acting v c from k rest x out more g h member grows least full down same_tails news calm = record {
  acting = λ does. settled_acting x (sym (settled_acts x) ∙ does);
  fulls = λ is. elim (settled_full x is) [ inl was ↦ inl (sym full ∙ was) | inr does ↦ inr (settled_acts x ∙ does) ];
  stays_full = λ was. settled_stays x (full ∙ was);
  named = subst (λ ms. Each (Names v.master.used) ms) (sym news) (each-append (Names v.master.used) (when (begins_to_act (v.server k) x) (Ready ∷ [])) more (ready_names v.master.used (begins_to_act (v.server k) x)) (each-follows Calm (Names v.master.used) more (calm_names v.master.used) calm));
  stages = omega (arith, same_tails, told, same_waits, stage);
  alone = λ is not_last. h.alone k member (ap (λ o. is_some o) (sym same_least) ∙ is) not_last;
  untold = λ last told. same_least ∙ h.untold k last told;
  heard = λ last told none. ap (λ o. is_some o) same_least ∙ h.heard k last told (sym same_tails ∙ none);
  free = λ told none. same_least ∙ none;
  hands_over = λ told z last. subst (λ ms. Each (HandsOver (length c) (Free (turn v from k rest (settled x) out)) z) ms) (sym news) (each-append (HandsOver (length c) (Free (turn v from k rest (settled x) out)) z) (when (begins_to_act (v.server k) x) (Ready ∷ [])) more
      (ready_hands (length c) (Free (turn v from k rest (settled x) out)) z (begins_to_act (v.server k) x)) (each-follows Calm (HandsOver (length c) (Free (turn v from k rest (settled x) out)) z) more (calm_hands (length c) (Free (turn v from k rest (settled x) out)) z) calm));
  young_least = λ n young is. h.young_least k n member young (sym same_least ∙ is);
  old_least = λ n old is. omega (arith, h.old_least k n member old (sym same_least ∙ is), grows, ap length now.entries);
  tells = λ young does. omega (arith, told, begun young does);
  others = λ j joins. subst (λ ms. Each (NotOn j) ms) (sym news) (each-append (NotOn j) (when (begins_to_act (v.server k) x) (Ready ∷ [])) more (ready_not_on j (begins_to_act (v.server k) x)) (each-follows Calm (NotOn j) more (calm_not_on j) calm));
  quiet = λ joins. absurd (both_ways (is_that v.master.joiner k) (member-other v.master.chain v.master.joiner k g.apart member) joins);
  lives = still_lives v c k (settled x) h (λ was. settled_stays x (full ∙ was)) (now.down ∙ down);
} where
  now : IsSettled x (settled x)
  now = is_settled x

  told : readies (addressed parties.Master out) ≡ bit (begins_to_act (v.server k) x)
  told = omega (arith, ap readies news, readies-append (when (begins_to_act (v.server k) x) (Ready ∷ [])) more, ready_count (begins_to_act (v.server k) x), calm_readies more calm)

  same_least : (settled x).at_least ≡ (v.server k).at_least
  same_least = now.at_least ∙ least

  acts_x : acts x ≡ reaches (length x.entries) (v.server k).at_least
  acts_x = ap (λ o. reaches (length x.entries) o) least

  same_waits : bit (waits (settled x)) ≡ bit (is_some (v.server k).at_least && not (reaches (length x.entries) (v.server k).at_least))
  same_waits = ap (λ o. bit (is_some o && not (acts (settled x)))) same_least ∙ ap (λ b. bit (is_some (v.server k).at_least && not b)) (settled_acts x ∙ acts_x)

  stage : bit (begins_to_act (v.server k) x) + bit (is_some (v.server k).at_least && not (reaches (length x.entries) (v.server k).at_least)) ≡ bit (waits (v.server k))
  stage = ap (λ b. bit (b && not (acts (v.server k))) + bit (is_some (v.server k).at_least && not (reaches (length x.entries) (v.server k).at_least))) acts_x ∙ same_stage (v.server k).at_least (length (v.server k).entries) (length x.entries) grows

  begun : (v.server k).full ≡ false → acts (settled x) ≡ true → 1 ≤ bit (begins_to_act (v.server k) x)
  begun young does = go (acts (v.server k)) refl where
    go : (t : Bool) → acts (v.server k) ≡ t → 1 ≤ bit (acts x && not t)
    go true e = absurd (both_ways (v.server k).full young (h.acting k e))
    go false e = subst (λ b. 1 ≤ bit (b && not false)) (sym (sym (settled_acts x) ∙ does)) (omega arith)

-- ---- orders of the master

-- a server that is told to be the tail is the last
told_last : (v : View) (c : List Entry) (k least : ℕ) (rest : List Message) → Commits v c → is_in v.master.chain k ≡ true → v.channel parties.Master (parties.Server k) ≡ BeTail least ∷ rest
    → (is_last v.master.chain k ≡ true) × (v.master.told ≡ true) × (waits (v.server k) ≡ false)
told_last v c k least rest h member taken = go (is_last v.master.chain k) v.master.told v.master.ready (waits (v.server k)) refl refl refl refl where
  one : 1 ≤ tails (v.channel parties.Master (parties.Server k))
  one = subst (λ ms. 1 ≤ tails ms) (sym taken) (omega arith)

  go : (a b r w : Bool) → is_last v.master.chain k ≡ a → v.master.told ≡ b → v.master.ready ≡ r → waits (v.server k) ≡ w → (a ≡ true) × (b ≡ true) × (w ≡ false)
  go true true r false ea eb er ew = (refl, refl, refl)
  go true true r true ea eb er ew = absurd (omega (arith, one, stage_one v c k h member, ap (λ x. bit x) ew))
  go true false r w ea eb er ew = absurd (omega (arith, one, h.stages k member, ap (λ x. bit (x && (v.master.told && not v.master.ready))) ea, ap (λ x. bit (x && not v.master.ready)) eb))
  go false b r w ea eb er ew = absurd (omega (arith, one, h.stages k member, ap (λ x. bit (x && (v.master.told && not v.master.ready))) ea))

tail_acting : (v : View) (c : List Entry) (k least : ℕ) (rest : List Message) → Prefixes v → Commits v c → is_in v.master.chain k ≡ true → v.channel parties.Master (parties.Server k) ≡ BeTail least ∷ rest
    → Acting v c parties.Master k rest (tailed least (v.server k)).server (tailed least (v.server k)).sent
tail_acting v c k least rest g h member taken = record {
  acting = λ does. settled_acting x (sym (settled_acts x) ∙ does);
  fulls = λ is. elim (settled_full x is) [ inl was ↦ inl was | inr does ↦ inr (settled_acts x ∙ does) ];
  stays_full = λ was. settled_stays x was;
  named = subst (λ ms. Each (Names v.master.used) ms) (sym news) (ready_names v.master.used (acts x));
  stages = omega (arith, ap tails taken, ap readies news ∙ ready_count (acts x), waits_now, ap (λ b. bit b) at.2);
  alone = λ is not_last. absurd (both_ways (is_last v.master.chain k) not_last at.0);
  untold = λ last told. absurd (both_ways v.master.told told at.1);
  heard = λ last told none. ap (λ o. is_some o) now.at_least;
  free = λ told none. absurd (both_ways v.master.told told at.1);
  hands_over = λ told z last. absurd (both_ways v.master.told told at.1);
  young_least = λ n young is. subst (λ i. length c ≤ i) (same_some least n (sym now.at_least ∙ is)) (subst (λ ms. Each (Enough (length c)) ms) taken (h.young_told k member young)).0;
  old_least = λ n old is. omega (arith, same_some least n (sym now.at_least ∙ is), (subst (λ ms. Each Zero ms) taken (h.old_told k member old)).0);
  tells = λ young does. omega (arith, ap readies news ∙ ready_count (acts x), ap (λ b. bit b) (sym (settled_acts x) ∙ does));
  others = λ j joins. subst (λ ms. Each (NotOn j) ms) (sym news) (ready_not_on j (acts x));
  quiet = λ joins. absurd (both_ways (is_that v.master.joiner k) (member-other v.master.chain v.master.joiner k g.apart member) joins);
  lives = still_lives v c k (settled x) h (λ was. settled_stays x was) now.down;
} where
  x : Server
  x = as_tail least (v.server k)

  now : IsSettled x (settled x)
  now = is_settled x

  at : (is_last v.master.chain k ≡ true) × (v.master.told ≡ true) × (waits (v.server k) ≡ false)
  at = told_last v c k least rest h member taken

  same_some : (a b : ℕ) → Some a ≡ Some b → a ≡ b
  same_some a b e = cc

  news : addressed parties.Master (tailed least (v.server k)).sent ≡ when (acts x) (Ready ∷ [])
  news = go (acts (as_tail least (v.server k))) where
    go : (t : Bool) → addressed parties.Master (when t (to_server (v.server k).pred (Ack (length (v.server k).entries)) ++ (parties.Master, Ready) ∷ [])) ≡ when t (Ready ∷ [])
    go true = addressed-append parties.Master (to_server (v.server k).pred (Ack (length (v.server k).entries))) ((parties.Master, Ready) ∷ []) ∙ ap (λ us. us ++ Ready ∷ []) (server_news (v.server k).pred (Ack (length (v.server k).entries)))
    go false = refl

  waits_now : bit (acts x) + bit (waits (settled x)) ≡ 1
  waits_now = ap (λ o. bit (acts x) + bit (is_some o && not (acts (settled x)))) now.at_least ∙ ap (λ b. bit (acts x) + bit (not b)) (settled_acts x) ∙ go (acts x) where
    go : (t : Bool) → bit t + bit (not t) ≡ 1
    go true = refl
    go false = refl

-- who stands directly before the last, while that isn't told, is the only one that may have been the tail
adopt_acting : (v : View) (c : List Entry) (k succ have : ℕ) (rest : List Message) → Prefixes v → Commits v c → is_in v.master.chain k ≡ true → v.channel parties.Master (parties.Server k) ≡ Adopt succ have ∷ rest
    → Acting v c parties.Master k rest (adopting succ have (v.server k)).server (adopting succ have (v.server k)).sent
adopt_acting v c k succ have rest g h member taken = record {
  acting = λ does. absurd (false≢true does);
  fulls = λ is. inl is;
  stays_full = λ was. was;
  named = subst (λ ms. Each (Names v.master.used) ms) (sym news) ((subst (λ ms. Each (Names v.master.used) ms) taken (h.orders_named k)).0, tt);
  stages = omega (arith, ap tails taken, ap readies news, idle);
  alone = λ is not_last. absurd (false≢true is);
  untold = λ last told. refl;
  heard = λ last told none. absurd ((subst Retires taken (h.retires k last)).0 none);
  free = λ told none. refl;
  hands_over = λ told z last. subst (λ ms. Each (HandsOver (length c) (Free w) z) ms) (sym news) ((λ is. handed told z last (eqb-true succ z is)), tt);
  young_least = λ n young is. absurd (some_none n (sym is));
  old_least = λ n old is. absurd (some_none n (sym is));
  tells = λ young does. absurd (false≢true does);
  others = λ j joins. subst (λ ms. Each (NotOn j) ms) (sym news) ((subst (λ ms. Each (NotOn j) ms) taken (h.unnamed_orders j joins k)).0, tt);
  quiet = λ joins. ap readies news;
  lives = still_lives v c k s h (λ was. was) refl;
} where
  s : Server
  s = record (v.server k) { at_least = None; succ = Some succ }

  w : View
  w = turn v parties.Master k rest (adopting succ have (v.server k)).server (adopting succ have (v.server k)).sent

  news : addressed parties.Master (adopting succ have (v.server k)).sent ≡ Adopted succ (length (v.server k).entries) ∷ []
  news = addressed-append parties.Master (when (not (is_that (v.server k).succ succ)) (repair succ have (v.server k))) ((parties.Master, Adopted succ (length (v.server k).entries)) ∷ [])
      ∙ ap (λ us. us ++ Adopted succ (length (v.server k).entries) ∷ []) (new_repair_news (not (is_that (v.server k).succ succ)) succ have (v.server k))

  idle : bit (waits (v.server k)) ≡ 0
  idle = go (waits (v.server k)) (is_last v.master.chain k) refl refl where
    go : (t l : Bool) → waits (v.server k) ≡ t → is_last v.master.chain k ≡ l → bit t ≡ 0
    go false l e f = refl
    go true false e f = absurd (omega (arith, h.stages k member, ap (λ b. bit b) e, ap (λ b. bit (b && (v.master.told && not v.master.ready))) f))
    go true true e f = absurd ((subst Retires taken (h.retires k f)).0 (omega (arith, stage_one v c k h member, ap (λ b. bit b) e, ap tails taken)))

  handed : v.master.told ≡ false → (z : ℕ) → is_last v.master.chain z ≡ true → succ ≡ z → (length c ≤ length (v.server k).entries) × Free (turn v parties.Master k rest (adopting succ have (v.server k)).server (adopting succ have (v.server k)).sent)
  handed told z last is =
      let pair = (subst (λ ms. Each (Pairs v.master.chain k) ms) taken (h.pairs k member)).0 (subst (λ i. is_in v.master.chain i ≡ true) (sym is) (last-in v.master.chain z last)) in
      let before = subst (λ i. stands_before k i v.master.chain ≡ true) is pair in
      (enough (before-last k z v.master.chain (chain-apart v g) before), λ j m. by_server v k s (λ i y. is_in v.master.chain i ≡ true → y.at_least ≡ None) (λ own. refl) (λ i other there. none i other there before) j m) where
        enough : (is_last v.master.chain k ≡ true → ⊥) → length c ≤ length (v.server k).entries
        enough not_last = elim (cases_Bool (v.server k).full) [
          | inl full ↦ let prefix = h.old k member full in omega (arith, ap length prefix.1, length-append c prefix.0)
          | inr young ↦ absurd (not_last (h.young_last k member young))
        ]

        none : (i : ℕ) → eqb i k ≡ false → is_in v.master.chain i ≡ true → stands_before k z v.master.chain ≡ true → (v.server i).at_least ≡ None
        none i other there before = elim (cases_Bool (is_some (v.server i).at_least)) [
          | inr empty ↦ least-none (v.server i).at_least empty
          | inl some ↦ elim (cases_Bool (is_last v.master.chain i)) [
            | inl end ↦ h.untold i end told
            | inr not_end ↦ let rule = h.alone i there some not_end in elim (before-either v.master.chain i k there member other) [
              | inl first ↦ absurd (before-last k z v.master.chain (chain-apart v g) before (subst (λ j. is_last v.master.chain j ≡ true) (sym (before-only v.master.chain i k z (chain-apart v g) (rule.1 z last) last first)) last))
              | inr second ↦ absurd (both_ways (is_last v.master.chain i) not_end (subst (λ j. is_last v.master.chain j ≡ true) (sym (before-only v.master.chain k i z (chain-apart v g) before last second)) last))
            ]
          ]
        ]

-- ---- all messages

-- the server keeps all that matters
abbrev Keeping : View → List Entry → ℕ → Server → Type 0
Keeping v c k s = (id : ℕ) × (is_in v.master.used id ≡ true) × ((set_at v.server k s id).full ≡ true) × ((set_at v.server k s id).down ≡ false)

as_it_was : (v : View) (c : List Entry) (k : ℕ) → Commits v c → Keeping v c k (v.server k)
as_it_was v c k h = still_lives v c k (v.server k) h (λ was. was) refl

server_acting : (v : View) (c : List Entry) (p k : ℕ) (m : Message) (rest : List Message) → Prefixes v → Commits v c → is_in v.master.chain k ≡ true
    → Acting v c (parties.Server p) k rest (takes (parties.Server p) m (v.server k)).server (takes (parties.Server p) m (v.server k)).sent
unfolding takes
server_acting v c p k (Fwd place e) rest g h member = go (is_next (v.server k) p place e) where
  go : (t : Bool) → Acting v c (parties.Server p) k rest (cond t (forwarded e (v.server k)) (silent (v.server k))).server (cond t (forwarded e (v.server k)) (silent (v.server k))).sent
  go true = grown-acting v c (parties.Server p) k rest (appended (v.server k) e) (passed_on (v.server k) e ++ tail_news (v.server k) (appended (v.server k) e)) [] g h member
      (omega (arith, length-append (v.server k).entries (e ∷ []))) refl refl refl refl
      (addressed-append parties.Master (passed_on (v.server k) e) (tail_news (v.server k) (appended (v.server k) e)) ∙ ap (λ us. us ++ addressed parties.Master (tail_news (v.server k) (appended (v.server k) e))) (passed_news (v.server k) e) ∙ tail_master (v.server k) (appended (v.server k) e)
      ∙ sym (append-nil (when (begins_to_act (v.server k) (appended (v.server k) e)) (Ready ∷ [])))) tt
  go false = plain-acting v c (parties.Server p) k rest (v.server k) [] g h member refl refl refl refl tt (as_it_was v c k h)
server_acting v c p k (Snap entries) rest g h member = go (is_restoring (v.server k) p entries) refl where
  go : (t : Bool) → is_restoring (v.server k) p entries ≡ t → Acting v c (parties.Server p) k rest (cond t (restored p entries (v.server k)) (silent (v.server k))).server (cond t (restored p entries (v.server k)) (silent (v.server k))).sent
  go true accepts = grown-acting v c (parties.Server p) k rest (with_history (v.server k) entries) (restored p entries (v.server k)).sent (when (is_none (v.server k).at_least) (Caught p (length entries) ∷ [])) g h member
      (leb-true (length (v.server k).entries) (length entries) (and_parts (is_that (v.server k).pred p && is_none (v.server k).succ) (nat_le (length (v.server k).entries) (length entries)) accepts).1) refl refl refl refl
      (restored_news p entries (v.server k)) (calm_caught (is_none (v.server k).at_least) p (length entries))
  go false ignores = plain-acting v c (parties.Server p) k rest (v.server k) [] g h member refl refl refl refl tt (as_it_was v c k h)
server_acting v c p k (Ack n) rest g h member = go (nat_lt (v.server k).acked (min n (length (v.server k).entries))) where
  now : Server
  now = record (v.server k) { acked = min n (length (v.server k).entries); floor = max (v.server k).floor (min n (length (v.server k).entries)) }

  go : (t : Bool) → Acting v c (parties.Server p) k rest (cond t (record { server = record (v.server k) { acked = min n (length (v.server k).entries); floor = max (v.server k).floor (min n (length (v.server k).entries)) }; sent = to_server (v.server k).pred (Ack (min n (length (v.server k).entries))) }) (silent (v.server k))).server
      (cond t (record { server = record (v.server k) { acked = min n (length (v.server k).entries); floor = max (v.server k).floor (min n (length (v.server k).entries)) }; sent = to_server (v.server k).pred (Ack (min n (length (v.server k).entries))) }) (silent (v.server k))).sent
  go true = plain-acting v c (parties.Server p) k rest now (to_server (v.server k).pred (Ack (min n (length (v.server k).entries)))) g h member refl refl refl refl
      (subst (λ ms. Each Calm ms) (sym (server_news (v.server k).pred (Ack (min n (length (v.server k).entries))))) tt) (still_lives v c k now h (λ was. was) refl)
  go false = plain-acting v c (parties.Server p) k rest (v.server k) [] g h member refl refl refl refl tt (as_it_was v c k h)
server_acting v c p k m rest g h member = plain-acting v c (parties.Server p) k rest (v.server k) [] g h member refl refl refl refl tt (as_it_was v c k h)

told_acting : (v : View) (c : List Entry) (k : ℕ) (m : Message) (rest : List Message) → Prefixes v → Commits v c → is_in v.master.chain k ≡ true → v.channel parties.Master (parties.Server k) ≡ m ∷ rest
    → Acting v c parties.Master k rest (takes parties.Master m (v.server k)).server (takes parties.Master m (v.server k)).sent
unfolding takes
told_acting v c k BeHead rest g h member taken = plain-acting v c parties.Master k rest (record (v.server k) { head = true; pred = None }) [] g h member refl refl refl (sym (ap tails taken)) tt (still_lives v c k (record (v.server k) { head = true; pred = None }) h (λ was. was) refl)
told_acting v c k (Report p) rest g h member taken = plain-acting v c parties.Master k rest (record (v.server k) { pred = Some p }) _ g h member refl refl refl (sym (ap tails taken)) (tt, tt) (still_lives v c k (record (v.server k) { pred = Some p }) h (λ was. was) refl)
told_acting v c k (Adopt succ have) rest g h member taken = adopt_acting v c k succ have rest g h member taken
told_acting v c k (BeTail least) rest g h member taken = tail_acting v c k least rest g h member taken
told_acting v c k (Feed succ) rest g h member taken = go (acts (v.server k)) where
  go : (t : Bool) → Acting v c parties.Master k rest (cond t (feeding succ (v.server k)) (silent (v.server k))).server (cond t (feeding succ (v.server k)) (silent (v.server k))).sent
  go true = plain-acting v c parties.Master k rest (record (v.server k) { succ = succ }) (to_server succ (Snap (v.server k).entries)) g h member refl refl refl (sym (ap tails taken))
      (subst (λ ms. Each Calm ms) (sym (server_news succ (Snap (v.server k).entries))) tt) (still_lives v c k (record (v.server k) { succ = succ }) h (λ was. was) refl)
  go false = plain-acting v c parties.Master k rest (v.server k) [] g h member refl refl refl (sym (ap tails taken)) tt (as_it_was v c k h)
told_acting v c k m rest g h member taken = plain-acting v c parties.Master k rest (v.server k) [] g h member refl refl refl (sym (ap tails taken)) tt (as_it_was v c k h)

-- a member that takes any message
member_acting : (v : View) (c : List Entry) (from : Party) (k : ℕ) (m : Message) (rest : List Message) → Prefixes v → Commits v c → is_in v.master.chain k ≡ true → v.channel from (parties.Server k) ≡ m ∷ rest
    → Acting v c from k rest (takes from m (v.server k)).server (takes from m (v.server k)).sent
unfolding takes
member_acting v c parties.Master k m rest g h member taken = told_acting v c k m rest g h member taken
member_acting v c parties.Clients k m rest g h member taken = plain-acting v c parties.Clients k rest (v.server k) [] g h member refl refl refl refl tt (as_it_was v c k h)
member_acting v c (parties.Server p) k m rest g h member taken = server_acting v c p k m rest g h member

-- ---- outsiders

-- another server is full and lives
aside_lives : (v : View) (c : List Entry) (k : ℕ) (s : Server) → Commits v c → (v.server k).full ≡ false → Keeping v c k s
aside_lives v c k s h young = (h.lives.0, h.lives.1, ap (λ b. (cond b s (v.server h.lives.0)).full) other ∙ h.lives.2, ap (λ b. (cond b s (v.server h.lives.0)).down) other ∙ h.lives.3) where
  other : eqb h.lives.0 k ≡ false
  other = elim (cases_Bool (eqb h.lives.0 k)) [
    | inl same ↦ absurd (both_ways (v.server k).full young (subst (λ i. (v.server i).full ≡ true) (eqb-true h.lives.0 k same) h.lives.2))
    | inr others ↦ others
  ]

aside_waits : (s : Server) → s.at_least ≡ None → bit (waits s) ≡ 0
aside_waits s none = ap (λ o. bit (is_some o && not (acts s))) none

-- A turn of an outsider, of which it tells the master nothing of who acts.
aside_acting : (v : View) (c : List Entry) (from : Party) (k : ℕ) (rest : List Message) (s : Server) (out : List (Party × Message)) → Commits v c → is_in v.master.chain k ≡ false → Outsider (v.server k) (v.channel parties.Master (parties.Server k))
    → Outsider s (master_after v from k rest) → Each Calm (addressed parties.Master out) → Acting v c from k rest s out
aside_acting v c from k rest s out h outside b now calm = record {
  acting = λ does. absurd (both_ways (acts s) (aside-acts s now.at_least) does);
  fulls = λ is. absurd (both_ways s.full now.full is);
  stays_full = λ was. absurd (both_ways (v.server k).full b.full was);
  named = each-follows Calm (Names v.master.used) (addressed parties.Master out) (calm_names v.master.used) calm;
  stages = omega (
    arith,
    harmless_tails (master_after v from k rest) now.told,
    calm_readies (addressed parties.Master out) calm,
    aside_waits s now.at_least,
    harmless_tails (v.channel parties.Master (parties.Server k)) b.told,
    aside_waits (v.server k) b.at_least,
  );
  alone = λ is not_last. absurd (false≢true (sym (ap (λ o. is_some o) now.at_least) ∙ is));
  untold = λ last told. now.at_least;
  heard = λ last told none. absurd (both_ways (is_in v.master.chain k) outside (last-in v.master.chain k last));
  free = λ told none. now.at_least;
  hands_over = λ told x last. each-follows Calm (HandsOver (length c) (Free (turn v from k rest s out)) x) (addressed parties.Master out) (calm_hands (length c) (Free (turn v from k rest s out)) x) calm;
  young_least = λ n young is. absurd (some_none n (sym is ∙ now.at_least));
  old_least = λ n old is. absurd (some_none n (sym is ∙ now.at_least));
  tells = λ young does. absurd (both_ways (acts s) (aside-acts s now.at_least) does);
  others = λ j joins. each-follows Calm (NotOn j) (addressed parties.Master out) (calm_not_on j) calm;
  quiet = λ joins. calm_readies (addressed parties.Master out) calm;
  lives = aside_lives v c k s h b.full;
}

-- an outsider doesn't begin to act
aside_begins : (before now : Server) → now.at_least ≡ None → begins_to_act before now ≡ false
aside_begins before now none = ap (λ b. b && not (acts before)) (aside-acts now none)

-- what it tells the master when it takes a message
aside_says : (v : View) (from : Party) (k : ℕ) (m : Message) (rest : List Message) → v.channel from (parties.Server k) ≡ m ∷ rest → Outsider (v.server k) (v.channel parties.Master (parties.Server k)) → Each Calm (addressed parties.Master (takes from m (v.server k)).sent)
unfolding takes
aside_says v parties.Master k BeHead rest taken b = tt
aside_says v parties.Master k (Report p) rest taken b = (tt, tt)
aside_says v parties.Master k (Adopt succ have) rest taken b = absurd (subst (λ ms. Each Harmless ms) taken b.told).0
aside_says v parties.Master k (BeTail least) rest taken b = absurd (subst (λ ms. Each Harmless ms) taken b.told).0
aside_says v parties.Master k (Feed succ) rest taken b = absurd (subst (λ ms. Each Harmless ms) taken b.told).0
aside_says v parties.Master k m rest taken b = tt
aside_says v parties.Clients k m rest taken b = tt
aside_says v (parties.Server p) k (Fwd place e) rest taken b = go (is_next (v.server k) p place e) where
  s : Server
  s = v.server k

  go : (t : Bool) → Each Calm (addressed parties.Master (cond t (forwarded e (v.server k)) (silent (v.server k))).sent)
  go true = subst (λ ms. Each Calm ms) (sym (addressed-append parties.Master (passed_on s e) (tail_news s (appended s e)) ∙ ap (λ us. us ++ addressed parties.Master (tail_news s (appended s e))) (passed_news s e) ∙ tail_master s (appended s e)
      ∙ ap (λ t. when t (Ready ∷ [])) (aside_begins s (appended s e) b.at_least))) tt
  go false = tt
aside_says v (parties.Server p) k (Snap entries) rest taken b = go (is_restoring (v.server k) p entries) where
  s : Server
  s = v.server k

  go : (t : Bool) → Each Calm (addressed parties.Master (cond t (restored p entries (v.server k)) (silent (v.server k))).sent)
  go true = subst (λ ms. Each Calm ms) (sym (restored_news p entries s ∙ ap (λ t. when t (Ready ∷ []) ++ when (is_none s.at_least) (Caught p (length entries) ∷ [])) (aside_begins s (with_history s entries) b.at_least))) (calm_caught (is_none s.at_least) p (length entries))
  go false = tt
aside_says v (parties.Server p) k (Ack n) rest taken b = go (nat_lt (v.server k).acked (min n (length (v.server k).entries))) where
  go : (t : Bool) → Each Calm (addressed parties.Master (cond t (record { server = record (v.server k) { acked = min n (length (v.server k).entries); floor = max (v.server k).floor (min n (length (v.server k).entries)) }; sent = to_server (v.server k).pred (Ack (min n (length (v.server k).entries))) }) (silent (v.server k))).sent)
  go true = subst (λ ms. Each Calm ms) (sym (server_news (v.server k).pred (Ack (min n (length (v.server k).entries))))) tt
  go false = tt
aside_says v (parties.Server p) k m rest taken b = tt

-- A server that takes any message.
pub take-acting : (v : View) (c : List Entry) (from : Party) (k : ℕ) (m : Message) (rest : List Message) → Prefixes v → Commits v c → is_in v.master.used k ≡ true → (v.server k).down ≡ false → v.channel from (parties.Server k) ≡ m ∷ rest
    → Acting v c from k rest (takes from m (v.server k)).server (takes from m (v.server k)).sent
take-acting v c from k m rest g h known lives taken = elim (lives-placed v k g known lives) [
  | inl member ↦ member_acting v c from k m rest g h member taken
  | inr b ↦ aside_acting v c from k rest (takes from m (v.server k)).server (takes from m (v.server k)).sent h b.0 b.1 ((take-turn v from k m rest g known lives taken).aside b.1) (aside_says v from k m rest taken b.1)
]

-- ---- requests, queries and crashes

-- who stands behind another one isn't the first
behind_first : (a : ℕ) (rest : List ℕ) (p s : ℕ) → Before p s (a ∷ rest) → is_in rest s ≡ true
behind_first a rest p s (inl first) = first.1
behind_first a [] p s (inr later) = absurd later
behind_first a (b ∷ rest) p s (inr later) = or_right (eqb b s) (is_in rest s) (behind_first b rest p s later)

-- a head isn't behind another one
head_behind : (v : View) (p k : ℕ) → Prefixes v → is_in (extended v.master) k ≡ true → (v.server k).head ≡ true → Before p k (extended v.master) → ⊥
head_behind v p k g there is_head before = go (extended v.master) g.linked before where
  go : (ids : List ℕ) → LinkedExtended v ids → Before p k ids → ⊥
  go [] l b = absurd b
  go (a ∷ rest) l b = linked_some v a rest k l (among-in rest k (behind_first a rest p k b)) (g.headless k there is_head)

-- the head is full
pub head-full : (v : View) (c : List Entry) (k : ℕ) → Prefixes v → Commits v c → is_in v.master.chain k ≡ true → (v.server k).head ≡ true → (v.server k).full ≡ true
head-full v c k g h member is_head = elim (cases_Bool (v.server k).full) [ inl full ↦ full | inr young ↦ absurd (no_head young) ] where
  no_head : (v.server k).full ≡ false → ⊥
  no_head young =
      let q = h.lives in
      let q_member = full-member v q.0 (lives-placed v q.0 g q.1 q.3) q.2 in
      let other : eqb k q.0 ≡ false = elim (cases_Bool (eqb k q.0)) [ inl e ↦ absurd (both_ways (v.server k).full young (subst (λ i. (v.server i).full ≡ true) (sym (eqb-true k q.0 e)) q.2)) | inr others ↦ others ] in
      elim (before-either v.master.chain k q.0 member q_member other) [
        | inl first ↦ both_ways (is_last v.master.chain k) (before-not-last v.master.chain k q.0 (chain-apart v g) first) (h.young_last k member young)
        | inr second ↦ head_behind v q.0 k g (member-extended v.master.chain v.master.joiner k member) is_head (before-prefix v.master.chain v.master.joiner q.0 k second)
      ]

-- a full server waits for nothing
full_begins : (v : View) (c : List Entry) (k : ℕ) (x : Server) → Commits v c → is_in v.master.chain k ≡ true → (v.server k).full ≡ true → x.at_least ≡ (v.server k).at_least → begins_to_act (v.server k) x ≡ false
full_begins v c k x h member full least = go (acts (v.server k)) (acts x) refl refl where
  go : (a b : Bool) → acts (v.server k) ≡ a → acts x ≡ b → (b && not a) ≡ false
  go true true e f = refl
  go true false e f = refl
  go false false e f = refl
  go false true e f = let some = some-least x.at_least (acts-least x f) in
      absurd (both_ways (acts (v.server k)) e (ap (λ o. reaches (length (v.server k).entries) o) (sym least ∙ some.1) ∙ le-leb some.0 (length (v.server k).entries) (h.old_least k some.0 member full (sym least ∙ some.1))))

-- A request arrives at the head.
pub arrive-acting : (v : View) (c : List Entry) (k clock : ℕ) (request : Request) → Prefixes v → Commits v c → is_in v.master.chain k ≡ true → (v.server k).head ≡ true
    → Acting v c parties.Clients k (v.channel parties.Clients (parties.Server k)) (arrived clock request (v.server k)).server (arrived clock request (v.server k)).sent
unfolding arrived
arrive-acting v c k clock request g h member is_head =
    let e : Entry = stamped (v.server k).entries clock request in
    grown-acting v c parties.Clients k (v.channel parties.Clients (parties.Server k)) (appended (v.server k) e) (passed_on (v.server k) e) [] g h member (omega (arith, length-append (v.server k).entries (e ∷ []))) refl refl refl refl
    (passed_news (v.server k) e ∙ sym (ap (λ b. when b (Ready ∷ []) ++ []) (full_begins v c k (appended (v.server k) e) h member (head-full v c k g h member is_head) refl))) tt

-- A query comes.
pub ask-acting : (v : View) (c : List Entry) (k : ℕ) (query : Query) → Prefixes v → Commits v c → is_in v.master.chain k ≡ true
    → Acting v c parties.Clients k (v.channel parties.Clients (parties.Server k)) (asked query (v.server k)).server (asked query (v.server k)).sent
unfolding asked
ask-acting v c k query g h member = plain-acting v c parties.Clients k (v.channel parties.Clients (parties.Server k)) (v.server k) _ g h member refl refl refl refl tt (as_it_was v c k h)

-- A server crashes while another full one lives.
pub crash-acting : (v : View) (c : List Entry) (k : ℕ) → Prefixes v → Commits v c → Placed v k
    → (id : ℕ) → eqb id k ≡ false → is_in v.master.used id ≡ true → (v.server id).full ≡ true → (v.server id).down ≡ false
    → Acting v c parties.Clients k (v.channel parties.Clients (parties.Server k)) (crashed (v.server k)).server (crashed (v.server k)).sent
crash-acting v c k g h (inr b) id other known full lives = aside_acting v c parties.Clients k (v.channel parties.Clients (parties.Server k)) (record (v.server k) { down = true }) [] h b.0 b.1
    (record { full = b.1.full; at_least = b.1.at_least; head = b.1.head; succ = b.1.succ; told = b.1.told }) tt
crash-acting v c k g h (inl member) id other known full lives = plain-acting v c parties.Clients k (v.channel parties.Clients (parties.Server k)) (record (v.server k) { down = true }) [] g h member refl refl refl refl tt
    (id, known, ap (λ b. (cond b (record (v.server k) { down = true }) (v.server id)).full) other ∙ full, ap (λ b. (cond b (record (v.server k) { down = true }) (v.server id)).down) other ∙ lives)
