-- What a server has to show that takes more entries, so that nothing is lost on the way.
use Rattle.std.proofs.Common.{◌≡◌, ℕ, ◌+◌, ◌≤◌, ◌<◌, ◌∙◌, ap, sym, List, [], ◌∷◌, ◌++◌, length, Option, Some, None, is_none, Bool, true, false, cond, eqb, arith, subst, refl, append-nil}
use Rattle.std.proofs.lemmas.Bool.{eqb-true, eq-eqb, false≢true, both_ways}
use Rattle.cq_base.specs.declared.ask.Entry.{Entry}
use Rattle.cq_base.specs.declared.party.Party.{Party}
use Rattle.cq_base.specs.declared.party.Party.TheVariants as parties
use Rattle.cq_chain.specs.Masters.{is_in, is_last, stands_before}
use Rattle.cq_chain.specs.Messages.{Message, Fwd, Ack, Caught, Ready, Answers}
use Rattle.cq_chain.specs.Parties.{addressed}
use Rattle.cq_chain.specs.Servers.{Server, acts, is_that}
use Rattle.cq_chain.specs.Steps.{to_server, when, appended, settled, begins_to_act, answer_to, passed_on, tail_news, with_history, restored}
use Rattle.cq_events.specs.Runs.{longer, acting_history}
use Rattle.cq_world.proofs.Commits.{longer-length}
use Rattle.cq_world.proofs.Commits.Steps.{addressed-append}
use Rattle.cq_world.proofs.Eaches.{Each, each-append, each-follows}
use Rattle.cq_world.proofs.Wholes.Feeding.{NoData, NoSnap, OfSnap, Feeds, all-data-snap, feeds-append, no-snap}
use Rattle.cq_world.proofs.Prefixes.Climbing.{reports, one}
use Rattle.cq_world.proofs.Prefixes.Steps.{Placed}
use Rattle.cq_world.proofs.Prefixes.{Prefixes, master_after}
use Rattle.cq_world.proofs.Settled.{IsSettled, is_settled}
use Rattle.cq_world.proofs.Views.{View, extended}
use Rattle.cq_world.proofs.Wholes.{Whole, reports_of, haves_of, adopts_of, OnlyTo, Catches, Known, HaveIs, AckWithin, links}
use Rattle.cq_world.proofs.Wholes.Steps.{Idle, NoCaught, idle_known, idle_have, idle_haves, no_haves, no_adopts, feeds_still, placed_link, placed_follows, placed_young}
use Rattle.cq_world.proofs.Wholes.Turns.{Feeding, left_between}

-- ---- what is sent

eqb_sym : (a b : ℕ) → eqb a b ≡ eqb b a
eqb_sym a b = go (eqb a b) (eqb b a) refl refl where
  go : (x y : Bool) → eqb a b ≡ x → eqb b a ≡ y → x ≡ y
  go true true e f = refl
  go false false e f = refl
  go true false e f = absurd (both_ways (eqb b a) f (eq-eqb b a (sym (eqb-true a b e))))
  go false true e f = absurd (both_ways (eqb a b) e (eq-eqb a b (sym (eqb-true b a f))))

-- what a server sends to others, of what it passes on: the entry to its successor
passed_row : (s : Server) (e : Entry) (x : ℕ) → addressed (parties.Server x) (passed_on s e) ≡ cond (is_that s.succ x) (Fwd (length s.entries + 1) e ∷ []) []
passed_row s e x = addressed-append (parties.Server x) (to_server s.succ (Fwd (length s.entries + 1) e)) (when (acts (appended s e)) ((parties.Clients, Answers (answer_to s.entries e)) ∷ []))
    ∙ ap (λ us. addressed (parties.Server x) (to_server s.succ (Fwd (length s.entries + 1) e)) ++ us) (no_answer (acts (appended s e))) ∙ append-nil (addressed (parties.Server x) (to_server s.succ (Fwd (length s.entries + 1) e))) ∙ to_one s.succ where
      no_answer : (t : Bool) → addressed (parties.Server x) (when t ((parties.Clients, Answers (answer_to s.entries e)) ∷ [])) ≡ []
      no_answer true = refl
      no_answer false = refl

      to_one : (o : Option ℕ) → addressed (parties.Server x) (to_server o (Fwd (length s.entries + 1) e)) ≡ cond (is_that o x) (Fwd (length s.entries + 1) e ∷ []) []
      to_one None = refl
      to_one (Some y) = ap (λ b. cond b (Fwd (length s.entries + 1) e ∷ []) []) (eqb_sym x y)

-- what goes to a server alone, to others or to it
pub to_each : (P : Message → Type 0) (o : Option ℕ) (m : Message) (x : ℕ) → P m → Each P (addressed (parties.Server x) (to_server o m))
to_each P None m x h = tt
to_each P (Some y) m x h = go (eqb x y) where
  go : (t : Bool) → Each P (cond t (m ∷ []) [])
  go true = (h, tt)
  go false = tt

pub tail_row : (P : Message → Type 0) (before now : Server) (x : ℕ) → (acts now ≡ true → P (Ack (length now.entries))) → Each P (addressed (parties.Server x) (tail_news before now))
tail_row P before now x h = subst (λ ms. Each P ms) (sym (addressed-append (parties.Server x) (when (acts now) (to_server before.pred (Ack (length now.entries)))) (when (begins_to_act before now) ((parties.Master, Ready) ∷ []))))
    (each-append P (addressed (parties.Server x) (when (acts now) (to_server before.pred (Ack (length now.entries))))) (addressed (parties.Server x) (when (begins_to_act before now) ((parties.Master, Ready) ∷ []))) (first (acts now) refl) (second (begins_to_act before now))) where
      first : (t : Bool) → acts now ≡ t → Each P (addressed (parties.Server x) (when t (to_server before.pred (Ack (length now.entries)))))
      first true e = to_each P before.pred (Ack (length now.entries)) x (h e)
      first false e = tt

      second : (t : Bool) → Each P (addressed (parties.Server x) (when t ((parties.Master, Ready) ∷ [])))
      second true = tt
      second false = tt

-- ---- steps by which the history grows

-- acknowledged is what was, or what is committed now
pub settled_acked : (c : List Entry) (x : Server) → x.acked ≤ length c → (acts x ≡ true → longer c (acting_history (settled x)) ≡ (settled x).entries) → (settled x).acked ≤ length (longer c (acting_history (settled x)))
settled_acked c x h own = go (acts x) refl where
  go : (t : Bool) → acts x ≡ t → (cond t (record x { acked = length x.entries; floor = length x.entries; full = true }) x).acked ≤ length (longer c (acting_history (settled x)))
  go true e = omega (arith, ap length (own e), ap length (is_settled x).entries)
  go false e = omega (arith, h, (longer-length c (acting_history (settled x))).0)

pub settled_floor : (c : List Entry) (x : Server) → (acts x ≡ false → x.full ≡ true → x.floor ≤ length c) → (acts x ≡ true → longer c (acting_history (settled x)) ≡ (settled x).entries) → (settled x).full ≡ true → (settled x).floor ≤ length (longer c (acting_history (settled x)))
settled_floor c x h own = go (acts x) refl where
  go : (t : Bool) → acts x ≡ t → (cond t (record x { acked = length x.entries; floor = length x.entries; full = true }) x).full ≡ true → (cond t (record x { acked = length x.entries; floor = length x.entries; full = true }) x).floor ≤ length (longer c (acting_history (settled x)))
  go true e full = omega (arith, ap length (own e), ap length (is_settled x).entries)
  go false e full = omega (arith, h e full, (longer-length c (acting_history (settled x))).0)

pub settled_young : (x : Server) → (settled x).full ≡ false → x.full ≡ false
settled_young x = go (acts x) where
  go : (t : Bool) → (cond t (record x { acked = length x.entries; floor = length x.entries; full = true }) x).full ≡ false → x.full ≡ false
  go true e = absurd (false≢true (sym e))
  go false e = e

-- What a server has to show that takes more entries.
pub record Grown (v : View) (c : List Entry) (from : Party) (k : ℕ) (rest : List Message) (x : Server) (out : List (Party × Message)) : Type 0 where
  pub pred : x.pred ≡ (v.server k).pred
  pub succ : x.succ ≡ (v.server k).succ
  pub full : x.full ≡ (v.server k).full
  pub acked : x.acked ≡ (v.server k).acked
  pub same_told : master_after v from k rest ≡ v.channel parties.Master (parties.Server k)
  pub idle : Each Idle (addressed parties.Master out)
  pub own : acts x ≡ true → longer c (acting_history (settled x)) ≡ (settled x).entries
  pub alone : (q : ℕ) → stands_before q k (extended v.master) ≡ true → (haves_of q (v.channel (parties.Server k) parties.Master) ≡ 0) × (is_that (v.server q).succ k ≡ false → adopts_of k (v.channel parties.Master (parties.Server q)) ≡ 0)
  pub sent_data : (y : ℕ) → is_that x.succ y ≡ false → Each NoData (addressed (parties.Server y) out)
  pub sent_snaps : (y : ℕ) → Each NoSnap (addressed (parties.Server y) out)
  pub feeds_on : (y : ℕ) → is_that x.succ y ≡ true → Feeds (length (v.server k).entries) (addressed (parties.Server y) out) (length x.entries)
  pub feeds_behind : (p : ℕ) → is_in (extended v.master) k ≡ true → eqb p k ≡ false → x.pred ≡ Some p → is_that (v.server p).succ k ≡ true → Feeds (length x.entries) (left_between v from k rest p k) (length (v.server p).entries)
  pub snaps_behind : (p : ℕ) → is_in v.master.chain k ≡ true → x.pred ≡ Some p → Each NoSnap (left_between v from k rest p k)
  pub acks : (y : ℕ) → Each (AckWithin (length (longer c (acting_history (settled x))))) (addressed (parties.Server y) out)
  pub floor : acts x ≡ false → x.full ≡ true → x.floor ≤ length c
  pub catches : (t : ℕ) → is_that v.master.joiner k ≡ true → is_last v.master.chain t ≡ true → Each (Catches ((is_that (v.server t).succ k ≡ true) × Each NoSnap (left_between v from k rest t k))) (addressed parties.Master out)

pub grown-feeding : (v : View) (c : List Entry) (from : Party) (k : ℕ) (rest : List Message) (x : Server) (out : List (Party × Message)) → Prefixes v → Whole v c → Placed v k → Grown v c from k rest x out → Feeding v c from k rest (settled x) out
grown-feeding v c from k rest x out g h placed t = record {
  pred_known = λ p is. h.pred_known k p (sym (now.pred ∙ t.pred) ∙ is);
  succ_known = λ y is. h.succ_known k y (sym same_succ ∙ is);
  reports_known = each-follows Idle (Known v.master.used) (addressed parties.Master out) (idle_known v.master.used) t.idle;
  behind = λ p m. omega (arith, ap (λ ms. reports_of p ms) t.same_told, idle_haves p (addressed parties.Master out) t.idle);
  ahead = λ y there. ap (λ ms. links (settled x).succ y ms) t.same_told ∙ ap (λ o. links o y (v.channel parties.Master (parties.Server k))) same_succ;
  keeps_succ = λ y there is. ap (λ o. is_that o y) same_succ ∙ is;
  not_self = ap (λ o. is_that o k) same_succ ∙ placed_link v c k g h placed;
  follows = λ y there is. subst (λ ms. Each (OnlyTo y) ms) (sym t.same_told) (placed_follows v c k y h placed there (sym (ap (λ o. is_that o y) same_succ) ∙ is));
  counts = λ p before. each-append (HaveIs p (length (settled x).entries)) (v.channel (parties.Server k) parties.Master) (addressed parties.Master out) (no_haves p (length (settled x).entries) (v.channel (parties.Server k) parties.Master) (t.alone p before).0)
      (each-follows Idle (HaveIs p (length (settled x).entries)) (addressed parties.Master out) (idle_have p (length (settled x).entries)) t.idle);
  adopts = λ p before not_link. no_adopts k (length (settled x).entries) (v.channel parties.Master (parties.Server p)) ((t.alone p before).1 not_link);
  sent_data = λ y none. t.sent_data y (sym (ap (λ o. is_that o y) now.succ) ∙ none);
  new_link = λ y there is was. absurd (both_ways (is_that (v.server k).succ y) was (sym (ap (λ o. is_that o y) same_succ) ∙ is));
  feeds_ahead = λ y there other is_pred link. subst (λ us. Feeds (length (v.server y).entries) (v.channel (parties.Server k) (parties.Server y) ++ addressed (parties.Server y) out) (length us)) (sym now.entries)
      (feeds-append (length (v.server y).entries) (v.channel (parties.Server k) (parties.Server y)) (addressed (parties.Server y) out) (length (v.server k).entries) (length x.entries) (h.feed k y there is_pred (sym (ap (λ o. is_that o y) same_succ) ∙ link))
      (t.sent_snaps y) (t.feeds_on y (sym (ap (λ o. is_that o y) now.succ) ∙ link)));
  feeds_behind = λ p there other is_pred link. subst (λ us. Feeds (length us) (left_between v from k rest p k) (length (v.server p).entries)) (sym now.entries) (t.feeds_behind p there other (sym now.pred ∙ is_pred) link);
  snaps_ahead = λ y there other is_pred. each-follows NoSnap (OfSnap (length (v.server y).entries < length c)) (addressed (parties.Server y) out) (no-snap (length (v.server y).entries < length c)) (t.sent_snaps y);
  snaps_behind = λ p member is_pred. each-follows NoSnap (OfSnap (length (settled x).entries < length (longer c (acting_history (settled x))))) (left_between v from k rest p k) (no-snap (length (settled x).entries < length (longer c (acting_history (settled x))))) (t.snaps_behind p member (sym now.pred ∙ is_pred));
  young_succ = λ is. same_succ ∙ placed_young v c k h placed (sym t.full ∙ settled_young x is);
  fed = λ t_last joins last. ap (λ o. one o ++ reports (master_after v from k rest)) (now.pred ∙ t.pred) ∙ ap (λ ms. one (v.server k).pred ++ reports ms) t.same_told ∙ h.fed_by k t_last joins last;
  snaps_to = λ y joins link. t.sent_snaps y;
  catches = t.catches;
  acked = settled_acked c x (omega (arith, t.acked, h.acked k)) t.own;
  sent_acks = t.acks;
  floor = settled_floor c x t.floor t.own;
} where
  now : IsSettled x (settled x)
  now = is_settled x

  same_succ : (settled x).succ ≡ (v.server k).succ
  same_succ = now.succ ∙ t.succ

-- what a tail says to the master tells of no neighbour
ready_idle : (t : Bool) → Each Idle (addressed parties.Master (when t ((parties.Master, Ready) ∷ [])))
ready_idle true = (tt, tt)
ready_idle false = tt

-- what goes to a server isn't for the master
pub not_told : (o : Option ℕ) (m : Message) → addressed parties.Master (to_server o m) ≡ []
not_told None m = refl
not_told (Some y) m = refl

pub tail_idle : (before now : Server) → Each Idle (addressed parties.Master (tail_news before now))
tail_idle before now = subst (λ ms. Each Idle ms) (sym (addressed-append parties.Master (when (acts now) (to_server before.pred (Ack (length now.entries)))) (when (begins_to_act before now) ((parties.Master, Ready) ∷ []))))
    (each-append Idle (addressed parties.Master (when (acts now) (to_server before.pred (Ack (length now.entries))))) (addressed parties.Master (when (begins_to_act before now) ((parties.Master, Ready) ∷ []))) (first (acts now)) (ready_idle (begins_to_act before now))) where
      first : (t : Bool) → Each Idle (addressed parties.Master (when t (to_server before.pred (Ack (length now.entries)))))
      first true = subst (λ ms. Each Idle ms) (sym (not_told before.pred (Ack (length now.entries)))) tt
      first false = tt

-- of a message that tells of no snapshot
ready_caught : (t : Bool) → Each NoCaught (addressed parties.Master (when t ((parties.Master, Ready) ∷ [])))
ready_caught true = (tt, tt)
ready_caught false = tt

pub tail_caught : (before now : Server) → Each NoCaught (addressed parties.Master (tail_news before now))
tail_caught before now = subst (λ ms. Each NoCaught ms) (sym (addressed-append parties.Master (when (acts now) (to_server before.pred (Ack (length now.entries)))) (when (begins_to_act before now) ((parties.Master, Ready) ∷ []))))
    (each-append NoCaught (addressed parties.Master (when (acts now) (to_server before.pred (Ack (length now.entries))))) (addressed parties.Master (when (begins_to_act before now) ((parties.Master, Ready) ∷ []))) (first (acts now)) (ready_caught (begins_to_act before now))) where
      first : (t : Bool) → Each NoCaught (addressed parties.Master (when t (to_server before.pred (Ack (length now.entries)))))
      first true = subst (λ ms. Each NoCaught ms) (sym (not_told before.pred (Ack (length now.entries)))) tt
      first false = tt

pub passed_caught : (s : Server) (e : Entry) → Each NoCaught (addressed parties.Master (passed_on s e))
passed_caught s e = subst (λ ms. Each NoCaught ms) (sym (addressed-append parties.Master (to_server s.succ (Fwd (length s.entries + 1) e)) (when (acts (appended s e)) ((parties.Clients, Answers (answer_to s.entries e)) ∷ []))))
    (each-append NoCaught (addressed parties.Master (to_server s.succ (Fwd (length s.entries + 1) e))) (addressed parties.Master (when (acts (appended s e)) ((parties.Clients, Answers (answer_to s.entries e)) ∷ []))) (subst (λ ms. Each NoCaught ms) (sym (not_told s.succ (Fwd (length s.entries + 1) e))) tt) (second (acts (appended s e)))) where
      second : (t : Bool) → Each NoCaught (addressed parties.Master (when t ((parties.Clients, Answers (answer_to s.entries e)) ∷ [])))
      second true = tt
      second false = tt

-- what holds of all that a server says when it takes a snapshot, to another one or to the master
pub restored_row : (P : Message → Type 0) (from : ℕ) (entries : List Entry) (s : Server) (x : ℕ) → Each P (addressed (parties.Server x) (tail_news s (with_history s entries))) → Each P (addressed (parties.Server x) (restored from entries s).sent)
restored_row P from entries s x h = subst (λ ms. Each P ms) (sym (addressed-append (parties.Server x) (tail_news s (with_history s entries)) (when (is_none s.at_least) ((parties.Master, Caught from (length entries)) ∷ []))))
    (each-append P (addressed (parties.Server x) (tail_news s (with_history s entries))) (addressed (parties.Server x) (when (is_none s.at_least) ((parties.Master, Caught from (length entries)) ∷ []))) h (none (is_none s.at_least))) where
      none : (t : Bool) → Each P (addressed (parties.Server x) (when t ((parties.Master, Caught from (length entries)) ∷ [])))
      none true = tt
      none false = tt

pub restored_told : (P : Message → Type 0) (from : ℕ) (entries : List Entry) (s : Server) → Each P (addressed parties.Master (tail_news s (with_history s entries))) → P (Caught from (length entries)) → Each P (addressed parties.Master (restored from entries s).sent)
restored_told P from entries s h caught = subst (λ ms. Each P ms) (sym (addressed-append parties.Master (tail_news s (with_history s entries)) (when (is_none s.at_least) ((parties.Master, Caught from (length entries)) ∷ []))))
    (each-append P (addressed parties.Master (tail_news s (with_history s entries))) (addressed parties.Master (when (is_none s.at_least) ((parties.Master, Caught from (length entries)) ∷ []))) h (one (is_none s.at_least))) where
      one : (t : Bool) → Each P (addressed parties.Master (when t ((parties.Master, Caught from (length entries)) ∷ [])))
      one true = (caught, tt)
      one false = tt

pub passed_idle : (s : Server) (e : Entry) → Each Idle (addressed parties.Master (passed_on s e))
passed_idle s e = subst (λ ms. Each Idle ms) (sym (addressed-append parties.Master (to_server s.succ (Fwd (length s.entries + 1) e)) (when (acts (appended s e)) ((parties.Clients, Answers (answer_to s.entries e)) ∷ []))))
    (each-append Idle (addressed parties.Master (to_server s.succ (Fwd (length s.entries + 1) e))) (addressed parties.Master (when (acts (appended s e)) ((parties.Clients, Answers (answer_to s.entries e)) ∷ []))) (subst (λ ms. Each Idle ms) (sym (not_told s.succ (Fwd (length s.entries + 1) e))) tt) (second (acts (appended s e)))) where
      second : (t : Bool) → Each Idle (addressed parties.Master (when t ((parties.Clients, Answers (answer_to s.entries e)) ∷ [])))
      second true = tt
      second false = tt

-- what is passed on feeds the successor with one entry
pub passed_feeds : (s : Server) (e : Entry) (x : ℕ) (ys : List Message) → is_that s.succ x ≡ true → Each NoData ys → Feeds (length s.entries) (addressed (parties.Server x) (passed_on s e) ++ ys) (length s.entries + 1)
passed_feeds s e x ys link none = subst (λ ms. Feeds (length s.entries) (ms ++ ys) (length s.entries + 1)) (sym (passed_row s e x ∙ ap (λ b. cond b (Fwd (length s.entries + 1) e ∷ []) []) link)) (refl, all-data-snap ys none, feeds_still (length s.entries + 1) ys none)

pub passed_snaps : (s : Server) (e : Entry) (x : ℕ) → Each NoSnap (addressed (parties.Server x) (passed_on s e))
passed_snaps s e x = subst (λ ms. Each NoSnap ms) (sym (passed_row s e x)) (go (is_that s.succ x)) where
  go : (t : Bool) → Each NoSnap (cond t (Fwd (length s.entries + 1) e ∷ []) [])
  go true = (tt, tt)
  go false = tt

pub passed_data : (s : Server) (e : Entry) (x : ℕ) → is_that s.succ x ≡ false → Each NoData (addressed (parties.Server x) (passed_on s e))
passed_data s e x none = subst (λ ms. Each NoData ms) (sym (passed_row s e x ∙ ap (λ b. cond b (Fwd (length s.entries + 1) e ∷ []) []) none)) tt

pub passed_acks : (n : ℕ) (s : Server) (e : Entry) (x : ℕ) → Each (AckWithin n) (addressed (parties.Server x) (passed_on s e))
passed_acks n s e x = subst (λ ms. Each (AckWithin n) ms) (sym (passed_row s e x)) (go (is_that s.succ x)) where
  go : (t : Bool) → Each (AckWithin n) (cond t (Fwd (length s.entries + 1) e ∷ []) [])
  go true = (tt, tt)
  go false = tt
