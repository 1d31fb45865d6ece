-- What the master tells a server, and all that it takes: nothing is lost on the way.
use Rattle.std.proofs.Common.{◌≡◌, ℕ, suc, ◌+◌, ◌≤◌, ◌<◌, ◌∙◌, ap, sym, List, [], ◌∷◌, ◌++◌, length, drop, ◌&&◌, not, Option, Some, None, is_none, is_some, Bool, true, false, cond, eqb, arith, subst, refl, inl, inr, min, max, nat_le, nat_lt, append-nil, length-append}
use Rattle.std.proofs.lemmas.Bool.{eqb-true, eq-eqb, false≢true, both_ways, cases_Bool, and_parts}
use Rattle.cq_base.specs.declared.ask.Entry.{Entry}
use Rattle.cq_base.specs.declared.ask.Query.{Query}
use Rattle.cq_base.specs.declared.ask.Request.{Request}
use Rattle.cq_base.specs.declared.party.Party.{Party}
use Rattle.cq_base.specs.declared.party.Party.TheVariants as parties
use Rattle.cq_base.specs.queue.History.{last_moment}
use Rattle.cq_chain.specs.Masters.{is_in, stands_before}
use Rattle.cq_chain.specs.Messages.{Message, Fwd, Snap, Ack, BeHead, Report, Adopt, BeTail, Feed, Have, Adopted, Ready}
use Rattle.cq_chain.specs.Parties.{addressed}
use Rattle.cq_chain.specs.Servers.{Server, acts, reaches, is_that}
use Rattle.cq_chain.specs.Steps.{silent, to_server, when, appended, settled, passed_on, tail_news, stamped, arrived, asked, is_next, forwarded, is_restoring, with_history, restored, forwards, repair, adopting, feeding, as_tail, tailed, reported, takes, crashed}
use Rattle.cq_events.specs.Runs.{longer, acting_history}
use Rattle.cq_world.proofs.Chains.{before-last, chain-apart}
use Rattle.cq_world.proofs.Commits.{Pairs, Enough, NotOn, bit, longer-length}
use Rattle.cq_world.proofs.Commits.Steps.{addressed-append, new_repair_news}
use Rattle.cq_world.proofs.Eaches.{Each, each-append, each-follows, some_none}
use Rattle.cq_world.proofs.Wholes.Feeding.{NoData, NoSnap, OfSnap, Feeds, data-snap, all-data-snap, feeds-none, feeds-append, no-snap, repair-feeds, repair-other, repair-snaps}
use Rattle.cq_world.proofs.Settled.{IsSettled, is_settled, that_some}
use Rattle.cq_world.proofs.Views.{View, extended}
use Rattle.cq_world.proofs.ExtendedChains.{extended-cases, member-extended, member-other, extended-before, joiner-extended, joiner-before}
use Rattle.cq_world.proofs.Prefixes.Climbing.{reports, one}
use Rattle.cq_world.proofs.Prefixes.Steps.{full-member, told-member, below-pred}
use Rattle.cq_world.proofs.Wholes.{reports_of, haves_of, adopts_of, feeds_of, OnlyTo, Ends, FeedsOut, Known, HaveIs, AdoptIs, AckWithin, links, tokens, before-self}
use Rattle.cq_world.proofs.Wholes.Steps.{Idle, NoCaught, idle_known, idle_have, idle_haves, feeds_still, placed_link, placed_follows, placed_young, calm-feeding, accepts_fwd, accepts_snap}
use Rattle.cq_world.proofs.Wholes.Growth.{grown-feeding, settled_acked, settled_floor, to_each, not_told}
use Rattle.cq_world.proofs.Wholes.Turns.{Feeding}
use Rattle.cq_world.proofs.Commits.Turns.{Acting, ready-acts, turn-own}
use Rattle.cq_world.proofs.Prefixes.Orders.{eqb_turned}
use Rattle.cq_world.proofs.Prefixes.{Turn}
use Rattle.cq_world.proofs.Wholes.Entries.{BeforeTurn, passes_idle, ignored, fwd_grown, snap_grown, arrive_grown}

-- ---- a predecessor

report_feeding : (v : View) (c : List Entry) (k p : ℕ) (rest : List Message) → BeforeTurn v c k → v.channel parties.Master (parties.Server k) ≡ Report p ∷ rest
    → length c ≤ length (longer c (acting_history (reported p (v.server k)).server)) → Feeding v c parties.Master k rest (reported p (v.server k)).server (reported p (v.server k)).sent
report_feeding v c k p rest b at within = record {
  pred_known = λ q is. subst (λ i. is_in v.master.used i ≡ true) (same_one p q is) (subst (λ ms. Each (Known v.master.used) ms) at (b.whole.orders_known k)).0;
  succ_known = λ x is. b.whole.succ_known k x is;
  reports_known = ((subst (λ ms. Each (Known v.master.used) ms) at (b.whole.orders_known k)).0, tt);
  behind = λ q m. sym (ap (λ ms. reports_of q ms) at ∙ counted q (eqb p q));
  ahead = λ x there. sym (ap (λ ms. links (v.server k).succ x ms) at);
  keeps_succ = λ x there is. is;
  not_self = placed_link v c k b.prefixes b.whole b.placed;
  follows = λ x there is. (subst (λ ms. Each (OnlyTo x) ms) at (placed_follows v c k x b.whole b.placed there is)).1;
  counts = λ q before. each-append (HaveIs q (length (v.server k).entries)) (v.channel (parties.Server k) parties.Master) (Have p (length (v.server k).entries) ∷ []) (b.whole.counts q k before) ((λ is. refl), tt);
  adopts = λ q before not_link. b.whole.adopts q k before not_link;
  sent_data = λ x none. to_one NoData x tt;
  new_link = λ x there is was. absurd (both_ways (is_that (v.server k).succ x) was is);
  feeds_ahead = λ x there other is_pred link. feeds-append (length (v.server x).entries) (v.channel (parties.Server k) (parties.Server x)) (addressed (parties.Server x) ((parties.Server p, Ack (v.server k).acked) ∷ [])) (length (v.server k).entries) (length (v.server k).entries) (b.whole.feed k x there is_pred link)
      (all-data-snap (addressed (parties.Server x) ((parties.Server p, Ack (v.server k).acked) ∷ [])) (to_one NoData x tt)) (feeds_still (length (v.server k).entries) (addressed (parties.Server x) ((parties.Server p, Ack (v.server k).acked) ∷ [])) (to_one NoData x tt));
  feeds_behind = λ q there other is_pred link. absurd (unlinked there (subst (λ i. is_that (v.server i).succ k ≡ true) (sym (same_one p q is_pred)) link));
  snaps_ahead = λ x there other is_pred. to_one (OfSnap (length (v.server x).entries < length c)) x tt;
  snaps_behind = λ q member is_pred. subst (λ i. Each (OfSnap (length (v.server k).entries < length (longer c (acting_history (reported p (v.server k)).server)))) (v.channel (parties.Server i) (parties.Server k))) (same_one p q is_pred)
      (each-follows NoData (OfSnap (length (v.server k).entries < length (longer c (acting_history (reported p (v.server k)).server)))) (v.channel (parties.Server p) (parties.Server k)) (λ m none. no-snap (length (v.server k).entries < length (longer c (acting_history (reported p (v.server k)).server))) m (data-snap m none)) (quiet (member-extended v.master.chain v.master.joiner k member)));
  young_succ = λ is. placed_young v c k b.whole b.placed is;
  fed = λ t joins last. without_old (v.server k).pred t (sym (ap (λ ms. one (v.server k).pred ++ reports ms) at) ∙ b.whole.fed_by k t joins last);
  snaps_to = λ x joins link. to_one NoSnap x tt;
  catches = λ t joins last. (tt, tt);
  acked = omega (arith, b.whole.acked k, within);
  sent_acks = λ x. to_one (AckWithin (length (longer c (acting_history (reported p (v.server k)).server)))) x (omega (arith, b.whole.acked k, within));
  floor = λ full. omega (arith, b.whole.floors k (full-member v k b.placed full) full, within);
} where
  same_one : (a d : ℕ) → Some a ≡ Some d → a ≡ d
  same_one a d e = cc

  -- one that joins had none before
  without_old : (o : Option ℕ) (t : ℕ) → one o ++ (p ∷ reports rest) ≡ t ∷ [] → p ∷ reports rest ≡ t ∷ []
  without_old None t e = e
  without_old (Some q) t e = absurd (two q p t (reports rest) e) where
    two : (x y z : ℕ) (us : List ℕ) → x ∷ y ∷ us ≡ z ∷ [] → ⊥
    two x y z us h = cc

  counted : (q : ℕ) (t : Bool) → cond t (suc (reports_of q rest)) (reports_of q rest) ≡ reports_of q rest + cond t 1 0
  counted q true = omega arith
  counted q false = omega arith

  to_one : (P : Message → Type 0) (x : ℕ) → P (Ack (v.server k).acked) → Each P (addressed (parties.Server x) ((parties.Server p, Ack (v.server k).acked) ∷ []))
  to_one P x h = go (eqb x p) where
    go : (t : Bool) → Each P (cond t (Ack (v.server k).acked ∷ []) [])
    go true = (h, tt)
    go false = tt

  unlinked : is_in (extended v.master) k ≡ true → is_that (v.server p).succ k ≡ true → ⊥
  unlinked there link = omega (arith, b.whole.linked_told p k there link, ap (λ ms. reports_of p ms) at, ap (λ t. cond t (suc (reports_of p rest)) (reports_of p rest)) (eq-eqb p p refl))

  quiet : is_in (extended v.master) k ≡ true → Each NoData (v.channel (parties.Server p) (parties.Server k))
  quiet there = elim (cases_Bool (is_that (v.server p).succ k)) [ inl link ↦ absurd (unlinked there link) | inr none ↦ b.whole.data_none p k there none ]

-- ---- the tail

tail_feeding : (v : View) (c : List Entry) (k least : ℕ) (rest : List Message) → BeforeTurn v c k → v.channel parties.Master (parties.Server k) ≡ BeTail least ∷ rest
    → (acts (as_tail least (v.server k)) ≡ true → longer c (acting_history (settled (as_tail least (v.server k)))) ≡ (settled (as_tail least (v.server k))).entries)
    → Feeding v c parties.Master k rest (tailed least (v.server k)).server (tailed least (v.server k)).sent
tail_feeding v c k least rest b at own = record {
  pred_known = λ q is. b.whole.pred_known k q (sym now.pred ∙ is);
  succ_known = λ x is. absurd (none_of x (sym now.succ ∙ is));
  reports_known = each-follows Idle (Known v.master.used) (addressed parties.Master (tailed least (v.server k)).sent) (idle_known v.master.used) idle;
  behind = λ q m. omega (arith, ap (λ ms. reports_of q ms) at, idle_haves q (addressed parties.Master (tailed least (v.server k)).sent) idle);
  ahead = λ x there. ap (λ o. links o x rest) now.succ ∙ sym (ap (λ t. feeds_of x (v.channel parties.Master (parties.Server k)) + cond t 1 (adopts_of x (v.channel parties.Master (parties.Server k)))) (unlinked x there) ∙ ap (λ ms. feeds_of x ms + adopts_of x ms) at);
  keeps_succ = λ x there is. absurd (both_ways (is_that (v.server k).succ x) (unlinked x there) is);
  not_self = ap (λ o. is_that o k) now.succ;
  follows = λ x there is. absurd (false≢true (sym (ap (λ o. is_that o x) now.succ) ∙ is));
  counts = λ q before. each-append (HaveIs q (length s.entries)) (v.channel (parties.Server k) parties.Master) (addressed parties.Master (tailed least (v.server k)).sent)
      (subst (λ us. Each (HaveIs q (length us)) (v.channel (parties.Server k) parties.Master)) (sym now.entries) (b.whole.counts q k before)) (each-follows Idle (HaveIs q (length s.entries)) (addressed parties.Master (tailed least (v.server k)).sent) (idle_have q (length s.entries)) idle);
  adopts = λ q before not_link. subst (λ us. Each (AdoptIs k (length us)) (v.channel parties.Master (parties.Server q))) (sym now.entries) (b.whole.adopts q k before not_link);
  sent_data = λ x none. row NoData x (λ does. tt);
  new_link = λ x there is was. absurd (false≢true (sym (ap (λ o. is_that o x) now.succ) ∙ is));
  feeds_ahead = λ x there other is_pred link. absurd (false≢true (sym (ap (λ o. is_that o x) now.succ) ∙ link));
  feeds_behind = λ q there other is_pred link. subst (λ us. Feeds (length us) (v.channel (parties.Server q) (parties.Server k)) (length (v.server q).entries)) (sym now.entries) (b.whole.feed q k there (sym now.pred ∙ is_pred) link);
  snaps_ahead = λ x there other is_pred. row (OfSnap (length (v.server x).entries < length c)) x (λ does. tt);
  snaps_behind = λ q there is_pred. subst (λ us. Each (OfSnap (length us < length (longer c (acting_history s)))) (v.channel (parties.Server q) (parties.Server k))) (sym now.entries)
      (each-follows (OfSnap (length (v.server k).entries < length c)) (OfSnap (length (v.server k).entries < length (longer c (acting_history s)))) (v.channel (parties.Server q) (parties.Server k)) more (b.whole.snap q k there (sym now.pred ∙ is_pred)));
  young_succ = λ is. now.succ;
  fed = λ t joins last. absurd (both_ways (is_that v.master.joiner k) (member-other v.master.chain v.master.joiner k b.prefixes.apart member) joins);
  snaps_to = λ x joins link. row NoSnap x (λ does. tt);
  catches = λ t joins last. absurd (both_ways (is_that v.master.joiner k) (member-other v.master.chain v.master.joiner k b.prefixes.apart member) joins);
  acked = settled_acked c (as_tail least (v.server k)) (b.whole.acked k) own;
  sent_acks = λ x. row (AckWithin (length (longer c (acting_history s)))) x (λ does. omega (arith, ap length (own does), ap length now.entries));
  floor = settled_floor c (as_tail least (v.server k)) (λ not full. b.whole.floors k member full) own;
} where
  member : is_in v.master.chain k ≡ true
  member = told-member v k (BeTail least) rest b.placed at (λ word. word)

  s : Server
  s = settled (as_tail least (v.server k))

  now : IsSettled (as_tail least (v.server k)) (settled (as_tail least (v.server k)))
  now = is_settled (as_tail least (v.server k))

  none_of : (x : ℕ) → None ≡ Some x → ⊥
  none_of x e = some_none x (sym e)

  -- no server of the extended chain was its successor
  unlinked : (x : ℕ) → is_in (extended v.master) x ≡ true → is_that (v.server k).succ x ≡ false
  unlinked x there = elim (cases_Bool (is_that (v.server k).succ x)) [ inl link ↦ absurd (subst (λ ms. Each (OnlyTo x) ms) at (placed_follows v c k x b.whole b.placed there link)).0 | inr none ↦ none ]

  idle : Each Idle (addressed parties.Master (tailed least (v.server k)).sent)
  idle = go (acts (as_tail least (v.server k))) where
    go : (t : Bool) → Each Idle (addressed parties.Master (when t (to_server (v.server k).pred (Ack (length (v.server k).entries)) ++ (parties.Master, Ready) ∷ [])))
    go true = subst (λ ms. Each Idle ms) (sym (addressed-append parties.Master (to_server (v.server k).pred (Ack (length (v.server k).entries))) ((parties.Master, Ready) ∷ []) ∙ ap (λ us. us ++ Ready ∷ []) (not_told (v.server k).pred (Ack (length (v.server k).entries))))) (tt, tt)
    go false = tt

  row : (P : Message → Type 0) (x : ℕ) → (acts (as_tail least (v.server k)) ≡ true → P (Ack (length (v.server k).entries))) → Each P (addressed (parties.Server x) (tailed least (v.server k)).sent)
  row P x h = go (acts (as_tail least (v.server k))) refl where
    go : (t : Bool) → acts (as_tail least (v.server k)) ≡ t → Each P (addressed (parties.Server x) (when t (to_server (v.server k).pred (Ack (length (v.server k).entries)) ++ (parties.Master, Ready) ∷ [])))
    go true e = subst (λ ms. Each P ms) (sym (addressed-append (parties.Server x) (to_server (v.server k).pred (Ack (length (v.server k).entries))) ((parties.Master, Ready) ∷ [])))
        (each-append P (addressed (parties.Server x) (to_server (v.server k).pred (Ack (length (v.server k).entries)))) [] (to_each P (v.server k).pred (Ack (length (v.server k).entries)) x (h e)) tt)
    go false e = tt

  more : (m : Message) → OfSnap (length (v.server k).entries < length c) m → OfSnap (length (v.server k).entries < length (longer c (acting_history (settled (as_tail least (v.server k)))))) m
  more (Snap entries) i = omega (arith, i, (longer-length c (acting_history (settled (as_tail least (v.server k))))).0)
  more m i = other m i where
    other : (y : Message) → OfSnap (length (v.server k).entries < length c) y → OfSnap (length (v.server k).entries < length (longer c (acting_history (settled (as_tail least (v.server k)))))) y
    other (Snap entries) j = omega (arith, j, (longer-length c (acting_history (settled (as_tail least (v.server k))))).0)
    other y j = tt

-- ---- a successor

-- a repair acknowledges nothing
forwards_acks : (n to place x : ℕ) (es : List Entry) → Each (AckWithin n) (addressed (parties.Server x) (forwards to place es))
unfolding forwards
forwards_acks n to place x [] = tt
forwards_acks n to place x (e ∷ es) = go (eqb x to) (forwards_acks n to (place + 1) x es) where
  go : (t : Bool) → Each (AckWithin n) (addressed (parties.Server x) (forwards to (place + 1) es)) → Each (AckWithin n) (cond t (Fwd place e ∷ addressed (parties.Server x) (forwards to (place + 1) es)) (addressed (parties.Server x) (forwards to (place + 1) es)))
  go true h = (tt, h)
  go false h = h

repair_acks : (n to have x : ℕ) (s : Server) → Each (AckWithin n) (addressed (parties.Server x) (repair to have s))
repair_acks n to have x s = go (nat_le s.floor have) where
  go : (t : Bool) → Each (AckWithin n) (addressed (parties.Server x) (cond t (forwards to (have + 1) (drop have s.entries)) ((parties.Server to, Snap s.entries) ∷ [])))
  go true = forwards_acks n to (have + 1) x (drop have s.entries)
  go false = one (eqb x to) where
    one : (t : Bool) → Each (AckWithin n) (cond t (Snap s.entries ∷ []) [])
    one true = (tt, tt)
    one false = tt

adopt_feeding : (v : View) (c : List Entry) (k succ have : ℕ) (rest : List Message) → BeforeTurn v c k → v.channel parties.Master (parties.Server k) ≡ Adopt succ have ∷ rest
    → is_that (v.server k).succ succ ≡ false → length c ≤ length (longer c (acting_history (adopting succ have (v.server k)).server)) → Feeding v c parties.Master k rest (adopting succ have (v.server k)).server (adopting succ have (v.server k)).sent
adopt_feeding v c k succ have rest b at new within = record {
  pred_known = λ q is. b.whole.pred_known k q is;
  succ_known = λ x is. subst (λ i. is_in v.master.used i ≡ true) (same_one succ x is) (subst (λ ms. Each (Known v.master.used) ms) at (b.whole.orders_known k)).0;
  reports_known = subst (λ ms. Each (Known v.master.used) ms) (sym news_now) (tt, tt);
  behind = λ q m. omega (arith, ap (λ ms. reports_of q ms) at, ap (λ ms. haves_of q ms) news_now);
  ahead = λ x there. omega (arith, old_links x there, ap (λ t. cond t 1 (adopts_of x (v.channel parties.Master (parties.Server k)))) (unlinked x there), ap (λ ms. adopts_of x ms) at, ap (λ ms. feeds_of x ms) at);
  keeps_succ = λ x there is. absurd (both_ways (is_that (v.server k).succ x) (unlinked x there) is);
  not_self = not_it (λ is. before-self k (extended v.master) b.prefixes.apart (subst (λ i. stands_before k i (extended v.master) ≡ true) is (pair (subst (λ i. is_in (extended v.master) i ≡ true) (sym is) there_k))));
  follows = λ x there is. subst (λ i. Each (OnlyTo i) rest) (eqb-true succ x is) ((subst (λ ms. Ends (extended v.master) ms) at (b.whole.ends k there_k)).0 (subst (λ i. is_in (extended v.master) i ≡ true) (sym (eqb-true succ x is)) there));
  counts = λ q before. each-append (HaveIs q (length (v.server k).entries)) (v.channel (parties.Server k) parties.Master) (addressed parties.Master (adopting succ have (v.server k)).sent) (b.whole.counts q k before) (subst (λ ms. Each (HaveIs q (length (v.server k).entries)) ms) (sym news_now) (tt, tt));
  adopts = λ q before not_link. b.whole.adopts q k before not_link;
  sent_data = λ x none. subst (λ ms. Each NoData ms) (sym (row x ∙ repair-other succ x have (v.server k) (eqb_turned succ x none))) tt;
  new_link = λ x there is was. omega (arith, token_one x there is, own_adopt x is, ap (λ t. cond t 1 (adopts_of x (v.channel parties.Master (parties.Server k)))) was);
  feeds_ahead = λ x there other is_pred link. subst (λ i. Feeds (length (v.server i).entries) (v.channel (parties.Server k) (parties.Server i) ++ addressed (parties.Server i) (adopting succ have (v.server k)).sent) (length (v.server k).entries)) (eqb-true succ x link)
      (feeds (subst (λ i. is_in (extended v.master) i ≡ true) (sym (eqb-true succ x link)) there) (subst (λ i. (v.server i).pred ≡ Some k) (sym (eqb-true succ x link)) is_pred));
  feeds_behind = λ q there other is_pred link. b.whole.feed q k there is_pred link;
  snaps_ahead = λ x there other is_pred. subst (λ ms. Each (OfSnap (length (v.server x).entries < length c)) ms) (sym (row x)) (snaps x there (eqb succ x) refl);
  snaps_behind = λ q there is_pred. each-follows (OfSnap (length (v.server k).entries < length c)) (OfSnap (length (v.server k).entries < length (longer c (acting_history (adopting succ have (v.server k)).server)))) (v.channel (parties.Server q) (parties.Server k)) more (b.whole.snap q k there is_pred);
  young_succ = λ is. absurd (subst (λ ms. Each (Enough (length c)) ms) at (b.commits.young_told k member is)).0;
  fed = λ t joins last. absurd (both_ways (is_that v.master.joiner k) (member-other v.master.chain v.master.joiner k b.prefixes.apart member) joins);
  snaps_to = λ x joins link. absurd (both_ways (is_that (v.server k).succ x) (unlinked x (joiner-extended v.master.chain v.master.joiner x joins)) link);
  catches = λ t joins last. absurd (both_ways (is_that v.master.joiner k) (member-other v.master.chain v.master.joiner k b.prefixes.apart member) joins);
  acked = omega (arith, b.whole.acked k, within);
  sent_acks = λ x. subst (λ ms. Each (AckWithin (length (longer c (acting_history (adopting succ have (v.server k)).server)))) ms) (sym (row x)) (repair_acks (length (longer c (acting_history (adopting succ have (v.server k)).server))) succ have x (v.server k));
  floor = λ full. omega (arith, b.whole.floors k member full, within);
} where
  same_one : (a d : ℕ) → Some a ≡ Some d → a ≡ d
  same_one a d e = cc

  member : is_in v.master.chain k ≡ true
  member = told-member v k (Adopt succ have) rest b.placed at (λ word. word)

  there_k : is_in (extended v.master) k ≡ true
  there_k = member-extended v.master.chain v.master.joiner k member

  not_it : (succ ≡ k → ⊥) → eqb succ k ≡ false
  not_it h = elim (cases_Bool (eqb succ k)) [ inl e ↦ absurd (h (eqb-true succ k e)) | inr others ↦ others ]

  unlinked : (x : ℕ) → is_in (extended v.master) x ≡ true → is_that (v.server k).succ x ≡ false
  unlinked x there = elim (cases_Bool (is_that (v.server k).succ x)) [
    | inl link ↦ absurd (both_ways (is_that (v.server k).succ succ) new (subst (λ i. is_that (v.server k).succ i ≡ true) (sym (eqb-true succ x (subst (λ ms. Each (OnlyTo x) ms) at (b.whole.follows k x there_k there link)).0)) link))
    | inr none ↦ none
  ]

  -- the new successor is a member
  succ_member : is_in (extended v.master) succ ≡ true → is_in v.master.chain succ ≡ true
  succ_member there = elim (extended-cases v.master.chain v.master.joiner succ there) [
    | inl is ↦ is
    | inr joins ↦ absurd (both_ways (eqb succ succ) (subst (λ ms. Each (NotOn succ) ms) at (b.commits.unnamed_orders succ joins k)).0 (eq-eqb succ succ refl))
  ]

  chain_pair : is_in v.master.chain succ ≡ true → stands_before k succ v.master.chain ≡ true
  chain_pair = (subst (λ ms. Each (Pairs v.master.chain k) ms) at (b.commits.pairs k member)).0

  -- the pair that is made
  pair : is_in (extended v.master) succ ≡ true → stands_before k succ (extended v.master) ≡ true
  pair there = let is = succ_member there in extended-before v.master.chain v.master.joiner k succ b.prefixes.apart is ∙ chain_pair is

  own_adopt : (x : ℕ) → eqb succ x ≡ true → adopts_of x (v.channel parties.Master (parties.Server k)) ≡ suc (adopts_of x rest)
  own_adopt x e = ap (λ ms. adopts_of x ms) at ∙ ap (λ t. cond t (suc (adopts_of x rest)) (adopts_of x rest)) e

  token_one : (x : ℕ) → is_in (extended v.master) x ≡ true → eqb succ x ≡ true → tokens v k x ≡ 1
  token_one x there e = b.whole.token k x there_k there ∙ ap (λ t. bit t) (subst (λ i. stands_before k i (extended v.master) ≡ true) (eqb-true succ x e) (pair (subst (λ i. is_in (extended v.master) i ≡ true) (sym (eqb-true succ x e)) there)))

  old_links : (x : ℕ) → is_in (extended v.master) x ≡ true → cond (eqb succ x) (suc (adopts_of x rest)) (adopts_of x rest) ≡ cond (eqb succ x) 1 (adopts_of x rest)
  old_links x there = go (eqb succ x) refl where
    go : (t : Bool) → eqb succ x ≡ t → cond t (suc (adopts_of x rest)) (adopts_of x rest) ≡ cond t 1 (adopts_of x rest)
    go true e = omega (arith, token_one x there e, own_adopt x e, ap (λ u. cond u 1 (adopts_of x (v.channel parties.Master (parties.Server k)))) (unlinked x there))
    go false e = refl

  news_now : addressed parties.Master (adopting succ have (v.server k)).sent ≡ Adopted succ (length (v.server k).entries) ∷ []
  news_now = addressed-append parties.Master (when (not (is_that (v.server k).succ succ)) (repair succ have (v.server k))) ((parties.Master, Adopted succ (length (v.server k).entries)) ∷ []) ∙ ap (λ us. us ++ Adopted succ (length (v.server k).entries) ∷ []) (new_repair_news (not (is_that (v.server k).succ succ)) succ have (v.server k))

  row : (x : ℕ) → addressed (parties.Server x) (adopting succ have (v.server k)).sent ≡ addressed (parties.Server x) (repair succ have (v.server k))
  row x = ap (λ t. addressed (parties.Server x) (when (not t) (repair succ have (v.server k)) ++ (parties.Master, Adopted succ (length (v.server k).entries)) ∷ [])) new
      ∙ addressed-append (parties.Server x) (repair succ have (v.server k)) ((parties.Master, Adopted succ (length (v.server k).entries)) ∷ []) ∙ append-nil (addressed (parties.Server x) (repair succ have (v.server k)))

  -- what it says of the new successor's entries is so
  have_is : is_in (extended v.master) succ ≡ true → have ≡ length (v.server succ).entries
  have_is there = (subst (λ ms. Each (AdoptIs succ (length (v.server succ).entries)) ms) at (b.whole.adopts k succ (pair there) (unlinked succ there))).0 (eq-eqb succ succ refl)

  below : (v.server succ).pred ≡ Some k → length (v.server succ).entries ≤ length (v.server k).entries
  below is_pred = let prefix = below-pred v succ k b.prefixes is_pred in omega (arith, ap length prefix.1, length-append (v.server succ).entries prefix.0)

  feeds : is_in (extended v.master) succ ≡ true → (v.server succ).pred ≡ Some k → Feeds (length (v.server succ).entries) (v.channel (parties.Server k) (parties.Server succ) ++ addressed (parties.Server succ) (adopting succ have (v.server k)).sent) (length (v.server k).entries)
  feeds there is_pred = feeds-none (length (v.server succ).entries) (v.channel (parties.Server k) (parties.Server succ)) (addressed (parties.Server succ) (adopting succ have (v.server k)).sent) (length (v.server k).entries) (b.whole.data_none k succ there (unlinked succ there))
      (subst (λ ms. Feeds (length (v.server succ).entries) ms (length (v.server k).entries)) (sym (row succ)) (subst (λ n. Feeds n (addressed (parties.Server succ) (repair succ have (v.server k))) (length (v.server k).entries)) (have_is there) (repair-feeds succ have (v.server k) (omega (arith, have_is there, below is_pred)))))

  -- it is full, since it isn't the last
  full_now : is_in v.master.chain succ ≡ true → (v.server k).full ≡ true
  full_now there = elim (cases_Bool (v.server k).full) [
    | inl full ↦ full
    | inr young ↦ absurd (before-last k succ v.master.chain (chain-apart v b.prefixes) (chain_pair there) (b.commits.young_last k member young))
  ]

  snaps : (x : ℕ) → is_in v.master.chain x ≡ true → (t : Bool) → eqb succ x ≡ t → Each (OfSnap (length (v.server x).entries < length c)) (addressed (parties.Server x) (repair succ have (v.server k)))
  snaps x there true e =
      let here = subst (λ i. is_in v.master.chain i ≡ true) (sym (eqb-true succ x e)) there in
      subst (λ i. Each (OfSnap (length (v.server i).entries < length c)) (addressed (parties.Server i) (repair succ have (v.server k)))) (eqb-true succ x e)
      (repair-snaps (length (v.server succ).entries < length c) succ have (v.server k) (λ less. omega (arith, less, have_is (member-extended v.master.chain v.master.joiner succ here), b.whole.floors k member (full_now here))))
  snaps x there false e = subst (λ ms. Each (OfSnap (length (v.server x).entries < length c)) ms) (sym (repair-other succ x have (v.server k) (eqb_turned succ x e))) tt

  more : (m : Message) → OfSnap (length (v.server k).entries < length c) m → OfSnap (length (v.server k).entries < length (longer c (acting_history (adopting succ have (v.server k)).server))) m
  more (Snap entries) i = omega (arith, i, within)
  more m i = other m i where
    other : (y : Message) → OfSnap (length (v.server k).entries < length c) y → OfSnap (length (v.server k).entries < length (longer c (acting_history (adopting succ have (v.server k)).server))) y
    other (Snap entries) j = omega (arith, j, within)
    other y j = tt

-- a successor that it feeds already is sent nothing
adopted_feeding : (v : View) (c : List Entry) (k succ have : ℕ) (rest : List Message) → BeforeTurn v c k → v.channel parties.Master (parties.Server k) ≡ Adopt succ have ∷ rest
    → is_that (v.server k).succ succ ≡ true → length c ≤ length (longer c (acting_history (adopting succ have (v.server k)).server)) → Feeding v c parties.Master k rest (adopting succ have (v.server k)).server (adopting succ have (v.server k)).sent
adopted_feeding v c k succ have rest b at old within = subst (λ out. Feeding v c parties.Master k rest (record (v.server k) { at_least = None; succ = Some succ }) out) (sym sent) (calm-feeding v c parties.Master k (Adopt succ have ∷ []) rest (record (v.server k) { at_least = None; succ = Some succ })
    ((parties.Master, Adopted succ (length (v.server k).entries)) ∷ []) b.prefixes b.whole b.placed at refl (λ p is. is) (sym is_succ) (λ y. y) (λ p. sym (ap (λ ms. reports_of p ms) at)) (λ x there. same_links x) (λ x h. (subst (λ ms. Each (OnlyTo x) ms) at h).1)
    (λ t joins h. sym (ap (λ ms. one (v.server k).pred ++ reports ms) at) ∙ h) (tt, tt) (tt, tt) (λ x. tt) (λ p there is_pred link h. h) (omega (arith, b.whole.acked k, within)) (λ x. tt) (λ full. omega (arith, b.whole.floors k (full-member v k b.placed full) full, within))) where
      is_succ : (v.server k).succ ≡ Some succ
      is_succ = that_some (v.server k).succ succ old

      sent : (adopting succ have (v.server k)).sent ≡ (parties.Master, Adopted succ (length (v.server k).entries)) ∷ []
      sent = ap (λ t. when (not t) (repair succ have (v.server k)) ++ (parties.Master, Adopted succ (length (v.server k).entries)) ∷ []) old

      by_name : (x : ℕ) (t : Bool) → cond t 1 (adopts_of x rest) ≡ cond t 1 (cond t (suc (adopts_of x rest)) (adopts_of x rest))
      by_name x true = refl
      by_name x false = refl

      same_links : (x : ℕ) → links (v.server k).succ x rest ≡ links (v.server k).succ x (v.channel parties.Master (parties.Server k))
      same_links x = ap (λ o. links o x rest) is_succ ∙ ap (λ n. feeds_of x rest + n) (by_name x (eqb succ x)) ∙ sym (ap (λ o. links o x (v.channel parties.Master (parties.Server k))) is_succ ∙ ap (λ ms. links (Some succ) x ms) at)

-- ---- a server that joins is to be fed

-- one that acts is told to feed that one, or nobody
feed_feeding : (v : View) (c : List Entry) (k : ℕ) (succ : Option ℕ) (rest : List Message) → BeforeTurn v c k → v.channel parties.Master (parties.Server k) ≡ Feed succ ∷ rest → acts (v.server k) ≡ true
    → length c ≤ length (longer c (acting_history (feeding succ (v.server k)).server)) → Feeding v c parties.Master k rest (feeding succ (v.server k)).server (feeding succ (v.server k)).sent
feed_feeding v c k succ rest b at does within = record {
  pred_known = λ q is. b.whole.pred_known k q is;
  succ_known = λ x is. known succ x is (subst (λ ms. Each (Known v.master.used) ms) at (b.whole.orders_known k)).0;
  reports_known = subst (λ ms. Each (Known v.master.used) ms) (sym silent_now) tt;
  behind = λ q m. omega (arith, ap (λ ms. reports_of q ms) at, ap (λ ms. haves_of q ms) silent_now);
  ahead = λ x there. ahead succ at x there;
  keeps_succ = λ x there is. keeps succ at x there is;
  not_self = not_self succ at;
  follows = λ x there is. follows succ at x there is;
  counts = λ q before. subst (λ ms. Each (HaveIs q (length (v.server k).entries)) (v.channel (parties.Server k) parties.Master ++ ms)) (sym silent_now) (subst (λ ms. Each (HaveIs q (length (v.server k).entries)) ms) (sym (append-nil (v.channel (parties.Server k) parties.Master))) (b.whole.counts q k before));
  adopts = λ q before not_link. b.whole.adopts q k before not_link;
  sent_data = λ x none. subst (λ ms. Each NoData ms) (sym (unsent succ x none)) tt;
  new_link = λ x there is was. new_link succ at x there is;
  feeds_ahead = λ x there other is_pred link. feeds_ahead succ at x there is_pred link;
  feeds_behind = λ q there other is_pred link. b.whole.feed q k there is_pred link;
  snaps_ahead = λ x there other is_pred. subst (λ ms. Each (OfSnap (length (v.server x).entries < length c)) ms) (sym (unsent succ x (not_member succ at x there))) tt;
  snaps_behind = λ q there is_pred. each-follows (OfSnap (length (v.server k).entries < length c)) (OfSnap (length (v.server k).entries < length (longer c (acting_history (record (v.server k) { succ = succ }))))) (v.channel (parties.Server q) (parties.Server k)) more (b.whole.snap q k there is_pred);
  young_succ = λ is. absurd (both_ways (v.server k).full is (b.commits.acting k does));
  fed = λ t joins last. absurd (both_ways (is_that v.master.joiner k) (member-other v.master.chain v.master.joiner k b.prefixes.apart member) joins);
  snaps_to = λ x joins link. let there = joiner-extended v.master.chain v.master.joiner x joins in absurd (twice succ at x there (keeps succ at x there link) link);
  catches = λ t joins last. absurd (both_ways (is_that v.master.joiner k) (member-other v.master.chain v.master.joiner k b.prefixes.apart member) joins);
  acked = omega (arith, b.whole.acked k, within);
  sent_acks = λ x. acks succ x;
  floor = λ full. omega (arith, b.whole.floors k member full, within);
} where
  member : is_in v.master.chain k ≡ true
  member = told-member v k (Feed succ) rest b.placed at (λ word. word)

  there_k : is_in (extended v.master) k ≡ true
  there_k = member-extended v.master.chain v.master.joiner k member

  silent_now : addressed parties.Master (to_server succ (Snap (v.server k).entries)) ≡ []
  silent_now = not_told succ (Snap (v.server k).entries)

  known : (o : Option ℕ) (x : ℕ) → o ≡ Some x → Known v.master.used (Feed o) → is_in v.master.used x ≡ true
  known None x is h = absurd (some_none x (sym is))
  known (Some q) x is h = subst (λ i. is_in v.master.used i ≡ true) (same_one q x is) h where
    same_one : (a d : ℕ) → Some a ≡ Some d → a ≡ d
    same_one a d e = cc

  -- a pair has one token at most
  one_at_most : (x : ℕ) → is_in (extended v.master) x ≡ true → tokens v k x ≤ 1
  one_at_most x there = subst (λ n. n ≤ 1) (sym (b.whole.token k x there_k there)) (go (stands_before k x (extended v.master))) where
    go : (t : Bool) → bit t ≤ 1
    go true = omega arith
    go false = omega arith

  -- the word counts for one that is to be fed
  counted : (o : Option ℕ) → v.channel parties.Master (parties.Server k) ≡ Feed o ∷ rest → (x : ℕ) → is_that o x ≡ true → feeds_of x (v.channel parties.Master (parties.Server k)) ≡ suc (feeds_of x rest)
  counted None is x e = absurd (false≢true e)
  counted (Some q) is x e = ap (λ ms. feeds_of x ms) is ∙ ap (λ t. cond t (suc (feeds_of x rest)) (feeds_of x rest)) e

  uncounted : (o : Option ℕ) → v.channel parties.Master (parties.Server k) ≡ Feed o ∷ rest → (x : ℕ) → is_that o x ≡ false → feeds_of x (v.channel parties.Master (parties.Server k)) ≡ feeds_of x rest
  uncounted None is x e = ap (λ ms. feeds_of x ms) is
  uncounted (Some q) is x e = ap (λ ms. feeds_of x ms) is ∙ ap (λ t. cond t (suc (feeds_of x rest)) (feeds_of x rest)) e

  -- it wasn't fed before
  twice : (o : Option ℕ) → v.channel parties.Master (parties.Server k) ≡ Feed o ∷ rest → (x : ℕ) → is_in (extended v.master) x ≡ true → is_that o x ≡ true → is_that (v.server k).succ x ≡ true → ⊥
  twice o is x there e link = omega (arith, one_at_most x there, counted o is x e, ap (λ t. cond t 1 (adopts_of x (v.channel parties.Master (parties.Server k)))) link)

  -- a successor of the extended chain stays it
  keeps : (o : Option ℕ) → v.channel parties.Master (parties.Server k) ≡ Feed o ∷ rest → (x : ℕ) → is_in (extended v.master) x ≡ true → is_that (v.server k).succ x ≡ true → is_that o x ≡ true
  keeps None is x there link = absurd (subst (λ ms. Each (OnlyTo x) ms) is (b.whole.follows k x there_k there link)).0
  keeps (Some q) is x there link = (subst (λ ms. Each (OnlyTo x) ms) is (b.whole.follows k x there_k there link)).0

  unlinked : (o : Option ℕ) → v.channel parties.Master (parties.Server k) ≡ Feed o ∷ rest → (x : ℕ) → is_in (extended v.master) x ≡ true → is_that (v.server k).succ x ≡ false
  unlinked o is x there = elim (cases_Bool (is_that (v.server k).succ x)) [ inl link ↦ absurd (twice o is x there (keeps o is x there link) link) | inr none ↦ none ]

  ahead : (o : Option ℕ) → v.channel parties.Master (parties.Server k) ≡ Feed o ∷ rest → (x : ℕ) → is_in (extended v.master) x ≡ true → links o x rest ≡ links (v.server k).succ x (v.channel parties.Master (parties.Server k))
  ahead o is x there = go (is_that o x) refl where
    same_adopts : adopts_of x (v.channel parties.Master (parties.Server k)) ≡ adopts_of x rest
    same_adopts = ap (λ ms. adopts_of x ms) is

    go : (t : Bool) → is_that o x ≡ t → feeds_of x rest + cond t 1 (adopts_of x rest) ≡ links (v.server k).succ x (v.channel parties.Master (parties.Server k))
    go true e = omega (arith, one_at_most x there, counted o is x e, ap (λ u. cond u 1 (adopts_of x (v.channel parties.Master (parties.Server k)))) (unlinked o is x there))
    go false e = omega (arith, uncounted o is x e, ap (λ u. cond u 1 (adopts_of x (v.channel parties.Master (parties.Server k)))) (unlinked o is x there), same_adopts)

  -- who is to be fed is no member
  not_member : (o : Option ℕ) → v.channel parties.Master (parties.Server k) ≡ Feed o ∷ rest → (x : ℕ) → is_in v.master.chain x ≡ true → is_that o x ≡ false
  not_member None is x there = refl
  not_member (Some q) is x there = elim (cases_Bool (eqb q x)) [
    | inl e ↦ absurd (both_ways (is_in v.master.chain q) (subst (λ ms. Each (FeedsOut v.master.chain) ms) is (b.whole.feeds_out k member)).0 (subst (λ i. is_in v.master.chain i ≡ true) (sym (eqb-true q x e)) there))
    | inr other ↦ other
  ]

  not_self : (o : Option ℕ) → v.channel parties.Master (parties.Server k) ≡ Feed o ∷ rest → is_that o k ≡ false
  not_self o is = not_member o is k member

  follows : (o : Option ℕ) → v.channel parties.Master (parties.Server k) ≡ Feed o ∷ rest → (x : ℕ) → is_in (extended v.master) x ≡ true → is_that o x ≡ true → Each (OnlyTo x) rest
  follows None is x there e = absurd (false≢true e)
  follows (Some q) is x there e = subst (λ i. Each (OnlyTo i) rest) (eqb-true q x e) ((subst (λ ms. Ends (extended v.master) ms) is (b.whole.ends k there_k)).0 (subst (λ i. is_in (extended v.master) i ≡ true) (sym (eqb-true q x e)) there))

  new_link : (o : Option ℕ) → v.channel parties.Master (parties.Server k) ≡ Feed o ∷ rest → (x : ℕ) → is_in (extended v.master) x ≡ true → is_that o x ≡ true → reports_of k (v.channel parties.Master (parties.Server x)) ≡ 0
  new_link o is x there e = omega (arith, one_at_most x there, counted o is x e)

  -- what is sent
  unsent : (o : Option ℕ) (x : ℕ) → is_that o x ≡ false → addressed (parties.Server x) (to_server o (Snap (v.server k).entries)) ≡ []
  unsent None x none = refl
  unsent (Some q) x none = ap (λ t. cond t (Snap (v.server k).entries ∷ []) []) (eqb_turned q x none)

  sent : (o : Option ℕ) (x : ℕ) → is_that o x ≡ true → addressed (parties.Server x) (to_server o (Snap (v.server k).entries)) ≡ Snap (v.server k).entries ∷ []
  sent None x is = absurd (false≢true is)
  sent (Some q) x is = ap (λ t. cond t (Snap (v.server k).entries ∷ []) []) (eq-eqb x q (sym (eqb-true q x is)))

  feeds_ahead : (o : Option ℕ) → v.channel parties.Master (parties.Server k) ≡ Feed o ∷ rest → (x : ℕ) → is_in (extended v.master) x ≡ true → (v.server x).pred ≡ Some k → is_that o x ≡ true
      → Feeds (length (v.server x).entries) (v.channel (parties.Server k) (parties.Server x) ++ addressed (parties.Server x) (to_server o (Snap (v.server k).entries))) (length (v.server k).entries)
  feeds_ahead o is x there is_pred link = feeds-none (length (v.server x).entries) (v.channel (parties.Server k) (parties.Server x)) (addressed (parties.Server x) (to_server o (Snap (v.server k).entries))) (length (v.server k).entries) (b.whole.data_none k x there (unlinked o is x there))
      (subst (λ ms. Feeds (length (v.server x).entries) ms (length (v.server k).entries)) (sym (sent o x link)) (below, tt, refl)) where
        below : length (v.server x).entries ≤ length (v.server k).entries
        below = let prefix = below-pred v x k b.prefixes is_pred in omega (arith, ap length prefix.1, length-append (v.server x).entries prefix.0)

  acks : (o : Option ℕ) (x : ℕ) → Each (AckWithin (length (longer c (acting_history (record (v.server k) { succ = succ }))))) (addressed (parties.Server x) (to_server o (Snap (v.server k).entries)))
  acks o x = to_each (AckWithin (length (longer c (acting_history (record (v.server k) { succ = succ }))))) o (Snap (v.server k).entries) x tt

  more : (m : Message) → OfSnap (length (v.server k).entries < length c) m → OfSnap (length (v.server k).entries < length (longer c (acting_history (record (v.server k) { succ = succ })))) m
  more (Snap entries) i = omega (arith, i, within)
  more m i = other m i where
    other : (y : Message) → OfSnap (length (v.server k).entries < length c) y → OfSnap (length (v.server k).entries < length (longer c (acting_history (record (v.server k) { succ = succ })))) y
    other (Snap entries) j = omega (arith, j, within)
    other y j = tt

-- one that doesn't act isn't told to feed a server of the extended chain
feed_ignored : (v : View) (c : List Entry) (k : ℕ) (succ : Option ℕ) (rest : List Message) → BeforeTurn v c k → v.channel parties.Master (parties.Server k) ≡ Feed succ ∷ rest → acts (v.server k) ≡ false → (x : ℕ) → is_in (extended v.master) x ≡ true
    → feeds_of x rest ≡ feeds_of x (v.channel parties.Master (parties.Server k))
feed_ignored v c k succ rest b at idle x there = go succ at where
  member : is_in v.master.chain k ≡ true
  member = told-member v k (Feed succ) rest b.placed at (λ word. word)

  -- it would have to be the last member, and so act
  strange : (q : ℕ) → v.channel parties.Master (parties.Server k) ≡ Feed (Some q) ∷ rest → eqb q x ≡ true → ⊥
  strange q is e =
      let out = subst (λ i. is_in v.master.chain i ≡ false) (eqb-true q x e) (subst (λ ms. Each (FeedsOut v.master.chain) ms) is (b.whole.feeds_out k member)).0 in
      elim (extended-cases v.master.chain v.master.joiner x there) [
        | inl is_member ↦ both_ways (is_in v.master.chain x) out is_member
        | inr joins ↦ both_ways (acts (v.server k)) idle (ready-acts v c k b.commits (b.commits.joins_ready (ap (λ o. is_some o) (that_some v.master.joiner x joins)))
            (sym (joiner-before v.master.chain v.master.joiner k x b.prefixes.apart joins) ∙ before (stands_before k x (extended v.master)) refl))
      ] where
        some : 1 ≤ tokens v k x
        some = omega (arith, ap (λ ms. feeds_of x ms) is, ap (λ t. cond t (suc (feeds_of x rest)) (feeds_of x rest)) e)

        before : (t : Bool) → stands_before k x (extended v.master) ≡ t → stands_before k x (extended v.master) ≡ true
        before true h = h
        before false h = absurd (omega (arith, some, b.whole.token k x (member-extended v.master.chain v.master.joiner k member) there, ap (λ t. bit t) h))

  go : (o : Option ℕ) → v.channel parties.Master (parties.Server k) ≡ Feed o ∷ rest → feeds_of x rest ≡ feeds_of x (v.channel parties.Master (parties.Server k))
  go None is = sym (ap (λ ms. feeds_of x ms) is)
  go (Some q) is = sym (ap (λ ms. feeds_of x ms) is ∙ ap (λ t. cond t (suc (feeds_of x rest)) (feeds_of x rest)) other) where
    other : eqb q x ≡ false
    other = elim (cases_Bool (eqb q x)) [ inl e ↦ absurd (strange q is e) | inr apart ↦ apart ]

-- ---- all messages

-- what is committed after a turn isn't less
after_more : (c : List Entry) (s : Server) → length c ≤ length (longer c (acting_history s))
after_more c s = (longer-length c (acting_history s)).0

-- a server that settles acts as before
settled_so : (x : Server) → acts x ≡ true → acts (settled x) ≡ true
settled_so x does = let now = is_settled x in ap (λ us. reaches (length us) (settled x).at_least) now.entries ∙ ap (λ o. reaches (length x.entries) o) now.at_least ∙ does

server_feeding : (v : View) (c : List Entry) (p k : ℕ) (m : Message) (rest : List Message) → BeforeTurn v c k → (v.server k).down ≡ false → v.channel (parties.Server p) (parties.Server k) ≡ m ∷ rest
    → Turn v (parties.Server p) k rest (takes (parties.Server p) m (v.server k)).server (takes (parties.Server p) m (v.server k)).sent → Acting v c (parties.Server p) k rest (takes (parties.Server p) m (v.server k)).server (takes (parties.Server p) m (v.server k)).sent
    → Feeding v c (parties.Server p) k rest (takes (parties.Server p) m (v.server k)).server (takes (parties.Server p) m (v.server k)).sent
unfolding takes
server_feeding v c p k (Fwd place e) rest b lives at turned acting = go (is_next (v.server k) p place e) refl turned acting where
  go : (t : Bool) → is_next (v.server k) p place e ≡ t → Turn v (parties.Server p) k rest (cond t (forwarded e (v.server k)) (silent (v.server k))).server (cond t (forwarded e (v.server k)) (silent (v.server k))).sent
      → Acting v c (parties.Server p) k rest (cond t (forwarded e (v.server k)) (silent (v.server k))).server (cond t (forwarded e (v.server k)) (silent (v.server k))).sent
      → Feeding v c (parties.Server p) k rest (cond t (forwarded e (v.server k)) (silent (v.server k))).server (cond t (forwarded e (v.server k)) (silent (v.server k))).sent
  go true accepts t a = grown-feeding v c (parties.Server p) k rest (appended (v.server k) e) (passed_on (v.server k) e ++ tail_news (v.server k) (appended (v.server k) e)) b.prefixes b.whole b.placed
      (fwd_grown v c p k place e rest b at (that_some (v.server k).pred p (and_parts (is_that (v.server k).pred p) (eqb place (length (v.server k).entries + 1)) (and_parts (is_that (v.server k).pred p && eqb place (length (v.server k).entries + 1)) (nat_le (last_moment (v.server k).entries) e.moment) accepts).0).0)
      (λ does. turn-own v c (parties.Server p) k rest (settled (appended (v.server k) e)) (passed_on (v.server k) e ++ tail_news (v.server k) (appended (v.server k) e)) b.prefixes b.commits t a (settled_so (appended (v.server k) e) does) ((is_settled (appended (v.server k) e)).down ∙ lives)))
  go false ignores t a = ignored v c p k (Fwd place e) rest b at (λ there is_pred link. both_ways (is_next (v.server k) p place e) ignores (accepts_fwd v c p k place e rest b.prefixes b.whole (b.stamps p) there is_pred link at))
server_feeding v c p k (Snap entries) rest b lives at turned acting = go (is_restoring (v.server k) p entries) refl turned acting where
  go : (t : Bool) → is_restoring (v.server k) p entries ≡ t → Turn v (parties.Server p) k rest (cond t (restored p entries (v.server k)) (silent (v.server k))).server (cond t (restored p entries (v.server k)) (silent (v.server k))).sent
      → Acting v c (parties.Server p) k rest (cond t (restored p entries (v.server k)) (silent (v.server k))).server (cond t (restored p entries (v.server k)) (silent (v.server k))).sent
      → Feeding v c (parties.Server p) k rest (cond t (restored p entries (v.server k)) (silent (v.server k))).server (cond t (restored p entries (v.server k)) (silent (v.server k))).sent
  go true accepts t a =
      let parts = and_parts (is_that (v.server k).pred p) (is_none (v.server k).succ) (and_parts (is_that (v.server k).pred p && is_none (v.server k).succ) (nat_le (length (v.server k).entries) (length entries)) accepts).0 in
      grown-feeding v c (parties.Server p) k rest (with_history (v.server k) entries) (restored p entries (v.server k)).sent b.prefixes b.whole b.placed
      (snap_grown v c p k entries rest b at (that_some (v.server k).pred p parts.0) (nobody (v.server k).succ parts.1)
      (λ does. turn-own v c (parties.Server p) k rest (settled (with_history (v.server k) entries)) (restored p entries (v.server k)).sent b.prefixes b.commits t a (settled_so (with_history (v.server k) entries) does) ((is_settled (with_history (v.server k) entries)).down ∙ lives))) where
        nobody : (o : Option ℕ) → is_none o ≡ true → o ≡ None
        nobody None h = refl
        nobody (Some y) h = absurd (false≢true h)
  go false ignores t a = ignored v c p k (Snap entries) rest b at (λ there is_pred link. both_ways (is_restoring (v.server k) p entries) ignores (accepts_snap v c p k entries rest b.commits b.whole b.placed there is_pred link at))
server_feeding v c p k (Ack n) rest b lives at t a = go (nat_lt (v.server k).acked (min n (length (v.server k).entries))) where
  now : Server
  now = record (v.server k) { acked = min n (length (v.server k).entries); floor = max (v.server k).floor (min n (length (v.server k).entries)) }

  said : n ≤ length c
  said = (subst (λ ms. Each (AckWithin (length c)) ms) at (b.whole.acks p k)).0

  row : (m : ℕ) (x : ℕ) → min n (length (v.server k).entries) ≤ m → Each (AckWithin m) (addressed (parties.Server x) (to_server (v.server k).pred (Ack (min n (length (v.server k).entries)))))
  row m x h = to_each (AckWithin m) (v.server k).pred (Ack (min n (length (v.server k).entries))) x h

  go : (u : Bool) → Feeding v c (parties.Server p) k rest (cond u (record { server = record (v.server k) { acked = min n (length (v.server k).entries); floor = max (v.server k).floor (min n (length (v.server k).entries)) }; sent = to_server (v.server k).pred (Ack (min n (length (v.server k).entries))) }) (silent (v.server k))).server
      (cond u (record { server = record (v.server k) { acked = min n (length (v.server k).entries); floor = max (v.server k).floor (min n (length (v.server k).entries)) }; sent = to_server (v.server k).pred (Ack (min n (length (v.server k).entries))) }) (silent (v.server k))).sent
  go true = calm-feeding v c (parties.Server p) k (Ack n ∷ []) rest now (to_server (v.server k).pred (Ack (min n (length (v.server k).entries)))) b.prefixes b.whole b.placed at refl (λ q is. is) refl (λ y. y) (λ q. refl) (λ x there. refl) (λ x i. i) (λ t joins h. h)
      (subst (λ ms. Each Idle ms) (sym (not_told (v.server k).pred (Ack (min n (length (v.server k).entries))))) tt) (subst (λ ms. Each NoCaught ms) (sym (not_told (v.server k).pred (Ack (min n (length (v.server k).entries))))) tt) (λ x. to_each NoData (v.server k).pred (Ack (min n (length (v.server k).entries))) x tt)
      (λ q there is_pred link h. passes_idle v p k (Ack n) rest q at tt h) (omega (arith, said, after_more c now)) (λ x. row (length (longer c (acting_history now))) x (omega (arith, said, after_more c now)))
      (λ full. omega (arith, said, b.whole.floors k (full-member v k b.placed full) full, after_more c now))
  go false = ignored v c p k (Ack n) rest b at (λ there is_pred link. tt)
server_feeding v c p k m rest b lives at t a = ignored v c p k m rest b at (λ there is_pred link. tt)

told_feeding : (v : View) (c : List Entry) (k : ℕ) (m : Message) (rest : List Message) → BeforeTurn v c k → (v.server k).down ≡ false → v.channel parties.Master (parties.Server k) ≡ m ∷ rest
    → Turn v parties.Master k rest (takes parties.Master m (v.server k)).server (takes parties.Master m (v.server k)).sent → Acting v c parties.Master k rest (takes parties.Master m (v.server k)).server (takes parties.Master m (v.server k)).sent
    → Feeding v c parties.Master k rest (takes parties.Master m (v.server k)).server (takes parties.Master m (v.server k)).sent
unfolding takes
told_feeding v c k BeHead rest b lives at t a = calm-feeding v c parties.Master k (BeHead ∷ []) rest now [] b.prefixes b.whole b.placed at refl (λ p is. absurd (some_none p (sym is))) refl (λ y. y)
    (λ p. sym (ap (λ ms. reports_of p ms) at)) (λ x there. sym (ap (λ ms. links (v.server k).succ x ms) at)) (λ x h. (subst (λ ms. Each (OnlyTo x) ms) at h).1)
    (λ t_last joins h. absurd (both_ways (is_that v.master.joiner k) (member-other v.master.chain v.master.joiner k b.prefixes.apart (told-member v k BeHead rest b.placed at (λ word. word))) joins)) tt tt (λ x. tt) (λ p there is_pred link h. absurd (some_none p (sym is_pred)))
    (omega (arith, b.whole.acked k, after_more c now)) (λ x. tt) (λ full. omega (arith, b.whole.floors k (full-member v k b.placed full) full, after_more c now)) where
      now : Server
      now = record (v.server k) { head = true; pred = None }
told_feeding v c k (Report p) rest b lives at t a = report_feeding v c k p rest b at (after_more c (reported p (v.server k)).server)
told_feeding v c k (Adopt succ have) rest b lives at t a = go (is_that (v.server k).succ succ) refl where
  go : (u : Bool) → is_that (v.server k).succ succ ≡ u → Feeding v c parties.Master k rest (adopting succ have (v.server k)).server (adopting succ have (v.server k)).sent
  go true old = adopted_feeding v c k succ have rest b at old (after_more c (adopting succ have (v.server k)).server)
  go false new = adopt_feeding v c k succ have rest b at new (after_more c (adopting succ have (v.server k)).server)
told_feeding v c k (BeTail least) rest b lives at t a = tail_feeding v c k least rest b at
    (λ does. turn-own v c parties.Master k rest (tailed least (v.server k)).server (tailed least (v.server k)).sent b.prefixes b.commits t a (settled_so (as_tail least (v.server k)) does) ((is_settled (as_tail least (v.server k))).down ∙ lives))
told_feeding v c k (Feed succ) rest b lives at t a = go (acts (v.server k)) refl where
  go : (u : Bool) → acts (v.server k) ≡ u → Feeding v c parties.Master k rest (cond u (feeding succ (v.server k)) (silent (v.server k))).server (cond u (feeding succ (v.server k)) (silent (v.server k))).sent
  go true does = feed_feeding v c k succ rest b at does (after_more c (feeding succ (v.server k)).server)
  go false idle = calm-feeding v c parties.Master k (Feed succ ∷ []) rest (v.server k) [] b.prefixes b.whole b.placed at refl (λ p is. is) refl (λ y. y)
      (λ p. sym (ap (λ ms. reports_of p ms) at)) (λ x there. omega (arith, feed_ignored v c k succ rest b at idle x there, ap (λ ms. cond (is_that (v.server k).succ x) 1 (adopts_of x ms)) at)) (λ x h. (subst (λ ms. Each (OnlyTo x) ms) at h).1)
      (λ t_last joins h. sym (ap (λ ms. one (v.server k).pred ++ reports ms) at) ∙ h) tt tt (λ x. tt) (λ p there is_pred link h. h)
      (omega (arith, b.whole.acked k, after_more c (v.server k))) (λ x. tt) (λ full. omega (arith, b.whole.floors k (full-member v k b.placed full) full, after_more c (v.server k)))
told_feeding v c k m rest b lives at t a = calm-feeding v c parties.Master k (m ∷ []) rest (v.server k) [] b.prefixes b.whole b.placed at refl (λ p is. is) refl (λ y. y)
    (λ p. sym (ap (λ ms. reports_of p ms) at)) (λ x there. sym (ap (λ ms. links (v.server k).succ x ms) at)) (λ x h. (subst (λ ms. Each (OnlyTo x) ms) at h).1)
    (λ t_last joins h. sym (ap (λ ms. one (v.server k).pred ++ reports ms) at) ∙ h) tt tt (λ x. tt) (λ p there is_pred link h. h)
    (omega (arith, b.whole.acked k, after_more c (v.server k))) (λ x. tt) (λ full. omega (arith, b.whole.floors k (full-member v k b.placed full) full, after_more c (v.server k)))

-- a step for which nothing is taken, and by which nothing changes of neighbours and histories
quiet_feeding : (v : View) (c : List Entry) (k : ℕ) (s : Server) (out : List (Party × Message)) (rest : List Message) → BeforeTurn v c k → v.channel parties.Clients (parties.Server k) ≡ rest → s.entries ≡ (v.server k).entries → s.pred ≡ (v.server k).pred → s.succ ≡ (v.server k).succ → s.full ≡ (v.server k).full
    → s.acked ≡ (v.server k).acked → s.floor ≡ (v.server k).floor → Each Idle (addressed parties.Master out) → Each NoCaught (addressed parties.Master out) → ((x : ℕ) → addressed (parties.Server x) out ≡ []) → Feeding v c parties.Clients k rest s out
quiet_feeding v c k s out rest b at entries pred succ full acked floor idle told silent_now = calm-feeding v c parties.Clients k [] rest s out b.prefixes b.whole b.placed at entries (λ p is. sym pred ∙ is) succ (λ y. sym full ∙ y)
    (λ p. refl) (λ x there. refl) (λ x h. h) (λ t joins h. ap (λ o. one o ++ reports (v.channel parties.Master (parties.Server k))) pred ∙ h) idle told (λ x. subst (λ ms. Each NoData ms) (sym (silent_now x)) tt) (λ p there is_pred link h. h)
    (omega (arith, acked, b.whole.acked k, after_more c s)) (λ x. subst (λ ms. Each (AckWithin (length (longer c (acting_history s)))) ms) (sym (silent_now x)) tt) (λ is. omega (arith, floor, b.whole.floors k (full-member v k b.placed (sym full ∙ is)) (sym full ∙ is), after_more c s))

-- A server that takes any message.
pub take-feeding : (v : View) (c : List Entry) (from : Party) (k : ℕ) (m : Message) (rest : List Message) → BeforeTurn v c k → (v.server k).down ≡ false → v.channel from (parties.Server k) ≡ m ∷ rest
    → Turn v from k rest (takes from m (v.server k)).server (takes from m (v.server k)).sent → Acting v c from k rest (takes from m (v.server k)).server (takes from m (v.server k)).sent
    → Feeding v c from k rest (takes from m (v.server k)).server (takes from m (v.server k)).sent
unfolding takes
take-feeding v c parties.Master k m rest b lives at t a = told_feeding v c k m rest b lives at t a
take-feeding v c parties.Clients k m rest b lives at t a = calm-feeding v c parties.Clients k (m ∷ []) rest (v.server k) [] b.prefixes b.whole b.placed at refl (λ p is. is) refl (λ y. y)
    (λ p. refl) (λ x there. refl) (λ x h. h) (λ t_last joins h. h) tt tt (λ x. tt) (λ p there is_pred link h. h) (omega (arith, b.whole.acked k, after_more c (v.server k))) (λ x. tt) (λ full. omega (arith, b.whole.floors k (full-member v k b.placed full) full, after_more c (v.server k)))
take-feeding v c (parties.Server p) k m rest b lives at t a = server_feeding v c p k m rest b lives at t a

-- A request arrives.
pub arrive-feeding : (v : View) (c : List Entry) (k clock : ℕ) (request : Request) → BeforeTurn v c k → (v.server k).down ≡ false → (v.server k).head ≡ true
    → Turn v parties.Clients k (v.channel parties.Clients (parties.Server k)) (arrived clock request (v.server k)).server (arrived clock request (v.server k)).sent
    → Acting v c parties.Clients k (v.channel parties.Clients (parties.Server k)) (arrived clock request (v.server k)).server (arrived clock request (v.server k)).sent
    → Feeding v c parties.Clients k (v.channel parties.Clients (parties.Server k)) (arrived clock request (v.server k)).server (arrived clock request (v.server k)).sent
unfolding arrived
arrive-feeding v c k clock request b lives is_head t a =
    let e : Entry = stamped (v.server k).entries clock request in
    grown-feeding v c parties.Clients k (v.channel parties.Clients (parties.Server k)) (appended (v.server k) e) (passed_on (v.server k) e) b.prefixes b.whole b.placed
    (arrive_grown v c k e b is_head (λ does. turn-own v c parties.Clients k (v.channel parties.Clients (parties.Server k)) (settled (appended (v.server k) e)) (passed_on (v.server k) e) b.prefixes b.commits t a (settled_so (appended (v.server k) e) does) ((is_settled (appended (v.server k) e)).down ∙ lives)))

-- A query comes.
pub ask-feeding : (v : View) (c : List Entry) (k : ℕ) (query : Query) → BeforeTurn v c k → Feeding v c parties.Clients k (v.channel parties.Clients (parties.Server k)) (asked query (v.server k)).server (asked query (v.server k)).sent
unfolding asked
ask-feeding v c k query b = quiet_feeding v c k (v.server k) _ (v.channel parties.Clients (parties.Server k)) b refl refl refl refl refl refl refl tt tt (λ x. refl)

-- A server crashes.
pub crash-feeding : (v : View) (c : List Entry) (k : ℕ) → BeforeTurn v c k → Feeding v c parties.Clients k (v.channel parties.Clients (parties.Server k)) (crashed (v.server k)).server (crashed (v.server k)).sent
crash-feeding v c k b = quiet_feeding v c k (record (v.server k) { down = true }) [] (v.channel parties.Clients (parties.Server k)) b refl refl refl refl refl refl refl tt tt (λ x. refl)
