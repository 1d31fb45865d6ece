-- No step of a server that lives loses anything on the way.
use Rattle.std.proofs.Common.{◌≡◌, ℕ, zero, suc, ◌+◌, ◌≤◌, ◌<◌, ◌∙◌, ap, sym, List, [], ◌∷◌, ◌++◌, length, take, ◌&&◌, Some, None, is_none, Bool, true, false, cond, eqb, arith, subst, refl, inl, inr, nat_le, length-append}
use Rattle.std.proofs.Math.Seq.{take-append_seam}
use Rattle.std.specs.List.{fold}
use Rattle.std.proofs.lemmas.Bool.{eq-eqb, false≢true, both_ways, cases_Bool, and_from, le-leb}
use Rattle.cq_base.specs.declared.ask.Entry.{Entry}
use Rattle.cq_base.specs.declared.party.Party.{Party}
use Rattle.cq_base.specs.declared.party.Party.TheVariants as parties
use Rattle.cq_base.specs.queue.History.{last_moment}
use Rattle.cq_base.specs.Relations.{IsPrefix}
use Rattle.cq_base.proofs.Among.{among-right}
use Rattle.cq_chain.specs.Masters.{is_in, is_last, stands_before}
use Rattle.cq_chain.specs.Messages.{Message, Fwd, Snap, Report, Adopt, Feed, Have, Caught}
use Rattle.cq_chain.specs.Parties.{addressed}
use Rattle.cq_chain.specs.Servers.{Server, is_that}
use Rattle.cq_chain.specs.Steps.{is_next, is_restoring}
use Rattle.cq_store.specs.Laws.{Stamped}
use Rattle.cq_world.specs.Laws.{Speaks}
use Rattle.cq_events.specs.Runs.{longer, acting_history}
use Rattle.cq_world.proofs.Chains.{before-in}
use Rattle.cq_world.proofs.Prefixes.Climbing.{reports, one, ups}
use Rattle.cq_world.proofs.Commits.{Commits, bit, longer-length}
use Rattle.cq_world.proofs.Eaches.{Each, each-append, each-follows, cons_nil}
use Rattle.cq_world.proofs.Wholes.Feeding.{NoData, NoSnap, OfSnap, Feeds, data-snap, all-data-snap, feeds-append, no-snap}
use Rattle.cq_world.proofs.ExtendedChains.{member-extended}
use Rattle.cq_world.proofs.Prefixes.{Prefixes, master_after, ups_after}
use Rattle.cq_world.proofs.Views.{View, extended}
use Rattle.cq_world.proofs.Prefixes.Steps.{Placed, below-pred}
use Rattle.cq_world.proofs.Wholes.{Whole, reports_of, haves_of, adopts_of, OnlyTo, Catches, Known, HaveIs, AdoptIs, AckWithin, links, tokens, before-self, last-pred, stage-past}
use Rattle.cq_world.proofs.Wholes.Turns.{Feeding, left_between, left_each}

-- ---- words that say nothing of neighbours

abbrev pub Idle : Message → Type 0
Idle (Report p) = ⊥
Idle (Adopt s n) = ⊥
Idle (Feed succ) = ⊥
Idle (Have p n) = ⊥
Idle m = Unit {0}

pub idle_known : (used : List ℕ) (m : Message) → Idle m → Known used m
idle_known used (Report p) h = absurd h
idle_known used (Adopt s n) h = absurd h
idle_known used (Feed succ) h = absurd h
idle_known used (Have p n) h = absurd h
idle_known used m h = tt

-- it doesn't tell of a snapshot
abbrev pub NoCaught : Message → Type 0
NoCaught (Caught p n) = ⊥
NoCaught m = Unit {0}

pub no_catches : (P : Type 0) (m : Message) → NoCaught m → Catches P m
no_catches P (Caught p n) h = absurd h
no_catches P m h = tt

pub idle_have : (p count : ℕ) (m : Message) → Idle m → HaveIs p count m
idle_have p count (Have q n) h = absurd h
idle_have p count m h = tt

pub idle_haves : (p : ℕ) (ms : List Message) → Each Idle ms → haves_of p ms ≡ 0
idle_haves p [] h = refl
idle_haves p (m ∷ ms) h = step m h.0 (idle_haves p ms h.1) where
  step : (x : Message) → Idle x → haves_of p ms ≡ 0 → haves_of p (x ∷ ms) ≡ 0
  step (Have q n) g e = absurd g
  step x g e = e

-- where none names it, whatever is said of it is so
pub no_haves : (p count : ℕ) (ms : List Message) → haves_of p ms ≡ 0 → Each (HaveIs p count) ms
no_haves p count [] h = tt
no_haves p count (m ∷ ms) h = step m h (λ g. no_haves p count ms g) where
  step : (x : Message) → haves_of p (x ∷ ms) ≡ 0 → (haves_of p ms ≡ 0 → Each (HaveIs p count) ms) → Each (HaveIs p count) (x ∷ ms)
  step (Have q n) none later = go (eqb q p) refl none where
    go : (b : Bool) → eqb q p ≡ b → cond b (suc (haves_of p ms)) (haves_of p ms) ≡ 0 → Each (HaveIs p count) (Have q n ∷ ms)
    go true e k = absurd (omega (arith, k))
    go false e k = ((λ is. absurd (both_ways (eqb q p) e is)), later k)
  step x none later = other x none later where
    other : (y : Message) → haves_of p (y ∷ ms) ≡ 0 → (haves_of p ms ≡ 0 → Each (HaveIs p count) ms) → Each (HaveIs p count) (y ∷ ms)
    other (Have q n) k l = go (eqb q p) refl k where
      go : (b : Bool) → eqb q p ≡ b → cond b (suc (haves_of p ms)) (haves_of p ms) ≡ 0 → Each (HaveIs p count) (Have q n ∷ ms)
      go true e g = absurd (omega (arith, g))
      go false e g = ((λ is. absurd (both_ways (eqb q p) e is)), l g)
    other y k l = (tt, l k)

pub no_adopts : (s count : ℕ) (ms : List Message) → adopts_of s ms ≡ 0 → Each (AdoptIs s count) ms
no_adopts s count [] h = tt
no_adopts s count (m ∷ ms) h = step m h (λ g. no_adopts s count ms g) where
  step : (x : Message) → adopts_of s (x ∷ ms) ≡ 0 → (adopts_of s ms ≡ 0 → Each (AdoptIs s count) ms) → Each (AdoptIs s count) (x ∷ ms)
  step (Adopt q n) none later = go (eqb q s) refl none where
    go : (b : Bool) → eqb q s ≡ b → cond b (suc (adopts_of s ms)) (adopts_of s ms) ≡ 0 → Each (AdoptIs s count) (Adopt q n ∷ ms)
    go true e k = absurd (omega (arith, k))
    go false e k = ((λ is. absurd (both_ways (eqb q s) e is)), later k)
  step x none later = other x none later where
    other : (y : Message) → adopts_of s (y ∷ ms) ≡ 0 → (adopts_of s ms ≡ 0 → Each (AdoptIs s count) ms) → Each (AdoptIs s count) (y ∷ ms)
    other (Adopt q n) k l = go (eqb q s) refl k where
      go : (b : Bool) → eqb q s ≡ b → cond b (suc (adopts_of s ms)) (adopts_of s ms) ≡ 0 → Each (AdoptIs s count) (Adopt q n ∷ ms)
      go true e g = absurd (omega (arith, g))
      go false e g = ((λ is. absurd (both_ways (eqb q s) e is)), l g)
    other y k l = (tt, l k)

-- messages without data take one nowhere
pub feeds_still : (n : ℕ) (ms : List Message) → Each NoData ms → Feeds n ms n
feeds_still n [] h = refl
feeds_still n (m ∷ ms) h = step m h.0 (feeds_still n ms h.1) where
  step : (x : Message) → NoData x → Feeds n ms n → Feeds n (x ∷ ms) n
  step (Fwd place e) none k = absurd none
  step (Snap entries) none k = absurd none
  step x none k = k

-- ---- neighbours

-- a server of the extended chain isn't its own successor
pub own_link : (v : View) (c : List Entry) (k : ℕ) → Prefixes v → Whole v c → is_in (extended v.master) k ≡ true → is_that (v.server k).succ k ≡ false
own_link v c k g h member = go (is_that (v.server k).succ k) (stands_before k k (extended v.master)) refl refl where
  go : (a b : Bool) → is_that (v.server k).succ k ≡ a → stands_before k k (extended v.master) ≡ b → a ≡ false
  go false b e f = refl
  go true true e f = absurd (before-self k (extended v.master) g.apart f)
  go true false e f = absurd (omega (arith, h.token k k member member, ap (λ x. bit x) f, ap (λ x. cond x 1 (adopts_of k (v.channel parties.Master (parties.Server k)))) e))

-- the same of a member, and of an outsider, which has no successor
pub placed_link : (v : View) (c : List Entry) (k : ℕ) → Prefixes v → Whole v c → Placed v k → is_that (v.server k).succ k ≡ false
placed_link v c k g h (inl member) = own_link v c k g h (member-extended v.master.chain v.master.joiner k member)
placed_link v c k g h (inr b) = ap (λ o. is_that o k) b.1.succ

pub placed_follows : (v : View) (c : List Entry) (k x : ℕ) → Whole v c → Placed v k → is_in (extended v.master) x ≡ true → is_that (v.server k).succ x ≡ true → Each (OnlyTo x) (v.channel parties.Master (parties.Server k))
placed_follows v c k x h (inl member) there is = h.follows k x (member-extended v.master.chain v.master.joiner k member) there is
placed_follows v c k x h (inr b) there is = absurd (false≢true (sym (ap (λ o. is_that o x) b.1.succ) ∙ is))

pub placed_young : (v : View) (c : List Entry) (k : ℕ) → Whole v c → Placed v k → (v.server k).full ≡ false → (v.server k).succ ≡ None
placed_young v c k h (inl member) young = h.young_succ k member young
placed_young v c k h (inr b) young = b.1.succ

-- a server that grows by what its predecessor sends: its neighbours' numbers say nothing of it
pub linked_alone : (v : View) (c : List Entry) (p k : ℕ) → Prefixes v → Whole v c → is_in (extended v.master) k ≡ true → (v.server k).pred ≡ Some p → is_that (v.server p).succ k ≡ true
    → (q : ℕ) → stands_before q k (extended v.master) ≡ true → (haves_of q (v.channel (parties.Server k) parties.Master) ≡ 0) × (is_that (v.server q).succ k ≡ false → adopts_of k (v.channel parties.Master (parties.Server q)) ≡ 0)
linked_alone v c p k g h member is_pred link q before = by_reports (reports_of q (v.channel parties.Master (parties.Server k))) refl where
  one_token : tokens v q k ≡ 1
  one_token = h.token q k (before-in q k (extended v.master) before).0 member ∙ ap (λ b. bit b) before

  same_some : (a b : ℕ) → Some a ≡ Some b → a ≡ b
  same_some a b e = cc

  by_reports : (n : ℕ) → reports_of q (v.channel parties.Master (parties.Server k)) ≡ n → (haves_of q (v.channel (parties.Server k) parties.Master) ≡ 0) × (is_that (v.server q).succ k ≡ false → adopts_of k (v.channel parties.Master (parties.Server q)) ≡ 0)
  by_reports (suc n) e = (omega (arith, one_token, e), λ not_link. omega (arith, one_token, e, ap (λ b. cond b 1 (adopts_of k (v.channel parties.Master (parties.Server q)))) not_link))
  by_reports zero e =
      let here = (stage-past v q k g before e).0 in
      let same_one = same_some q p (sym here ∙ is_pred) in
      let linked = subst (λ i. is_that (v.server i).succ k ≡ true) (sym same_one) link in
      (omega (arith, one_token, ap (λ b. cond b 1 (adopts_of k (v.channel parties.Master (parties.Server q)))) linked), λ not_link. absurd (both_ways (is_that (v.server q).succ k) not_link linked))

-- nobody stands before a head
pub no_neighbour : (v : View) (p k : ℕ) → Prefixes v → is_in (extended v.master) k ≡ true → (v.server k).head ≡ true → stands_before p k (extended v.master) ≡ true → ⊥
no_neighbour v p k g member is_head before = false≢true (sym (ap (λ us. is_last us p) (g.headless k member is_head)) ∙ last-pred v p k g before)

pub no_pred : (v : View) (p k : ℕ) → Prefixes v → is_in (extended v.master) k ≡ true → (v.server k).head ≡ true → (v.server k).pred ≡ Some p → ⊥
no_pred v p k g member is_head is_pred = go (sym (ap (λ o. one o ++ reports (v.channel parties.Master (parties.Server k))) is_pred) ∙ g.headless k member is_head) where
  go : p ∷ reports (v.channel parties.Master (parties.Server k)) ≡ [] → ⊥
  go e = cons_nil p (reports (v.channel parties.Master (parties.Server k))) e

-- ---- steps by which nothing comes to the history

pub calm-feeding : (v : View) (c : List Entry) (from : Party) (k : ℕ) (prefix rest : List Message) (s : Server) (out : List (Party × Message)) → Prefixes v → Whole v c → Placed v k
    → v.channel from (parties.Server k) ≡ prefix ++ rest
    → s.entries ≡ (v.server k).entries → ((p : ℕ) → s.pred ≡ Some p → (v.server k).pred ≡ Some p) → s.succ ≡ (v.server k).succ → (s.full ≡ false → (v.server k).full ≡ false)
    → ((p : ℕ) → reports_of p (master_after v from k rest) ≡ reports_of p (v.channel parties.Master (parties.Server k)))
    → ((x : ℕ) → is_in (extended v.master) x ≡ true → links (v.server k).succ x (master_after v from k rest) ≡ links (v.server k).succ x (v.channel parties.Master (parties.Server k)))
    → ((x : ℕ) → Each (OnlyTo x) (v.channel parties.Master (parties.Server k)) → Each (OnlyTo x) (master_after v from k rest))
    → ((t : ℕ) → is_that v.master.joiner k ≡ true → ups v k ≡ t ∷ [] → ups_after v from k rest s ≡ t ∷ [])
    → Each Idle (addressed parties.Master out) → Each NoCaught (addressed parties.Master out) → ((x : ℕ) → Each NoData (addressed (parties.Server x) out))
    → ((p : ℕ) → is_in (extended v.master) k ≡ true → s.pred ≡ Some p → is_that (v.server p).succ k ≡ true → Feeds (length (v.server k).entries) (v.channel (parties.Server p) (parties.Server k)) (length (v.server p).entries) → Feeds (length (v.server k).entries) (left_between v from k rest p k) (length (v.server p).entries))
    → s.acked ≤ length (longer c (acting_history s)) → ((x : ℕ) → Each (AckWithin (length (longer c (acting_history s)))) (addressed (parties.Server x) out)) → (s.full ≡ true → s.floor ≤ length (longer c (acting_history s)))
    → Feeding v c from k rest s out
calm-feeding v c from k prefix rest s out g h placed taken entries pred succ young same_reports same_links same_news same_ups idle told quiet passes acked acks floor = record {
  pred_known = λ p is. h.pred_known k p (pred p is);
  succ_known = λ x is. h.succ_known k x (sym succ ∙ is);
  reports_known = each-follows Idle (Known v.master.used) (addressed parties.Master out) (idle_known v.master.used) idle;
  behind = λ p m. omega (arith, same_reports p, idle_haves p (addressed parties.Master out) idle);
  ahead = λ x there. ap (λ o. links o x (master_after v from k rest)) succ ∙ same_links x there;
  keeps_succ = λ x there is. ap (λ o. is_that o x) succ ∙ is;
  not_self = ap (λ o. is_that o k) succ ∙ placed_link v c k g h placed;
  follows = λ x there is. same_news x (placed_follows v c k x h placed there (sym (ap (λ o. is_that o x) succ) ∙ is));
  counts = λ p before. each-append (HaveIs p (length s.entries)) (v.channel (parties.Server k) parties.Master) (addressed parties.Master out) (subst (λ us. Each (HaveIs p (length us)) (v.channel (parties.Server k) parties.Master)) (sym entries) (h.counts p k before))
      (each-follows Idle (HaveIs p (length s.entries)) (addressed parties.Master out) (idle_have p (length s.entries)) idle);
  adopts = λ p before not_link. subst (λ us. Each (AdoptIs k (length us)) (v.channel parties.Master (parties.Server p))) (sym entries) (h.adopts p k before not_link);
  sent_data = λ x none. quiet x;
  new_link = λ x there is was. absurd (both_ways (is_that (v.server k).succ x) was (sym (ap (λ o. is_that o x) succ) ∙ is));
  feeds_ahead = λ x there other is_pred link. subst (λ us. Feeds (length (v.server x).entries) (v.channel (parties.Server k) (parties.Server x) ++ addressed (parties.Server x) out) (length us)) (sym entries)
      (feeds-append (length (v.server x).entries) (v.channel (parties.Server k) (parties.Server x)) (addressed (parties.Server x) out) (length (v.server k).entries) (length (v.server k).entries) (h.feed k x there is_pred (sym (ap (λ o. is_that o x) succ) ∙ link))
      (all-data-snap (addressed (parties.Server x) out) (quiet x)) (feeds_still (length (v.server k).entries) (addressed (parties.Server x) out) (quiet x)));
  feeds_behind = λ p there other is_pred link. subst (λ us. Feeds (length us) (left_between v from k rest p k) (length (v.server p).entries)) (sym entries) (passes p there is_pred link (h.feed p k there (pred p is_pred) link));
  snaps_ahead = λ x there other is_pred. each-follows NoData (OfSnap (length (v.server x).entries < length c)) (addressed (parties.Server x) out) (λ m none. no-snap (length (v.server x).entries < length c) m (data-snap m none)) (quiet x);
  snaps_behind = λ p member is_pred. subst (λ us. Each (OfSnap (length us < length (longer c (acting_history s)))) (left_between v from k rest p k)) (sym entries)
      (each-follows (OfSnap (length (v.server k).entries < length c)) (OfSnap (length (v.server k).entries < length (longer c (acting_history s)))) (left_between v from k rest p k) more (left_each v from k prefix rest (OfSnap (length (v.server k).entries < length c)) p k taken (h.snap p k member (pred p is_pred))));
  young_succ = λ is. succ ∙ placed_young v c k h placed (young is);
  fed = λ t joins last. same_ups t joins (h.fed_by k t joins last);
  snaps_to = λ x joins link. all-data-snap (addressed (parties.Server x) out) (quiet x);
  catches = λ t joins last. each-follows NoCaught (Catches ((is_that (v.server t).succ k ≡ true) × Each NoSnap (left_between v from k rest t k))) (addressed parties.Master out) (no_catches ((is_that (v.server t).succ k ≡ true) × Each NoSnap (left_between v from k rest t k))) told;
  acked = acked;
  sent_acks = acks;
  floor = floor;
} where
  more : (m : Message) → OfSnap (length (v.server k).entries < length c) m → OfSnap (length (v.server k).entries < length (longer c (acting_history s))) m
  more (Snap entries) i = omega (arith, i, (longer-length c (acting_history s)).0)
  more m i = other m i where
    other : (y : Message) → OfSnap (length (v.server k).entries < length c) y → OfSnap (length (v.server k).entries < length (longer c (acting_history s))) y
    other (Snap entries) j = omega (arith, j, (longer-length c (acting_history s)).0)
    other y j = tt

-- ---- what is accepted

-- after entries that are stamped none is earlier
pub stamped_next : (last : ℕ) (xs : List Entry) (e : Entry) (ys : List Entry) → last ≤ e.moment → Stamped (xs ++ (e ∷ ys)) → fold (λ _ x. x.moment) last xs ≤ e.moment
stamped_next last [] e ys h stamps = h
stamped_next last (x ∷ xs) e ys h stamps = stamped_next x.moment xs e ys (stamps.0 e (among-right e xs (e ∷ ys) (inl refl))) stamps.1

-- a prefix of so many entries is what stands before the next one
prefix_before : (xs zs before rest : List Entry) (e : Entry) → IsPrefix xs zs → zs ≡ before ++ (e ∷ rest) → length before ≡ length xs → before ≡ xs
prefix_before xs zs before rest e h split long = sym (take-append_seam before (e ∷ rest)) ∙ ap (λ us. take (length before) us) (sym split ∙ h.1) ∙ ap (λ n. take n (xs ++ h.0)) long ∙ take-append_seam xs h.0

-- a forwarded entry of a predecessor that is linked is the next one
pub accepts_fwd : (v : View) (c : List Entry) (p k place : ℕ) (e : Entry) (rest : List Message) → Prefixes v → Whole v c → Stamped (v.server p).entries → is_in (extended v.master) k ≡ true → (v.server k).pred ≡ Some p → is_that (v.server p).succ k ≡ true
    → v.channel (parties.Server p) (parties.Server k) ≡ Fwd place e ∷ rest → is_next (v.server k) p place e ≡ true
unfolding last_moment
accepts_fwd v c p k place e rest g h stamps member is_pred link at =
    let feed = subst (λ ms. Feeds (length (v.server k).entries) ms (length (v.server p).entries)) at (h.feed p k member is_pred link) in
    let says = (subst (λ ms. Each (Speaks (v.server p).entries) ms) at (g.speaks p (parties.Server k))).0 in
    let before = prefix_before (v.server k).entries (v.server p).entries says.0 says.1 e (below-pred v k p g is_pred) says.2 (omega (arith, says.3, feed.0)) in
    and_from (is_that (v.server k).pred p && eqb place (length (v.server k).entries + 1)) (nat_le (last_moment (v.server k).entries) e.moment)
    (and_from (is_that (v.server k).pred p) (eqb place (length (v.server k).entries + 1)) (ap (λ o. is_that o p) is_pred ∙ eq-eqb p p refl) (eq-eqb place (length (v.server k).entries + 1) feed.0))
    (le-leb (last_moment (v.server k).entries) e.moment (subst (λ us. fold (λ _ x. x.moment) 0 us ≤ e.moment) before (stamped_next 0 says.0 e says.1 (omega arith) (subst Stamped says.2 stamps))))

-- a snapshot of a predecessor comes to one that isn't full
pub snap_young : (v : View) (c : List Entry) (p k : ℕ) (entries : List Entry) (rest : List Message) → Commits v c → Whole v c → is_in v.master.chain k ≡ true → (v.server k).pred ≡ Some p
    → v.channel (parties.Server p) (parties.Server k) ≡ Snap entries ∷ rest → (v.server k).full ≡ false
snap_young v c p k entries rest k_commits h member is_pred at = elim (cases_Bool (v.server k).full) [
  | inr young ↦ young
  | inl full ↦ let prefix = k_commits.old k member full in
      absurd (omega (arith, (subst (λ ms. Each (OfSnap (length (v.server k).entries < length c)) ms) at (h.snap p k member is_pred)).0, ap length prefix.1, length-append c prefix.0))
]

-- a snapshot of a predecessor that is linked is accepted
pub accepts_snap : (v : View) (c : List Entry) (p k : ℕ) (entries : List Entry) (rest : List Message) → Commits v c → Whole v c → Placed v k → is_in (extended v.master) k ≡ true → (v.server k).pred ≡ Some p → is_that (v.server p).succ k ≡ true
    → v.channel (parties.Server p) (parties.Server k) ≡ Snap entries ∷ rest → is_restoring (v.server k) p entries ≡ true
accepts_snap v c p k entries rest k_commits h placed there is_pred link at =
    let feed = subst (λ ms. Feeds (length (v.server k).entries) ms (length (v.server p).entries)) at (h.feed p k there is_pred link) in
    and_from (is_that (v.server k).pred p && is_none (v.server k).succ) (nat_le (length (v.server k).entries) (length entries))
    (and_from (is_that (v.server k).pred p) (is_none (v.server k).succ) (ap (λ o. is_that o p) is_pred ∙ eq-eqb p p refl) (ap (λ o. is_none o) (alone placed)))
    (le-leb (length (v.server k).entries) (length entries) feed.0) where
      alone : Placed v k → (v.server k).succ ≡ None
      alone (inl member) = h.young_succ k member (snap_young v c p k entries rest k_commits h member is_pred at)
      alone (inr b) = b.1.succ
