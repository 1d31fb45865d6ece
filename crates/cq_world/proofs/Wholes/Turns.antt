-- A turn of a server loses nothing on the way.
use Rattle.std.proofs.Common.{◌≡◌, ℕ, suc, ◌+◌, ◌≤◌, ◌<◌, ◌∙◌, ap, sym, List, [], ◌∷◌, ◌++◌, length, ◌&&◌, Some, None, Bool, true, false, cond, eqb, arith, subst, refl, inl, inr}
use Rattle.std.proofs.lemmas.Bool.{eqb-true, both_ways, cases_Bool}
use Rattle.cq_base.specs.declared.ask.Entry.{Entry}
use Rattle.cq_base.specs.declared.party.Party.{Party}
use Rattle.cq_base.specs.declared.party.Party.TheVariants as parties
use Rattle.cq_chain.specs.Masters.{is_in, is_last, stands_before}
use Rattle.cq_chain.specs.Messages.{Message, Snap, Ack, Report, Adopt, Feed, Have, Caught}
use Rattle.cq_chain.specs.Parties.{same, addressed}
use Rattle.cq_chain.specs.Servers.{Server, is_that}
use Rattle.cq_events.specs.Runs.{longer, acting_history}
use Rattle.cq_events.specs.Worlds.{set_at}
use Rattle.cq_world.proofs.Chains.{last-in, before-in}
use Rattle.cq_world.proofs.Commits.{longer-length}
use Rattle.cq_world.proofs.Commits.Turns.{if_true, if_false, report_row, by_server, by_told, by_report}
use Rattle.cq_world.proofs.Eaches.{Each, each-append, each-follows}
use Rattle.cq_world.proofs.Wholes.Feeding.{NoData, NoSnap, OfSnap, Feeds, data-snap, no-snap}
use Rattle.cq_events.proofs.Parties.{same-true}
use Rattle.cq_world.proofs.ExtendedChains.{joiner-extended, joiner-out}
use Rattle.cq_world.proofs.Prefixes.Climbing.{ups}
use Rattle.cq_world.proofs.Prefixes.{Prefixes, Turn, master_after, ups_after, ups_own, ups_other, row_after, rest_of, each-end}
use Rattle.cq_world.proofs.Settled.{that_some}
use Rattle.cq_world.proofs.Views.{View, extended, turn}
use Rattle.cq_world.proofs.Wholes.{Whole, reports_of, haves_of, adopts_of, feeds_of, OnlyTo, Ends, FeedsOut, Catches, Known, HaveIs, AdoptIs, AckWithin, links, tokens, before-self}

-- what is left on the way from one server to another, before more is sent
abbrev pub left_between : View → Party → ℕ → List Message → ℕ → ℕ → List Message
left_between v from k rest a b = cond (same (parties.Server a) from && eqb b k) rest (v.channel (parties.Server a) (parties.Server b))

-- What a turn has to show. All of it is about the server that makes it, and its neighbours.
pub record Feeding (v : View) (c : List Entry) (from : Party) (k : ℕ) (rest : List Message) (s : Server) (out : List (Party × Message)) : Type 0 where
  pub pred_known : (p : ℕ) → s.pred ≡ Some p → is_in v.master.used p ≡ true
  pub succ_known : (x : ℕ) → s.succ ≡ Some x → is_in v.master.used x ≡ true
  pub reports_known : Each (Known v.master.used) (addressed parties.Master out)
  -- the making of pairs goes on
  pub behind : (p : ℕ) → is_in (extended v.master) p ≡ true → reports_of p (master_after v from k rest) + haves_of p (addressed parties.Master out) ≡ reports_of p (v.channel parties.Master (parties.Server k))
  pub ahead : (x : ℕ) → is_in (extended v.master) x ≡ true → links s.succ x (master_after v from k rest) ≡ links (v.server k).succ x (v.channel parties.Master (parties.Server k))
  pub keeps_succ : (x : ℕ) → is_in (extended v.master) x ≡ true → is_that (v.server k).succ x ≡ true → is_that s.succ x ≡ true
  pub not_self : is_that s.succ k ≡ false
  pub follows : (x : ℕ) → is_in (extended v.master) x ≡ true → is_that s.succ x ≡ true → Each (OnlyTo x) (master_after v from k rest)
  -- numbers
  pub counts : (p : ℕ) → stands_before p k (extended v.master) ≡ true → Each (HaveIs p (length s.entries)) (v.channel (parties.Server k) parties.Master ++ addressed parties.Master out)
  pub adopts : (p : ℕ) → stands_before p k (extended v.master) ≡ true → is_that (v.server p).succ k ≡ false → Each (AdoptIs k (length s.entries)) (v.channel parties.Master (parties.Server p))
  -- entries
  pub sent_data : (x : ℕ) → is_that s.succ x ≡ false → Each NoData (addressed (parties.Server x) out)
  pub new_link : (x : ℕ) → is_in (extended v.master) x ≡ true → is_that s.succ x ≡ true → is_that (v.server k).succ x ≡ false → reports_of k (v.channel parties.Master (parties.Server x)) ≡ 0
  pub feeds_ahead : (x : ℕ) → is_in (extended v.master) x ≡ true → eqb x k ≡ false → (v.server x).pred ≡ Some k → is_that s.succ x ≡ true
      → Feeds (length (v.server x).entries) (v.channel (parties.Server k) (parties.Server x) ++ addressed (parties.Server x) out) (length s.entries)
  pub feeds_behind : (p : ℕ) → is_in (extended v.master) k ≡ true → eqb p k ≡ false → s.pred ≡ Some p → is_that (v.server p).succ k ≡ true → Feeds (length s.entries) (left_between v from k rest p k) (length (v.server p).entries)
  pub snaps_ahead : (x : ℕ) → is_in v.master.chain x ≡ true → eqb x k ≡ false → (v.server x).pred ≡ Some k → Each (OfSnap (length (v.server x).entries < length c)) (addressed (parties.Server x) out)
  pub snaps_behind : (p : ℕ) → is_in v.master.chain k ≡ true → s.pred ≡ Some p → Each (OfSnap (length s.entries < length (longer c (acting_history s)))) (left_between v from k rest p k)
  pub young_succ : s.full ≡ false → s.succ ≡ None
  -- a server that joins
  pub fed : (t : ℕ) → is_that v.master.joiner k ≡ true → is_last v.master.chain t ≡ true → ups_after v from k rest s ≡ t ∷ []
  pub snaps_to : (x : ℕ) → is_that v.master.joiner x ≡ true → is_that (v.server k).succ x ≡ true → Each NoSnap (addressed (parties.Server x) out)
  pub catches : (t : ℕ) → is_that v.master.joiner k ≡ true → is_last v.master.chain t ≡ true → Each (Catches ((is_that (v.server t).succ k ≡ true) × Each NoSnap (left_between v from k rest t k))) (addressed parties.Master out)
  -- acknowledgements
  pub acked : s.acked ≤ length (longer c (acting_history s))
  pub sent_acks : (x : ℕ) → Each (AckWithin (length (longer c (acting_history s)))) (addressed (parties.Server x) out)
  pub floor : s.full ≡ true → s.floor ≤ length (longer c (acting_history s))

-- ---- counts of rows

pub reports-append : (p : ℕ) (xs ys : List Message) → reports_of p (xs ++ ys) ≡ reports_of p xs + reports_of p ys
reports-append p [] ys = omega arith
reports-append p (m ∷ xs) ys = step m (reports-append p xs ys) where
  step : (x : Message) → reports_of p (xs ++ ys) ≡ reports_of p xs + reports_of p ys → reports_of p (x ∷ (xs ++ ys)) ≡ reports_of p (x ∷ xs) + reports_of p ys
  step (Report q) h = go (eqb q p) where
    go : (b : Bool) → cond b (suc (reports_of p (xs ++ ys))) (reports_of p (xs ++ ys)) ≡ cond b (suc (reports_of p xs)) (reports_of p xs) + reports_of p ys
    go true = omega (arith, h)
    go false = h
  step x h = h

pub haves-append : (p : ℕ) (xs ys : List Message) → haves_of p (xs ++ ys) ≡ haves_of p xs + haves_of p ys
haves-append p [] ys = omega arith
haves-append p (m ∷ xs) ys = step m (haves-append p xs ys) where
  step : (x : Message) → haves_of p (xs ++ ys) ≡ haves_of p xs + haves_of p ys → haves_of p (x ∷ (xs ++ ys)) ≡ haves_of p (x ∷ xs) + haves_of p ys
  step (Have q n) h = go (eqb q p) where
    go : (b : Bool) → cond b (suc (haves_of p (xs ++ ys))) (haves_of p (xs ++ ys)) ≡ cond b (suc (haves_of p xs)) (haves_of p xs) + haves_of p ys
    go true = omega (arith, h)
    go false = h
  step x h = h

pub adopts-append : (s : ℕ) (xs ys : List Message) → adopts_of s (xs ++ ys) ≡ adopts_of s xs + adopts_of s ys
adopts-append s [] ys = omega arith
adopts-append s (m ∷ xs) ys = step m (adopts-append s xs ys) where
  step : (x : Message) → adopts_of s (xs ++ ys) ≡ adopts_of s xs + adopts_of s ys → adopts_of s (x ∷ (xs ++ ys)) ≡ adopts_of s (x ∷ xs) + adopts_of s ys
  step (Adopt q n) h = go (eqb q s) where
    go : (b : Bool) → cond b (suc (adopts_of s (xs ++ ys))) (adopts_of s (xs ++ ys)) ≡ cond b (suc (adopts_of s xs)) (adopts_of s xs) + adopts_of s ys
    go true = omega (arith, h)
    go false = h
  step x h = h

pub fed-append : (s : ℕ) (xs ys : List Message) → feeds_of s (xs ++ ys) ≡ feeds_of s xs + feeds_of s ys
fed-append s [] ys = omega arith
fed-append s (m ∷ xs) ys = step m (fed-append s xs ys) where
  step : (x : Message) → feeds_of s (xs ++ ys) ≡ feeds_of s xs + feeds_of s ys → feeds_of s (x ∷ (xs ++ ys)) ≡ feeds_of s (x ∷ xs) + feeds_of s ys
  step (Feed (Some q)) h = go (eqb q s) where
    go : (b : Bool) → cond b (suc (feeds_of s (xs ++ ys))) (feeds_of s (xs ++ ys)) ≡ cond b (suc (feeds_of s xs)) (feeds_of s xs) + feeds_of s ys
    go true = omega (arith, h)
    go false = h
  step x h = h

-- of the end of a row
pub ends-end : (extended : List ℕ) (xs ys : List Message) → Ends extended (xs ++ ys) → Ends extended ys
ends-end extended [] ys h = h
ends-end extended (m ∷ xs) ys h = ends-end extended xs ys (skip m h) where
  skip : (x : Message) → Ends extended (x ∷ (xs ++ ys)) → Ends extended (xs ++ ys)
  skip (Adopt s n) g = g.1
  skip (Feed (Some s)) g = g.1
  skip x g = g

-- ---- a turn

pub record Flow (v : View) (c : List Entry) (from : Party) (k : ℕ) (rest : List Message) (s : Server) (out : List (Party × Message)) : Type 0 where
  pub prefixes : Prefixes v
  pub whole : Whole v c
  pub moves : Turn v from k rest s out
  pub feeding : Feeding v c from k rest s out

-- what is left is the end of what was there
pub left_each : (v : View) (from : Party) (k : ℕ) (prefix rest : List Message) (P : Message → Type 0) (a b : ℕ) → v.channel from (parties.Server k) ≡ prefix ++ rest → Each P (v.channel (parties.Server a) (parties.Server b)) → Each P (left_between v from k rest a b)
left_each v from k prefix rest P a b taken h = go (same (parties.Server a) from) (eqb b k) refl refl where
  go : (x y : Bool) → same (parties.Server a) from ≡ x → eqb b k ≡ y → Each P (cond (x && y) rest (v.channel (parties.Server a) (parties.Server b)))
  go true true e f = each-end P prefix rest (subst (λ ms. Each P ms) (ap (λ q. v.channel q (parties.Server b)) (same-true (parties.Server a) from e) ∙ ap (λ i. v.channel from (parties.Server i)) (eqb-true b k f) ∙ taken) h)
  go true false e f = h
  go false y e f = h

-- on the way to another server all is left
pub left_other : (v : View) (from : Party) (k : ℕ) (rest : List Message) (a b : ℕ) → eqb b k ≡ false → left_between v from k rest a b ≡ v.channel (parties.Server a) (parties.Server b)
left_other v from k rest a b other = if_false (same (parties.Server a) from && eqb b k) rest (v.channel (parties.Server a) (parties.Server b)) (and_not (same (parties.Server a) from) other) where
  and_not : (x : Bool) → eqb b k ≡ false → (x && eqb b k) ≡ false
  and_not true e = e
  and_not false e = refl

whole_keep : (v : View) (c : List Entry) (from : Party) (k : ℕ) (rest : List Message) (s : Server) (out : List (Party × Message)) → Flow v c from k rest s out → Whole (turn v from k rest s out) (longer c (acting_history s))
whole_keep v c from k rest s out t = record {
  pred_known = λ id p. by_server v k s (λ i x. x.pred ≡ Some p → is_in v.master.used p ≡ true) (f.pred_known p) (λ i other. h.pred_known i p) id;
  succ_known = λ id x. by_server v k s (λ i y. y.succ ≡ Some x → is_in v.master.used x ≡ true) (f.succ_known x) (λ i other. h.succ_known i x) id;
  orders_known = λ id. by_told v from k rest s out (λ i x ms. Each (Known v.master.used) ms) (end_of (Known v.master.used) (h.orders_known k)) (λ i other. h.orders_known i) id;
  reports_known = λ id. by_report v from k rest s out (λ i ms. Each (Known v.master.used) ms) h.reports_known (λ g. each-append (Known v.master.used) (v.channel (parties.Server k) parties.Master) (addressed parties.Master out) g f.reports_known) id;
  unheard = λ p id unused. sent_row NoData p id (left_each v from k t.moves.prefix rest NoData p id t.moves.taken (h.unheard p id unused)) (f.sent_data id (unknown id unused));
  token = λ p x member there. tokens_same p x member there ∙ h.token p x member there;
  ends = λ p. by_told v from k rest s out (λ i x ms. is_in (extended v.master) i ≡ true → Ends (extended v.master) ms) (λ m. ends-end (extended v.master) left.0 (master_after v from k rest) (subst (λ ms. Ends (extended v.master) ms) left.1 (h.ends k m))) (λ i other. h.ends i) p;
  follows = λ p x. by_told v from k rest s out (λ i y ms. is_in (extended v.master) i ≡ true → is_in (extended v.master) x ≡ true → is_that y.succ x ≡ true → Each (OnlyTo x) ms) (λ m. f.follows x) (λ i other. h.follows i x) p;
  counts = λ p x before. counts p x before (eqb x k) refl;
  adopts = λ p x before. adopts p x before (eqb p k) (eqb x k) refl refl;
  data_none = λ p x there. data_none p x there (eqb p k) refl;
  linked_told = λ p x there. linked_told p x there (eqb p k) refl;
  feed = λ p x there. feed p x there (eqb p k) (eqb x k) refl refl;
  snap = λ p x there. snap p x there (eqb p k) (eqb x k) refl refl;
  young_succ = λ id. by_server v k s (λ i x. is_in v.master.chain i ≡ true → x.full ≡ false → x.succ ≡ None) (λ m. f.young_succ) (λ i other. h.young_succ i) id;
  acked = λ id. by_server v k s (λ i x. x.acked ≤ length now) f.acked (λ i other. omega (arith, h.acked i, grows)) id;
  acks = λ p x. sent_row (AckWithin (length now)) p x (each-follows (AckWithin (length c)) (AckWithin (length now)) (left_between v from k rest p x) wider (left_each v from k t.moves.prefix rest (AckWithin (length c)) p x t.moves.taken (h.acks p x))) (f.sent_acks x);
  floors = λ id. by_server v k s (λ i x. is_in v.master.chain i ≡ true → x.full ≡ true → x.floor ≤ length now) (λ m. f.floor) (λ i other m full. omega (arith, h.floors i m full, grows)) id;
  fed_by = λ j last joins is. fed_by j last joins is (eqb j k) refl;
  caught = λ j last joins is. caught j last joins is (eqb j k) refl;
  feeds_out = λ p. by_told v from k rest s out (λ i x ms. is_in v.master.chain i ≡ true → Each (FeedsOut v.master.chain) ms) (λ m. end_of (FeedsOut v.master.chain) (h.feeds_out k m)) (λ i other. h.feeds_out i) p;
} where
  h : Whole v c
  h = t.whole

  f : Feeding v c from k rest s out
  f = t.feeding

  now : List Entry
  now = longer c (acting_history s)

  grows : length c ≤ length (longer c (acting_history s))
  grows = (longer-length c (acting_history s)).0

  wider : (m : Message) → AckWithin (length c) m → AckWithin (length (longer c (acting_history s))) m
  wider (Ack n) g = omega (arith, g, (longer-length c (acting_history s)).0)
  wider m g = tt

  left : (us : List Message) × (v.channel parties.Master (parties.Server k) ≡ us ++ master_after v from k rest)
  left = rest_of v from k t.moves.prefix rest t.moves.taken

  end_of : (P : Message → Type 0) → Each P (v.channel parties.Master (parties.Server k)) → Each P (master_after v from k rest)
  end_of P g = each-end P left.0 (master_after v from k rest) (subst (λ ms. Each P ms) left.1 g)

  -- what is on the way from a server after the turn
  sent_row : (P : Message → Type 0) (a b : ℕ) → Each P (left_between v from k rest a b) → Each P (addressed (parties.Server b) out) → Each P ((turn v from k rest s out).channel (parties.Server a) (parties.Server b))
  sent_row P a b g sent = go (eqb a k) where
    go : (x : Bool) → Each P (cond x (left_between v from k rest a b ++ addressed (parties.Server b) out) (left_between v from k rest a b))
    go true = each-append P (left_between v from k rest a b) (addressed (parties.Server b) out) g sent
    go false = g

  -- the row of the server itself, and of others
  own_row : (a b : ℕ) → eqb a k ≡ true → (turn v from k rest s out).channel (parties.Server a) (parties.Server b) ≡ left_between v from k rest a b ++ addressed (parties.Server b) out
  own_row a b e = if_true (eqb a k) (left_between v from k rest a b ++ addressed (parties.Server b) out) (left_between v from k rest a b) e

  other_row : (a b : ℕ) → eqb a k ≡ false → (turn v from k rest s out).channel (parties.Server a) (parties.Server b) ≡ left_between v from k rest a b
  other_row a b e = if_false (eqb a k) (left_between v from k rest a b ++ addressed (parties.Server b) out) (left_between v from k rest a b) e

  own_server : (j : ℕ) → eqb j k ≡ true → set_at v.server k s j ≡ s
  own_server j e = if_true (eqb j k) s (v.server j) e

  other_server : (j : ℕ) → eqb j k ≡ false → set_at v.server k s j ≡ v.server j
  other_server j e = if_false (eqb j k) s (v.server j) e

  -- one that wasn't used isn't the successor
  unknown : (x : ℕ) → is_in v.master.used x ≡ false → is_that s.succ x ≡ false
  unknown x unused = elim (cases_Bool (is_that s.succ x)) [
    | inl is ↦ absurd (both_ways (is_in v.master.used x) unused (t.feeding.succ_known x (that_some s.succ x is)))
    | inr not ↦ not
  ]

  tokens_same : (p x : ℕ) → is_in (extended v.master) p ≡ true → is_in (extended v.master) x ≡ true → tokens (turn v from k rest s out) p x ≡ tokens v p x
  tokens_same p x m there = omega (arith, second (eqb x k) refl, first (eqb p k) refl) where
    w : View
    w = turn v from k rest s out

    first : (b : Bool) → eqb p k ≡ b → links (set_at v.server k s p).succ x ((turn v from k rest s out).channel parties.Master (parties.Server p)) ≡ links (v.server p).succ x (v.channel parties.Master (parties.Server p))
    first true e = ap (λ y. links y.succ x ((turn v from k rest s out).channel parties.Master (parties.Server p))) (own_server p e) ∙ ap (λ ms. links s.succ x ms) (row_after v from k rest s out p true e) ∙ t.feeding.ahead x there ∙ ap (λ i. links (v.server i).succ x (v.channel parties.Master (parties.Server i))) (sym (eqb-true p k e))
    first false e = ap (λ y. links y.succ x ((turn v from k rest s out).channel parties.Master (parties.Server p))) (other_server p e) ∙ ap (λ ms. links (v.server p).succ x ms) (row_after v from k rest s out p false e)

    second : (b : Bool) → eqb x k ≡ b → reports_of p ((turn v from k rest s out).channel parties.Master (parties.Server x)) + haves_of p ((turn v from k rest s out).channel (parties.Server x) parties.Master) ≡ reports_of p (v.channel parties.Master (parties.Server x)) + haves_of p (v.channel (parties.Server x) parties.Master)
    second true e =
        let told = row_after v from k rest s out x true e in
        let said = report_row v from k rest s out x ∙ if_true (eqb x k) (v.channel (parties.Server x) parties.Master ++ addressed parties.Master out) (v.channel (parties.Server x) parties.Master) e in
        omega (arith, ap (λ ms. reports_of p ms) told, ap (λ ms. haves_of p ms) said, haves-append p (v.channel (parties.Server x) parties.Master) (addressed parties.Master out), t.feeding.behind p m, ap (λ i. reports_of p (v.channel parties.Master (parties.Server i))) (eqb-true x k e))
    second false e = omega (arith, ap (λ ms. reports_of p ms) (row_after v from k rest s out x false e), ap (λ ms. haves_of p ms) (report_row v from k rest s out x ∙ if_false (eqb x k) (v.channel (parties.Server x) parties.Master ++ addressed parties.Master out) (v.channel (parties.Server x) parties.Master) e))

  counts : (p x : ℕ) → stands_before p x (extended v.master) ≡ true → (b : Bool) → eqb x k ≡ b → Each (HaveIs p (length (set_at v.server k s x).entries)) ((turn v from k rest s out).channel (parties.Server x) parties.Master)
  counts p x before true e = subst (λ ms. Each (HaveIs p (length (set_at v.server k s x).entries)) ms) (sym (report_row v from k rest s out x ∙ if_true (eqb x k) (v.channel (parties.Server x) parties.Master ++ addressed parties.Master out) (v.channel (parties.Server x) parties.Master) e ∙ ap (λ i. v.channel (parties.Server i) parties.Master ++ addressed parties.Master out) (eqb-true x k e)))
      (subst (λ y. Each (HaveIs p (length y.entries)) (v.channel (parties.Server k) parties.Master ++ addressed parties.Master out)) (sym (own_server x e)) (t.feeding.counts p (subst (λ i. stands_before p i (extended v.master) ≡ true) (eqb-true x k e) before)))
  counts p x before false e = subst (λ ms. Each (HaveIs p (length (set_at v.server k s x).entries)) ms) (sym (report_row v from k rest s out x ∙ if_false (eqb x k) (v.channel (parties.Server x) parties.Master ++ addressed parties.Master out) (v.channel (parties.Server x) parties.Master) e))
      (subst (λ y. Each (HaveIs p (length y.entries)) (v.channel (parties.Server x) parties.Master)) (sym (other_server x e)) (t.whole.counts p x before))

  -- who isn't the successor any more wasn't it before, if it is in the extended chain
  was_not : (x : ℕ) → is_in (extended v.master) x ≡ true → is_that s.succ x ≡ false → is_that (v.server k).succ x ≡ false
  was_not x there not_now = elim (cases_Bool (is_that (v.server k).succ x)) [ inl was ↦ absurd (both_ways (is_that s.succ x) not_now (t.feeding.keeps_succ x there was)) | inr no_link ↦ no_link ]

  adopts : (p x : ℕ) → stands_before p x (extended v.master) ≡ true → (a b : Bool) → eqb p k ≡ a → eqb x k ≡ b → is_that (set_at v.server k s p).succ x ≡ false → Each (AdoptIs x (length (set_at v.server k s x).entries)) ((turn v from k rest s out).channel parties.Master (parties.Server p))
  adopts p x before true true e g no_link = absurd (before-self k (extended v.master) t.prefixes.apart (subst (λ i. stands_before i k (extended v.master) ≡ true) (eqb-true p k e) (subst (λ i. stands_before p i (extended v.master) ≡ true) (eqb-true x k g) before)))
  adopts p x before true false e g no_link = subst (λ ms. Each (AdoptIs x (length (set_at v.server k s x).entries)) ms) (sym (row_after v from k rest s out p true e))
      (subst (λ y. Each (AdoptIs x (length y.entries)) (master_after v from k rest)) (sym (other_server x g))
      (end_of (AdoptIs x (length (v.server x).entries)) (t.whole.adopts k x (subst (λ i. stands_before i x (extended v.master) ≡ true) (eqb-true p k e) before)
      (was_not x (before-in p x (extended v.master) before).1 (sym (ap (λ y. is_that y.succ x) (own_server p e)) ∙ no_link)))))
  adopts p x before false true e g no_link = subst (λ ms. Each (AdoptIs x (length (set_at v.server k s x).entries)) ms) (sym (row_after v from k rest s out p false e))
      (subst (λ y. Each (AdoptIs x (length y.entries)) (v.channel parties.Master (parties.Server p))) (sym (own_server x g))
      (subst (λ i. Each (AdoptIs i (length s.entries)) (v.channel parties.Master (parties.Server p))) (sym (eqb-true x k g)) (t.feeding.adopts p (subst (λ i. stands_before p i (extended v.master) ≡ true) (eqb-true x k g) before)
      (subst (λ i. is_that (v.server p).succ i ≡ false) (eqb-true x k g) (sym (ap (λ y. is_that y.succ x) (other_server p e)) ∙ no_link)))))
  adopts p x before false false e g no_link = subst (λ ms. Each (AdoptIs x (length (set_at v.server k s x).entries)) ms) (sym (row_after v from k rest s out p false e))
      (subst (λ y. Each (AdoptIs x (length y.entries)) (v.channel parties.Master (parties.Server p))) (sym (other_server x g)) (t.whole.adopts p x before (sym (ap (λ y. is_that y.succ x) (other_server p e)) ∙ no_link)))

  data_none : (p x : ℕ) → is_in (extended v.master) x ≡ true → (b : Bool) → eqb p k ≡ b → is_that (set_at v.server k s p).succ x ≡ false → Each NoData ((turn v from k rest s out).channel (parties.Server p) (parties.Server x))
  data_none p x there true e no_link =
      let none = sym (ap (λ y. is_that y.succ x) (own_server p e)) ∙ no_link in
      sent_row NoData p x (left_each v from k t.moves.prefix rest NoData p x t.moves.taken (t.whole.data_none p x there (subst (λ i. is_that (v.server i).succ x ≡ false) (sym (eqb-true p k e)) (was_not x there none)))) (t.feeding.sent_data x none)
  data_none p x there false e no_link = subst (λ ms. Each NoData ms) (sym (other_row p x e)) (left_each v from k t.moves.prefix rest NoData p x t.moves.taken (t.whole.data_none p x there (sym (ap (λ y. is_that y.succ x) (other_server p e)) ∙ no_link)))

  -- fewer words are left
  fewer : (p x : ℕ) → reports_of p (v.channel parties.Master (parties.Server x)) ≡ 0 → reports_of p ((turn v from k rest s out).channel parties.Master (parties.Server x)) ≡ 0
  fewer p x none = go (eqb x k) refl where
    go : (b : Bool) → eqb x k ≡ b → reports_of p ((turn v from k rest s out).channel parties.Master (parties.Server x)) ≡ 0
    go true e = omega (arith, ap (λ ms. reports_of p ms) (row_after v from k rest s out x true e), ap (λ ms. reports_of p ms) left.1, reports-append p left.0 (master_after v from k rest), ap (λ i. reports_of p (v.channel parties.Master (parties.Server i))) (sym (eqb-true x k e)), none)
    go false e = ap (λ ms. reports_of p ms) (row_after v from k rest s out x false e) ∙ none

  linked_told : (p x : ℕ) → is_in (extended v.master) x ≡ true → (b : Bool) → eqb p k ≡ b → is_that (set_at v.server k s p).succ x ≡ true → reports_of p ((turn v from k rest s out).channel parties.Master (parties.Server x)) ≡ 0
  linked_told p x there true e link =
      let own = sym (ap (λ y. is_that y.succ x) (own_server p e)) ∙ link in
      fewer p x (subst (λ i. reports_of i (v.channel parties.Master (parties.Server x)) ≡ 0) (sym (eqb-true p k e)) (elim (cases_Bool (is_that (v.server k).succ x)) [
        | inl was ↦ t.whole.linked_told k x there was
        | inr new ↦ t.feeding.new_link x there own new
      ]))
  linked_told p x there false e link = fewer p x (t.whole.linked_told p x there (sym (ap (λ y. is_that y.succ x) (other_server p e)) ∙ link))

  feed : (p x : ℕ) → is_in (extended v.master) x ≡ true → (a b : Bool) → eqb p k ≡ a → eqb x k ≡ b → (set_at v.server k s x).pred ≡ Some p → is_that (set_at v.server k s p).succ x ≡ true
      → Feeds (length (set_at v.server k s x).entries) ((turn v from k rest s out).channel (parties.Server p) (parties.Server x)) (length (set_at v.server k s p).entries)
  feed p x there true true e g is_pred link = absurd (both_ways (is_that s.succ k) t.feeding.not_self (subst (λ i. is_that s.succ i ≡ true) (eqb-true x k g) (sym (ap (λ y. is_that y.succ x) (own_server p e)) ∙ link)))
  feed p x there true false e g is_pred link = subst (λ ms. Feeds (length (set_at v.server k s x).entries) ms (length (set_at v.server k s p).entries)) (sym (own_row p x e ∙ ap (λ us. us ++ addressed (parties.Server x) out) (left_other v from k rest p x g ∙ ap (λ i. v.channel (parties.Server i) (parties.Server x)) (eqb-true p k e))))
      (subst (λ y. Feeds (length (set_at v.server k s x).entries) (v.channel (parties.Server k) (parties.Server x) ++ addressed (parties.Server x) out) (length y.entries)) (sym (own_server p e))
      (subst (λ y. Feeds (length y.entries) (v.channel (parties.Server k) (parties.Server x) ++ addressed (parties.Server x) out) (length s.entries)) (sym (other_server x g))
      (t.feeding.feeds_ahead x there g (subst (λ i. (v.server x).pred ≡ Some i) (eqb-true p k e) (sym (ap (λ y. y.pred) (other_server x g)) ∙ is_pred)) (sym (ap (λ y. is_that y.succ x) (own_server p e)) ∙ link))))
  feed p x there false true e g is_pred link = subst (λ ms. Feeds (length (set_at v.server k s x).entries) ms (length (set_at v.server k s p).entries)) (sym (other_row p x e ∙ ap (λ i. left_between v from k rest p i) (eqb-true x k g)))
      (subst (λ y. Feeds (length (set_at v.server k s x).entries) (left_between v from k rest p k) (length y.entries)) (sym (other_server p e))
      (subst (λ y. Feeds (length y.entries) (left_between v from k rest p k) (length (v.server p).entries)) (sym (own_server x g))
      (t.feeding.feeds_behind p (subst (λ i. is_in (extended v.master) i ≡ true) (eqb-true x k g) there) e (sym (ap (λ y. y.pred) (own_server x g)) ∙ is_pred) (subst (λ i. is_that (v.server p).succ i ≡ true) (eqb-true x k g) (sym (ap (λ y. is_that y.succ x) (other_server p e)) ∙ link)))))
  feed p x there false false e g is_pred link = subst (λ ms. Feeds (length (set_at v.server k s x).entries) ms (length (set_at v.server k s p).entries)) (sym (other_row p x e ∙ left_other v from k rest p x g))
      (subst (λ y. Feeds (length (set_at v.server k s x).entries) (v.channel (parties.Server p) (parties.Server x)) (length y.entries)) (sym (other_server p e))
      (subst (λ y. Feeds (length y.entries) (v.channel (parties.Server p) (parties.Server x)) (length (v.server p).entries)) (sym (other_server x g))
      (t.whole.feed p x there (sym (ap (λ y. y.pred) (other_server x g)) ∙ is_pred) (sym (ap (λ y. is_that y.succ x) (other_server p e)) ∙ link))))

  -- what held of so much holds of more
  more_snap : (n : ℕ) (m : Message) → OfSnap (n < length c) m → OfSnap (n < length (longer c (acting_history s))) m
  more_snap n (Snap entries) g = omega (arith, g, (longer-length c (acting_history s)).0)
  more_snap n m g = other m g where
    other : (y : Message) → OfSnap (n < length c) y → OfSnap (n < length (longer c (acting_history s))) y
    other (Snap entries) k = omega (arith, k, (longer-length c (acting_history s)).0)
    other y k = tt

  snap : (p x : ℕ) → is_in v.master.chain x ≡ true → (a b : Bool) → eqb p k ≡ a → eqb x k ≡ b → (set_at v.server k s x).pred ≡ Some p
      → Each (OfSnap (length (set_at v.server k s x).entries < length (longer c (acting_history s)))) ((turn v from k rest s out).channel (parties.Server p) (parties.Server x))
  snap p x there a true e g is_pred = subst (λ y. Each (OfSnap (length y.entries < length now)) ((turn v from k rest s out).channel (parties.Server p) (parties.Server x))) (sym (own_server x g))
      (sent_row (OfSnap (length s.entries < length now)) p x (subst (λ i. Each (OfSnap (length s.entries < length now)) (left_between v from k rest p i)) (sym (eqb-true x k g)) (t.feeding.snaps_behind p (subst (λ i. is_in v.master.chain i ≡ true) (eqb-true x k g) there) (sym (ap (λ y. y.pred) (own_server x g)) ∙ is_pred)))
      (each-follows NoData (OfSnap (length s.entries < length now)) (addressed (parties.Server x) out) (λ m none. no-snap (length s.entries < length now) m (data-snap m none)) (t.feeding.sent_data x (subst (λ i. is_that s.succ i ≡ false) (sym (eqb-true x k g)) t.feeding.not_self))))
  snap p x there true false e g is_pred = subst (λ y. Each (OfSnap (length y.entries < length now)) ((turn v from k rest s out).channel (parties.Server p) (parties.Server x))) (sym (other_server x g))
      (subst (λ ms. Each (OfSnap (length (v.server x).entries < length now)) ms) (sym (own_row p x e))
      (each-append (OfSnap (length (v.server x).entries < length now)) (left_between v from k rest p x) (addressed (parties.Server x) out)
      (each-follows (OfSnap (length (v.server x).entries < length c)) (OfSnap (length (v.server x).entries < length now)) (left_between v from k rest p x) (more_snap (length (v.server x).entries)) (left_each v from k t.moves.prefix rest (OfSnap (length (v.server x).entries < length c)) p x t.moves.taken (t.whole.snap p x there was_pred)))
      (each-follows (OfSnap (length (v.server x).entries < length c)) (OfSnap (length (v.server x).entries < length now)) (addressed (parties.Server x) out) (more_snap (length (v.server x).entries)) (t.feeding.snaps_ahead x there g (subst (λ i. (v.server x).pred ≡ Some i) (eqb-true p k e) was_pred))))) where
        was_pred : (v.server x).pred ≡ Some p
        was_pred = sym (ap (λ y. y.pred) (other_server x g)) ∙ is_pred
  snap p x there false false e g is_pred = subst (λ y. Each (OfSnap (length y.entries < length now)) ((turn v from k rest s out).channel (parties.Server p) (parties.Server x))) (sym (other_server x g))
      (subst (λ ms. Each (OfSnap (length (v.server x).entries < length now)) ms) (sym (other_row p x e))
      (each-follows (OfSnap (length (v.server x).entries < length c)) (OfSnap (length (v.server x).entries < length now)) (left_between v from k rest p x) (more_snap (length (v.server x).entries)) (left_each v from k t.moves.prefix rest (OfSnap (length (v.server x).entries < length c)) p x t.moves.taken (t.whole.snap p x there (sym (ap (λ y. y.pred) (other_server x g)) ∙ is_pred)))))

  fed_by : (j last : ℕ) → is_that v.master.joiner j ≡ true → is_last v.master.chain last ≡ true → (b : Bool) → eqb j k ≡ b → ups (turn v from k rest s out) j ≡ last ∷ []
  fed_by j last joins is true e = ups_own v from k rest s out j e ∙ t.feeding.fed last (subst (λ i. is_that v.master.joiner i ≡ true) (eqb-true j k e) joins) is
  fed_by j last joins is false e = ups_other v from k rest s out j e ∙ t.whole.fed_by j last joins is

  -- what follows for a list
  catches_follow : (P Q : Type 0) (ms : List Message) → (P → Q) → Each (Catches P) ms → Each (Catches Q) ms
  catches_follow P Q [] to h = tt
  catches_follow P Q (m ∷ ms) to h = (one m h.0, catches_follow P Q ms to h.1) where
    one : (x : Message) → Catches P x → Catches Q x
    one (Caught p n) g = to g
    one x g = tt

  caught : (j last : ℕ) → is_that v.master.joiner j ≡ true → is_last v.master.chain last ≡ true → (b : Bool) → eqb j k ≡ b
      → Each (Catches ((is_that (set_at v.server k s last).succ j ≡ true) × Each NoSnap ((turn v from k rest s out).channel (parties.Server last) (parties.Server j)))) ((turn v from k rest s out).channel (parties.Server j) parties.Master)
  caught j last joins is true e = subst (λ ms. Each (Catches Now) ms) (sym (report_row v from k rest s out j ∙ if_true (eqb j k) (v.channel (parties.Server j) parties.Master ++ addressed parties.Master out) (v.channel (parties.Server j) parties.Master) e))
      (each-append (Catches Now) (v.channel (parties.Server j) parties.Master) (addressed parties.Master out) (catches_follow Was Now (v.channel (parties.Server j) parties.Master) old (t.whole.caught j last joins is))
      (catches_follow New Now (addressed parties.Master out) new (t.feeding.catches last (subst (λ i. is_that v.master.joiner i ≡ true) (eqb-true j k e) joins) is))) where
        Was : Type 0
        Was = (is_that (v.server last).succ j ≡ true) × Each NoSnap (v.channel (parties.Server last) (parties.Server j))

        Now : Type 0
        Now = (is_that (set_at v.server k s last).succ j ≡ true) × Each NoSnap ((turn v from k rest s out).channel (parties.Server last) (parties.Server j))

        New : Type 0
        New = (is_that (v.server last).succ k ≡ true) × Each NoSnap (left_between v from k rest last k)

        other : eqb last k ≡ false
        other = elim (cases_Bool (eqb last k)) [
          | inr no_same ↦ no_same
          | inl same ↦ absurd (both_ways (is_in v.master.chain j) (joiner-out v.master.chain v.master.joiner j t.prefixes.apart joins) (subst (λ i. is_in v.master.chain i ≡ true) (eqb-true last k same ∙ sym (eqb-true j k e)) (last-in v.master.chain last is)))
        ]

        old : Was → Now
        old h = (ap (λ y. is_that y.succ j) (other_server last other) ∙ h.0, subst (λ ms. Each NoSnap ms) (sym (other_row last j other)) (left_each v from k t.moves.prefix rest NoSnap last j t.moves.taken h.1))

        new : New → Now
        new h = (
          ap (λ y. is_that y.succ j) (other_server last other) ∙ subst (λ i. is_that (v.server last).succ i ≡ true) (sym (eqb-true j k e)) h.0,
          subst (λ ms. Each NoSnap ms) (sym (other_row last j other)) (subst (λ i. Each NoSnap (left_between v from k rest last i)) (sym (eqb-true j k e)) h.1),
        )
  caught j last joins is false e = subst (λ ms. Each (Catches Now) ms) (sym (report_row v from k rest s out j ∙ if_false (eqb j k) (v.channel (parties.Server j) parties.Master ++ addressed parties.Master out) (v.channel (parties.Server j) parties.Master) e))
      (catches_follow Was Now (v.channel (parties.Server j) parties.Master) (now (eqb last k) refl) (t.whole.caught j last joins is)) where
        Was : Type 0
        Was = (is_that (v.server last).succ j ≡ true) × Each NoSnap (v.channel (parties.Server last) (parties.Server j))

        Now : Type 0
        Now = (is_that (set_at v.server k s last).succ j ≡ true) × Each NoSnap ((turn v from k rest s out).channel (parties.Server last) (parties.Server j))

        now : (b : Bool) → eqb last k ≡ b → Was → Now
        now true own h = let link = subst (λ i. is_that (v.server i).succ j ≡ true) (eqb-true last k own) h.0 in (
          ap (λ y. is_that y.succ j) (own_server last own) ∙ t.feeding.keeps_succ j (joiner-extended v.master.chain v.master.joiner j joins) link,
          subst (λ ms. Each NoSnap ms) (sym (own_row last j own)) (each-append NoSnap (left_between v from k rest last j) (addressed (parties.Server j) out) (left_each v from k t.moves.prefix rest NoSnap last j t.moves.taken h.1) (t.feeding.snaps_to j joins link)),
        )
        now false other h = (ap (λ y. is_that y.succ j) (other_server last other) ∙ h.0, subst (λ ms. Each NoSnap ms) (sym (other_row last j other)) (left_each v from k t.moves.prefix rest NoSnap last j t.moves.taken h.1))

-- A turn keeps all sentences.
pub turn-whole : (v : View) (c : List Entry) (from : Party) (k : ℕ) (rest : List Message) (s : Server) (out : List (Party × Message)) → Prefixes v → Whole v c → Turn v from k rest s out → Feeding v c from k rest s out → Whole (turn v from k rest s out) (longer c (acting_history s))
turn-whole v c from k rest s out g h t f = whole_keep v c from k rest s out (record { prefixes = g; whole = h; moves = t; feeding = f })
