-- A join loses nothing on the way.
use Rattle.std.proofs.Common.{◌≡◌, ℕ, suc, ◌+◌, ◌∙◌, ap, sym, List, [], ◌∷◌, ◌++◌, length, ◌&&◌, ◌⊎◌, Some, None, Bool, true, false, cond, eqb, arith, subst, refl, inl, inr}
use Rattle.std.proofs.lemmas.Bool.{eqb-true, eq-eqb, false≢true, both_ways, cases_Bool}
use Rattle.cq_base.specs.declared.ask.Entry.{Entry}
use Rattle.cq_base.specs.declared.party.Party.TheVariants as parties
use Rattle.cq_chain.specs.Masters.{is_in, is_last, joined, said_of_join, stands_before}
use Rattle.cq_chain.specs.Messages.{Message, Report, Adopt, Feed, Have}
use Rattle.cq_chain.specs.Servers.{is_that, joining}
use Rattle.cq_world.proofs.Chains.{last-in, last-one, before-in}
use Rattle.cq_world.proofs.ExtendedChains.{in_more, in_left, out_more, joined_behind, joined_last}
use Rattle.cq_world.proofs.Commits.Orders.{each_one, one_more}
use Rattle.cq_world.proofs.Commits.{Commits, bit}
use Rattle.cq_world.proofs.Eaches.{Each, each-append, each-follows, some_none}
use Rattle.cq_world.proofs.Wholes.Feeding.{NoData, NoSnap}
use Rattle.cq_world.proofs.Prefixes.Climbing.{reports, one}
use Rattle.cq_world.proofs.Prefixes.Orders.{told_to, one_told, join_told, last_of, last_top, eqb_turned}
use Rattle.cq_world.proofs.Prefixes.{Prefixes}
use Rattle.cq_world.proofs.Settled.{that_some}
use Rattle.cq_world.proofs.Views.{View, extended_of, extended, said}
use Rattle.cq_world.proofs.Wholes.{Whole, reports_of, haves_of, adopts_of, feeds_of, OnlyTo, Ends, FeedsOut, Catches, Known, HaveIs, AdoptIs, links, tokens}
use Rattle.cq_world.proofs.Wholes.Turns.{reports-append, adopts-append, fed-append}

-- ---- words that don't name one that wasn't used

unnamed_reports : (used : List ℕ) (x : ℕ) (ms : List Message) → is_in used x ≡ false → Each (Known used) ms → reports_of x ms ≡ 0
unnamed_reports used x [] unused h = refl
unnamed_reports used x (m ∷ ms) unused h = step m h.0 (unnamed_reports used x ms unused h.1) where
  step : (y : Message) → Known used y → reports_of x ms ≡ 0 → reports_of x (y ∷ ms) ≡ 0
  step (Report q) k e = go (eqb q x) refl where
    go : (t : Bool) → eqb q x ≡ t → cond t (suc (reports_of x ms)) (reports_of x ms) ≡ 0
    go true f = absurd (both_ways (is_in used x) unused (subst (λ i. is_in used i ≡ true) (eqb-true q x f) k))
    go false f = e
  step y k e = e

unnamed_haves : (used : List ℕ) (x : ℕ) (ms : List Message) → is_in used x ≡ false → Each (Known used) ms → haves_of x ms ≡ 0
unnamed_haves used x [] unused h = refl
unnamed_haves used x (m ∷ ms) unused h = step m h.0 (unnamed_haves used x ms unused h.1) where
  step : (y : Message) → Known used y → haves_of x ms ≡ 0 → haves_of x (y ∷ ms) ≡ 0
  step (Have q n) k e = go (eqb q x) refl where
    go : (t : Bool) → eqb q x ≡ t → cond t (suc (haves_of x ms)) (haves_of x ms) ≡ 0
    go true f = absurd (both_ways (is_in used x) unused (subst (λ i. is_in used i ≡ true) (eqb-true q x f) k))
    go false f = e
  step y k e = e

unnamed_adopts : (used : List ℕ) (x : ℕ) (ms : List Message) → is_in used x ≡ false → Each (Known used) ms → adopts_of x ms ≡ 0
unnamed_adopts used x [] unused h = refl
unnamed_adopts used x (m ∷ ms) unused h = step m h.0 (unnamed_adopts used x ms unused h.1) where
  step : (y : Message) → Known used y → adopts_of x ms ≡ 0 → adopts_of x (y ∷ ms) ≡ 0
  step (Adopt q n) k e = go (eqb q x) refl where
    go : (t : Bool) → eqb q x ≡ t → cond t (suc (adopts_of x ms)) (adopts_of x ms) ≡ 0
    go true f = absurd (both_ways (is_in used x) unused (subst (λ i. is_in used i ≡ true) (eqb-true q x f) k))
    go false f = e
  step y k e = e

unnamed_feeds : (used : List ℕ) (x : ℕ) (ms : List Message) → is_in used x ≡ false → Each (Known used) ms → feeds_of x ms ≡ 0
unnamed_feeds used x [] unused h = refl
unnamed_feeds used x (m ∷ ms) unused h = step m h.0 (unnamed_feeds used x ms unused h.1) where
  step : (y : Message) → Known used y → feeds_of x ms ≡ 0 → feeds_of x (y ∷ ms) ≡ 0
  step (Feed (Some q)) k e = go (eqb q x) refl where
    go : (t : Bool) → eqb q x ≡ t → cond t (suc (feeds_of x ms)) (feeds_of x ms) ≡ 0
    go true f = absurd (both_ways (is_in used x) unused (subst (λ i. is_in used i ≡ true) (eqb-true q x f) k))
    go false f = e
  step y k e = e

unnamed_adopt : (used : List ℕ) (x count : ℕ) (m : Message) → is_in used x ≡ false → Known used m → AdoptIs x count m
unnamed_adopt used x count (Adopt q n) unused h = λ is. absurd (both_ways (is_in used x) unused (subst (λ i. is_in used i ≡ true) (eqb-true q x is) h))
unnamed_adopt used x count m unused h = tt

known_more : (used : List ℕ) (x : ℕ) (m : Message) → Known used m → Known (used ++ x ∷ []) m
known_more used x (Report q) h = in_left used x q h
known_more used x (Adopt q n) h = in_left used x q h
known_more used x (Feed (Some q)) h = in_left used x q h
known_more used x (Have q n) h = in_left used x q h
known_more used x m h = tt

ends_joined : (used extended : List ℕ) (x : ℕ) (ms : List Message) → is_in used x ≡ false → Each (Known used) ms → Ends extended ms → Ends (extended ++ x ∷ []) ms
ends_joined used extended x [] unused k h = tt
ends_joined used extended x (m ∷ ms) unused k h = step m k.0 h (λ g. ends_joined used extended x ms unused k.1 g) where
  step : (y : Message) → Known used y → Ends extended (y ∷ ms) → (Ends extended ms → Ends (extended ++ x ∷ []) ms) → Ends (extended ++ x ∷ []) (y ∷ ms)
  step (Adopt q n) known g later = (
    (λ there. elim (in_more extended x q there) [ inl was ↦ g.0 was | inr same ↦ absurd (both_ways (is_in used x) unused (subst (λ i. is_in used i ≡ true) (sym (eqb-true x q same)) known)) ]),
    later g.1,
  )
  step (Feed (Some q)) known g later = (
    (λ there. elim (in_more extended x q there) [ inl was ↦ g.0 was | inr same ↦ absurd (both_ways (is_in used x) unused (subst (λ i. is_in used i ≡ true) (sym (eqb-true x q same)) known)) ]),
    later g.1,
  )
  step y known g later = later (rest_of y g) where
    rest_of : (z : Message) → Ends extended (z ∷ ms) → Ends extended ms
    rest_of (Adopt q n) f = f.1
    rest_of (Feed (Some q)) f = f.1
    rest_of z f = f

-- a word on a predecessor behind a row
ends_report : (extended : List ℕ) (p : ℕ) (ms : List Message) → Ends extended ms → Ends extended (ms ++ Report p ∷ [])
ends_report extended p [] h = tt
ends_report extended p (m ∷ ms) h = step m h (λ g. ends_report extended p ms g) where
  step : (y : Message) → Ends extended (y ∷ ms) → (Ends extended ms → Ends extended (ms ++ Report p ∷ [])) → Ends extended (y ∷ (ms ++ Report p ∷ []))
  step (Adopt q n) g later = ((λ there. each-append (OnlyTo q) ms (Report p ∷ []) (g.0 there) (tt, tt)), later g.1)
  step (Feed (Some q)) g later = ((λ there. each-append (OnlyTo q) ms (Report p ∷ []) (g.0 there) (tt, tt)), later g.1)
  step y g later = later (rest_of y g) where
    rest_of : (z : Message) → Ends extended (z ∷ ms) → Ends extended ms
    rest_of (Adopt q n) f = f.1
    rest_of (Feed (Some q)) f = f.1
    rest_of z f = f

-- ---- joins

-- what is said to a server that joins, where none did
join_whole : (v : View) (c : List Entry) (x t : ℕ) → Prefixes v → Commits v c → Whole v c → is_in v.master.used x ≡ false → is_last v.master.chain t ≡ true → v.master.joiner ≡ None
    → Whole (said v (record v.master { joiner = Some x; used = v.master.used ++ x ∷ [] }) ((parties.Server x, Report t) ∷ [])) c
join_whole v c x t g k h unused last_member none_joins = record {
  pred_known = λ id p is. in_left used x p (h.pred_known id p is);
  succ_known = λ id s is. in_left used x s (h.succ_known id s is);
  orders_known = λ j. each_one (Known (used ++ x ∷ [])) j x (Report t) (row j) (each-follows (Known used) (Known (used ++ x ∷ [])) (row j) (known_more used x) (h.orders_known j)) (λ e. in_left used x t (g.members t (last-in (extended v.master) t last)));
  reports_known = λ j. each-follows (Known used) (Known (used ++ x ∷ [])) (v.channel (parties.Server j) parties.Master) (known_more used x) (h.reports_known j);
  unheard = λ p id out. h.unheard p id (out_more used x id out).0;
  token = λ p s a b. token p s (placed p a) (placed s b) ∙ ap (λ us. bit (stands_before p s (us ++ x ∷ []))) same_extended;
  ends = λ p a. subst (λ us. Ends (us ++ x ∷ []) (row p ++ told_to p ((parties.Server x, Report t) ∷ []))) same_extended (one_more p x (Report t) (λ ms. Ends (extended v.master ++ x ∷ []) ms) (row p) (λ e. ends_report (extended v.master ++ x ∷ []) t (row p) (own_ends p (placed p a))) (λ e. own_ends p (placed p a)));
  follows = λ p s a b link. one_more p x (Report t) (λ ms. Each (OnlyTo s) ms) (row p) (λ e. absurd (unlinked p s e link)) (λ e. follows p s (placed p a) (placed s b) link);
  counts = λ p s before. counts p s (in_extended p s before) (eqb x s) refl;
  adopts = λ p s before none. each_one (AdoptIs s (length (v.server s).entries)) p x (Report t) (row p) (adopts p s (in_extended p s before) none (eqb x s) refl) (λ e. tt);
  data_none = λ p s b none. elim (placed s b) [ inl was ↦ h.data_none p s was none | inr new ↦ subst (λ i. Each NoData (v.channel (parties.Server p) (parties.Server i))) (eqb-true x s new) (h.unheard p x unused) ];
  linked_told = λ p s b link. elim (placed s b) [
    | inl was ↦ one_more s x (Report t) (λ ms. reports_of p ms ≡ 0) (row s) (λ e. absurd (strange s was e)) (λ e. h.linked_told p s was link)
    | inr new ↦ absurd (both_ways (is_that (v.server p).succ s) (not_succ p s new) link)
  ];
  feed = λ p s b is_pred link. elim (placed s b) [ inl was ↦ h.feed p s was is_pred link | inr new ↦ absurd (some_none p (sym is_pred ∙ ap (λ y. y.pred) (new_server s new))) ];
  snap = h.snap;
  young_succ = h.young_succ;
  acked = h.acked;
  acks = h.acks;
  floors = h.floors;
  fed_by = λ j z joins at. told_last j z joins at;
  caught = λ j z joins at. subst (λ ms. Each (Catches ((is_that (v.server z).succ j ≡ true) × Each NoSnap (v.channel (parties.Server z) (parties.Server j)))) ms) (sym (new_reports j joins)) tt;
  feeds_out = λ p a. each_one (FeedsOut v.master.chain) p x (Report t) (row p) (h.feeds_out p a) (λ e. tt);
} where
  used : List ℕ
  used = v.master.used

  row : ℕ → List Message
  row j = v.channel parties.Master (parties.Server j)

  same_extended : extended v.master ≡ v.master.chain
  same_extended = ap (λ o. extended_of v.master.chain o) none_joins

  last : is_last (extended v.master) t ≡ true
  last = ap (λ us. is_last us t) same_extended ∙ last_member

  in_extended : (p s : ℕ) → stands_before p s (v.master.chain ++ x ∷ []) ≡ true → stands_before p s (extended v.master ++ x ∷ []) ≡ true
  in_extended p s before = ap (λ us. stands_before p s (us ++ x ∷ [])) same_extended ∙ before

  placed : (j : ℕ) → is_in (v.master.chain ++ x ∷ []) j ≡ true → (is_in (extended v.master) j ≡ true) ⊎ (eqb x j ≡ true)
  placed j a = in_more (extended v.master) x j (ap (λ us. is_in (us ++ x ∷ []) j) same_extended ∙ a)

  new_server : (j : ℕ) → eqb x j ≡ true → v.server j ≡ joining
  new_server j same = ap (λ i. v.server i) (sym (eqb-true x j same)) ∙ (g.fresh x unused).0

  new_row : (j : ℕ) → eqb x j ≡ true → v.channel parties.Master (parties.Server j) ≡ []
  new_row j same = ap (λ i. v.channel parties.Master (parties.Server i)) (sym (eqb-true x j same)) ∙ (g.fresh x unused).1

  new_reports : (j : ℕ) → eqb x j ≡ true → v.channel (parties.Server j) parties.Master ≡ []
  new_reports j same = ap (λ i. v.channel (parties.Server i) parties.Master) (sym (eqb-true x j same)) ∙ k.silent x unused

  -- the new one is told the last member
  told_last : (j z : ℕ) → eqb x j ≡ true → is_last v.master.chain z ≡ true → one (v.server j).pred ++ reports (v.channel parties.Master (parties.Server j) ++ told_to j ((parties.Server x, Report t) ∷ [])) ≡ z ∷ []
  told_last j z new at = ap (λ s. one s.pred ++ reports (v.channel parties.Master (parties.Server j) ++ told_to j ((parties.Server x, Report t) ∷ []))) (new_server j new)
      ∙ ap (λ ms. reports (ms ++ told_to j ((parties.Server x, Report t) ∷ []))) (new_row j new) ∙ ap reports (one_told j x (Report t) true (eq-eqb j x (sym (eqb-true x j new)))) ∙ ap (λ i. i ∷ []) (last-one v.master.chain t z last_member at)

  strange : (j : ℕ) → is_in (extended v.master) j ≡ true → eqb j x ≡ true → ⊥
  strange j was e = both_ways (is_in v.master.used x) unused (g.members x (subst (λ i. is_in (extended v.master) i ≡ true) (eqb-true j x e) was))

  not_succ : (p s : ℕ) → eqb x s ≡ true → is_that (v.server p).succ s ≡ false
  not_succ p s new = elim (cases_Bool (is_that (v.server p).succ s)) [
    | inr none ↦ none
    | inl link ↦ absurd (both_ways (is_in v.master.used x) unused (subst (λ i. is_in v.master.used i ≡ true) (sym (eqb-true x s new)) (h.succ_known p s (that_some (v.server p).succ s link))))
  ]

  unlinked : (p s : ℕ) → eqb p x ≡ true → is_that (v.server p).succ s ≡ true → ⊥
  unlinked p s e link = false≢true (sym (ap (λ y. is_that y.succ s) (new_server p (eq-eqb x p (sym (eqb-true p x e))))) ∙ link)

  own_ends : (p : ℕ) → (is_in (extended v.master) p ≡ true) ⊎ (eqb x p ≡ true) → Ends (extended v.master ++ x ∷ []) (v.channel parties.Master (parties.Server p))
  own_ends p (inl was) = ends_joined v.master.used (extended v.master) x (v.channel parties.Master (parties.Server p)) unused (h.orders_known p) (h.ends p was)
  own_ends p (inr new) = subst (λ ms. Ends (extended v.master ++ x ∷ []) ms) (sym (new_row p new)) tt

  follows : (p s : ℕ) → (is_in (extended v.master) p ≡ true) ⊎ (eqb x p ≡ true) → (is_in (extended v.master) s ≡ true) ⊎ (eqb x s ≡ true) → is_that (v.server p).succ s ≡ true → Each (OnlyTo s) (v.channel parties.Master (parties.Server p))
  follows p s (inl a) (inl b) link = h.follows p s a b link
  follows p s (inr new) b link = subst (λ ms. Each (OnlyTo s) ms) (sym (new_row p new)) tt
  follows p s (inl a) (inr new) link = absurd (both_ways (is_that (v.server p).succ s) (not_succ p s new) link)

  counts : (p s : ℕ) → stands_before p s (extended v.master ++ x ∷ []) ≡ true → (u : Bool) → eqb x s ≡ u → Each (HaveIs p (length (v.server s).entries)) (v.channel (parties.Server s) parties.Master)
  counts p s before true e = subst (λ ms. Each (HaveIs p (length (v.server s).entries)) ms) (sym (new_reports s e)) tt
  counts p s before false e = h.counts p s (sym (joined_behind p s x (extended v.master) e) ∙ before)

  adopts : (p s : ℕ) → stands_before p s (extended v.master ++ x ∷ []) ≡ true → is_that (v.server p).succ s ≡ false → (u : Bool) → eqb x s ≡ u → Each (AdoptIs s (length (v.server s).entries)) (v.channel parties.Master (parties.Server p))
  adopts p s before none true e = each-follows (Known v.master.used) (AdoptIs s (length (v.server s).entries)) (v.channel parties.Master (parties.Server p)) (λ m known. unnamed_adopt v.master.used s (length (v.server s).entries) m (subst (λ i. is_in v.master.used i ≡ false) (eqb-true x s e) unused) known) (h.orders_known p)
  adopts p s before none false e = h.adopts p s (sym (joined_behind p s x (extended v.master) e) ∙ before) none

  -- what is told tells one of its predecessor, and nobody of a successor
  told_more : (p s : ℕ) → reports_of p (v.channel parties.Master (parties.Server s) ++ told_to s ((parties.Server x, Report t) ∷ [])) ≡ reports_of p (v.channel parties.Master (parties.Server s)) + bit (eqb s x && eqb t p)
  told_more p s = ap (λ us. reports_of p (v.channel parties.Master (parties.Server s) ++ us)) (one_told s x (Report t) (eqb s x) refl) ∙ reports-append p (v.channel parties.Master (parties.Server s)) (cond (eqb s x) (Report t ∷ []) []) ∙ ap (λ n. reports_of p (v.channel parties.Master (parties.Server s)) + n) (go (eqb s x) (eqb t p) refl) where
    go : (a b : Bool) → eqb t p ≡ b → reports_of p (cond a (Report t ∷ []) []) ≡ bit (a && b)
    go true true e = ap (λ w. cond w (suc (reports_of p [])) (reports_of p [])) e
    go true false e = ap (λ w. cond w (suc (reports_of p [])) (reports_of p [])) e
    go false b e = refl

  same_links : (p s : ℕ) → links (v.server p).succ s (v.channel parties.Master (parties.Server p) ++ told_to p ((parties.Server x, Report t) ∷ [])) ≡ links (v.server p).succ s (v.channel parties.Master (parties.Server p))
  same_links p s = ap (λ n. n + cond (is_that (v.server p).succ s) 1 (adopts_of s (v.channel parties.Master (parties.Server p) ++ told_to p ((parties.Server x, Report t) ∷ [])))) (one_more p x (Report t) (λ ms. feeds_of s ms ≡ feeds_of s (v.channel parties.Master (parties.Server p))) (v.channel parties.Master (parties.Server p)) (λ e. omega (arith, fed-append s (v.channel parties.Master (parties.Server p)) (Report t ∷ []))) (λ e. refl))
      ∙ ap (λ n. feeds_of s (v.channel parties.Master (parties.Server p)) + cond (is_that (v.server p).succ s) 1 n) (one_more p x (Report t) (λ ms. adopts_of s ms ≡ adopts_of s (v.channel parties.Master (parties.Server p))) (v.channel parties.Master (parties.Server p)) (λ e. omega (arith, adopts-append s (v.channel parties.Master (parties.Server p)) (Report t ∷ []))) (λ e. refl))

  outside : is_in (extended v.master) x ≡ true → ⊥
  outside there = both_ways (is_in v.master.used x) unused (g.members x there)

  same_last : (p : ℕ) → is_last (extended v.master) p ≡ eqb t p
  same_last p = go (is_last (extended v.master) p) (eqb t p) refl refl where
    go : (a b : Bool) → is_last (extended v.master) p ≡ a → eqb t p ≡ b → a ≡ b
    go true true e f = refl
    go false false e f = refl
    go true false e f = absurd (both_ways (eqb t p) f (eq-eqb t p (last-one (extended v.master) t p last e)))
    go false true e f = absurd (both_ways (is_last (extended v.master) p) e (subst (λ i. is_last (extended v.master) i ≡ true) (eqb-true t p f) last))

  -- a pair with the new one had no token
  none_with : (p s : ℕ) → eqb x s ≡ true → tokens v p s ≡ 0
  none_with p s new = omega (
    arith,
    ap (λ ms. reports_of p ms) (new_row s new),
    ap (λ ms. haves_of p ms) (new_reports s new),
    ap (λ b. cond b 1 (adopts_of s (v.channel parties.Master (parties.Server p)))) (not_succ p s new),
    unnamed_adopts v.master.used s (v.channel parties.Master (parties.Server p)) (subst (λ i. is_in v.master.used i ≡ false) (eqb-true x s new) unused) (h.orders_known p),
    unnamed_feeds v.master.used s (v.channel parties.Master (parties.Server p)) (subst (λ i. is_in v.master.used i ≡ false) (eqb-true x s new) unused) (h.orders_known p),
  )

  none_of : (p s : ℕ) → eqb x p ≡ true → tokens v p s ≡ 0
  none_of p s new = let unused_p = subst (λ i. is_in v.master.used i ≡ false) (eqb-true x p new) unused in
      omega (
        arith,
        unnamed_reports v.master.used p (v.channel parties.Master (parties.Server s)) unused_p (h.orders_known s),
        unnamed_haves v.master.used p (v.channel (parties.Server s) parties.Master) unused_p (h.reports_known s),
        ap (λ y. links y.succ s (v.channel parties.Master (parties.Server p))) (new_server p new),
        ap (λ ms. adopts_of s ms) (new_row p new),
        ap (λ ms. feeds_of s ms) (new_row p new),
      )

  -- before and after
  old_pair : (p s : ℕ) → eqb x s ≡ false → tokens v p s ≡ bit (stands_before p s (extended v.master))
      → reports_of p (v.channel parties.Master (parties.Server s) ++ told_to s ((parties.Server x, Report t) ∷ [])) + (haves_of p (v.channel (parties.Server s) parties.Master) + links (v.server p).succ s (v.channel parties.Master (parties.Server p) ++ told_to p ((parties.Server x, Report t) ∷ []))) ≡ bit (stands_before p s (extended v.master ++ x ∷ []))
  old_pair p s other is = omega (arith, told_more p s, ap (λ b. bit (b && eqb t p)) (eqb_turned x s other), same_links p s, is, ap (λ b. bit b) (joined_behind p s x (extended v.master) other))

  token : (p s : ℕ) → (is_in (extended v.master) p ≡ true) ⊎ (eqb x p ≡ true) → (is_in (extended v.master) s ≡ true) ⊎ (eqb x s ≡ true)
      → reports_of p (v.channel parties.Master (parties.Server s) ++ told_to s ((parties.Server x, Report t) ∷ [])) + (haves_of p (v.channel (parties.Server s) parties.Master) + links (v.server p).succ s (v.channel parties.Master (parties.Server p) ++ told_to p ((parties.Server x, Report t) ∷ []))) ≡ bit (stands_before p s (extended v.master ++ x ∷ []))
  token p s a (inr new) = omega (
    arith,
    told_more p s,
    ap (λ b. bit (b && eqb t p)) (eq-eqb s x (sym (eqb-true x s new))),
    same_links p s,
    none_with p s new,
    ap (λ i. bit (stands_before p i (extended v.master ++ x ∷ []))) (sym (eqb-true x s new)),
    ap (λ b. bit b) (joined_last p x (extended v.master) outside ∙ same_last p),
  )
  token p s (inl a) (inl b) = old_pair p s (elim (cases_Bool (eqb x s)) [ inl e ↦ absurd (strange s b (eq-eqb s x (sym (eqb-true x s e)))) | inr other ↦ other ]) (h.token p s a b)
  token p s (inr new) (inl b) = old_pair p s (elim (cases_Bool (eqb x s)) [ inl e ↦ absurd (strange s b (eq-eqb s x (sym (eqb-true x s e)))) | inr other ↦ other ]) (none_of p s new ∙ sym (ap (λ u. bit u) not_before)) where
    not_before : stands_before p s (extended v.master) ≡ false
    not_before = elim (cases_Bool (stands_before p s (extended v.master))) [ inl before ↦ absurd (strange p (before-in p s (extended v.master) before).0 (eq-eqb p x (sym (eqb-true x p new)))) | inr none ↦ none ]

-- A join keeps all sentences.
pub joined-whole : (v : View) (c : List Entry) (x a : ℕ) (rest : List ℕ) → Prefixes v → Commits v c → Whole v c → is_in v.master.used x ≡ false → v.master.joiner ≡ None → v.master.chain ≡ a ∷ rest → Whole (said v (joined x v.master).master (joined x v.master).said) c
unfolding joined
joined-whole v c x a rest g k h unused none is = subst (λ out. Whole (said v (record v.master { joiner = Some x; used = v.master.used ++ x ∷ [] }) out) c) (sym (ap (λ us. said_of_join x us) is ∙ join_told x a rest))
    (join_whole v c x (last_of a rest) g k h unused (ap (λ us. is_last us (last_of a rest)) is ∙ last_top a rest) none)
