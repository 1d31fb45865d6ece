-- Detections and joins keep the sentences on who may act and what is committed, and the first world has them.
use Rattle.std.proofs.Common.{◌≡◌, ℕ, ◌+◌, ◌∙◌, ap, sym, List, [], ◌∷◌, ◌++◌, length, ◌&&◌, ◌||◌, not, Some, None, is_some, Bool, true, false, cond, eqb, arith, subst, refl, inl, inr, append-nil}
use Rattle.std.proofs.lemmas.Bool.{eqb-true, eq-eqb, false≢true, both_ways, cases_Bool, or_left}
use Rattle.cq_base.specs.declared.ask.Entry.{Entry}
use Rattle.cq_base.specs.declared.party.Party.TheVariants as parties
use Rattle.cq_base.specs.Relations.{Among}
use Rattle.cq_chain.specs.Masters.{is_in, is_last, without, closing, said_of_loss, said_of_join, to_last, dropped, closed_up, detected, joined, stands_before}
use Rattle.cq_chain.specs.Messages.{Message, BeHead, Report, Adopt, BeTail, Feed, Adopted}
use Rattle.cq_chain.specs.Parties.{is_that}
use Rattle.cq_world.proofs.Chains.{Apart, among-in, last-in, last-one, last-behind, last-without, last-back, before-in, before-behind, before-first, before-without, before-last, before-either, before-only, chain-apart}
use Rattle.cq_world.proofs.Commits.{Commits, tails, readies, Names, Pairs, Retires, HandsOver, Enough, Zero, NotOn, bit, waits, Free}
use Rattle.cq_world.proofs.Commits.Orders.{Neutral, neutral_not_on, feed-commits, neutral_tails, neutral_names, neutral_pairs, neutral_enough, neutral_zero, neutral_retires, retires_append, retires_tail, each_one, one_more}
use Rattle.cq_world.proofs.Commits.Turns.{tails-append}
use Rattle.cq_world.proofs.Eaches.{Each, each-append, each-follows}
use Rattle.cq_world.proofs.ExtendedChains.{in_left, out_more}
use Rattle.cq_world.proofs.Prefixes.Orders.{told_to, one_told, in-without, join_told, last_told, last_of, alone}
use Rattle.cq_world.proofs.Prefixes.{Prefixes}
use Rattle.cq_world.proofs.Views.{View, said}

-- ---- what is said of a loss

neutral_one : (m : Message) (t : Bool) → Neutral m → Each Neutral (cond t (m ∷ []) [])
neutral_one m true h = (h, tt)
neutral_one m false h = tt

-- where the last one stays, nothing is said of who acts
closing_neutral : (p id : ℕ) (us : List ℕ) (j : ℕ) → is_last us id ≡ false → Each Neutral (told_to j (closing p id us))
closing_neutral p id [] j h = tt
closing_neutral p id (a ∷ []) j h = subst (λ out. Each Neutral (told_to j out)) (sym (ap (λ b. cond b ((parties.Server p, BeTail 0) ∷ []) []) h)) tt
closing_neutral p id (a ∷ b ∷ rest) j h = go (eqb a id) (closing_neutral a id (b ∷ rest) j h) where
  go : (t : Bool) → Each Neutral (told_to j (closing a id (b ∷ rest))) → Each Neutral (told_to j (cond t ((parties.Server b, Report p) ∷ []) (closing a id (b ∷ rest))))
  go true k = neutral_one (Report p) (eqb j b) tt
  go false k = k

-- who is among others isn't apart from them
apart_other : (a : ℕ) (rest : List ℕ) (id : ℕ) → ((b : ℕ) → Among b rest → eqb a b ≡ false) → is_in rest id ≡ true → eqb a id ≡ false
apart_other a rest id h member = h id (among-in rest id member)

keeps_other : (d a : ℕ) (rest : List ℕ) → eqb a d ≡ false → without d (a ∷ rest) ≡ a ∷ without d rest
keeps_other d a rest other = ap (λ b. cond (not b) (a ∷ without d rest) (without d rest)) other

keeps_not : (d a : ℕ) (rest : List ℕ) → eqb a d ≡ true → without d (a ∷ rest) ≡ without d rest
keeps_not d a rest same = ap (λ b. cond (not b) (a ∷ without d rest) (without d rest)) same

-- where the last one goes, the one before it is told
closing_last : (p id : ℕ) (us : List ℕ) → Apart (p ∷ us) → is_last us id ≡ true → (q : ℕ) × (stands_before q id (p ∷ us) ≡ true) × (is_last (without id (p ∷ us)) q ≡ true) × (closing p id us ≡ (parties.Server q, BeTail 0) ∷ [])
closing_last p id [] apart h = absurd (false≢true h)
closing_last p id (a ∷ []) apart h = (
  p,
  before-first p id p a [] (eq-eqb p p refl) h,
  ap (λ us. is_last us p) (keeps_other id p (a ∷ []) (apart_other p (a ∷ []) id apart.0 (or_left (eqb a id) false h)) ∙ ap (λ us. p ∷ us) (keeps_not id a [] h)) ∙ eq-eqb p p refl,
  ap (λ b. cond b ((parties.Server p, BeTail 0) ∷ []) []) h,
)
closing_last p id (a ∷ b ∷ rest) apart h =
    let there = last-in (b ∷ rest) id h in
    let later = closing_last a id (b ∷ rest) apart.1 h in (
      later.0,
      before-behind later.0 id p (a ∷ b ∷ rest) later.1,
      ap (λ us. is_last us later.0) (keeps_other id p (a ∷ b ∷ rest) (apart_other p (a ∷ b ∷ rest) id apart.0 (last-in (a ∷ b ∷ rest) id h))) ∙ last-behind p (without id (a ∷ b ∷ rest)) later.0 later.2,
      ap (λ t. cond t ((parties.Server b, Report p) ∷ []) (closing a id (b ∷ rest))) (apart_other a (b ∷ rest) id apart.1.0 there) ∙ later.3,
    )

pub loss_neutral : (id : ℕ) (chain : List ℕ) (j : ℕ) → is_last chain id ≡ false → Each Neutral (told_to j (said_of_loss id chain))
loss_neutral id [] j h = tt
loss_neutral id (a ∷ []) j h = tt
loss_neutral id (a ∷ b ∷ rest) j h = go (eqb a id) where
  go : (t : Bool) → Each Neutral (told_to j (cond t ((parties.Server b, BeHead) ∷ []) (closing a id (b ∷ rest))))
  go true = neutral_one BeHead (eqb j b) tt
  go false = closing_neutral a id (b ∷ rest) j h

pub loss_last : (id : ℕ) (chain : List ℕ) → Apart chain → is_last chain id ≡ true → (length chain ≡ 1 → ⊥) → (q : ℕ) × (stands_before q id chain ≡ true) × (is_last (without id chain) q ≡ true) × (said_of_loss id chain ≡ (parties.Server q, BeTail 0) ∷ [])
loss_last id [] apart h more = absurd (false≢true h)
loss_last id (a ∷ []) apart h more = absurd (more refl)
loss_last id (a ∷ b ∷ rest) apart h more = let told = closing_last a id (b ∷ rest) apart h in
    (told.0, told.1, told.2, ap (λ t. cond t ((parties.Server b, BeHead) ∷ []) (closing a id (b ∷ rest))) (apart_other a (b ∷ rest) id apart.0 (last-in (b ∷ rest) id h)) ∙ told.3)

-- ---- detections of others than the last

not_true : (b : Bool) → (b ≡ true → ⊥) → b ≡ false
not_true true h = absurd (h refl)
not_true false h = refl

-- the pairs that stay are neighbours still
pairs_without : (id j : ℕ) (chain : List ℕ) (m : Message) → eqb j id ≡ false → Pairs chain j m → Pairs (without id chain) j m
pairs_without id j chain (Adopt s n) other h = λ there. let was = in-without id chain s there in before-without id j s chain (h was.0) other was.1
pairs_without id j chain m other h = pass m h where
  pass : (y : Message) → Pairs chain j y → Pairs (without id chain) j y
  pass (Adopt s n) k = λ there. let was = in-without id chain s there in before-without id j s chain (k was.0) other was.1
  pass y k = tt

-- a handing over stays what it is, where fewer are members
hands_fewer : (n : ℕ) (free now : Type 0) (x : ℕ) (m : Message) → (free → now) → HandsOver n free x m → HandsOver n now x m
hands_fewer n free now x (Adopted s i) h k = λ e. ((k e).0, h (k e).1)
hands_fewer n free now x m h k = pass m k where
  pass : (y : Message) → HandsOver n free x y → HandsOver n now x y
  pass (Adopted s i) g = λ e. ((g e).0, h (g e).1)
  pass y g = tt

other_commits : (v : View) (c : List Entry) (id : ℕ) → Prefixes v → Commits v c → is_last v.master.chain id ≡ false → Commits (said v (record v.master { chain = without id v.master.chain }) (said_of_loss id v.master.chain)) c
other_commits v c id g h not_last = record {
  acting = h.acting;
  silent = h.silent;
  orders_named = λ j. each-append (Names v.master.used) (row j) (out j) (h.orders_named j) (each-follows Neutral (Names v.master.used) (out j) (neutral_names v.master.used) (calm j));
  reports_named = h.reports_named;
  pairs = λ j member. let was = in-without id chain j member in each-append (Pairs (without id chain) j) (row j) (out j)
      (each-follows (Pairs chain j) (Pairs (without id chain) j) (row j) (λ m. pairs_without id j chain m was.1) (h.pairs j was.0)) (each-follows Neutral (Pairs (without id chain) j) (out j) (neutral_pairs (without id chain) j) (calm j));
  stages = λ j member. omega (arith, h.stages j (in-without id chain j member).0, same_tails j, ap (λ b. bit (b && (v.master.told && not v.master.ready))) (same_last j));
  alone = λ j member some away. let was = in-without id chain j member in
      let rule = h.alone j was.0 some (sym (same_last j) ∙ away) in
      (rule.0, λ z last. let before = sym (same_last z) ∙ last in before-without id j z chain (rule.1 z before) was.1 (apart_from z before));
  untold = λ j last. h.untold j (sym (same_last j) ∙ last);
  heard = λ j last told none. h.heard j (sym (same_last j) ∙ last) told (sym (same_tails j) ∙ none);
  ready = h.ready;
  retires = λ j last. retires_append (row j) (out j) (h.retires j (sym (same_last j) ∙ last)) (neutral_retires (out j) (calm j));
  hands_over = λ told x last i. each-follows (HandsOver (length c) (Free v) x) (HandsOver (length c) (Free w) x) (v.channel (parties.Server i) parties.Master)
      (λ m. hands_fewer (length c) (Free v) (Free w) x m (λ free j member. free j (in-without id chain j member).0)) (h.hands_over told x (sym (same_last x) ∙ last) i);
  young_last = λ j member young. same_last j ∙ h.young_last j (in-without id chain j member).0 young;
  young_least = λ j least member. h.young_least j least (in-without id chain j member).0;
  young_told = λ j member young. each-append (Enough (length c)) (row j) (out j) (h.young_told j (in-without id chain j member).0 young) (each-follows Neutral (Enough (length c)) (out j) (neutral_enough (length c)) (calm j));
  young = λ told j last. h.young told j (sym (same_last j) ∙ last);
  old = λ j member. h.old j (in-without id chain j member).0;
  old_least = λ j least member. h.old_least j least (in-without id chain j member).0;
  old_told = λ j member full. each-append Zero (row j) (out j) (h.old_told j (in-without id chain j member).0 full) (each-follows Neutral Zero (out j) neutral_zero (calm j));
  joins_ready = h.joins_ready;
  unnamed_orders = λ i joins j. each-append (NotOn i) (row j) (out j) (h.unnamed_orders i joins j) (each-follows Neutral (NotOn i) (out j) (neutral_not_on i) (calm j));
  unnamed_reports = h.unnamed_reports;
  unready = h.unready;
  reached = h.reached;
  lives = h.lives;
} where
  chain : List ℕ
  chain = v.master.chain

  w : View
  w = said v (record v.master { chain = without id v.master.chain }) (said_of_loss id v.master.chain)

  row : ℕ → List Message
  row j = v.channel parties.Master (parties.Server j)

  out : ℕ → List Message
  out j = told_to j (said_of_loss id v.master.chain)

  calm : (j : ℕ) → Each Neutral (told_to j (said_of_loss id v.master.chain))
  calm j = loss_neutral id v.master.chain j not_last

  same_tails : (j : ℕ) → tails (v.channel parties.Master (parties.Server j) ++ told_to j (said_of_loss id v.master.chain)) ≡ tails (v.channel parties.Master (parties.Server j))
  same_tails j = omega (arith, tails-append (v.channel parties.Master (parties.Server j)) (told_to j (said_of_loss id v.master.chain)), neutral_tails (told_to j (said_of_loss id v.master.chain)) (loss_neutral id v.master.chain j not_last))

  apart_from : (z : ℕ) → is_last v.master.chain z ≡ true → eqb z id ≡ false
  apart_from z last = not_true (eqb z id) (λ e. both_ways (is_last v.master.chain id) not_last (subst (λ i. is_last v.master.chain i ≡ true) (eqb-true z id e) last))

  same_last : (z : ℕ) → is_last (without id v.master.chain) z ≡ is_last v.master.chain z
  same_last z = go (is_last v.master.chain z) (is_last (without id v.master.chain) z) refl refl where
    go : (a b : Bool) → is_last v.master.chain z ≡ a → is_last (without id v.master.chain) z ≡ b → b ≡ a
    go true true e f = refl
    go false false e f = refl
    go true false e f = absurd (both_ways (is_last (without id v.master.chain) z) f (last-without id z v.master.chain e (not_true (eqb z id) (λ same. both_ways (is_last v.master.chain id) not_last (subst (λ i. is_last v.master.chain i ≡ true) (eqb-true z id same) e)))))
    go false true e f = absurd (both_ways (is_last v.master.chain z) e (last-back id z v.master.chain not_last f))

-- ---- detections of the last

last_commits : (v : View) (c : List Entry) (id q : ℕ) → Prefixes v → Commits v c → is_last v.master.chain id ≡ true → stands_before q id v.master.chain ≡ true → is_last (without id v.master.chain) q ≡ true
    → Commits (said v (record v.master { chain = without id v.master.chain; told = true; ready = false; joiner = None }) ((parties.Server q, BeTail 0) ∷ [])) c
last_commits v c id q g h last before now_last = record {
  acting = h.acting;
  silent = h.silent;
  orders_named = λ j. each_one (Names v.master.used) j q (BeTail 0) (row j) (h.orders_named j) (λ e. tt);
  reports_named = h.reports_named;
  pairs = λ j member. let was = in-without id chain j member in each_one (Pairs (without id chain) j) j q (BeTail 0) (row j) (each-follows (Pairs chain j) (Pairs (without id chain) j) (row j) (λ m. pairs_without id j chain m was.1) (h.pairs j was.0)) (λ e. tt);
  stages = λ j member. stages j member (eqb j q) refl;
  alone = λ j member some away. absurd (both_ways (is_last (without id chain) j) away (subst (λ i. is_last (without id chain) i ≡ true) (sym (tail_before j member some)) now_last));
  untold = λ j is told. absurd (false≢true (sym told));
  heard = λ j is told none. absurd (omega (arith, none, tails_own j (eq-eqb j q (last-one (without id chain) j q is now_last))));
  ready = λ r. absurd (false≢true r);
  retires = λ j is. one_more j q (BeTail 0) Retires (row j) (λ e. retires_tail (row j) 0) (λ e. absurd (both_ways (eqb j q) e (eq-eqb j q (last-one (without id chain) j q is now_last))));
  hands_over = λ told. absurd (false≢true (sym told));
  young_last = λ j member young. absurd (both_ways (v.server j).full young (grown j member));
  young_least = λ j least member young. absurd (both_ways (v.server j).full young (grown j member));
  young_told = λ j member young. absurd (both_ways (v.server j).full young (grown j member));
  young = λ told. absurd (false≢true (sym told));
  old = λ j member. h.old j (in-without id chain j member).0;
  old_least = λ j least member. h.old_least j least (in-without id chain j member).0;
  old_told = λ j member full. each_one Zero j q (BeTail 0) (row j) (h.old_told j (in-without id chain j member).0 full) (λ e. refl);
  joins_ready = λ none. absurd (false≢true none);
  unnamed_orders = λ i none. absurd (false≢true none);
  unnamed_reports = λ i none. absurd (false≢true none);
  unready = λ i none. absurd (false≢true none);
  reached = h.reached;
  lives = h.lives;
} where
  chain : List ℕ
  chain = v.master.chain

  row : ℕ → List Message
  row j = v.channel parties.Master (parties.Server j)

  -- who stays wasn't the last
  was_not : (j : ℕ) → is_in (without id v.master.chain) j ≡ true → is_last v.master.chain j ≡ false
  was_not j member = not_true (is_last v.master.chain j) (λ e. both_ways (eqb j id) (in-without id v.master.chain j member).1 (eq-eqb j id (last-one v.master.chain j id e last)))

  grown : (j : ℕ) → is_in (without id v.master.chain) j ≡ true → (v.server j).full ≡ true
  grown j member = elim (cases_Bool (v.server j).full) [ inl full ↦ full | inr young ↦ absurd (both_ways (is_last v.master.chain j) (was_not j member) (h.young_last j (in-without id v.master.chain j member).0 young)) ]

  -- the only one that may be a tail is the new last one
  tail_before : (j : ℕ) → is_in (without id v.master.chain) j ≡ true → is_some (v.server j).at_least ≡ true → j ≡ q
  tail_before j member some = elim (cases_Bool (eqb j q)) [
    | inl e ↦ eqb-true j q e
    | inr other ↦ let was = in-without id v.master.chain j member in
        let rule = h.alone j was.0 some (was_not j member) in
        let q_member = (before-in q id v.master.chain before).0 in
        elim (before-either v.master.chain j q was.0 q_member other) [
          | inl first ↦ absurd (before-last q id v.master.chain (chain-apart v g) before (subst (λ i. is_last v.master.chain i ≡ true) (sym (before-only v.master.chain j q id (chain-apart v g) (rule.1 id last) last first)) last))
          | inr second ↦ absurd (both_ways (is_last v.master.chain j) (was_not j member) (subst (λ i. is_last v.master.chain i ≡ true) (sym (before-only v.master.chain q j id (chain-apart v g) before last second)) last))
        ]
  ]

  tails_own : (j : ℕ) → eqb j q ≡ true → tails (v.channel parties.Master (parties.Server j) ++ told_to j ((parties.Server q, BeTail 0) ∷ [])) ≡ tails (v.channel parties.Master (parties.Server j)) + 1
  tails_own j e = ap (λ us. tails (v.channel parties.Master (parties.Server j) ++ us)) (one_told j q (BeTail 0) true e) ∙ tails-append (v.channel parties.Master (parties.Server j)) (BeTail 0 ∷ [])

  tails_other : (j : ℕ) → eqb j q ≡ false → tails (v.channel parties.Master (parties.Server j) ++ told_to j ((parties.Server q, BeTail 0) ∷ [])) ≡ tails (v.channel parties.Master (parties.Server j))
  tails_other j e = ap (λ us. tails (v.channel parties.Master (parties.Server j) ++ us)) (one_told j q (BeTail 0) false e) ∙ ap tails (append-nil (v.channel parties.Master (parties.Server j)))

  stages : (j : ℕ) → is_in (without id v.master.chain) j ≡ true → (t : Bool) → eqb j q ≡ t
      → tails (v.channel parties.Master (parties.Server j) ++ told_to j ((parties.Server q, BeTail 0) ∷ [])) + (readies (v.channel (parties.Server j) parties.Master) + bit (waits (v.server j))) ≡ bit (is_last (without id v.master.chain) j && (true && not false))
  stages j member true e = omega (
    arith,
    tails_own j e,
    h.stages j (in-without id v.master.chain j member).0,
    ap (λ b. bit (b && (v.master.told && not v.master.ready))) (was_not j member),
    ap (λ b. bit (b && (true && not false))) (subst (λ i. is_last (without id v.master.chain) i ≡ true) (sym (eqb-true j q e)) now_last),
  )
  stages j member false e = omega (
    arith,
    tails_other j e,
    h.stages j (in-without id v.master.chain j member).0,
    ap (λ b. bit (b && (v.master.told && not v.master.ready))) (was_not j member),
    ap (λ b. bit (b && (true && not false))) (not_true (is_last (without id v.master.chain) j) (λ k. both_ways (eqb j q) e (eq-eqb j q (last-one (without id v.master.chain) j q k now_last)))),
  )

-- ---- a server that joins is dropped

dropped_commits : (v : View) (c : List Entry) → Commits v c → Commits (record v { master = alone v.master }) c
dropped_commits v c h = record {
  acting = h.acting;
  silent = h.silent;
  orders_named = h.orders_named;
  reports_named = h.reports_named;
  pairs = h.pairs;
  stages = h.stages;
  alone = h.alone;
  untold = h.untold;
  heard = h.heard;
  ready = h.ready;
  retires = h.retires;
  hands_over = h.hands_over;
  young_last = h.young_last;
  young_least = h.young_least;
  young_told = h.young_told;
  young = h.young;
  old = h.old;
  old_least = h.old_least;
  old_told = h.old_told;
  joins_ready = λ none. absurd (false≢true none);
  unnamed_orders = λ i none. absurd (false≢true none);
  unnamed_reports = λ i none. absurd (false≢true none);
  unready = λ i none. absurd (false≢true none);
  reached = h.reached;
  lives = h.lives;
}

-- ---- all detections

-- A detection keeps all sentences: of the server that joins, or of a member, while others remain.
pub detected-commits : (v : View) (c : List Entry) (id a : ℕ) (rest : List ℕ) → Prefixes v → Commits v c → v.master.chain ≡ a ∷ rest → (is_that v.master.joiner id ≡ false → length v.master.chain ≡ 1 → ⊥)
    → Commits (said v (detected id v.master).master (detected id v.master).said) c
unfolding detected
detected-commits v c id a rest g h is more = by (is_that v.master.joiner id) refl where
  go : is_that v.master.joiner id ≡ false → (t : Bool) → is_last v.master.chain id ≡ t
      → Commits (said v (record v.master { chain = without id v.master.chain; told = t || v.master.told; ready = not t && v.master.ready; joiner = cond t None v.master.joiner }) (said_of_loss id v.master.chain)) c
  go other true e = let loss = loss_last id v.master.chain (chain-apart v g) e (more other) in
      subst (λ out. Commits (said v (record v.master { chain = without id v.master.chain; told = true; ready = false; joiner = None }) out) c) (sym loss.3) (last_commits v c id loss.0 g h e loss.1 loss.2)
  go other false e = other_commits v c id g h e

  by : (t : Bool) → is_that v.master.joiner id ≡ t → Commits (said v (cond t (dropped v.master) (closed_up id v.master)).master (cond t (dropped v.master) (closed_up id v.master)).said) c
  by true joins = subst (λ out. Commits (said v (alone v.master) out) c) (sym (ap (λ us. to_last (Feed None) us) is ∙ last_told (Feed None) a rest)) (feed-commits (record v { master = alone v.master }) c (last_of a rest) None (dropped_commits v c h))
  by false other = go other (is_last v.master.chain id) refl

-- ---- joins

-- A new server joins behind the last member, which acts. The chain stays.
join_commits : (v : View) (c : List Entry) (id t : ℕ) → Prefixes v → Commits v c → is_in v.master.used id ≡ false → v.master.ready ≡ true
    → Commits (said v (record v.master { joiner = Some id; used = v.master.used ++ id ∷ [] }) ((parties.Server id, Report t) ∷ [])) c
join_commits v c id t g h unused ready = record {
  acting = h.acting;
  silent = λ j out. h.silent j (out_more used id j out).0;
  orders_named = λ j. each_one (Names (used ++ id ∷ [])) j id (Report t) (row j) (each-follows (Names used) (Names (used ++ id ∷ [])) (row j) wider (h.orders_named j)) (λ e. tt);
  reports_named = λ j. each-follows (Names used) (Names (used ++ id ∷ [])) (v.channel (parties.Server j) parties.Master) wider (h.reports_named j);
  pairs = λ j member. each_one (Pairs v.master.chain j) j id (Report t) (row j) (h.pairs j member) (λ e. tt);
  stages = λ j member. ap (λ n. n + (readies (v.channel (parties.Server j) parties.Master) + bit (waits (v.server j)))) (same_tails j) ∙ h.stages j member;
  alone = h.alone;
  untold = h.untold;
  heard = λ j last told none. h.heard j last told (sym (same_tails j) ∙ none);
  ready = h.ready;
  retires = λ j last. one_more j id (Report t) Retires (row j) (λ e. retires_append (row j) (Report t ∷ []) (h.retires j last) tt) (λ e. h.retires j last);
  hands_over = h.hands_over;
  young_last = h.young_last;
  young_least = h.young_least;
  young_told = λ j member young. each_one (Enough (length c)) j id (Report t) (row j) (h.young_told j member young) (λ e. tt);
  young = h.young;
  old = h.old;
  old_least = h.old_least;
  old_told = λ j member full. each_one Zero j id (Report t) (row j) (h.old_told j member full) (λ e. tt);
  joins_ready = λ joins. ready;
  unnamed_orders = λ i is j. each_one (NotOn i) j id (Report t) (row j) (each-follows (Names used) (NotOn i) (row j) (unnamed i is) (h.orders_named j)) (λ e. tt);
  unnamed_reports = λ i is j. each-follows (Names used) (NotOn i) (v.channel (parties.Server j) parties.Master) (unnamed i is) (h.reports_named j);
  unready = λ i is. ap readies (ap (λ k. v.channel (parties.Server k) parties.Master) (sym (eqb-true id i is)) ∙ h.silent id unused);
  reached = h.reached;
  lives = (h.lives.0, in_left used id h.lives.0 h.lives.1, h.lives.2, h.lives.3);
} where
  used : List ℕ
  used = v.master.used

  row : ℕ → List Message
  row j = v.channel parties.Master (parties.Server j)

  wider : (m : Message) → Names v.master.used m → Names (v.master.used ++ id ∷ []) m
  wider (Adopt s n) k = in_left v.master.used id s k
  wider (Adopted s n) k = in_left v.master.used id s k
  wider m k = tt

  -- nobody named the new one
  not_used : (i s : ℕ) → eqb id i ≡ true → is_in v.master.used s ≡ true → eqb s i ≡ false
  not_used i s is known = not_true (eqb s i) (λ same. both_ways (is_in v.master.used id) unused (subst (λ k. is_in v.master.used k ≡ true) (eqb-true s i same ∙ sym (eqb-true id i is)) known))

  unnamed : (i : ℕ) → eqb id i ≡ true → (m : Message) → Names v.master.used m → NotOn i m
  unnamed i is (Adopt s n) known = not_used i s is known
  unnamed i is (Adopted s n) known = not_used i s is known
  unnamed i is m known = tt

  same_tails : (j : ℕ) → tails (v.channel parties.Master (parties.Server j) ++ told_to j ((parties.Server id, Report t) ∷ [])) ≡ tails (v.channel parties.Master (parties.Server j))
  same_tails j = one_more j id (Report t) (λ us. tails us ≡ tails (v.channel parties.Master (parties.Server j))) (v.channel parties.Master (parties.Server j)) (λ e. omega (arith, tails-append (v.channel parties.Master (parties.Server j)) (Report t ∷ []))) (λ e. refl)

-- A join of a number that wasn't used, where the last member acts, keeps all sentences.
pub joined-commits : (v : View) (c : List Entry) (id a : ℕ) (rest : List ℕ) → Prefixes v → Commits v c → is_in v.master.used id ≡ false → v.master.ready ≡ true → v.master.chain ≡ a ∷ rest
    → Commits (said v (joined id v.master).master (joined id v.master).said) c
unfolding joined
joined-commits v c id a rest g h unused ready is = subst (λ out. Commits (said v (record v.master { joiner = Some id; used = v.master.used ++ id ∷ [] }) out) c) (sym (ap (λ us. said_of_join id us) is ∙ join_told id a rest))
    (join_commits v c id (last_of a rest) g h unused ready)
