-- Each step of the master keeps the sentences on who may act and what is committed.
use Rattle.std.proofs.Common.{◌≡◌, ℕ, ◌+◌, ◌≤◌, ◌∙◌, ap, sym, List, [], ◌∷◌, ◌++◌, length, ◌&&◌, not, Option, Some, None, is_some, Bool, true, false, cond, eqb, arith, subst, refl, inl, inr, append-nil}
use Rattle.std.proofs.lemmas.Bool.{eqb-true, eq-eqb, false≢true, both_ways, cases_Bool, and_parts}
use Rattle.cq_base.specs.declared.ask.Entry.{Entry}
use Rattle.cq_base.specs.declared.party.Party.{Party}
use Rattle.cq_base.specs.declared.party.Party.TheVariants as parties
use Rattle.cq_chain.specs.Masters.{Master, is_in, is_last, hears, joins_behind, admitted, no_order, stands_before}
use Rattle.cq_chain.specs.Messages.{Message, BeHead, Report, Adopt, BeTail, Feed, Have, Adopted, Caught, Ready}
use Rattle.cq_chain.specs.Parties.{same, is_that}
use Rattle.cq_chain.specs.Servers.{acts}
use Rattle.cq_world.proofs.Chains.{last-in, last-one, last-end, before-in, before-last, before-more, before-end, chain-apart, chain-used}
use Rattle.cq_world.proofs.Commits.{Commits, harmless_tails, tails, readies, Names, Pairs, Retires, HandsOver, Enough, Zero, NotOn, bit, waits, busy, Free}
use Rattle.cq_world.proofs.Commits.Turns.{tails-append, if_false, stage_one, ready-idle, ready-acts}
use Rattle.cq_world.proofs.Eaches.{Each, each-append, some_none, cons_nil}
use Rattle.cq_world.proofs.ExtendedChains.{in_more, member-other}
use Rattle.cq_world.proofs.Prefixes.Orders.{told_to, one_told, still_said, said-keeps}
use Rattle.cq_world.proofs.Prefixes.{Prefixes, Harmless, Outsider}
use Rattle.cq_world.proofs.Settled.{that_some}
use Rattle.cq_world.proofs.Views.{View, extended_of, said, drained, same_channels}

-- ---- words without a meaning for who acts

abbrev pub Neutral : Message → Type 0
Neutral BeHead = Unit {0}
Neutral (Report p) = Unit {0}
Neutral m = ⊥

pub neutral_tails : (ms : List Message) → Each Neutral ms → tails ms ≡ 0
neutral_tails [] h = refl
neutral_tails (BeTail least ∷ ms) h = absurd h.0
neutral_tails (m ∷ ms) h = skip m h (neutral_tails ms h.1) where
  skip : (y : Message) → Each Neutral (y ∷ ms) → tails ms ≡ 0 → tails (y ∷ ms) ≡ 0
  skip (BeTail least) g e = absurd g.0
  skip y g e = e

pub neutral_names : (used : List ℕ) (m : Message) → Neutral m → Names used m
neutral_names used (Adopt s n) h = absurd h
neutral_names used (Adopted s n) h = absurd h
neutral_names used m h = tt

pub neutral_pairs : (chain : List ℕ) (p : ℕ) (m : Message) → Neutral m → Pairs chain p m
neutral_pairs chain p (Adopt s n) h = absurd h
neutral_pairs chain p m h = tt

pub neutral_enough : (n : ℕ) (m : Message) → Neutral m → Enough n m
neutral_enough n (BeTail least) h = absurd h
neutral_enough n (Adopt s i) h = absurd h
neutral_enough n m h = tt

pub neutral_not_on : (j : ℕ) (m : Message) → Neutral m → NotOn j m
neutral_not_on j (Adopt s n) h = absurd h
neutral_not_on j (Adopted s n) h = absurd h
neutral_not_on j m h = tt

pub neutral_zero : (m : Message) → Neutral m → Zero m
neutral_zero (BeTail least) h = absurd h
neutral_zero m h = tt

-- with more words behind, none of which is on a successor
pub retires_append : (xs ys : List Message) → Retires xs → Retires ys → Retires (xs ++ ys)
retires_append [] ys h k = k
retires_append (m ∷ xs) ys h k = skip m h (λ g. retires_append xs ys g k) where
  skip : (y : Message) → Retires (y ∷ xs) → (Retires xs → Retires (xs ++ ys)) → Retires (y ∷ (xs ++ ys))
  skip (Adopt s n) g later = ((λ none. g.0 (omega (arith, tails-append xs ys, none))), later g.1)
  skip y g later = later (rest_of y g) where
    rest_of : (z : Message) → Retires (z ∷ xs) → Retires xs
    rest_of (Adopt s n) f = f.1
    rest_of z f = f

pub neutral_retires : (ms : List Message) → Each Neutral ms → Retires ms
neutral_retires [] h = tt
neutral_retires (Adopt s n ∷ ms) h = absurd h.0
neutral_retires (m ∷ ms) h = skip m h (neutral_retires ms h.1) where
  skip : (y : Message) → Each Neutral (y ∷ ms) → Retires ms → Retires (y ∷ ms)
  skip (Adopt s n) g r = absurd g.0
  skip y g r = r

-- ---- what is heard

-- where nothing is said the channels stay
pub said_nothing : (v : View) (m : Master) → said v m [] ≡ record v { master = m }
said_nothing v m = ap (λ c. record { server = v.server; channel = c; master = m }) (same_channels _ _ (λ x y. go x y (same x parties.Master))) where
  go : (x y : Party) (t : Bool) → cond t (v.channel x y ++ []) (v.channel x y) ≡ v.channel x y
  go x y true = append-nil (v.channel x y)
  go x y false = refl

-- what is left of what a server told the master
pub left_row : (v : View) (from : ℕ) (rest : List Message) (j : ℕ) → (drained v (parties.Server from) parties.Master rest).channel (parties.Server j) parties.Master ≡ cond (eqb j from) rest (v.channel (parties.Server j) parties.Master)
left_row v from rest j = go (eqb j from) where
  go : (t : Bool) → cond (t && true) rest (v.channel (parties.Server j) parties.Master) ≡ cond t rest (v.channel (parties.Server j) parties.Master)
  go true = refl
  go false = refl

-- what holds of all that a server told the master holds of the rest
by_left : (v : View) (from : ℕ) (word : Message) (rest : List Message) (P : ℕ → Message → Type 0) → v.channel (parties.Server from) parties.Master ≡ word ∷ rest
    → ((j : ℕ) → Each (P j) (v.channel (parties.Server j) parties.Master)) → (j : ℕ) → Each (P j) ((drained v (parties.Server from) parties.Master rest).channel (parties.Server j) parties.Master)
by_left v from word rest P at all j = subst (λ ms. Each (P j) ms) (sym (left_row v from rest j)) (go (eqb j from) refl) where
  go : (t : Bool) → eqb j from ≡ t → Each (P j) (cond t rest (v.channel (parties.Server j) parties.Master))
  go true e = subst (λ i. Each (P i) rest) (sym (eqb-true j from e)) (subst (λ ms. Each (P from) ms) at (all from)).1
  go false e = all j

-- without the first word no more of them say that a server acts
readies_rest : (word : Message) (rest : List Message) → readies (word ∷ rest) ≡ 0 → readies rest ≡ 0
readies_rest Ready rest h = absurd (omega (arith, h))
readies_rest word rest h = h

-- a word that doesn't say that a member acts, or nothing
drained_commits : (v : View) (c : List Entry) (from : ℕ) (word : Message) (rest : List Message) → Commits v c → v.channel (parties.Server from) parties.Master ≡ word ∷ rest
    → (is_in v.master.chain from ≡ true → readies rest ≡ readies (word ∷ rest)) → Commits (drained v (parties.Server from) parties.Master rest) c
drained_commits v c from word rest h at quiet = record {
  acting = h.acting;
  silent = λ j unused. left_row v from rest j ∙ if_false (eqb j from) rest (v.channel (parties.Server j) parties.Master) (other j unused (eqb j from) refl) ∙ h.silent j unused;
  orders_named = h.orders_named;
  reports_named = by_left v from word rest (λ j m. Names v.master.used m) at h.reports_named;
  pairs = h.pairs;
  stages = λ j member. ap (λ n. tails (v.channel parties.Master (parties.Server j)) + (n + bit (waits (v.server j)))) (ap readies (left_row v from rest j) ∙ same_readies j member (eqb j from) refl) ∙ h.stages j member;
  alone = h.alone;
  untold = h.untold;
  heard = h.heard;
  ready = h.ready;
  retires = h.retires;
  hands_over = λ told x last. by_left v from word rest (λ j m. HandsOver (length c) (Free v) x m) at (h.hands_over told x last);
  young_last = h.young_last;
  young_least = h.young_least;
  young_told = h.young_told;
  young = h.young;
  old = h.old;
  old_least = h.old_least;
  old_told = h.old_told;
  joins_ready = h.joins_ready;
  unnamed_orders = h.unnamed_orders;
  unnamed_reports = λ j joins. by_left v from word rest (λ i m. NotOn j m) at (h.unnamed_reports j joins);
  unready = λ j joins. ap readies (left_row v from rest j) ∙ still_unready j joins (eqb j from) refl;
  reached = h.reached;
  lives = h.lives;
} where
  still_unready : (j : ℕ) → is_that v.master.joiner j ≡ true → (t : Bool) → eqb j from ≡ t → readies (cond t rest (v.channel (parties.Server j) parties.Master)) ≡ 0
  still_unready j joins false e = h.unready j joins
  still_unready j joins true e = readies_rest word rest (ap readies (sym at ∙ ap (λ i. v.channel (parties.Server i) parties.Master) (sym (eqb-true j from e))) ∙ h.unready j joins)

  other : (j : ℕ) → is_in v.master.used j ≡ false → (t : Bool) → eqb j from ≡ t → t ≡ false
  other j unused false e = refl
  other j unused true e = absurd (cons_nil word rest (sym at ∙ h.silent from (subst (λ i. is_in v.master.used i ≡ false) (eqb-true j from e) unused)))

  same_readies : (j : ℕ) → is_in v.master.chain j ≡ true → (t : Bool) → eqb j from ≡ t → readies (cond t rest (v.channel (parties.Server j) parties.Master)) ≡ readies (v.channel (parties.Server j) parties.Master)
  same_readies j member false e = refl
  same_readies j member true e = quiet (subst (λ i. is_in v.master.chain i ≡ true) (eqb-true j from e) member) ∙ ap readies (sym at ∙ ap (λ i. v.channel (parties.Server i) parties.Master) (sym (eqb-true j from e)))

-- ---- a new successor

-- a row with one word more, or as it was
pub one_more : (j to : ℕ) (m : Message) (P : List Message → Type 0) (ms : List Message) → (eqb j to ≡ true → P (ms ++ m ∷ [])) → (eqb j to ≡ false → P ms) → P (ms ++ told_to j ((parties.Server to, m) ∷ []))
one_more j to m P ms yes_so not_so = subst (λ us. P (ms ++ us)) (sym (one_told j to m (eqb j to) refl)) (go (eqb j to) refl) where
  go : (t : Bool) → eqb j to ≡ t → P (ms ++ cond t (m ∷ []) [])
  go true e = yes_so e
  go false e = subst P (sym (append-nil ms)) (not_so e)

pub each_one : (P : Message → Type 0) (j to : ℕ) (m : Message) (ms : List Message) → Each P ms → (eqb j to ≡ true → P m) → Each P (ms ++ told_to j ((parties.Server to, m) ∷ []))
each_one P j to m ms h k = one_more j to m (λ us. Each P us) ms (λ e. each-append P ms (m ∷ []) h (k e, tt)) (λ e. h)

adopt_commits : (v : View) (c : List Entry) (p s count : ℕ) → Prefixes v → Commits v c → stands_before p s v.master.chain ≡ true → Commits (said v v.master ((parties.Server p, Adopt s count) ∷ [])) c
adopt_commits v c p s count g h before = record {
  acting = h.acting;
  silent = h.silent;
  orders_named = λ j. each_one (Names v.master.used) j p word (v.channel parties.Master (parties.Server j)) (h.orders_named j) (λ e. chain-used v s g (before-in p s v.master.chain before).1);
  reports_named = h.reports_named;
  pairs = λ j member. each_one (Pairs v.master.chain j) j p word (v.channel parties.Master (parties.Server j)) (h.pairs j member) (λ e there. subst (λ i. stands_before i s v.master.chain ≡ true) (sym (eqb-true j p e)) before);
  stages = λ j member. ap (λ n. n + (readies (v.channel (parties.Server j) parties.Master) + bit (waits (v.server j)))) (same_tails j) ∙ h.stages j member;
  alone = h.alone;
  untold = h.untold;
  heard = λ j last told none. h.heard j last told (sym (same_tails j) ∙ none);
  ready = h.ready;
  retires = λ j last. one_more j p word Retires (v.channel parties.Master (parties.Server j)) (λ e. absurd (not_last j e last)) (λ e. h.retires j last);
  hands_over = h.hands_over;
  young_last = h.young_last;
  young_least = h.young_least;
  young_told = λ j member young. each_one (Enough (length c)) j p word (v.channel parties.Master (parties.Server j)) (h.young_told j member young) (λ e. not_last j e (h.young_last j member young));
  young = h.young;
  old = h.old;
  old_least = h.old_least;
  old_told = λ j member full. each_one Zero j p word (v.channel parties.Master (parties.Server j)) (h.old_told j member full) (λ e. tt);
  joins_ready = h.joins_ready;
  unnamed_orders = λ i joins j. each_one (NotOn i) j p word (v.channel parties.Master (parties.Server j)) (h.unnamed_orders i joins j) (λ e. not_joining i joins (eqb s i) refl);
  unnamed_reports = h.unnamed_reports;
  unready = h.unready;
  reached = h.reached;
  lives = h.lives;
} where
  word : Message
  word = Adopt s count

  -- the successor is a member
  not_joining : (i : ℕ) → is_that v.master.joiner i ≡ true → (t : Bool) → eqb s i ≡ t → t ≡ false
  not_joining i joins false e = refl
  not_joining i joins true e = absurd (both_ways (is_that v.master.joiner i) (subst (λ k. is_that v.master.joiner k ≡ false) (eqb-true s i e) (member-other v.master.chain v.master.joiner s g.apart (before-in p s v.master.chain before).1)) joins)

  same_tails : (j : ℕ) → tails (v.channel parties.Master (parties.Server j) ++ told_to j ((parties.Server p, Adopt s count) ∷ [])) ≡ tails (v.channel parties.Master (parties.Server j))
  same_tails j = one_more j p (Adopt s count) (λ us. tails us ≡ tails (v.channel parties.Master (parties.Server j))) (v.channel parties.Master (parties.Server j)) (λ e. omega (arith, tails-append (v.channel parties.Master (parties.Server j)) (Adopt s count ∷ []))) (λ e. refl)

  not_last : (j : ℕ) → eqb j p ≡ true → is_last v.master.chain j ≡ true → ⊥
  not_last j e last = before-last p s v.master.chain (chain-apart v g) before (subst (λ i. is_last v.master.chain i ≡ true) (eqb-true j p e) last)

-- ---- the last one is told

-- a row with a word to be the tail at its end
pub retires_tail : (xs : List Message) (least : ℕ) → Retires (xs ++ BeTail least ∷ [])
retires_tail [] least = tt
retires_tail (m ∷ xs) least = skip m (retires_tail xs least) where
  skip : (y : Message) → Retires (xs ++ BeTail least ∷ []) → Retires (y ∷ (xs ++ BeTail least ∷ []))
  skip (Adopt s n) g = ((λ none. omega (arith, tails-append xs (BeTail least ∷ []), none)), g)
  skip y g = g

told_commits : (v : View) (c : List Entry) (s count : ℕ) → Prefixes v → Commits v c → is_last v.master.chain s ≡ true → v.master.told ≡ false → length c ≤ count → Free v
    → Commits (said v (record v.master { told = true }) ((parties.Server s, BeTail count) ∷ [])) c
told_commits v c s count g h last untold enough free = record {
  acting = h.acting;
  silent = h.silent;
  orders_named = λ j. each_one (Names v.master.used) j s word (v.channel parties.Master (parties.Server j)) (h.orders_named j) (λ e. tt);
  reports_named = h.reports_named;
  pairs = λ j member. each_one (Pairs v.master.chain j) j s word (v.channel parties.Master (parties.Server j)) (h.pairs j member) (λ e. tt);
  stages = λ j member. stages j member (eqb j s) refl;
  alone = λ j member some not_last. absurd (both_ways (is_some (v.server j).at_least) (ap (λ o. is_some o) (free j member)) some);
  untold = λ j is told. absurd (false≢true (sym told));
  heard = λ j is told none. absurd (omega (arith, none, tails_own j (same_last j is)));
  ready = λ r. refl;
  retires = λ j is. one_more j s word Retires (v.channel parties.Master (parties.Server j)) (λ e. retires_tail (v.channel parties.Master (parties.Server j)) count) (λ e. h.retires j is);
  hands_over = λ told x is id. absurd (false≢true (sym told));
  young_last = h.young_last;
  young_least = λ j least member young is. absurd (some_none least (sym is ∙ free j member));
  young_told = λ j member young. each_one (Enough (length c)) j s word (v.channel parties.Master (parties.Server j)) (h.young_told j member young) (λ e. enough);
  young = λ told. absurd (false≢true (sym told));
  old = h.old;
  old_least = h.old_least;
  old_told = λ j member full. each_one Zero j s word (v.channel parties.Master (parties.Server j)) (h.old_told j member full) (λ e. absurd (both_ways (v.server j).full (h.young untold j (subst (λ i. is_last v.master.chain i ≡ true) (sym (eqb-true j s e)) last)) full));
  joins_ready = h.joins_ready;
  unnamed_orders = λ i joins j. each_one (NotOn i) j s word (v.channel parties.Master (parties.Server j)) (h.unnamed_orders i joins j) (λ e. tt);
  unnamed_reports = h.unnamed_reports;
  unready = h.unready;
  reached = h.reached;
  lives = h.lives;
} where
  word : Message
  word = BeTail count

  same_last : (j : ℕ) → is_last v.master.chain j ≡ true → eqb j s ≡ true
  same_last j is = eq-eqb j s (last-one v.master.chain j s is last)

  tails_own : (j : ℕ) → eqb j s ≡ true → tails (v.channel parties.Master (parties.Server j) ++ told_to j ((parties.Server s, BeTail count) ∷ [])) ≡ tails (v.channel parties.Master (parties.Server j)) + 1
  tails_own j e = ap (λ us. tails (v.channel parties.Master (parties.Server j) ++ us)) (one_told j s (BeTail count) true e) ∙ tails-append (v.channel parties.Master (parties.Server j)) (BeTail count ∷ [])

  tails_other : (j : ℕ) → eqb j s ≡ false → tails (v.channel parties.Master (parties.Server j) ++ told_to j ((parties.Server s, BeTail count) ∷ [])) ≡ tails (v.channel parties.Master (parties.Server j))
  tails_other j e = ap (λ us. tails (v.channel parties.Master (parties.Server j) ++ us)) (one_told j s (BeTail count) false e) ∙ ap tails (append-nil (v.channel parties.Master (parties.Server j)))

  not_ready : v.master.ready ≡ false
  not_ready = elim (cases_Bool v.master.ready) [ inl r ↦ absurd (both_ways v.master.told untold (h.ready r)) | inr r ↦ r ]

  before_so : (j : ℕ) (t : Bool) → is_last v.master.chain j ≡ t → bit (is_last v.master.chain j && (v.master.told && not v.master.ready)) ≡ 0
  before_so j t e = ap (λ b. bit (is_last v.master.chain j && (b && not v.master.ready))) untold ∙ ap (λ b. bit (b && false)) e ∙ go t where
    go : (b : Bool) → bit (b && false) ≡ 0
    go true = refl
    go false = refl

  stages : (j : ℕ) → is_in v.master.chain j ≡ true → (t : Bool) → eqb j s ≡ t
      → tails (v.channel parties.Master (parties.Server j) ++ told_to j ((parties.Server s, BeTail count) ∷ [])) + (readies (v.channel (parties.Server j) parties.Master) + bit (waits (v.server j))) ≡ bit (is_last v.master.chain j && (true && not v.master.ready))
  stages j member true e =
      let is = subst (λ i. is_last v.master.chain i ≡ true) (sym (eqb-true j s e)) last in
      omega (arith, tails_own j e, h.stages j member, before_so j true is, ap (λ b. bit (b && (true && not v.master.ready))) is, ap (λ b. bit (not b)) not_ready)
  stages j member false e =
      let is : is_last v.master.chain j ≡ false = elim (cases_Bool (is_last v.master.chain j)) [ inl k ↦ absurd (both_ways (eqb j s) e (same_last j k)) | inr k ↦ k ] in
      omega (arith, tails_other j e, h.stages j member, before_so j false is, ap (λ b. bit (b && (true && not v.master.ready))) is)

-- ---- the last one acts

ready_commits : (v : View) (c : List Entry) (from : ℕ) (rest : List Message) → Commits v c → v.channel (parties.Server from) parties.Master ≡ Ready ∷ rest → is_last v.master.chain from ≡ true
    → Commits (record (drained v (parties.Server from) parties.Master rest) { master = record v.master { ready = true } }) c
ready_commits v c from rest h at last = record {
  acting = h.acting;
  silent = λ j unused. left_row v from rest j ∙ if_false (eqb j from) rest (v.channel (parties.Server j) parties.Master) (other j unused (eqb j from) refl) ∙ h.silent j unused;
  orders_named = h.orders_named;
  reports_named = by_left v from Ready rest (λ j m. Names v.master.used m) at h.reports_named;
  pairs = h.pairs;
  stages = λ j member. ap (λ n. tails (v.channel parties.Master (parties.Server j)) + (n + bit (waits (v.server j)))) (ap readies (left_row v from rest j)) ∙ idle j member (eqb j from) refl;
  alone = h.alone;
  untold = h.untold;
  heard = h.heard;
  ready = λ r. told;
  retires = h.retires;
  hands_over = λ untold. absurd (both_ways v.master.told untold told);
  young_last = h.young_last;
  young_least = h.young_least;
  young_told = h.young_told;
  young = h.young;
  old = h.old;
  old_least = h.old_least;
  old_told = h.old_told;
  joins_ready = λ joins. refl;
  unnamed_orders = h.unnamed_orders;
  unnamed_reports = λ j joins. by_left v from Ready rest (λ i m. NotOn j m) at (h.unnamed_reports j joins);
  unready = λ j joins. ap readies (left_row v from rest j) ∙ still_unready j joins (eqb j from) refl;
  reached = h.reached;
  lives = h.lives;
} where
  still_unready : (j : ℕ) → is_that v.master.joiner j ≡ true → (t : Bool) → eqb j from ≡ t → readies (cond t rest (v.channel (parties.Server j) parties.Master)) ≡ 0
  still_unready j joins false e = h.unready j joins
  still_unready j joins true e = readies_rest Ready rest (ap readies (sym at ∙ ap (λ i. v.channel (parties.Server i) parties.Master) (sym (eqb-true j from e))) ∙ h.unready j joins)

  other : (j : ℕ) → is_in v.master.used j ≡ false → (t : Bool) → eqb j from ≡ t → t ≡ false
  other j unused false e = refl
  other j unused true e = absurd (cons_nil Ready rest (sym at ∙ h.silent from (subst (λ i. is_in v.master.used i ≡ false) (eqb-true j from e) unused)))

  one : busy v from ≡ 1
  one = omega (arith, stage_one v c from h (last-in v.master.chain from last), ap readies at)

  told : v.master.told ≡ true
  told = go (is_last v.master.chain from) v.master.told refl where
    go : (a b : Bool) → v.master.told ≡ b → b ≡ true
    go a true e = refl
    go a false e = absurd (omega (arith, one, h.stages from (last-in v.master.chain from last), ap (λ x. bit (is_last v.master.chain from && (x && not v.master.ready))) e, nothing (is_last v.master.chain from))) where
      nothing : (x : Bool) → bit (x && false) ≡ 0
      nothing true = refl
      nothing false = refl

  nobody : (a b : Bool) → bit (a && (b && not true)) ≡ 0
  nobody true true = refl
  nobody true false = refl
  nobody false b = refl

  idle : (j : ℕ) → is_in v.master.chain j ≡ true → (t : Bool) → eqb j from ≡ t
      → tails (v.channel parties.Master (parties.Server j)) + (readies (cond t rest (v.channel (parties.Server j) parties.Master)) + bit (waits (v.server j))) ≡ bit (is_last v.master.chain j && (v.master.told && not true))
  idle j member true e = subst (λ i. tails (v.channel parties.Master (parties.Server i)) + (readies rest + bit (waits (v.server i))) ≡ bit (is_last v.master.chain i && (v.master.told && not true))) (sym (eqb-true j from e))
      (omega (arith, one, ap readies at, nobody (is_last v.master.chain from) v.master.told))
  idle j member false e =
      let is : is_last v.master.chain j ≡ false = elim (cases_Bool (is_last v.master.chain j)) [ inl k ↦ absurd (both_ways (eqb j from) e (eq-eqb j from (last-one v.master.chain j from k last))) | inr k ↦ k ] in
      omega (arith, h.stages j member, ap (λ b. bit (b && (v.master.told && not v.master.ready))) is, nobody (is_last v.master.chain j) v.master.told)

-- ---- a server that is fed

-- a row that tells of feeding at its end
retires_fed : (xs : List Message) (succ : Option ℕ) → Retires xs → Retires (xs ++ Feed succ ∷ [])
retires_fed xs succ h = retires_append xs (Feed succ ∷ []) h tt

-- What is said of feeding says nothing of who acts.
pub feed-commits : (v : View) (c : List Entry) (to : ℕ) (succ : Option ℕ) → Commits v c → Commits (said v v.master ((parties.Server to, Feed succ) ∷ [])) c
feed-commits v c to succ h = record {
  acting = h.acting;
  silent = h.silent;
  orders_named = λ j. each_one (Names v.master.used) j to word (row j) (h.orders_named j) (λ e. tt);
  reports_named = h.reports_named;
  pairs = λ j member. each_one (Pairs v.master.chain j) j to word (row j) (h.pairs j member) (λ e. tt);
  stages = λ j member. ap (λ n. n + (readies (v.channel (parties.Server j) parties.Master) + bit (waits (v.server j)))) (same_tails j) ∙ h.stages j member;
  alone = h.alone;
  untold = h.untold;
  heard = λ j last told none. h.heard j last told (sym (same_tails j) ∙ none);
  ready = h.ready;
  retires = λ j last. one_more j to word Retires (row j) (λ e. retires_fed (row j) succ (h.retires j last)) (λ e. h.retires j last);
  hands_over = h.hands_over;
  young_last = h.young_last;
  young_least = h.young_least;
  young_told = λ j member young. each_one (Enough (length c)) j to word (row j) (h.young_told j member young) (λ e. tt);
  young = h.young;
  old = h.old;
  old_least = h.old_least;
  old_told = λ j member full. each_one Zero j to word (row j) (h.old_told j member full) (λ e. tt);
  joins_ready = h.joins_ready;
  unnamed_orders = λ i joins j. each_one (NotOn i) j to word (row j) (h.unnamed_orders i joins j) (λ e. tt);
  unnamed_reports = h.unnamed_reports;
  unready = h.unready;
  reached = h.reached;
  lives = h.lives;
} where
  word : Message
  word = Feed succ

  row : ℕ → List Message
  row j = v.channel parties.Master (parties.Server j)

  same_tails : (j : ℕ) → tails (v.channel parties.Master (parties.Server j) ++ told_to j ((parties.Server to, Feed succ) ∷ [])) ≡ tails (v.channel parties.Master (parties.Server j))
  same_tails j = one_more j to (Feed succ) (λ us. tails us ≡ tails (v.channel parties.Master (parties.Server j))) (v.channel parties.Master (parties.Server j)) (λ e. omega (arith, tails-append (v.channel parties.Master (parties.Server j)) (Feed succ ∷ []))) (λ e. refl)

-- ---- a server that becomes a member

harmless_pairs : (chain : List ℕ) (p : ℕ) (ms : List Message) → Each Harmless ms → Each (Pairs chain p) ms
harmless_pairs chain p [] h = tt
harmless_pairs chain p (m ∷ ms) h = (one m h.0, harmless_pairs chain p ms h.1) where
  one : (y : Message) → Harmless y → Pairs chain p y
  one (Adopt s n) g = absurd g
  one y g = tt

harmless_retires : (ms : List Message) → Each Harmless ms → Retires ms
harmless_retires [] h = tt
harmless_retires (m ∷ ms) h = step m h.0 (harmless_retires ms h.1) where
  step : (y : Message) → Harmless y → Retires ms → Retires (y ∷ ms)
  step (Adopt s n) g r = absurd g
  step y g r = r

harmless_enough : (n : ℕ) (ms : List Message) → Each Harmless ms → Each (Enough n) ms
harmless_enough n [] h = tt
harmless_enough n (m ∷ ms) h = (one m h.0, harmless_enough n ms h.1) where
  one : (y : Message) → Harmless y → Enough n y
  one (BeTail least) g = absurd g
  one (Adopt s i) g = absurd g
  one y g = tt

-- The server that joins is put at the end of the chain, and isn't told yet.
grow_commits : (v : View) (c : List Entry) (id : ℕ) → Prefixes v → Commits v c → is_that v.master.joiner id ≡ true
    → Commits (record v { master = record v.master { chain = v.master.chain ++ id ∷ []; told = false; ready = false; joiner = None } }) c
grow_commits v c id g h joins = record {
  acting = h.acting;
  silent = h.silent;
  orders_named = h.orders_named;
  reports_named = h.reports_named;
  pairs = λ j member. elim (in_more chain id j member) [
    | inl was ↦ pairs_more j (row j) (h.pairs j was) (h.unnamed_orders id joins j)
    | inr is ↦ harmless_pairs (chain ++ id ∷ []) j (row j) (by j is).told
  ];
  stages = λ j member. stages j member;
  alone = λ j member some away. elim (in_more chain id j member) [
    | inl was ↦ (refl, λ z is. subst (λ i. stands_before j i (chain ++ id ∷ []) ≡ true) (last-one (chain ++ id ∷ []) id z (last-end chain id) is) (before-end j id chain (was_last j was some)))
    | inr is ↦ absurd (both_ways (is_last (chain ++ id ∷ []) j) away (subst (λ i. is_last (chain ++ id ∷ []) i ≡ true) (eqb-true id j is) (last-end chain id)))
  ];
  untold = λ j is told. (by j (new_last j is)).at_least;
  heard = λ j is told. absurd (false≢true told);
  ready = λ r. absurd (false≢true r);
  retires = λ j is. harmless_retires (row j) (by j (new_last j is)).told;
  hands_over = λ told x is i. hands_nobody x (eqb-true id x (new_last x is)) (v.channel (parties.Server i) parties.Master) (h.unnamed_reports id joins i);
  young_last = λ j member young. elim (in_more chain id j member) [
    | inl was ↦ absurd (both_ways (v.server j).full young (grown j was))
    | inr is ↦ subst (λ i. is_last (chain ++ id ∷ []) i ≡ true) (eqb-true id j is) (last-end chain id)
  ];
  young_least = λ j least member young is. elim (in_more chain id j member) [
    | inl was ↦ absurd (both_ways (v.server j).full young (grown j was))
    | inr same ↦ absurd (some_none least (sym is ∙ (by j same).at_least))
  ];
  young_told = λ j member young. elim (in_more chain id j member) [
    | inl was ↦ absurd (both_ways (v.server j).full young (grown j was))
    | inr same ↦ harmless_enough (length c) (row j) (by j same).told
  ];
  young = λ told j is. (by j (new_last j is)).full;
  old = λ j member full. h.old j (was_member j member full) full;
  old_least = λ j least member full. h.old_least j least (was_member j member full) full;
  old_told = λ j member full. h.old_told j (was_member j member full) full;
  joins_ready = λ none. absurd (false≢true none);
  unnamed_orders = λ j none. absurd (false≢true none);
  unnamed_reports = λ j none. absurd (false≢true none);
  unready = λ j none. absurd (false≢true none);
  reached = h.reached;
  lives = h.lives;
} where
  chain : List ℕ
  chain = v.master.chain

  row : ℕ → List Message
  row j = v.channel parties.Master (parties.Server j)

  ready : v.master.ready ≡ true
  ready = h.joins_ready (ap (λ o. is_some o) (that_some v.master.joiner id joins))

  -- the new one is an outsider until now
  by : (j : ℕ) → eqb id j ≡ true → Outsider (v.server j) (v.channel parties.Master (parties.Server j))
  by j same = subst (λ i. Outsider (v.server i) (v.channel parties.Master (parties.Server i))) (eqb-true id j same) (g.aside id joins)

  new_last : (j : ℕ) → is_last (v.master.chain ++ id ∷ []) j ≡ true → eqb id j ≡ true
  new_last j is = eq-eqb id j (last-one (v.master.chain ++ id ∷ []) id j (last-end v.master.chain id) is)

  pairs_more : (j : ℕ) (ms : List Message) → Each (Pairs v.master.chain j) ms → Each (NotOn id) ms → Each (Pairs (v.master.chain ++ id ∷ []) j) ms
  pairs_more j [] k n = tt
  pairs_more j (m ∷ ms) k n = (one m k.0 n.0, pairs_more j ms k.1 n.1) where
    one : (y : Message) → Pairs v.master.chain j y → NotOn id y → Pairs (v.master.chain ++ id ∷ []) j y
    one (Adopt s i) p other = λ there. elim (in_more v.master.chain id s there) [
      | inl was ↦ before-more j s id v.master.chain (p was)
      | inr same ↦ absurd (both_ways (eqb s id) other (eq-eqb s id (sym (eqb-true id s same))))
    ]
    one y p other = tt

  idle : (j : ℕ) → is_in v.master.chain j ≡ true → busy v j ≡ 0
  idle j member = ready-idle v c j h ready member

  grown : (j : ℕ) → is_in v.master.chain j ≡ true → (v.server j).full ≡ true
  grown j member = elim (cases_Bool (v.server j).full) [ inl full ↦ full | inr young ↦ absurd (both_ways (v.server j).full young (h.acting j (ready-acts v c j h ready (h.young_last j member young)))) ]

  -- the only one that may be a tail is the old last one
  was_last : (j : ℕ) → is_in v.master.chain j ≡ true → is_some (v.server j).at_least ≡ true → is_last v.master.chain j ≡ true
  was_last j member some = elim (cases_Bool (is_last v.master.chain j)) [
    | inl is ↦ is
    | inr not_last ↦ absurd (both_ways v.master.told (h.alone j member some not_last).0 (h.ready ready))
  ]

  was_member : (j : ℕ) → is_in (v.master.chain ++ id ∷ []) j ≡ true → (v.server j).full ≡ true → is_in v.master.chain j ≡ true
  was_member j member full = elim (in_more v.master.chain id j member) [
    | inl was ↦ was
    | inr same ↦ absurd (both_ways (v.server j).full (by j same).full full)
  ]

  hands_nobody : (x : ℕ) → id ≡ x → (ms : List Message) → Each (NotOn id) ms → Each (HandsOver (length c) (Free (record v { master = record v.master { chain = v.master.chain ++ id ∷ []; told = false; ready = false; joiner = None } })) x) ms
  hands_nobody x is [] k = tt
  hands_nobody x is (m ∷ ms) k = (one m k.0, hands_nobody x is ms k.1) where
    one : (y : Message) → NotOn id y → HandsOver (length c) (Free (record v { master = record v.master { chain = v.master.chain ++ id ∷ []; told = false; ready = false; joiner = None } })) x y
    one (Adopted s n) other = λ e. absurd (both_ways (eqb s id) other (eq-eqb s id (eqb-true s x e ∙ sym is)))
    one y other = tt

  silent_now : (a : Bool) → bit (a && (false && not false)) ≡ 0
  silent_now true = refl
  silent_now false = refl

  new_busy : (j : ℕ) → eqb id j ≡ true → busy v j ≡ 0
  new_busy j same = omega (
    arith,
    harmless_tails (row j) (by j same).told,
    subst (λ i. readies (v.channel (parties.Server i) parties.Master) ≡ 0) (eqb-true id j same) (h.unready id joins),
    ap (λ o. bit (is_some o && not (acts (v.server j)))) (by j same).at_least,
  )

  stages : (j : ℕ) → is_in (v.master.chain ++ id ∷ []) j ≡ true → busy v j ≡ bit (is_last (v.master.chain ++ id ∷ []) j && (false && not false))
  stages j member = elim (in_more v.master.chain id j member) [
    | inl was ↦ idle j was ∙ sym (silent_now (is_last (v.master.chain ++ id ∷ []) j))
    | inr same ↦ new_busy j same ∙ sym (silent_now (is_last (v.master.chain ++ id ∷ []) j))
  ]

-- It is put there, and the old last one is told.
caught_commits : (v : View) (c : List Entry) (p from count : ℕ) → Prefixes v → Commits v c → is_that v.master.joiner from ≡ true → is_last v.master.chain p ≡ true → Commits (said v (admitted p from count v.master).master (admitted p from count v.master).said) c
caught_commits v c p from count g h joins last = adopt_commits w c p from count grown (grow_commits v c from g h joins) (before-end p from v.master.chain last) where
  w : View
  w = record v { master = (admitted p from count v.master).master }

  grown : Prefixes (record v { master = (admitted p from count v.master).master })
  grown = subst Prefixes (said_nothing v (admitted p from count v.master).master) (said-keeps v (admitted p from count v.master).master [] g
      (still_said v (admitted p from count v.master).master g (sym (ap (λ o. extended_of v.master.chain o) (that_some v.master.joiner from joins))) refl (λ j none. absurd (false≢true none))))

-- ---- all that is heard

-- Whatever the master hears, its order keeps all sentences.
pub heard-commits : (v : View) (c : List Entry) (from : ℕ) (word : Message) (rest : List Message) → Prefixes (drained v (parties.Server from) parties.Master rest) → Commits v c → v.channel (parties.Server from) parties.Master ≡ word ∷ rest
    → Commits (said (drained v (parties.Server from) parties.Master rest) (hears from word v.master).master (hears from word v.master).said) c
unfolding hears
heard-commits v c from (Have p count) rest g h at = go (stands_before p from v.master.chain) (joins_behind p from v.master) refl where
  d : View
  d = drained v (parties.Server from) parties.Master rest

  quiet : Commits (drained v (parties.Server from) parties.Master rest) c
  quiet = drained_commits v c from (Have p count) rest h at (λ member. refl)

  go : (t u : Bool) → stands_before p from v.master.chain ≡ t
      → Commits (said d (cond t (record { master = v.master; said = (parties.Server p, Adopt from count) ∷ [] }) (cond u (record { master = v.master; said = (parties.Server p, Feed (Some from)) ∷ [] }) (no_order v.master))).master
      (cond t (record { master = v.master; said = (parties.Server p, Adopt from count) ∷ [] }) (cond u (record { master = v.master; said = (parties.Server p, Feed (Some from)) ∷ [] }) (no_order v.master))).said) c
  go true u e = adopt_commits d c p from count g quiet e
  go false true e = feed-commits d c p (Some from) quiet
  go false false e = subst (λ w. Commits w c) (sym (said_nothing d v.master)) quiet
heard-commits v c from (Caught p count) rest g h at = go (joins_behind p from v.master) refl where
  d : View
  d = drained v (parties.Server from) parties.Master rest

  quiet : Commits (drained v (parties.Server from) parties.Master rest) c
  quiet = drained_commits v c from (Caught p count) rest h at (λ member. refl)

  go : (t : Bool) → joins_behind p from v.master ≡ t → Commits (said d (cond t (admitted p from count v.master) (no_order v.master)).master (cond t (admitted p from count v.master) (no_order v.master)).said) c
  go true e = let both = and_parts (is_that v.master.joiner from) (is_last v.master.chain p) e in caught_commits d c p from count g quiet both.0 both.1
  go false e = subst (λ w. Commits w c) (sym (said_nothing d v.master)) quiet
heard-commits v c from (Adopted s count) rest g h at = go (is_last v.master.chain s && not v.master.told) refl where
  d : View
  d = drained v (parties.Server from) parties.Master rest

  quiet : Commits (drained v (parties.Server from) parties.Master rest) c
  quiet = drained_commits v c from (Adopted s count) rest h at (λ member. refl)

  not_told : (b : Bool) → not b ≡ true → b ≡ false
  not_told true e = absurd (false≢true e)
  not_told false e = refl

  go : (t : Bool) → (is_last v.master.chain s && not v.master.told) ≡ t → Commits (said d (cond t (record { master = record v.master { told = true }; said = (parties.Server s, BeTail count) ∷ [] }) (no_order v.master)).master (cond t (record { master = record v.master { told = true }; said = (parties.Server s, BeTail count) ∷ [] }) (no_order v.master)).said) c
  go true e =
      let both = and_parts (is_last v.master.chain s) (not v.master.told) e in
      let untold = not_told v.master.told both.1 in
      let over = (subst (λ ms. Each (HandsOver (length c) (Free v) s) ms) at (h.hands_over untold s both.0 from)).0 (eq-eqb s s refl) in
      told_commits d c s count g quiet both.0 untold over.0 over.1
  go false e = subst (λ w. Commits w c) (sym (said_nothing d v.master)) quiet
heard-commits v c from Ready rest g h at = go (is_last v.master.chain from) refl where
  d : View
  d = drained v (parties.Server from) parties.Master rest

  strange : is_last v.master.chain from ≡ false → is_in v.master.chain from ≡ true → ⊥
  strange other member = omega (arith, h.stages from member, ap (λ b. bit (b && (v.master.told && not v.master.ready))) other, ap readies at)

  go : (t : Bool) → is_last v.master.chain from ≡ t → Commits (said d (cond t (record { master = record v.master { ready = true }; said = [] }) (no_order v.master)).master (cond t (record { master = record v.master { ready = true }; said = [] }) (no_order v.master)).said) c
  go true e = subst (λ w. Commits w c) (sym (said_nothing d (record v.master { ready = true }))) (ready_commits v c from rest h at e)
  go false e = subst (λ w. Commits w c) (sym (said_nothing d v.master)) (drained_commits v c from Ready rest h at (λ member. absurd (strange e member)))
heard-commits v c from word rest g h at = subst (λ w. Commits w c) (sym (said_nothing (drained v (parties.Server from) parties.Master rest) v.master)) (drained_commits v c from word rest h at (λ member. refl))
