-- A turn of a server keeps the sentences on who may act and what is committed.
use Rattle.std.proofs.Common.{◌≡◌, ℕ, ◌+◌, ◌≤◌, ◌∙◌, ap, sym, List, [], ◌∷◌, ◌++◌, length, ◌&&◌, ◌⊎◌, not, Some, None, is_some, Bool, true, false, cond, eqb, arith, subst, refl, inl, inr}
use Rattle.std.proofs.lemmas.Bool.{eqb-true, eq-eqb, false≢true, both_ways, cases_Bool, leb-true}
use Rattle.cq_base.specs.declared.ask.Entry.{Entry}
use Rattle.cq_base.specs.declared.party.Party.{Party}
use Rattle.cq_base.specs.declared.party.Party.TheVariants as parties
use Rattle.cq_base.specs.Relations.{IsPrefix}
use Rattle.cq_chain.specs.Masters.{is_in, is_last, stands_before}
use Rattle.cq_chain.specs.Messages.{Message, Adopt, BeTail, Adopted, Ready}
use Rattle.cq_chain.specs.Parties.{same, addressed}
use Rattle.cq_chain.specs.Servers.{Server, acts, reaches, is_that}
use Rattle.cq_events.specs.Runs.{longer, acting_history}
use Rattle.cq_events.specs.Worlds.{set_at}
use Rattle.cq_world.proofs.Chains.{Before, last-in, last-one, last-some, before-either, before-not-last, before-only, chain-order, chain-apart}
use Rattle.cq_world.proofs.Commits.{Commits, tails, readies, Names, Pairs, Retires, HandsOver, Enough, Zero, NotOn, bit, waits, busy, Free, acts-least, acts-none, some-least, longer-prefix, longer-still, longer-length}
use Rattle.cq_world.proofs.Eaches.{Each, each-append, each-follows, some_none, prefix-refl, prefix-trans}
use Rattle.cq_world.proofs.Prefixes.Orders.{eqb_turned}
use Rattle.cq_world.proofs.Prefixes.{Prefixes, Turn, turn-keeps, master_after, row_after, rest_of, each-end}
use Rattle.cq_world.proofs.Views.{View, turn}
use Rattle.cq_world.proofs.Prefixes.Steps.{Placed, lives-placed, full-member, aside-acts, shorter-prefix}

-- What a turn of a live server has to show, beside what histories ask for. All of it is about that server.
pub record Acting (v : View) (c : List Entry) (from : Party) (k : ℕ) (rest : List Message) (s : Server) (out : List (Party × Message)) : Type 0 where
  pub acting : acts s ≡ true → s.full ≡ true
  pub fulls : s.full ≡ true → ((v.server k).full ≡ true) ⊎ (acts s ≡ true)
  pub stays_full : (v.server k).full ≡ true → s.full ≡ true
  pub named : Each (Names v.master.used) (addressed parties.Master out)
  pub stages : tails (master_after v from k rest) + (readies (addressed parties.Master out) + bit (waits s)) ≡ tails (v.channel parties.Master (parties.Server k)) + bit (waits (v.server k))
  pub alone : is_some s.at_least ≡ true → is_last v.master.chain k ≡ false → (v.master.told ≡ false) × ((z : ℕ) → is_last v.master.chain z ≡ true → stands_before k z v.master.chain ≡ true)
  pub untold : is_last v.master.chain k ≡ true → v.master.told ≡ false → s.at_least ≡ None
  pub heard : is_last v.master.chain k ≡ true → v.master.told ≡ true → tails (master_after v from k rest) ≡ 0 → is_some s.at_least ≡ true
  pub free : v.master.told ≡ false → (v.server k).at_least ≡ None → s.at_least ≡ None
  pub hands_over : v.master.told ≡ false → (x : ℕ) → is_last v.master.chain x ≡ true → Each (HandsOver (length c) (Free (turn v from k rest s out)) x) (addressed parties.Master out)
  pub young_least : (least : ℕ) → (v.server k).full ≡ false → s.at_least ≡ Some least → length c ≤ least
  pub old_least : (least : ℕ) → (v.server k).full ≡ true → s.at_least ≡ Some least → least ≤ length s.entries
  pub tells : (v.server k).full ≡ false → acts s ≡ true → 1 ≤ readies (addressed parties.Master out)
  pub others : (j : ℕ) → is_that v.master.joiner j ≡ true → Each (NotOn j) (addressed parties.Master out)
  pub quiet : is_that v.master.joiner k ≡ true → readies (addressed parties.Master out) ≡ 0
  pub lives : (id : ℕ) × (is_in v.master.used id ≡ true) × ((set_at v.server k s id).full ≡ true) × ((set_at v.server k s id).down ≡ false)

-- ---- rows

-- one that isn't another one
pub if_true : {A : Type 0} (b : Bool) (a d : A) → b ≡ true → cond b a d ≡ a
if_true true a d e = refl
if_true false a d e = absurd (false≢true e)

pub if_false : {A : Type 0} (b : Bool) (a d : A) → b ≡ false → cond b a d ≡ d
if_false true a d e = absurd (false≢true (sym e))
if_false false a d e = refl

-- what the server has for the master after its turn, and what others have
pub report_row : (v : View) (from : Party) (k : ℕ) (rest : List Message) (s : Server) (out : List (Party × Message)) (j : ℕ)
    → (turn v from k rest s out).channel (parties.Server j) parties.Master ≡ cond (eqb j k) (v.channel (parties.Server j) parties.Master ++ addressed parties.Master out) (v.channel (parties.Server j) parties.Master)
report_row v from k rest s out j = ap (λ ms. cond (eqb j k) (ms ++ addressed parties.Master out) ms) (if_false (same (parties.Server j) from && false) rest (v.channel (parties.Server j) parties.Master) (and_none (same (parties.Server j) from))) where
  and_none : (b : Bool) → (b && false) ≡ false
  and_none true = refl
  and_none false = refl

pub tails-append : (xs ys : List Message) → tails (xs ++ ys) ≡ tails xs + tails ys
tails-append [] ys = omega arith
tails-append (BeTail least ∷ xs) ys = omega (arith, tails-append xs ys)
tails-append (m ∷ xs) ys = skip m xs ys (tails-append xs ys) where
  skip : (n : Message) (us ws : List Message) → tails (us ++ ws) ≡ tails us + tails ws → tails (n ∷ (us ++ ws)) ≡ tails (n ∷ us) + tails ws
  skip (BeTail least) us ws h = omega (arith, h)
  skip n us ws h = h

pub readies-append : (xs ys : List Message) → readies (xs ++ ys) ≡ readies xs + readies ys
readies-append [] ys = omega arith
readies-append (Ready ∷ xs) ys = omega (arith, readies-append xs ys)
readies-append (m ∷ xs) ys = skip m xs ys (readies-append xs ys) where
  skip : (n : Message) (us ws : List Message) → readies (us ++ ws) ≡ readies us + readies ws → readies (n ∷ (us ++ ws)) ≡ readies (n ∷ us) + readies ws
  skip Ready us ws h = omega (arith, h)
  skip n us ws h = h

-- of the end of a row
pub retires-end : (xs ys : List Message) → Retires (xs ++ ys) → Retires ys
retires-end [] ys h = h
retires-end (m ∷ xs) ys h = retires-end xs ys (skip m (xs ++ ys) h) where
  skip : (n : Message) (us : List Message) → Retires (n ∷ us) → Retires us
  skip (Adopt s n) us g = g.1
  skip n us g = g

-- ---- after a turn

-- All that is known of a turn.
record Turning (v : View) (c : List Entry) (from : Party) (k : ℕ) (rest : List Message) (s : Server) (out : List (Party × Message)) : Type 0 where
  prefixes : Prefixes v
  commits : Commits v c
  moves : Turn v from k rest s out
  acts_so : Acting v c from k rest s out

-- what is committed after it
abbrev after_it : List Entry → Server → List Entry
after_it c s = longer c (acting_history s)

placed_of : (v : View) (c : List Entry) (from : Party) (k : ℕ) (rest : List Message) (s : Server) (out : List (Party × Message)) → Turning v c from k rest s out → Placed v k
placed_of v c from k rest s out t = lives-placed v k t.prefixes t.moves.known t.moves.lives

-- who acts after it is a member
acts_member : (v : View) (c : List Entry) (from : Party) (k : ℕ) (rest : List Message) (s : Server) (out : List (Party × Message)) → Turning v c from k rest s out → acts s ≡ true → is_in v.master.chain k ≡ true
acts_member v c from k rest s out t does = elim (placed_of v c from k rest s out t) [
  | inl member ↦ member
  | inr b ↦ absurd (both_ways (acts s) (aside-acts s (t.moves.aside b.1).at_least) does)
]

-- the history that counts is the server's own, or none
counts_none : (s : Server) → acts s ≡ false → acting_history s ≡ []
counts_none s h = ap (λ b. cond (b && not s.down) s.entries []) h

-- where it doesn't act, nothing more is committed
same_committed : (c : List Entry) (s : Server) → acts s ≡ false → after_it c s ≡ c
same_committed c s h = ap (λ us. longer c us) (counts_none s h) ∙ longer-still c [] (omega arith)

-- a property of the server, or of another one
pub by_server : (v : View) (k : ℕ) (s : Server) (P : ℕ → Server → Type 0) → P k s → ((j : ℕ) → eqb j k ≡ false → P j (v.server j)) → (j : ℕ) → P j (set_at v.server k s j)
by_server v k s P own others j = go (eqb j k) refl where
  go : (t : Bool) → eqb j k ≡ t → P j (cond t s (v.server j))
  go true e = subst (λ i. P i s) (sym (eqb-true j k e)) own
  go false e = others j e

-- a property of a server and of what the master has for it
pub by_told : (v : View) (from : Party) (k : ℕ) (rest : List Message) (s : Server) (out : List (Party × Message)) (P : ℕ → Server → List Message → Type 0) → P k s (master_after v from k rest)
    → ((j : ℕ) → eqb j k ≡ false → P j (v.server j) (v.channel parties.Master (parties.Server j))) → (j : ℕ) → P j (set_at v.server k s j) ((turn v from k rest s out).channel parties.Master (parties.Server j))
by_told v from k rest s out P own others j = go (eqb j k) refl where
  go : (t : Bool) → eqb j k ≡ t → P j (cond t s (v.server j)) ((turn v from k rest s out).channel parties.Master (parties.Server j))
  go true e = subst (λ ms. P j s ms) (sym (row_after v from k rest s out j true e)) (subst (λ i. P i s (master_after v from k rest)) (sym (eqb-true j k e)) own)
  go false e = subst (λ ms. P j (v.server j) ms) (sym (row_after v from k rest s out j false e)) (others j e)

-- a property of what a server has for the master
pub by_report : (v : View) (from : Party) (k : ℕ) (rest : List Message) (s : Server) (out : List (Party × Message)) (P : ℕ → List Message → Type 0) → ((j : ℕ) → P j (v.channel (parties.Server j) parties.Master))
    → (P k (v.channel (parties.Server k) parties.Master) → P k (v.channel (parties.Server k) parties.Master ++ addressed parties.Master out)) → (j : ℕ) → P j ((turn v from k rest s out).channel (parties.Server j) parties.Master)
by_report v from k rest s out P all more j = subst (λ ms. P j ms) (sym (report_row v from k rest s out j)) (go (eqb j k) refl) where
  go : (t : Bool) → eqb j k ≡ t → P j (cond t (v.channel (parties.Server j) parties.Master ++ addressed parties.Master out) (v.channel (parties.Server j) parties.Master))
  go true e = subst (λ i. P i (v.channel (parties.Server i) parties.Master ++ addressed parties.Master out)) (sym (eqb-true j k e)) (more (all k))
  go false e = all j

-- ---- what follows of the server that made the turn

-- it is the last if it was young
was_young : (v : View) (c : List Entry) (from : Party) (k : ℕ) (rest : List Message) (s : Server) (out : List (Party × Message)) → Turning v c from k rest s out → s.full ≡ false → (v.server k).full ≡ false
was_young v c from k rest s out t young = elim (cases_Bool (v.server k).full) [ inl full ↦ absurd (both_ways s.full young (t.acts_so.stays_full full)) | inr young ↦ young ]

-- who isn't full doesn't act
not_acting : (s : Server) → (acts s ≡ true → s.full ≡ true) → s.full ≡ false → acts s ≡ false
not_acting s h young = elim (cases_Bool (acts s)) [ inl does ↦ absurd (both_ways s.full young (h does)) | inr not ↦ not ]

-- its stage counts
stage_own : (v : View) (c : List Entry) (from : Party) (k : ℕ) (rest : List Message) (s : Server) (out : List (Party × Message)) → Turning v c from k rest s out
    → tails (master_after v from k rest) + (readies (v.channel (parties.Server k) parties.Master ++ addressed parties.Master out) + bit (waits s)) ≡ busy v k
stage_own v c from k rest s out t = omega (arith, t.acts_so.stages, readies-append (v.channel (parties.Server k) parties.Master) (addressed parties.Master out))

-- a stage is one at most
pub stage_one : (v : View) (c : List Entry) (k : ℕ) → Commits v c → is_in v.master.chain k ≡ true → busy v k ≤ 1
stage_one v c k h member = subst (λ n. n ≤ 1) (sym (h.stages k member)) (go (is_last v.master.chain k && (v.master.told && not v.master.ready))) where
  go : (b : Bool) → bit b ≤ 1
  go true = omega arith
  go false = omega arith

-- where the master knows that the last member acts, no member is on its way to act
pub ready-idle : (v : View) (c : List Entry) (k : ℕ) → Commits v c → v.master.ready ≡ true → is_in v.master.chain k ≡ true → busy v k ≡ 0
ready-idle v c k h ready member = h.stages k member ∙ ap (λ b. bit (is_last v.master.chain k && (v.master.told && not b))) ready ∙ go (is_last v.master.chain k) v.master.told where
  go : (x y : Bool) → bit (x && (y && false)) ≡ 0
  go true true = refl
  go true false = refl
  go false y = refl

-- and so the last one acts
pub ready-acts : (v : View) (c : List Entry) (z : ℕ) → Commits v c → v.master.ready ≡ true → is_last v.master.chain z ≡ true → acts (v.server z) ≡ true
ready-acts v c z h ready last =
    let idle = ready-idle v c z h ready (last-in v.master.chain z last) in
    let some = h.heard z last (h.ready ready) (omega (arith, idle)) in
    go (acts (v.server z)) (is_some (v.server z).at_least) refl some (omega (arith, idle)) where
      go : (a s : Bool) → acts (v.server z) ≡ a → s ≡ true → bit (s && not (acts (v.server z))) ≡ 0 → a ≡ true
      go true s e f n = refl
      go false true e f n = absurd (omega (arith, n, ap (λ b. bit (not b)) e))
      go false false e f n = absurd (false≢true f)

-- the number that it needs, where it acts
pub reached_so : (s : Server) (n : ℕ) → s.at_least ≡ Some n → acts s ≡ true → n ≤ length s.entries
reached_so s n is so = leb-true n (length s.entries) (sym (ap (λ o. reaches (length s.entries) o) is) ∙ so)

-- it has all that is committed when it begins to act
begins_with_all : (v : View) (c : List Entry) (from : Party) (k : ℕ) (rest : List Message) (s : Server) (out : List (Party × Message)) → Turning v c from k rest s out → (v.server k).full ≡ false → acts s ≡ true → IsPrefix c s.entries
begins_with_all v c from k rest s out t young does =
    let q = t.commits.lives in
    let member = acts_member v c from k rest s out t does in
    let q_member = full-member v q.0 (lives-placed v q.0 t.prefixes q.1 q.3) q.2 in
    let other : eqb k q.0 ≡ false = elim (cases_Bool (eqb k q.0)) [ inl e ↦ absurd (both_ways (v.server k).full young (subst (λ i. (v.server i).full ≡ true) (sym (eqb-true k q.0 e)) q.2)) | inr others ↦ others ] in
    let before : Before q.0 k v.master.chain = elim (before-either v.master.chain k q.0 member q_member other) [
      | inl first ↦ absurd (both_ways (is_last v.master.chain k) (before-not-last v.master.chain k q.0 (chain-apart v t.prefixes) first) (t.commits.young_last k member young))
      | inr second ↦ second
    ] in
    let order = chain-order (turn v from k rest s out) q.0 k (turn-keeps v from k rest s out t.prefixes t.moves) before in
    let own = subst (λ x. IsPrefix x.entries (set_at v.server k s q.0).entries) (if_true (eqb k k) s (v.server k) (eq-eqb k k refl)) order in
    let theirs = subst (λ x. IsPrefix s.entries x.entries) (if_false (eqb q.0 k) s (v.server q.0) (eqb_turned k q.0 other)) own in
    let least = some-least s.at_least (acts-least s does) in
    shorter-prefix c s.entries (v.server q.0).entries (t.commits.old q.0 q_member q.2) theirs (omega (arith, t.acts_so.young_least least.0 young least.1, reached_so s least.0 least.1 does))

-- all that was committed is in its history, if it is full
own_prefix : (v : View) (c : List Entry) (from : Party) (k : ℕ) (rest : List Message) (s : Server) (out : List (Party × Message)) → Turning v c from k rest s out → s.full ≡ true → IsPrefix c s.entries
own_prefix v c from k rest s out t full = elim (cases_Bool (v.server k).full) [
  | inl was ↦ prefix-trans c (v.server k).entries s.entries (t.commits.old k (full-member v k (placed_of v c from k rest s out t) was) was) t.moves.grows
  | inr young ↦ elim (t.acts_so.fulls full) [ inl was ↦ absurd (both_ways (v.server k).full young was) | inr does ↦ begins_with_all v c from k rest s out t young does ]
]

-- what is committed after it: as before, or its own history
committed_cases : (v : View) (c : List Entry) (from : Party) (k : ℕ) (rest : List Message) (s : Server) (out : List (Party × Message)) → Turning v c from k rest s out → (after_it c s ≡ c) ⊎ ((after_it c s ≡ s.entries) × (acts s ≡ true))
committed_cases v c from k rest s out t = go (acts s) s.down refl refl where
  go : (a d : Bool) → acts s ≡ a → s.down ≡ d → (longer c (cond (a && not d) s.entries []) ≡ c) ⊎ ((longer c (cond (a && not d) s.entries []) ≡ s.entries) × (a ≡ true))
  go true true e f = inl (longer-still c [] (omega arith))
  go true false e f = inr (longer-prefix c s.entries (own_prefix v c from k rest s out t (t.acts_so.acting e)), refl)
  go false d e f = inl (longer-still c [] (omega arith))

-- another member that isn't full, where it acts: the master hasn't told it yet
young_other : (v : View) (c : List Entry) (from : Party) (k : ℕ) (rest : List Message) (s : Server) (out : List (Party × Message)) → Turning v c from k rest s out → (j : ℕ) → eqb j k ≡ false → is_in v.master.chain j ≡ true → (v.server j).full ≡ false → acts s ≡ true
    → v.master.told ≡ false
young_other v c from k rest s out t j other member young does = (t.acts_so.alone (acts-least s does) (not_last (is_last v.master.chain k) refl)).0 where
  not_last : (b : Bool) → is_last v.master.chain k ≡ b → is_last v.master.chain k ≡ false
  not_last true e = absurd (both_ways (eqb j k) other (eq-eqb j k (last-one v.master.chain j k (t.commits.young_last j member young) e)))
  not_last false e = e

-- it has no number then, and is told none
young_silent : (v : View) (c : List Entry) (j : ℕ) → Commits v c → is_in v.master.chain j ≡ true → v.master.told ≡ false → tails (v.channel parties.Master (parties.Server j)) ≡ 0
young_silent v c j h member told = omega (arith, h.stages j member, none) where
  none : bit (is_last v.master.chain j && (v.master.told && not v.master.ready)) ≡ 0
  none = go (is_last v.master.chain j) v.master.told told where
    go : (a b : Bool) → b ≡ false → bit (a && (b && not v.master.ready)) ≡ 0
    go true true e = absurd (false≢true (sym e))
    go false true e = absurd (false≢true (sym e))
    go true false e = refl
    go false false e = refl

-- rows without a word to be the tail
enough_none : (n m : ℕ) (ms : List Message) → tails ms ≡ 0 → Each (Enough n) ms → Each (Enough m) ms
enough_none n m [] none h = tt
enough_none n m (BeTail least ∷ ms) none h = absurd (omega (arith, none))
enough_none n m (x ∷ ms) none h = skip x none h (λ e g. enough_none n m ms e g) where
  skip : (y : Message) → tails (y ∷ ms) ≡ 0 → Each (Enough n) (y ∷ ms) → (tails ms ≡ 0 → Each (Enough n) ms → Each (Enough m) ms) → Each (Enough m) (y ∷ ms)
  skip (BeTail least) e g later = absurd (omega (arith, e))
  skip (Adopt i count) e g later = absurd g.0
  skip y e g later = (other y e g.0, later (rest_none y e) g.1) where
    rest_none : (z : Message) → tails (z ∷ ms) ≡ 0 → tails ms ≡ 0
    rest_none (BeTail least) f = absurd (omega (arith, f))
    rest_none z f = f

    other : (z : Message) → tails (z ∷ ms) ≡ 0 → Enough n z → Enough m z
    other (BeTail least) f i = absurd (omega (arith, f))
    other (Adopt i count) f g = absurd g
    other z f i = tt

zero_none : (ms : List Message) → tails ms ≡ 0 → Each Zero ms
zero_none [] none = tt
zero_none (BeTail least ∷ ms) none = absurd (omega (arith, none))
zero_none (x ∷ ms) none = skip x none (λ e. zero_none ms e) where
  skip : (y : Message) → tails (y ∷ ms) ≡ 0 → (tails ms ≡ 0 → Each Zero ms) → Each Zero (y ∷ ms)
  skip (BeTail least) e later = absurd (omega (arith, e))
  skip y e later = (tt, later e)

-- what a handing over says, where nobody is the tail
pub hands_follow : (count more : ℕ) (free now : Type 0) (x : ℕ) (m : Message) → (free → now × (more ≤ count)) → HandsOver count free x m → HandsOver more now x m
hands_follow count more free now x (Adopted s n) h g = λ e. let had = g e in (omega (arith, had.0, (h had.1).1), (h had.1).0)
hands_follow count more free now x m h g = hands_other m g where
  hands_other : (y : Message) → HandsOver count free x y → HandsOver more now x y
  hands_other (Adopted s n) k = λ e. let had = k e in (omega (arith, had.0, (h had.1).1), (h had.1).0)
  hands_other y k = tt

-- ---- all together

commits_keep : (v : View) (c : List Entry) (from : Party) (k : ℕ) (rest : List Message) (s : Server) (out : List (Party × Message)) → Turning v c from k rest s out → Commits (turn v from k rest s out) (after_it c s)
commits_keep v c from k rest s out t = record {
  acting = λ j. by_server v k s (λ i x. acts x ≡ true → x.full ≡ true) a.acting (λ i other. h.acting i) j;
  silent = λ j unused. report_row v from k rest s out j ∙ if_false (eqb j k) (v.channel (parties.Server j) parties.Master ++ addressed parties.Master out) (v.channel (parties.Server j) parties.Master) (unknown j unused) ∙ h.silent j unused;
  orders_named = λ j. by_told v from k rest s out (λ i x ms. Each (Names v.master.used) ms) (end_of (Names v.master.used) (h.orders_named k)) (λ i other. h.orders_named i) j;
  reports_named = λ j. by_report v from k rest s out (λ i ms. Each (Names v.master.used) ms) h.reports_named (λ g. each-append (Names v.master.used) (v.channel (parties.Server k) parties.Master) (addressed parties.Master out) g a.named) j;
  pairs = λ j. by_told v from k rest s out (λ i x ms. is_in v.master.chain i ≡ true → Each (Pairs v.master.chain i) ms) (λ m. end_of (Pairs v.master.chain k) (h.pairs k m)) (λ i other. h.pairs i) j;
  stages = λ j. stages j;
  alone = λ j. by_server v k s (λ i x. is_in v.master.chain i ≡ true → is_some x.at_least ≡ true → is_last v.master.chain i ≡ false → (v.master.told ≡ false) × ((z : ℕ) → is_last v.master.chain z ≡ true → stands_before i z v.master.chain ≡ true)) (λ m. a.alone) (λ i other. h.alone i) j;
  untold = λ j. by_server v k s (λ i x. is_last v.master.chain i ≡ true → v.master.told ≡ false → x.at_least ≡ None) a.untold (λ i other. h.untold i) j;
  heard = λ j. by_told v from k rest s out (λ i x ms. is_last v.master.chain i ≡ true → v.master.told ≡ true → tails ms ≡ 0 → is_some x.at_least ≡ true) a.heard (λ i other. h.heard i) j;
  ready = h.ready;
  retires = λ j. by_told v from k rest s out (λ i x ms. is_last v.master.chain i ≡ true → Retires ms) (λ l. retires-end left.0 (master_after v from k rest) (subst Retires left.1 (h.retires k l))) (λ i other. h.retires i) j;
  hands_over = λ told x last. by_report v from k rest s out (λ i ms. Each (HandsOver (length (after_it c s)) (Free w) x) ms)
      (λ i. each-follows (HandsOver (length c) (Free v) x) (HandsOver (length (after_it c s)) (Free w) x) (v.channel (parties.Server i) parties.Master) (λ m. hands_follow (length c) (length (after_it c s)) (Free v) (Free w) x m (λ free. let now = still_free told free in (now, within now))) (h.hands_over told x last i))
      (λ g. each-append (HandsOver (length (after_it c s)) (Free w) x) (v.channel (parties.Server k) parties.Master) (addressed parties.Master out) g
      (each-follows (HandsOver (length c) (Free w) x) (HandsOver (length (after_it c s)) (Free w) x) (addressed parties.Master out) (λ m. hands_follow (length c) (length (after_it c s)) (Free w) (Free w) x m (λ now. (now, within now))) (a.hands_over told x last)));
  young_last = λ j. by_server v k s (λ i x. is_in v.master.chain i ≡ true → x.full ≡ false → is_last v.master.chain i ≡ true) (λ m young. h.young_last k m (was_young v c from k rest s out t young)) (λ i other. h.young_last i) j;
  young_least = λ j least. by_server v k s (λ i x. is_in v.master.chain i ≡ true → x.full ≡ false → x.at_least ≡ Some least → length (after_it c s) ≤ least)
      (λ m young is. subst (λ us. length us ≤ least) (sym (same_committed c s (not_acting s a.acting young))) (a.young_least least (was_young v c from k rest s out t young) is))
      (λ i other m young is. elim (cases_Bool (acts s)) [
        | inl does ↦ absurd (none_some least (sym (h.untold i (h.young_last i m young) (young_other v c from k rest s out t i other m young does)) ∙ is))
        | inr not ↦ subst (λ us. length us ≤ least) (sym (same_committed c s not)) (h.young_least i least m young is)
      ]) j;
  young_told = λ j. by_told v from k rest s out (λ i x ms. is_in v.master.chain i ≡ true → x.full ≡ false → Each (Enough (length (after_it c s))) ms)
      (λ m young. subst (λ us. Each (Enough (length us)) (master_after v from k rest)) (sym (same_committed c s (not_acting s a.acting young))) (end_of (Enough (length c)) (h.young_told k m (was_young v c from k rest s out t young))))
      (λ i other m young. elim (cases_Bool (acts s)) [
        | inl does ↦ enough_none (length c) (length (after_it c s)) (v.channel parties.Master (parties.Server i)) (young_silent v c i h m (young_other v c from k rest s out t i other m young does)) (h.young_told i m young)
        | inr not ↦ subst (λ us. Each (Enough (length us)) (v.channel parties.Master (parties.Server i))) (sym (same_committed c s not)) (h.young_told i m young)
      ]) j;
  young = λ told j. by_server v k s (λ i x. is_last v.master.chain i ≡ true → x.full ≡ false) (λ last. still_young told last s.full refl) (λ i other. h.young told i) j;
  old = λ j. by_server v k s (λ i x. is_in v.master.chain i ≡ true → x.full ≡ true → IsPrefix (after_it c s) x.entries)
      (λ m full. elim (committed_cases v c from k rest s out t) [
        | inl same ↦ subst (λ us. IsPrefix us s.entries) (sym same) (own_prefix v c from k rest s out t full)
        | inr own ↦ subst (λ us. IsPrefix us s.entries) (sym own.0) (prefix-refl s.entries)
      ])
      (λ i other m full. elim (committed_cases v c from k rest s out t) [
        | inl same ↦ subst (λ us. IsPrefix us (v.server i).entries) (sym same) (h.old i m full)
        | inr own ↦ subst (λ us. IsPrefix us (v.server i).entries) (sym own.0) (others_have i other m full own.1)
      ]) j;
  old_least = λ j least. by_server v k s (λ i x. is_in v.master.chain i ≡ true → x.full ≡ true → x.at_least ≡ Some least → least ≤ length x.entries)
      (λ m full is. elim (a.fulls full) [ inl was ↦ a.old_least least was is | inr does ↦ reached_so s least is does ]) (λ i other. h.old_least i least) j;
  old_told = λ j. by_told v from k rest s out (λ i x ms. is_in v.master.chain i ≡ true → x.full ≡ true → Each Zero ms) (λ m full. old_told m full (v.server k).full refl) (λ i other. h.old_told i) j;
  joins_ready = h.joins_ready;
  unnamed_orders = λ j joins id. by_told v from k rest s out (λ i x ms. Each (NotOn j) ms) (end_of (NotOn j) (h.unnamed_orders j joins k)) (λ i other. h.unnamed_orders j joins i) id;
  unnamed_reports = λ j joins id. by_report v from k rest s out (λ i ms. Each (NotOn j) ms) (h.unnamed_reports j joins) (λ g. each-append (NotOn j) (v.channel (parties.Server k) parties.Master) (addressed parties.Master out) g (a.others j joins)) id;
  unready = λ j. by_report v from k rest s out (λ i ms. is_that v.master.joiner i ≡ true → readies ms ≡ 0) h.unready (λ g joins. omega (arith, readies-append (v.channel (parties.Server k) parties.Master) (addressed parties.Master out), g joins, a.quiet joins)) j;
  reached = λ j. by_server v k s (λ i x. x.down ≡ false → acts x ≡ true → length x.entries ≤ length (after_it c s))
      (λ up does. subst (λ us. length s.entries ≤ length (longer c us)) (sym (ap (λ b. cond (b && not s.down) s.entries []) does ∙ ap (λ b. cond (not b) s.entries []) up)) (longer-length c s.entries).1)
      (λ i other up does. omega (arith, h.reached i up does, (longer-length c (acting_history s)).0)) j;
  lives = a.lives;
} where
  h : Commits v c
  h = t.commits

  a : Acting v c from k rest s out
  a = t.acts_so

  w : View
  w = turn v from k rest s out

  left : (us : List Message) × (v.channel parties.Master (parties.Server k) ≡ us ++ master_after v from k rest)
  left = rest_of v from k t.moves.prefix rest t.moves.taken

  end_of : (P : Message → Type 0) → Each P (v.channel parties.Master (parties.Server k)) → Each P (master_after v from k rest)
  end_of P g = each-end P left.0 (master_after v from k rest) (subst (λ ms. Each P ms) left.1 g)

  none_some : (n : ℕ) → None ≡ Some n → ⊥
  none_some n e = some_none n (sym e)

  unknown : (j : ℕ) → is_in v.master.used j ≡ false → eqb j k ≡ false
  unknown j unused = elim (cases_Bool (eqb j k)) [ inl e ↦ absurd (both_ways (is_in v.master.used j) unused (subst (λ i. is_in v.master.used i ≡ true) (sym (eqb-true j k e)) t.moves.known)) | inr other ↦ other ]

  stages : (j : ℕ) → is_in v.master.chain j ≡ true → busy (turn v from k rest s out) j ≡ bit (is_last v.master.chain j && (v.master.told && not v.master.ready))
  stages j m = go (eqb j k) refl where
    go : (b : Bool) → eqb j k ≡ b → busy (turn v from k rest s out) j ≡ bit (is_last v.master.chain j && (v.master.told && not v.master.ready))
    go true e = ap (λ n. n + (readies ((turn v from k rest s out).channel (parties.Server j) parties.Master) + bit (waits (set_at v.server k s j)))) (ap tails (row_after v from k rest s out j true e))
        ∙ ap (λ n. tails (master_after v from k rest) + (n + bit (waits (set_at v.server k s j)))) (ap readies (report_row v from k rest s out j ∙ if_true (eqb j k) (v.channel (parties.Server j) parties.Master ++ addressed parties.Master out) (v.channel (parties.Server j) parties.Master) e ∙ ap (λ i. v.channel (parties.Server i) parties.Master ++ addressed parties.Master out) (eqb-true j k e)))
        ∙ ap (λ x. tails (master_after v from k rest) + (readies (v.channel (parties.Server k) parties.Master ++ addressed parties.Master out) + bit (waits x))) (if_true (eqb j k) s (v.server j) e)
        ∙ stage_own v c from k rest s out t ∙ ap (λ i. busy v i) (sym (eqb-true j k e)) ∙ t.commits.stages j m
    go false e = ap (λ n. n + (readies ((turn v from k rest s out).channel (parties.Server j) parties.Master) + bit (waits (set_at v.server k s j)))) (ap tails (row_after v from k rest s out j false e))
        ∙ ap (λ n. tails (v.channel parties.Master (parties.Server j)) + (n + bit (waits (set_at v.server k s j)))) (ap readies (report_row v from k rest s out j ∙ if_false (eqb j k) (v.channel (parties.Server j) parties.Master ++ addressed parties.Master out) (v.channel (parties.Server j) parties.Master) e))
        ∙ ap (λ x. tails (v.channel parties.Master (parties.Server j)) + (readies (v.channel (parties.Server j) parties.Master) + bit (waits x))) (if_false (eqb j k) s (v.server j) e)
        ∙ t.commits.stages j m

  still_free : v.master.told ≡ false → Free v → Free (turn v from k rest s out)
  still_free told free j m = by_server v k s (λ i x. is_in v.master.chain i ≡ true → x.at_least ≡ None) (λ own. t.acts_so.free told (free k own)) (λ i other. free i) j m

  within : Free (turn v from k rest s out) → length (after_it c s) ≤ length c
  within free = subst (λ us. length us ≤ length c) (sym (same_committed c s (acts-none s none))) (omega arith) where
    none : s.at_least ≡ None
    none = elim (placed_of v c from k rest s out t) [
      | inl member ↦ ap (λ x. x.at_least) (sym (if_true (eqb k k) s (v.server k) (eq-eqb k k refl))) ∙ free k member
      | inr b ↦ (t.moves.aside b.1).at_least
    ]

  still_young : v.master.told ≡ false → is_last v.master.chain k ≡ true → (b : Bool) → s.full ≡ b → b ≡ false
  still_young told last false e = refl
  still_young told last true e = elim (t.acts_so.fulls e) [
    | inl was ↦ absurd (both_ways (v.server k).full (t.commits.young told k last) was)
    | inr does ↦ absurd (both_ways (is_some s.at_least) (ap (λ o. is_some o) (t.acts_so.untold last told)) (acts-least s does))
  ]

  others_have : (i : ℕ) → eqb i k ≡ false → is_in v.master.chain i ≡ true → (v.server i).full ≡ true → acts s ≡ true → IsPrefix s.entries (v.server i).entries
  others_have i other m full does = elim (before-either v.master.chain i k m (acts_member v c from k rest s out t does) other) [
    | inl before ↦ subst (λ x. IsPrefix s.entries x.entries) (if_false (eqb i k) s (v.server i) other)
        (subst (λ x. IsPrefix x.entries (set_at v.server k s i).entries) (if_true (eqb k k) s (v.server k) (eq-eqb k k refl)) (chain-order (turn v from k rest s out) i k (turn-keeps v from k rest s out t.prefixes t.moves) before))
    | inr behind ↦ absurd (both_ways (v.server i).full (not_full behind) full)
  ] where
    not_full : Before k i v.master.chain → (v.server i).full ≡ false
    not_full behind = let rule = t.acts_so.alone (acts-least s does) (before-not-last v.master.chain k i (chain-apart v t.prefixes) behind) in
        go v.master.chain refl rule where
          go : (chain : List ℕ) → v.master.chain ≡ chain → (v.master.told ≡ false) × ((z : ℕ) → is_last v.master.chain z ≡ true → stands_before k z v.master.chain ≡ true) → (v.server i).full ≡ false
          go [] is rule = absurd (subst (λ us. Before k i us) is behind)
          go (b ∷ us) is rule = let z = last-some b us in
              let last = ap (λ xs. is_last xs z.0) is ∙ z.1 in
              t.commits.young rule.0 i (subst (λ j. is_last v.master.chain j ≡ true) (sym (before-only v.master.chain k i z.0 (chain-apart v t.prefixes) (rule.1 z.0 last) last behind)) last)

  old_told : is_in v.master.chain k ≡ true → s.full ≡ true → (b : Bool) → (v.server k).full ≡ b → Each Zero (master_after v from k rest)
  old_told m full true was = each-end Zero (rest_of v from k t.moves.prefix rest t.moves.taken).0 (master_after v from k rest) (subst (λ ms. Each Zero ms) (rest_of v from k t.moves.prefix rest t.moves.taken).1 (t.commits.old_told k m was))
  old_told m full false young = elim (t.acts_so.fulls full) [
    | inl was ↦ absurd (both_ways (v.server k).full young was)
    | inr does ↦ zero_none (master_after v from k rest) (omega (arith, t.acts_so.tells young does, stage_own v c from k rest s out t, stage_one v c k t.commits m, readies-append (v.channel (parties.Server k) parties.Master) (addressed parties.Master out)))
  ]

-- A turn keeps all sentences, with what is committed after it.
pub turn-commits : (v : View) (c : List Entry) (from : Party) (k : ℕ) (rest : List Message) (s : Server) (out : List (Party × Message)) → Prefixes v → Commits v c → Turn v from k rest s out → Acting v c from k rest s out → Commits (turn v from k rest s out) (longer c (acting_history s))
turn-commits v c from k rest s out h g t a = commits_keep v c from k rest s out (record { prefixes = h; commits = g; moves = t; acts_so = a })

-- What is committed only grows by a turn.
pub turn-grows : (v : View) (c : List Entry) (from : Party) (k : ℕ) (rest : List Message) (s : Server) (out : List (Party × Message)) → Prefixes v → Commits v c → Turn v from k rest s out → Acting v c from k rest s out → IsPrefix c (longer c (acting_history s))
turn-grows v c from k rest s out h g t a = let all : Turning v c from k rest s out = record { prefixes = h; commits = g; moves = t; acts_so = a } in elim (committed_cases v c from k rest s out all) [
  | inl same ↦ subst (λ us. IsPrefix c us) (sym same) (prefix-refl c)
  | inr own ↦ subst (λ us. IsPrefix c us) (sym own.0) (own_prefix v c from k rest s out all (a.acting own.1))
]

-- Where it acts after the turn, its history is what is committed.
pub turn-own : (v : View) (c : List Entry) (from : Party) (k : ℕ) (rest : List Message) (s : Server) (out : List (Party × Message)) → Prefixes v → Commits v c → Turn v from k rest s out → Acting v c from k rest s out → acts s ≡ true → s.down ≡ false → longer c (acting_history s) ≡ s.entries
turn-own v c from k rest s out h g t a does lives =
    ap (λ us. longer c us) (ap (λ b. cond (b && not s.down) s.entries []) does ∙ ap (λ b. cond (not b) s.entries []) lives)
    ∙ longer-prefix c s.entries (own_prefix v c from k rest s out (record { prefixes = h; commits = g; moves = t; acts_so = a }) (a.acting does))
