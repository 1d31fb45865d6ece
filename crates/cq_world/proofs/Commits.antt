-- Who may act, and what is committed: the sentences that carry the laws of the committed list across changes.
pub mod Turns
pub mod Steps
pub mod Orders
pub mod Changes
use Rattle.std.proofs.Common.{◌≡◌, ℕ, suc, ◌+◌, ◌≤◌, ◌∙◌, ap, sym, List, [], ◌∷◌, ◌++◌, length, ◌&&◌, not, Option, Some, None, is_some, Bool, true, false, cond, eqb, arith, subst, refl, inl, inr, nat_lt, append-nil, length-append}
use Rattle.std.proofs.lemmas.Bool.{eqb-true, eq-eqb, false≢true, both_ways, or_cases, ltb-true, ltb-false, le-ltb, cases_Bool}
use Rattle.std.specs.List.{fold}
use Rattle.cq_base.specs.declared.ask.Entry.{Entry}
use Rattle.cq_base.specs.declared.party.Party.TheVariants as parties
use Rattle.cq_base.specs.Relations.{IsPrefix}
use Rattle.cq_chain.specs.Masters.{is_in, is_last, stands_before}
use Rattle.cq_chain.specs.Messages.{Message, Adopt, BeTail, Adopted, Ready}
use Rattle.cq_chain.specs.Servers.{Server, acts, reaches, is_that}
use Rattle.cq_events.specs.Runs.{longer, acting_history, longest_at}
use Rattle.cq_events.specs.Worlds.{World, set_at}
use Rattle.cq_world.proofs.Chains.{Before, before-either, before-not-last, before-only, last-some, chain-apart}
use Rattle.cq_world.proofs.Eaches.{Each}
use Rattle.cq_world.proofs.Prefixes.{Prefixes, Harmless}
use Rattle.cq_world.proofs.Views.{View}

-- ---- words on messages

-- how many of these tell to be the tail
abbrev pub tails : List Message → ℕ
tails [] = 0
tails (BeTail least ∷ ms) = suc (tails ms)
tails (m ∷ ms) = tails ms

-- how many of these say that a server acts
abbrev pub readies : List Message → ℕ
readies [] = 0
readies (Ready ∷ ms) = suc (readies ms)
readies (m ∷ ms) = readies ms

-- a server whose successor is named has been used
abbrev pub Names : List ℕ → Message → Type 0
Names used (Adopt s n) = is_in used s ≡ true
Names used (Adopted s n) = is_in used s ≡ true
Names used m = Unit {0}

-- a member that is to be the successor stands directly behind
abbrev pub Pairs : List ℕ → ℕ → Message → Type 0
Pairs chain p (Adopt s n) = is_in chain s ≡ true → stands_before p s chain ≡ true
Pairs chain p m = Unit {0}

-- behind each word on a successor there is one to be the tail
abbrev pub Retires : List Message → Type 0
Retires [] = Unit {0}
Retires (Adopt s n ∷ ms) = (tails ms ≡ 0 → ⊥) × Retires ms
Retires (m ∷ ms) = Retires ms

-- the old tail of that server has all that is committed, and nobody acts any more
abbrev pub HandsOver : ℕ → Type 0 → ℕ → Message → Type 0
HandsOver count free x (Adopted s n) = eqb s x ≡ true → (count ≤ n) × free
HandsOver count free x m = Unit {0}

-- who is told to be the tail waits for all that is committed, and nobody follows
abbrev pub Enough : ℕ → Message → Type 0
Enough count (BeTail least) = count ≤ least
Enough count (Adopt s n) = ⊥
Enough count m = Unit {0}

-- who is told to be the tail waits for nothing
abbrev pub Zero : Message → Type 0
Zero (BeTail least) = least ≡ 0
Zero m = Unit {0}

-- it doesn't name that one as a successor
abbrev pub NotOn : ℕ → Message → Type 0
NotOn j (Adopt s n) = eqb s j ≡ false
NotOn j (Adopted s n) = eqb s j ≡ false
NotOn j m = Unit {0}

-- what an outsider is told doesn't tell it to be the tail
pub harmless_tails : (ms : List Message) → Each Harmless ms → tails ms ≡ 0
harmless_tails [] h = refl
harmless_tails (m ∷ ms) h = step m h.0 (harmless_tails ms h.1) where
  step : (x : Message) → Harmless x → tails ms ≡ 0 → tails (x ∷ ms) ≡ 0
  step (BeTail least) g e = absurd g
  step x g e = e

-- ---- words on servers

abbrev pub bit : Bool → ℕ
bit true = 1
bit false = 0

-- it is to act once it has more entries than it has
abbrev pub waits : Server → Bool
waits s = is_some s.at_least && not (acts s)

-- at how many stages it stands on its way to act as tail
abbrev pub busy : View → ℕ → ℕ
busy v id = tails (v.channel parties.Master (parties.Server id)) + (readies (v.channel (parties.Server id) parties.Master) + bit (waits (v.server id)))

-- no member is the tail, or to be it
abbrev pub Free : View → Type 0
Free v = (id : ℕ) → is_in v.master.chain id ≡ true → (v.server id).at_least ≡ None

-- ---- the sentences

pub record Commits (v : View) (c : List Entry) : Type 0 where
  -- who acts is full
  pub acting : (id : ℕ) → acts (v.server id) ≡ true → (v.server id).full ≡ true
  -- a server that was never used has said nothing to the master
  pub silent : (id : ℕ) → is_in v.master.used id ≡ false → v.channel (parties.Server id) parties.Master ≡ []
  -- successors that are spoken of have been used
  pub orders_named : (id : ℕ) → Each (Names v.master.used) (v.channel parties.Master (parties.Server id))
  pub reports_named : (id : ℕ) → Each (Names v.master.used) (v.channel (parties.Server id) parties.Master)
  -- a member is told of a member only as the one directly behind it
  pub pairs : (id : ℕ) → is_in v.master.chain id ≡ true → Each (Pairs v.master.chain id) (v.channel parties.Master (parties.Server id))
  -- the last member is on its way to act, in one stage, from the time when it is told until the master knows; no other is
  pub stages : (id : ℕ) → is_in v.master.chain id ≡ true → busy v id ≡ bit (is_last v.master.chain id && (v.master.told && not v.master.ready))
  -- another member is the tail only while the last one isn't told, and directly before it
  pub alone : (id : ℕ) → is_in v.master.chain id ≡ true → is_some (v.server id).at_least ≡ true → is_last v.master.chain id ≡ false
      → (v.master.told ≡ false) × ((z : ℕ) → is_last v.master.chain z ≡ true → stands_before id z v.master.chain ≡ true)
  -- the last one isn't before it is told, and is once the word has come
  pub untold : (id : ℕ) → is_last v.master.chain id ≡ true → v.master.told ≡ false → (v.server id).at_least ≡ None
  pub heard : (id : ℕ) → is_last v.master.chain id ≡ true → v.master.told ≡ true → tails (v.channel parties.Master (parties.Server id)) ≡ 0 → is_some (v.server id).at_least ≡ true
  pub ready : v.master.ready ≡ true → v.master.told ≡ true
  -- the last one is told to be the tail behind all that it was told of successors
  pub retires : (id : ℕ) → is_last v.master.chain id ≡ true → Retires (v.channel parties.Master (parties.Server id))
  -- where the last one isn't told, and its old tail has handed over, nobody acts
  pub hands_over : v.master.told ≡ false → (x : ℕ) → is_last v.master.chain x ≡ true → (id : ℕ) → Each (HandsOver (length c) (Free v) x) (v.channel (parties.Server id) parties.Master)
  -- a member that isn't full is the last, and is to wait for all that is committed
  pub young_last : (id : ℕ) → is_in v.master.chain id ≡ true → (v.server id).full ≡ false → is_last v.master.chain id ≡ true
  pub young_least : (id least : ℕ) → is_in v.master.chain id ≡ true → (v.server id).full ≡ false → (v.server id).at_least ≡ Some least → length c ≤ least
  pub young_told : (id : ℕ) → is_in v.master.chain id ≡ true → (v.server id).full ≡ false → Each (Enough (length c)) (v.channel parties.Master (parties.Server id))
  pub young : v.master.told ≡ false → (id : ℕ) → is_last v.master.chain id ≡ true → (v.server id).full ≡ false
  -- a full member has all that is committed, and waits for nothing
  pub old : (id : ℕ) → is_in v.master.chain id ≡ true → (v.server id).full ≡ true → IsPrefix c (v.server id).entries
  pub old_least : (id least : ℕ) → is_in v.master.chain id ≡ true → (v.server id).full ≡ true → (v.server id).at_least ≡ Some least → least ≤ length (v.server id).entries
  pub old_told : (id : ℕ) → is_in v.master.chain id ≡ true → (v.server id).full ≡ true → Each Zero (v.channel parties.Master (parties.Server id))
  -- while a server joins the last member acts, no word names the new one as a successor, and it doesn't say that it acts
  pub joins_ready : is_some v.master.joiner ≡ true → v.master.ready ≡ true
  pub unnamed_orders : (j : ℕ) → is_that v.master.joiner j ≡ true → (id : ℕ) → Each (NotOn j) (v.channel parties.Master (parties.Server id))
  pub unnamed_reports : (j : ℕ) → is_that v.master.joiner j ≡ true → (id : ℕ) → Each (NotOn j) (v.channel (parties.Server id) parties.Master)
  pub unready : (j : ℕ) → is_that v.master.joiner j ≡ true → readies (v.channel (parties.Server j) parties.Master) ≡ 0
  -- nobody acts with more than what is committed, and a full server lives
  pub reached : (id : ℕ) → (v.server id).down ≡ false → acts (v.server id) ≡ true → length (v.server id).entries ≤ length c
  pub lives : (id : ℕ) × (is_in v.master.used id ≡ true) × ((v.server id).full ≡ true) × ((v.server id).down ≡ false)

-- ---- who acts

-- who acts has been told how many entries it needs
pub acts-least : (s : Server) → acts s ≡ true → is_some s.at_least ≡ true
acts-least s h = go s.at_least h where
  go : (o : Option ℕ) → reaches (length s.entries) o ≡ true → is_some o ≡ true
  go None r = absurd (false≢true r)
  go (Some least) r = refl

-- without such a number it doesn't act
pub acts-none : (s : Server) → s.at_least ≡ None → acts s ≡ false
acts-none s h = ap (λ o. reaches (length s.entries) o) h

-- no such number is none
pub least-none : (o : Option ℕ) → is_some o ≡ false → o ≡ None
least-none None h = refl
least-none (Some n) h = absurd (false≢true (sym h))

pub some-least : (o : Option ℕ) → is_some o ≡ true → (n : ℕ) × (o ≡ Some n)
some-least None h = absurd (false≢true h)
some-least (Some n) h = (n, refl)

-- of two members that are tails none stands before the other one
pub acts-before : (v : View) (c : List Entry) (p s : ℕ) → Prefixes v → Commits v c → Before p s v.master.chain → is_in v.master.chain p ≡ true → is_some (v.server p).at_least ≡ true → is_some (v.server s).at_least ≡ true → is_in v.master.chain s ≡ true → ⊥
acts-before v c p s h k before member here there other =
    let rule = k.alone p member here (before-not-last v.master.chain p s (chain-apart v h) before) in
    elim (cases_Bool (is_last v.master.chain s)) [
      | inl last ↦ both_ways (is_some (v.server s).at_least) (ap (λ o. is_some o) (k.untold s last rule.0)) there
      | inr not_last ↦ both_ways (is_last v.master.chain s) not_last (last_there v c p s h k before rule)
    ] where
      last_there : (w : View) (d : List Entry) (q t : ℕ) → Prefixes w → Commits w d → Before q t w.master.chain → (w.master.told ≡ false) × ((z : ℕ) → is_last w.master.chain z ≡ true → stands_before q z w.master.chain ≡ true) → is_last w.master.chain t ≡ true
      last_there w d q t g m b r = go w.master.chain refl where
        go : (chain : List ℕ) → w.master.chain ≡ chain → is_last w.master.chain t ≡ true
        go [] is = absurd (subst (λ us. Before q t us) is b)
        go (a ∷ rest) is = let z = last-some a rest in
            let last = ap (λ us. is_last us z.0) is ∙ z.1 in
            subst (λ i. is_last w.master.chain i ≡ true) (sym (before-only w.master.chain q t z.0 (chain-apart w g) (r.1 z.0 last) last b)) last

-- At most one member is the tail, or is to be it.
pub one-tail : (v : View) (c : List Entry) (p s : ℕ) → Prefixes v → Commits v c → is_in v.master.chain p ≡ true → is_in v.master.chain s ≡ true → is_some (v.server p).at_least ≡ true → is_some (v.server s).at_least ≡ true → p ≡ s
one-tail v c p s h k member other here there = go (eqb p s) refl where
  go : (t : Bool) → eqb p s ≡ t → p ≡ s
  go true e = eqb-true p s e
  go false e = elim (before-either v.master.chain p s member other e) [
    | inl before ↦ absurd (acts-before v c p s h k before member here there other)
    | inr before ↦ absurd (acts-before v c s p h k before other there here member)
  ]

-- ---- the longest history

-- a list that isn't longer adds nothing
pub longer-still : (xs ys : List Entry) → length ys ≤ length xs → longer xs ys ≡ xs
longer-still xs ys h = ap (λ b. cond b ys xs) (le-ltb (length xs) (length ys) h)

-- the longer one isn't shorter
pub longer-length : (xs ys : List Entry) → (length xs ≤ length (longer xs ys)) × (length ys ≤ length (longer xs ys))
longer-length xs ys = go (nat_lt (length xs) (length ys)) refl where
  go : (t : Bool) → nat_lt (length xs) (length ys) ≡ t → (length xs ≤ length (cond t ys xs)) × (length ys ≤ length (cond t ys xs))
  go true e = (omega (arith, ltb-true (length xs) (length ys) e), omega arith)
  go false e = (omega arith, omega (arith, ltb-false (length xs) (length ys) e))

-- of a list and a prefix of it the list is the longer one
pub longer-prefix : (xs ys : List Entry) → IsPrefix xs ys → longer xs ys ≡ ys
longer-prefix xs ys h = go (nat_lt (length xs) (length ys)) refl where
  nothing : (rest : List Entry) → length rest ≤ 0 → rest ≡ []
  nothing [] le = refl
  nothing (e ∷ rest) le = absurd (omega (arith, le))

  go : (t : Bool) → nat_lt (length xs) (length ys) ≡ t → cond t ys xs ≡ ys
  go true e = refl
  go false e = let none = nothing h.0 (omega (arith, ltb-false (length xs) (length ys) e, ap length h.1, length-append xs h.0)) in
      sym (h.1 ∙ ap (λ us. xs ++ us) none ∙ append-nil xs)

-- where no history that counts is longer, the list stays
longest_still : (server : ℕ → Server) (xs : List Entry) (ids : List ℕ) → ((id : ℕ) → length (acting_history (server id)) ≤ length xs) → fold (λ longest id. longer longest (acting_history (server id))) xs ids ≡ xs
longest_still server xs [] h = refl
longest_still server xs (id ∷ ids) h = ap (λ us. fold (λ longest id. longer longest (acting_history (server id))) us ids) (longer-still xs (acting_history (server id)) (h id)) ∙ longest_still server xs ids h

-- where those of all but one server aren't, that one alone counts
longest_one : (server : ℕ → Server) (xs : List Entry) (k : ℕ) (ids : List ℕ) → ((id : ℕ) → eqb id k ≡ false → length (acting_history (server id)) ≤ length xs) → is_in ids k ≡ true
    → fold (λ longest id. longer longest (acting_history (server id))) xs ids ≡ longer xs (acting_history (server k))
longest_one server xs k [] h there = absurd (false≢true there)
longest_one server xs k (id ∷ ids) h there = go (eqb id k) refl (λ later. longest_one server xs k ids h later) where
  now : List Entry
  now = longer xs (acting_history (server k))

  all : (j : ℕ) (t : Bool) → eqb j k ≡ t → length (acting_history (server j)) ≤ length (longer xs (acting_history (server k)))
  all j true e = subst (λ i. length (acting_history (server i)) ≤ length (longer xs (acting_history (server k)))) (sym (eqb-true j k e)) (longer-length xs (acting_history (server k))).1
  all j false e = omega (arith, h j e, (longer-length xs (acting_history (server k))).0)

  later : eqb id k ≡ false → is_in ids k ≡ true
  later other = elim (or_cases (eqb id k) (is_in ids k) there) [ inl e ↦ absurd (both_ways (eqb id k) other e) | inr r ↦ r ]

  go : (t : Bool) → eqb id k ≡ t → (is_in ids k ≡ true → fold (λ longest id. longer longest (acting_history (server id))) xs ids ≡ longer xs (acting_history (server k)))
      → fold (λ longest id. longer longest (acting_history (server id))) (longer xs (acting_history (server id))) ids ≡ longer xs (acting_history (server k))
  go true e rest = ap (λ i. fold (λ longest id. longer longest (acting_history (server id))) (longer xs (acting_history (server i))) ids) (eqb-true id k e) ∙ longest_still server now ids (λ j. all j (eqb j k) refl)
  go false e rest = ap (λ us. fold (λ longest id. longer longest (acting_history (server id))) us ids) (longer-still xs (acting_history (server id)) (h id e)) ∙ rest (later e)

-- a history that counts isn't longer than what is committed
pub acting-within : (s : Server) (n : ℕ) → (s.down ≡ false → acts s ≡ true → length s.entries ≤ n) → length (acting_history s) ≤ n
acting-within s n h = go (acts s) s.down refl refl where
  go : (a d : Bool) → acts s ≡ a → s.down ≡ d → length (cond (a && not d) s.entries []) ≤ n
  go true true e f = omega arith
  go true false e f = h f e
  go false true e f = omega arith
  go false false e f = omega arith

-- The longest history, where no server has changed.
pub longest-same : (w : World) (v : View) (c : List Entry) → w.server ≡ v.server → Commits v c → longest_at w c ≡ c
unfolding longest_at
longest-same w v c is k = ap (λ server. fold (λ longest id. longer longest (acting_history (server id))) c w.master.used) is
    ∙ longest_still v.server c w.master.used (λ id. acting-within (v.server id) (length c) (k.reached id))

-- The same, where one has.
pub longest-turn : (w : World) (v : View) (c : List Entry) (k : ℕ) (s : Server) → w.server ≡ set_at v.server k s → is_in w.master.used k ≡ true → Commits v c → longest_at w c ≡ longer c (acting_history s)
unfolding longest_at
longest-turn w v c k s is known h = ap (λ server. fold (λ longest id. longer longest (acting_history (server id))) c w.master.used) is
    ∙ longest_one (set_at v.server k s) c k w.master.used others known ∙ ap (λ b. longer c (acting_history (cond b s (v.server k)))) (eq-eqb k k refl) where
      others : (id : ℕ) → eqb id k ≡ false → length (acting_history (set_at v.server k s id)) ≤ length c
      others id other = subst (λ b. length (acting_history (cond b s (v.server id))) ≤ length c) (sym other) (acting-within (v.server id) (length c) (h.reached id))
