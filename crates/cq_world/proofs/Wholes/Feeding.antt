-- What is on its way from one server to another: entries and snapshots that take the one from so many entries to so
-- many others.
use Rattle.std.proofs.Common.{◌≡◌, ℕ, zero, suc, ◌+◌, ◌≤◌, ◌<◌, ◌∙◌, ap, sym, List, [], ◌∷◌, ◌++◌, length, drop, Bool, true, false, cond, eqb, arith, subst, refl, nat_le}
use Rattle.std.proofs.lemmas.Bool.{eq-eqb, leb-false}
use Rattle.cq_base.specs.declared.ask.Entry.{Entry}
use Rattle.cq_base.specs.declared.party.Party.TheVariants as parties
use Rattle.cq_chain.specs.Messages.{Message, Fwd, Snap}
use Rattle.cq_chain.specs.Parties.{addressed}
use Rattle.cq_chain.specs.Servers.{Server}
use Rattle.cq_chain.specs.Steps.{forwards, repair}
use Rattle.cq_world.proofs.Eaches.{Each, each-append}

-- no entry and no snapshot
abbrev pub NoData : Message → Type 0
NoData (Fwd place e) = ⊥
NoData (Snap entries) = ⊥
NoData m = Unit {0}

-- no snapshot
abbrev pub NoSnap : Message → Type 0
NoSnap (Snap entries) = ⊥
NoSnap m = Unit {0}

-- These messages take a server from so many entries to so many: one after another, with at most one snapshot before
-- them.
abbrev pub Feeds : ℕ → List Message → ℕ → Type 0
Feeds count [] end = count ≡ end
Feeds count (Fwd place e ∷ ms) end = (place ≡ count + 1) × Each NoSnap ms × Feeds (count + 1) ms end
Feeds count (Snap entries ∷ ms) end = (count ≤ length entries) × Each NoSnap ms × Feeds (length entries) ms end
Feeds count (m ∷ ms) end = Feeds count ms end

-- what has no data has no snapshot
pub data-snap : (m : Message) → NoData m → NoSnap m
data-snap (Snap entries) h = h
data-snap m h = tt

pub all-data-snap : (ms : List Message) → Each NoData ms → Each NoSnap ms
all-data-snap [] h = tt
all-data-snap (m ∷ ms) h = (data-snap m h.0, all-data-snap ms h.1)

-- messages without data feed nothing
pub feeds-none : (count : ℕ) (ms ys : List Message) (end : ℕ) → Each NoData ms → Feeds count ys end → Feeds count (ms ++ ys) end
feeds-none count [] ys end h k = k
feeds-none count (m ∷ ms) ys end h k = skip m h.0 (feeds-none count ms ys end h.1 k) where
  skip : (x : Message) → NoData x → Feeds count (ms ++ ys) end → Feeds count (x ∷ (ms ++ ys)) end
  skip (Fwd place e) none rest = absurd none
  skip (Snap entries) none rest = absurd none
  skip x none rest = rest

-- more without a snapshot
pub nosnap-append : (xs ys : List Message) → Each NoSnap xs → Each NoSnap ys → Each NoSnap (xs ++ ys)
nosnap-append xs ys h k = each-append NoSnap xs ys h k

-- these, and then others without a snapshot
pub feeds-append : (count : ℕ) (xs ys : List Message) (middle end : ℕ) → Feeds count xs middle → Each NoSnap ys → Feeds middle ys end → Feeds count (xs ++ ys) end
feeds-append count [] ys middle end h none k = subst (λ n. Feeds n ys end) (sym h) k
feeds-append count (Fwd place e ∷ xs) ys middle end h none k = (h.0, nosnap-append xs ys h.1 none, feeds-append (count + 1) xs ys middle end h.2 none k)
feeds-append count (Snap entries ∷ xs) ys middle end h none k = (h.0, nosnap-append xs ys h.1 none, feeds-append (length entries) xs ys middle end h.2 none k)
feeds-append count (m ∷ xs) ys middle end h none k = skip m h (λ n g. feeds-append n xs ys middle end g none k) where
  skip : (x : Message) → Feeds count (x ∷ xs) middle → ((n : ℕ) → Feeds n xs middle → Feeds n (xs ++ ys) end) → Feeds count (x ∷ (xs ++ ys)) end
  skip (Fwd place e) g later = (g.0, nosnap-append xs ys g.1 none, later (count + 1) g.2)
  skip (Snap entries) g later = (g.0, nosnap-append xs ys g.1 none, later (length entries) g.2)
  skip x g later = later count g

-- what feeds nothing, because nothing is on its way, is where it is
pub feeds-end : (count : ℕ) (ms : List Message) (end : ℕ) → Each NoData ms → Feeds count ms end → count ≡ end
feeds-end count [] end h k = k
feeds-end count (m ∷ ms) end h k = skip m h.0 k (λ g. feeds-end count ms end h.1 g) where
  skip : (x : Message) → NoData x → Feeds count (x ∷ ms) end → (Feeds count ms end → count ≡ end) → count ≡ end
  skip (Fwd place e) none g later = absurd none
  skip (Snap entries) none g later = absurd none
  skip x none g later = later g

-- ---- a repair

-- entries that are sent one by one
forwards_nosnap : (to place : ℕ) (es : List Entry) → Each NoSnap (addressed (parties.Server to) (forwards to place es))
unfolding forwards
forwards_nosnap to place [] = tt
forwards_nosnap to place (e ∷ es) = subst (λ b. Each NoSnap (cond b (Fwd place e ∷ addressed (parties.Server to) (forwards to (place + 1) es)) (addressed (parties.Server to) (forwards to (place + 1) es)))) (sym (eq-eqb to to refl)) (tt, forwards_nosnap to (place + 1) es)

forwards_feed : (to count : ℕ) (es : List Entry) (end : ℕ) → count + length es ≡ end → Feeds count (addressed (parties.Server to) (forwards to (count + 1) es)) end
unfolding forwards
forwards_feed to count [] end h = omega (arith, h)
forwards_feed to count (e ∷ es) end h = subst (λ b. Feeds count (cond b (Fwd (count + 1) e ∷ addressed (parties.Server to) (forwards to (count + 1 + 1) es)) (addressed (parties.Server to) (forwards to (count + 1 + 1) es))) end) (sym (eq-eqb to to refl))
    (refl, forwards_nosnap to (count + 1 + 1) es, forwards_feed to (count + 1) es end (omega (arith, h)))

-- so many are left behind some
dropped : (n : ℕ) (es : List Entry) → n ≤ length es → n + length (drop n es) ≡ length es
dropped zero es h = omega arith
dropped (suc n) [] h = absurd (omega (arith, h))
dropped (suc n) (e ∷ es) h = omega (arith, dropped n es (omega (arith, h)))

-- What a server sends to a new successor takes that from what it has to what the server has.
pub repair-feeds : (to have : ℕ) (s : Server) → have ≤ length s.entries → Feeds have (addressed (parties.Server to) (repair to have s)) (length s.entries)
repair-feeds to have s h = go (nat_le s.floor have) where
  go : (t : Bool) → Feeds have (addressed (parties.Server to) (cond t (forwards to (have + 1) (drop have s.entries)) ((parties.Server to, Snap s.entries) ∷ []))) (length s.entries)
  go true = forwards_feed to have (drop have s.entries) (length s.entries) (dropped have s.entries h)
  go false = subst (λ b. Feeds have (cond b (Snap s.entries ∷ []) []) (length s.entries)) (sym (eq-eqb to to refl)) (h, tt, refl)

-- to others it sends nothing
forwards_other : (to x place : ℕ) (es : List Entry) → eqb x to ≡ false → addressed (parties.Server x) (forwards to place es) ≡ []
unfolding forwards
forwards_other to x place [] other = refl
forwards_other to x place (e ∷ es) other = ap (λ b. cond b (Fwd place e ∷ addressed (parties.Server x) (forwards to (place + 1) es)) (addressed (parties.Server x) (forwards to (place + 1) es))) other ∙ forwards_other to x (place + 1) es other

pub repair-other : (to x have : ℕ) (s : Server) → eqb x to ≡ false → addressed (parties.Server x) (repair to have s) ≡ []
repair-other to x have s other = go (nat_le s.floor have) where
  go : (t : Bool) → addressed (parties.Server x) (cond t (forwards to (have + 1) (drop have s.entries)) ((parties.Server to, Snap s.entries) ∷ [])) ≡ []
  go true = forwards_other to x (have + 1) (drop have s.entries) other
  go false = ap (λ b. cond b (Snap s.entries ∷ []) []) other

-- P holds of the snapshots among these
abbrev pub OfSnap : Type 0 → Message → Type 0
OfSnap P (Snap entries) = P
OfSnap P m = Unit {0}

pub no-snap : (P : Type 0) (m : Message) → NoSnap m → OfSnap P m
no-snap P (Snap entries) h = absurd h
no-snap P m h = tt

-- It sends a snapshot only where the other one has less than what it may not send one by one.
pub repair-snaps : (P : Type 0) (to have : ℕ) (s : Server) → (have < s.floor → P) → Each (OfSnap P) (addressed (parties.Server to) (repair to have s))
repair-snaps P to have s h = go (nat_le s.floor have) refl where
  all : (ms : List Message) → Each NoSnap ms → Each (OfSnap P) ms
  all [] k = tt
  all (m ∷ ms) k = (no-snap P m k.0, all ms k.1)

  go : (t : Bool) → nat_le s.floor have ≡ t → Each (OfSnap P) (addressed (parties.Server to) (cond t (forwards to (have + 1) (drop have s.entries)) ((parties.Server to, Snap s.entries) ∷ [])))
  go true e = all (addressed (parties.Server to) (forwards to (have + 1) (drop have s.entries))) (forwards_nosnap to (have + 1) (drop have s.entries))
  go false e = subst (λ b. Each (OfSnap P) (cond b (Snap s.entries ∷ []) [])) (sym (eq-eqb to to refl)) (h (omega (arith, leb-false s.floor have e)), tt)
