-- Nothing is lost on the way: the sentences by which each server gets all that its predecessor has, once the chain is
-- quiet.
pub mod Turns
pub mod Steps
pub mod Growth
pub mod Entries
pub mod Messages
pub mod Orders
pub mod Changes
pub mod Joins
pub mod Runs
pub mod Feeding
use Rattle.std.proofs.Common.{◌≡◌, ℕ, suc, ◌+◌, ◌≤◌, ◌<◌, ◌∙◌, ap, sym, List, [], ◌∷◌, ◌++◌, length, ◌&&◌, Option, Some, None, Bool, true, false, cond, eqb, arith, subst, refl, inl, inr}
use Rattle.std.proofs.lemmas.Bool.{eqb-true, eq-eqb, false≢true, both_ways, and_parts, or_cases}
use Rattle.cq_base.specs.declared.ask.Entry.{Entry}
use Rattle.cq_base.specs.declared.party.Party.TheVariants as parties
use Rattle.cq_chain.specs.Masters.{is_in, is_last, stands_before}
use Rattle.cq_chain.specs.Messages.{Message, Snap, Ack, Report, Adopt, BeTail, Feed, Have, Caught}
use Rattle.cq_chain.specs.Servers.{is_that}
use Rattle.cq_world.proofs.Chains.{Apart}
use Rattle.cq_world.proofs.Prefixes.Climbing.{reports, one, ups}
use Rattle.cq_world.proofs.Commits.{bit}
use Rattle.cq_world.proofs.Eaches.{Each}
use Rattle.cq_world.proofs.Wholes.Feeding.{NoData, NoSnap, OfSnap, Feeds}
use Rattle.cq_world.proofs.Prefixes.{Prefixes, Linked, LinkedExtended}
use Rattle.cq_world.proofs.Views.{View, extended}

-- ---- words on messages

-- how many of these name that predecessor
abbrev pub reports_of : ℕ → List Message → ℕ
reports_of p [] = 0
reports_of p (Report q ∷ ms) = cond (eqb q p) (suc (reports_of p ms)) (reports_of p ms)
reports_of p (m ∷ ms) = reports_of p ms

-- how many of these say that the sender has that predecessor
abbrev pub haves_of : ℕ → List Message → ℕ
haves_of p [] = 0
haves_of p (Have q n ∷ ms) = cond (eqb q p) (suc (haves_of p ms)) (haves_of p ms)
haves_of p (m ∷ ms) = haves_of p ms

-- how many of these name that successor
abbrev pub adopts_of : ℕ → List Message → ℕ
adopts_of s [] = 0
adopts_of s (Adopt q n ∷ ms) = cond (eqb q s) (suc (adopts_of s ms)) (adopts_of s ms)
adopts_of s (m ∷ ms) = adopts_of s ms

-- how many of these tell to feed that one
abbrev pub feeds_of : ℕ → List Message → ℕ
feeds_of s [] = 0
feeds_of s (Feed (Some q) ∷ ms) = cond (eqb q s) (suc (feeds_of s ms)) (feeds_of s ms)
feeds_of s (m ∷ ms) = feeds_of s ms

-- it changes the successor to that one, if to any
abbrev pub OnlyTo : ℕ → Message → Type 0
OnlyTo s (Adopt q n) = eqb q s ≡ true
OnlyTo s (Feed (Some q)) = eqb q s ≡ true
OnlyTo s (Feed None) = ⊥
OnlyTo s (BeTail least) = ⊥
OnlyTo s m = Unit {0}

-- behind a word on a server of the extended chain as successor there is none on another one
abbrev pub Ends : List ℕ → List Message → Type 0
Ends extended [] = Unit {0}
Ends extended (Adopt s n ∷ ms) = (is_in extended s ≡ true → Each (OnlyTo s) ms) × Ends extended ms
Ends extended (Feed (Some s) ∷ ms) = (is_in extended s ≡ true → Each (OnlyTo s) ms) × Ends extended ms
Ends extended (m ∷ ms) = Ends extended ms

-- who is to be fed is no member
abbrev pub FeedsOut : List ℕ → Message → Type 0
FeedsOut chain (Feed (Some s)) = is_in chain s ≡ false
FeedsOut chain m = Unit {0}

-- P holds if it tells that a server took a snapshot
abbrev pub Catches : Type 0 → Message → Type 0
Catches P (Caught p n) = P
Catches P m = Unit {0}

-- who is named has been used
abbrev pub Known : List ℕ → Message → Type 0
Known used (Report p) = is_in used p ≡ true
Known used (Adopt s n) = is_in used s ≡ true
Known used (Feed (Some s)) = is_in used s ≡ true
Known used (Have p n) = is_in used p ≡ true
Known used m = Unit {0}

-- what it says of its sender's entries
abbrev pub HaveIs : ℕ → ℕ → Message → Type 0
HaveIs p count (Have q n) = eqb q p ≡ true → n ≡ count
HaveIs p count m = Unit {0}

abbrev pub AdoptIs : ℕ → ℕ → Message → Type 0
AdoptIs s count (Adopt q n) = eqb q s ≡ true → n ≡ count
AdoptIs s count m = Unit {0}

-- no more is acknowledged than so many
abbrev pub AckWithin : ℕ → Message → Type 0
AckWithin count (Ack n) = n ≤ count
AckWithin count m = Unit {0}

-- ---- words on pairs

-- the server has that successor, or is told of it; who is to be fed gets a snapshot, also where it is fed already
abbrev pub links : Option ℕ → ℕ → List Message → ℕ
links succ s ms = feeds_of s ms + cond (is_that succ s) 1 (adopts_of s ms)

-- at how many stages the making of a pair stands
abbrev pub tokens : View → ℕ → ℕ → ℕ
tokens v p s = reports_of p (v.channel parties.Master (parties.Server s)) + (haves_of p (v.channel (parties.Server s) parties.Master) + links (v.server p).succ s (v.channel parties.Master (parties.Server p)))

-- ---- the sentences

pub record Whole (v : View) (c : List Entry) : Type 0 where
  -- who is named has been used, and no entry is on its way to one that hasn't
  pub pred_known : (id p : ℕ) → (v.server id).pred ≡ Some p → is_in v.master.used p ≡ true
  pub succ_known : (id s : ℕ) → (v.server id).succ ≡ Some s → is_in v.master.used s ≡ true
  pub orders_known : (id : ℕ) → Each (Known v.master.used) (v.channel parties.Master (parties.Server id))
  pub reports_known : (id : ℕ) → Each (Known v.master.used) (v.channel (parties.Server id) parties.Master)
  pub unheard : (p id : ℕ) → is_in v.master.used id ≡ false → Each NoData (v.channel (parties.Server p) (parties.Server id))
  -- the making of a pair of neighbours stands at one stage, and that of others at none
  pub token : (p s : ℕ) → is_in (extended v.master) p ≡ true → is_in (extended v.master) s ≡ true → tokens v p s ≡ bit (stands_before p s (extended v.master))
  -- a server of the extended chain that is a successor stays it
  pub ends : (p : ℕ) → is_in (extended v.master) p ≡ true → Ends (extended v.master) (v.channel parties.Master (parties.Server p))
  pub follows : (p s : ℕ) → is_in (extended v.master) p ≡ true → is_in (extended v.master) s ≡ true → is_that (v.server p).succ s ≡ true → Each (OnlyTo s) (v.channel parties.Master (parties.Server p))
  -- what is told of a neighbour's entries is so
  pub counts : (p s : ℕ) → stands_before p s (extended v.master) ≡ true → Each (HaveIs p (length (v.server s).entries)) (v.channel (parties.Server s) parties.Master)
  pub adopts : (p s : ℕ) → stands_before p s (extended v.master) ≡ true → is_that (v.server p).succ s ≡ false → Each (AdoptIs s (length (v.server s).entries)) (v.channel parties.Master (parties.Server p))
  -- entries go to the successor alone, and where there is one its predecessor has been told
  pub data_none : (p s : ℕ) → is_in (extended v.master) s ≡ true → is_that (v.server p).succ s ≡ false → Each NoData (v.channel (parties.Server p) (parties.Server s))
  pub linked_told : (p s : ℕ) → is_in (extended v.master) s ≡ true → is_that (v.server p).succ s ≡ true → reports_of p (v.channel parties.Master (parties.Server s)) ≡ 0
  -- what is on its way takes the successor to what the predecessor has
  pub feed : (p s : ℕ) → is_in (extended v.master) s ≡ true → (v.server s).pred ≡ Some p → is_that (v.server p).succ s ≡ true → Feeds (length (v.server s).entries) (v.channel (parties.Server p) (parties.Server s)) (length (v.server p).entries)
  -- a snapshot is for one that lacks something of what is committed, and has no successor
  pub snap : (p s : ℕ) → is_in v.master.chain s ≡ true → (v.server s).pred ≡ Some p → Each (OfSnap (length (v.server s).entries < length c)) (v.channel (parties.Server p) (parties.Server s))
  pub young_succ : (id : ℕ) → is_in v.master.chain id ≡ true → (v.server id).full ≡ false → (v.server id).succ ≡ None
  -- no more is acknowledged than is committed
  pub acked : (id : ℕ) → (v.server id).acked ≤ length c
  pub acks : (p s : ℕ) → Each (AckWithin (length c)) (v.channel (parties.Server p) (parties.Server s))
  pub floors : (id : ℕ) → is_in v.master.chain id ≡ true → (v.server id).full ≡ true → (v.server id).floor ≤ length c
  -- the server that joins has or gets the last member as predecessor, and no other one; where it has told that it took a
  -- snapshot, it is fed, and no other snapshot is on its way
  pub fed_by : (j t : ℕ) → is_that v.master.joiner j ≡ true → is_last v.master.chain t ≡ true → ups v j ≡ t ∷ []
  pub caught : (j t : ℕ) → is_that v.master.joiner j ≡ true → is_last v.master.chain t ≡ true
      → Each (Catches ((is_that (v.server t).succ j ≡ true) × Each NoSnap (v.channel (parties.Server t) (parties.Server j)))) (v.channel (parties.Server j) parties.Master)
  pub feeds_out : (p : ℕ) → is_in v.master.chain p ≡ true → Each (FeedsOut v.master.chain) (v.channel parties.Master (parties.Server p))

-- ---- neighbours

-- no server stands before itself
pub before-self : (p : ℕ) (extended : List ℕ) → Apart extended → stands_before p p extended ≡ true → ⊥
before-self p [] apart h = false≢true h
before-self p (a ∷ []) apart h = false≢true h
before-self p (a ∷ b ∷ rest) apart h = elim (or_cases (eqb a p && eqb b p) (stands_before p p (b ∷ rest)) h) [
  | inl here ↦ let both = and_parts (eqb a p) (eqb b p) here in both_ways (eqb a b) (apart.0 b (inl refl)) (eq-eqb a b (eqb-true a p both.0 ∙ sym (eqb-true b p both.1)))
  | inr later ↦ before-self p (b ∷ rest) apart.1 later
]

-- the predecessors of a neighbour end with the other one
linked_before : (v : View) (a : ℕ) (rest : List ℕ) (p s : ℕ) → Linked v a rest → stands_before p s (a ∷ rest) ≡ true → is_last (ups v s) p ≡ true
linked_before v a [] p s l h = absurd (false≢true h)
linked_before v a (b ∷ rest) p s l h = elim (or_cases (eqb a p && eqb b s) (stands_before p s (b ∷ rest)) h) [
  | inl here ↦ let both = and_parts (eqb a p) (eqb b s) here in subst (λ i. is_last (ups v i) p ≡ true) (eqb-true b s both.1) (subst (λ i. is_last (ups v b) i ≡ true) (eqb-true a p both.0) l.0)
  | inr later ↦ linked_before v b rest p s l.1 later
]

pub last-pred : (v : View) (p s : ℕ) → Prefixes v → stands_before p s (extended v.master) ≡ true → is_last (ups v s) p ≡ true
last-pred v p s g h = go (extended v.master) g.linked h where
  go : (extended : List ℕ) → LinkedExtended v extended → stands_before p s extended ≡ true → is_last (ups v s) p ≡ true
  go [] l before = absurd (false≢true before)
  go (a ∷ rest) l before = linked_before v a rest p s l before

-- one that was told is among the words
last_told : (ms : List Message) (p : ℕ) → is_last (reports ms) p ≡ true → 1 ≤ reports_of p ms
last_told [] p h = absurd (false≢true h)
last_told (Report q ∷ ms) p h = go (reports ms) refl h (λ l. last_told ms p l) where
  go : (us : List ℕ) → reports ms ≡ us → is_last (q ∷ us) p ≡ true → (is_last (reports ms) p ≡ true → 1 ≤ reports_of p ms) → 1 ≤ cond (eqb q p) (suc (reports_of p ms)) (reports_of p ms)
  go [] is last later = subst (λ b. 1 ≤ cond b (suc (reports_of p ms)) (reports_of p ms)) (sym last) (omega arith)
  go (u ∷ us) is last later = some (eqb q p) (later (ap (λ xs. is_last xs p) is ∙ last)) where
    some : (b : Bool) → 1 ≤ reports_of p ms → 1 ≤ cond b (suc (reports_of p ms)) (reports_of p ms)
    some true k = omega (arith, k)
    some false k = k
last_told (m ∷ ms) p h = skip m h (λ l. last_told ms p l) where
  skip : (x : Message) → is_last (reports (x ∷ ms)) p ≡ true → (is_last (reports ms) p ≡ true → 1 ≤ reports_of p ms) → 1 ≤ reports_of p (x ∷ ms)
  skip (Report q) l later = go (reports ms) refl l where
    go : (us : List ℕ) → reports ms ≡ us → is_last (q ∷ us) p ≡ true → 1 ≤ cond (eqb q p) (suc (reports_of p ms)) (reports_of p ms)
    go [] is last = subst (λ b. 1 ≤ cond b (suc (reports_of p ms)) (reports_of p ms)) (sym last) (omega arith)
    go (u ∷ us) is last = some (eqb q p) (later (ap (λ xs. is_last xs p) is ∙ last)) where
      some : (b : Bool) → 1 ≤ reports_of p ms → 1 ≤ cond b (suc (reports_of p ms)) (reports_of p ms)
      some true k = omega (arith, k)
      some false k = k
  skip x l later = later l

-- A neighbour whose predecessor isn't on its way to it has it, and is told of no other.
pub stage-past : (v : View) (p s : ℕ) → Prefixes v → stands_before p s (extended v.master) ≡ true → reports_of p (v.channel parties.Master (parties.Server s)) ≡ 0
    → ((v.server s).pred ≡ Some p) × (reports (v.channel parties.Master (parties.Server s)) ≡ [])
stage-past v p s g before none = go (v.server s).pred (reports (v.channel parties.Master (parties.Server s))) refl refl (last-pred v p s g before) where
  ms : List Message
  ms = v.channel parties.Master (parties.Server s)

  not_told : (us : List ℕ) → reports (v.channel parties.Master (parties.Server s)) ≡ us → is_last us p ≡ true → ⊥
  not_told us is last = omega (arith, none, last_told (v.channel parties.Master (parties.Server s)) p (ap (λ xs. is_last xs p) is ∙ last))

  go : (o : Option ℕ) (us : List ℕ) → (v.server s).pred ≡ o → reports (v.channel parties.Master (parties.Server s)) ≡ us → is_last (one o ++ us) p ≡ true → (o ≡ Some p) × (us ≡ [])
  go None us e f last = absurd (not_told us f last)
  go (Some q) [] e f last = (ap (λ n. Some n) (eqb-true q p last), refl)
  go (Some q) (u ∷ us) e f last = absurd (not_told (u ∷ us) f last)

-- the predecessor that the server has which joins is the last member
pub linked_ups : (v : View) (c : List Entry) (j p t : ℕ) → Whole v c → is_that v.master.joiner j ≡ true → is_last v.master.chain t ≡ true → (v.server j).pred ≡ Some p → p ≡ t
linked_ups v c j p t h joins last is_pred = same p t (reports (v.channel parties.Master (parties.Server j))) [] (sym (ap (λ o. one o ++ reports (v.channel parties.Master (parties.Server j))) is_pred) ∙ h.fed_by j t joins last) where
  same : (a b : ℕ) (us ws : List ℕ) → a ∷ us ≡ b ∷ ws → a ≡ b
  same a b us ws e = cc
