-- What the master hears is not lost either.
use Rattle.std.proofs.Common.{◌≡◌, ℕ, zero, suc, ◌+◌, ◌≤◌, ◌<◌, ◌∙◌, ap, sym, List, [], ◌∷◌, ◌++◌, length, ◌&&◌, not, Option, Some, None, is_some, Bool, true, false, cond, eqb, arith, subst, refl, inl, inr, append-nil}
use Rattle.std.proofs.lemmas.Bool.{eqb-true, eq-eqb, false≢true, both_ways, cases_Bool, and_parts, or_cases}
use Rattle.cq_base.specs.declared.ask.Entry.{Entry}
use Rattle.cq_base.specs.declared.party.Party.TheVariants as parties
use Rattle.cq_chain.specs.Masters.{Master, is_in, is_last, stands_before, hears, joins_behind, admitted, no_order}
use Rattle.cq_chain.specs.Messages.{Message, Adopt, BeTail, Feed, Have, Adopted, Caught, Ready}
use Rattle.cq_chain.specs.Servers.{is_that}
use Rattle.cq_world.proofs.Chains.{Apart, apart-out, last-in, last-one, before-in, before-last, chain-used}
use Rattle.cq_world.proofs.Commits.Orders.{left_row, one_more, each_one, said_nothing}
use Rattle.cq_world.proofs.Commits.{Commits, bit}
use Rattle.cq_world.proofs.Commits.Turns.{if_true, if_false}
use Rattle.cq_world.proofs.Eaches.{Each, each-append, each-follows}
use Rattle.cq_world.proofs.Wholes.Feeding.{NoData, NoSnap, OfSnap, Feeds, no-snap}
use Rattle.cq_world.proofs.ExtendedChains.{extended-cases, in_more, member-extended, joiner-extended, joiner-out, joiner-before, extended-before, member-other}
use Rattle.cq_world.proofs.Prefixes.Climbing.{reports, one, ups}
use Rattle.cq_world.proofs.Prefixes.Orders.{told_to, one_told, eqb_turned}
use Rattle.cq_world.proofs.Prefixes.{Prefixes, Harmless, Outsider}
use Rattle.cq_world.proofs.Settled.{that_some}
use Rattle.cq_world.proofs.Views.{View, extended_of, extended, said, drained}
use Rattle.cq_world.proofs.Wholes.{Whole, reports_of, haves_of, adopts_of, feeds_of, OnlyTo, Ends, FeedsOut, Catches, Known, HaveIs, AdoptIs, AckWithin, links, tokens, linked_ups}
use Rattle.cq_world.proofs.Wholes.Turns.{reports-append, adopts-append, fed-append}

-- ---- neighbours

-- the one directly behind a server is one
pub behind-one : (p s t : ℕ) (extended : List ℕ) → Apart extended → stands_before p s extended ≡ true → stands_before p t extended ≡ true → s ≡ t
behind-one p s t [] apart h k = absurd (false≢true h)
behind-one p s t (a ∷ []) apart h k = absurd (false≢true h)
behind-one p s t (a ∷ b ∷ rest) apart h k = elim (or_cases (eqb a p && eqb b s) (stands_before p s (b ∷ rest)) h) [
  | inl here ↦ elim (or_cases (eqb a p && eqb b t) (stands_before p t (b ∷ rest)) k) [
    | inl too ↦ sym (eqb-true b s (and_parts (eqb a p) (eqb b s) here).1) ∙ eqb-true b t (and_parts (eqb a p) (eqb b t) too).1
    | inr later ↦ absurd (not_later (and_parts (eqb a p) (eqb b s) here).0 (before-in p t (b ∷ rest) later).0)
  ]
  | inr later ↦ elim (or_cases (eqb a p && eqb b t) (stands_before p t (b ∷ rest)) k) [
    | inl here ↦ absurd (not_later (and_parts (eqb a p) (eqb b t) here).0 (before-in p s (b ∷ rest) later).0)
    | inr too ↦ behind-one p s t (b ∷ rest) apart.1 later too
  ]
] where
  not_later : eqb a p ≡ true → is_in (b ∷ rest) p ≡ true → ⊥
  not_later is member = apart-out a (b ∷ rest) apart.0 (subst (λ i. is_in (b ∷ rest) i ≡ true) (sym (eqb-true a p is)) member)

-- who has a token with a server of the extended chain stands before it
pub token-before : (v : View) (c : List Entry) (p s : ℕ) → Whole v c → is_in (extended v.master) p ≡ true → is_in (extended v.master) s ≡ true → 1 ≤ tokens v p s → stands_before p s (extended v.master) ≡ true
token-before v c p s h m there some = go (stands_before p s (extended v.master)) refl where
  go : (t : Bool) → stands_before p s (extended v.master) ≡ t → t ≡ true
  go true e = refl
  go false e = absurd (omega (arith, some, h.token p s m there, ap (λ b. bit b) e))

-- one that is the successor stands at the end of the making
pub linked-token : (v : View) (p s : ℕ) → is_that (v.server p).succ s ≡ true → 1 ≤ tokens v p s
linked-token v p s link = omega (arith, ap (λ t. cond t 1 (adopts_of s (v.channel parties.Master (parties.Server p)))) link)

pub adopt-token : (v : View) (p s : ℕ) → 1 ≤ adopts_of s (v.channel parties.Master (parties.Server p)) → 1 ≤ tokens v p s
adopt-token v p s some = go (is_that (v.server p).succ s) refl where
  go : (t : Bool) → is_that (v.server p).succ s ≡ t → 1 ≤ tokens v p s
  go true e = linked-token v p s e
  go false e = omega (arith, some, ap (λ t. cond t 1 (adopts_of s (v.channel parties.Master (parties.Server p)))) e)

pub feed-token : (v : View) (p s : ℕ) → 1 ≤ feeds_of s (v.channel parties.Master (parties.Server p)) → 1 ≤ tokens v p s
feed-token v p s some = omega (arith, some)

-- where there is none, nothing names it as a successor
pub no-token : (v : View) (p s : ℕ) → tokens v p s ≡ 0 → (adopts_of s (v.channel parties.Master (parties.Server p)) ≡ 0) × (feeds_of s (v.channel parties.Master (parties.Server p)) ≡ 0)
no-token v p s none = (go (adopts_of s (v.channel parties.Master (parties.Server p))) refl, omega (arith, none)) where
  go : (n : ℕ) → adopts_of s (v.channel parties.Master (parties.Server p)) ≡ n → n ≡ 0
  go zero e = refl
  go (suc n) e = absurd (omega (arith, none, adopt-token v p s (omega (arith, e))))

-- where no server of the extended chain is named as successor, more may be told
pub ends-free : (extended : List ℕ) (xs ys : List Message) → ((s : ℕ) → is_in extended s ≡ true → (adopts_of s xs ≡ 0) × (feeds_of s xs ≡ 0)) → Ends extended ys → Ends extended (xs ++ ys)
ends-free extended [] ys none h = h
ends-free extended (m ∷ xs) ys none h = step m none (λ k. ends-free extended xs ys k h) where
  fewer : (s n : ℕ) (t : Bool) → cond t (suc n) n ≡ 0 → n ≡ 0
  fewer s n true e = absurd (omega (arith, e))
  fewer s n false e = e

  step : (x : Message) → ((s : ℕ) → is_in extended s ≡ true → (adopts_of s (x ∷ xs) ≡ 0) × (feeds_of s (x ∷ xs) ≡ 0)) → (((s : ℕ) → is_in extended s ≡ true → (adopts_of s xs ≡ 0) × (feeds_of s xs ≡ 0)) → Ends extended (xs ++ ys)) → Ends extended (x ∷ (xs ++ ys))
  step (Adopt q n) k later = (
    (λ there. absurd (omega (arith, (k q there).0, ap (λ t. cond t (suc (adopts_of q xs)) (adopts_of q xs)) (eq-eqb q q refl)))),
    later (λ s there. (fewer s (adopts_of s xs) (eqb q s) (k s there).0, (k s there).1)),
  )
  step (Feed (Some q)) k later = (
    (λ there. absurd (omega (arith, (k q there).1, ap (λ t. cond t (suc (feeds_of q xs)) (feeds_of q xs)) (eq-eqb q q refl)))),
    later (λ s there. ((k s there).0, fewer s (feeds_of s xs) (eqb q s) (k s there).1)),
  )
  step x k later = later k

-- the same of one word
pub ends-more : (extended : List ℕ) (xs : List Message) (word : Message) → ((s : ℕ) → is_in extended s ≡ true → (adopts_of s xs ≡ 0) × (feeds_of s xs ≡ 0)) → Ends extended (word ∷ []) → Ends extended (xs ++ word ∷ [])
ends-more extended xs word none h = ends-free extended xs (word ∷ []) none h

-- ---- what is heard

-- what holds of all that one server told the master holds of what is left of it
left_one : (v : View) (from : ℕ) (word : Message) (rest : List Message) (P : Message → Type 0) (j : ℕ) → v.channel (parties.Server from) parties.Master ≡ word ∷ rest
    → Each P (v.channel (parties.Server j) parties.Master) → Each P ((drained v (parties.Server from) parties.Master rest).channel (parties.Server j) parties.Master)
left_one v from word rest P j at h = subst (λ ms. Each P ms) (sym (left_row v from rest j)) (go (eqb j from) refl) where
  go : (t : Bool) → eqb j from ≡ t → Each P (cond t rest (v.channel (parties.Server j) parties.Master))
  go true e = (subst (λ ms. Each P ms) (ap (λ i. v.channel (parties.Server i) parties.Master) (eqb-true j from e) ∙ at) h).1
  go false e = h

-- between servers all stays
aside : (v : View) (from : ℕ) (rest : List Message) (p s : ℕ) → (drained v (parties.Server from) parties.Master rest).channel (parties.Server p) (parties.Server s) ≡ v.channel (parties.Server p) (parties.Server s)
aside v from rest p s = go (eqb p from) where
  go : (t : Bool) → cond (t && false) rest (v.channel (parties.Server p) (parties.Server s)) ≡ v.channel (parties.Server p) (parties.Server s)
  go true = refl
  go false = refl

-- a word that tells of no predecessor that counts
drained_whole : (v : View) (c : List Entry) (from : ℕ) (word : Message) (rest : List Message) → Whole v c → v.channel (parties.Server from) parties.Master ≡ word ∷ rest
    → ((p : ℕ) → is_in (extended v.master) p ≡ true → is_in (extended v.master) from ≡ true → haves_of p rest ≡ haves_of p (word ∷ rest)) → Whole (drained v (parties.Server from) parties.Master rest) c
drained_whole v c from word rest h at same = record {
  pred_known = h.pred_known;
  succ_known = h.succ_known;
  orders_known = h.orders_known;
  reports_known = λ j. left_one v from word rest (Known v.master.used) j at (h.reports_known j);
  unheard = λ p id unused. subst (λ ms. Each NoData ms) (sym (aside v from rest p id)) (h.unheard p id unused);
  token = λ p s m there. ap (λ n. reports_of p (v.channel parties.Master (parties.Server s)) + (n + links (v.server p).succ s (v.channel parties.Master (parties.Server p)))) (ap (λ ms. haves_of p ms) (left_row v from rest s) ∙ same_haves p s m there (eqb s from) refl) ∙ h.token p s m there;
  ends = h.ends;
  follows = h.follows;
  counts = λ p s before. left_one v from word rest (HaveIs p (length (v.server s).entries)) s at (h.counts p s before);
  adopts = h.adopts;
  data_none = λ p s there none. subst (λ ms. Each NoData ms) (sym (aside v from rest p s)) (h.data_none p s there none);
  linked_told = h.linked_told;
  feed = λ p s there is_pred link. subst (λ ms. Feeds (length (v.server s).entries) ms (length (v.server p).entries)) (sym (aside v from rest p s)) (h.feed p s there is_pred link);
  snap = λ p s there is_pred. subst (λ ms. Each (OfSnap (length (v.server s).entries < length c)) ms) (sym (aside v from rest p s)) (h.snap p s there is_pred);
  young_succ = h.young_succ;
  acked = h.acked;
  acks = λ p s. subst (λ ms. Each (AckWithin (length c)) ms) (sym (aside v from rest p s)) (h.acks p s);
  floors = h.floors;
  fed_by = h.fed_by;
  caught = λ j t joins last. subst (λ ms. Each (Catches ((is_that (v.server t).succ j ≡ true) × Each NoSnap ms)) ((drained v (parties.Server from) parties.Master rest).channel (parties.Server j) parties.Master)) (sym (aside v from rest t j))
      (left_one v from word rest (Catches ((is_that (v.server t).succ j ≡ true) × Each NoSnap (v.channel (parties.Server t) (parties.Server j)))) j at (h.caught j t joins last));
  feeds_out = h.feeds_out;
} where
  same_haves : (p s : ℕ) → is_in (extended v.master) p ≡ true → is_in (extended v.master) s ≡ true → (t : Bool) → eqb s from ≡ t → haves_of p (cond t rest (v.channel (parties.Server s) parties.Master)) ≡ haves_of p (v.channel (parties.Server s) parties.Master)
  same_haves p s m there true e = same p m (subst (λ i. is_in (extended v.master) i ≡ true) (eqb-true s from e) there) ∙ ap (λ ms. haves_of p ms) (sym at ∙ ap (λ i. v.channel (parties.Server i) parties.Master) (sym (eqb-true s from e)))
  same_haves p s m there false e = refl

-- ---- what is said to a member

-- what is said to a member tells the server that joins nothing, if it isn't on a predecessor
told_aside : (v : View) (p j : ℕ) (word : Message) → Prefixes v → is_in v.master.chain p ≡ true → is_that v.master.joiner j ≡ true → told_to j ((parties.Server p, word) ∷ []) ≡ []
told_aside v p j word g member joins = one_told j p word false (elim (cases_Bool (eqb j p)) [
  | inl same ↦ absurd (both_ways (is_that v.master.joiner p) (member-other v.master.chain v.master.joiner p g.apart member) (subst (λ i. is_that v.master.joiner i ≡ true) (eqb-true j p same) joins))
  | inr other ↦ other
])

-- so its predecessors stay
same_ups : (v : View) (m : Master) (p j t : ℕ) (word : Message) → Prefixes v → is_in v.master.chain p ≡ true → is_that v.master.joiner j ≡ true → ups v j ≡ t ∷ [] → ups (said v m ((parties.Server p, word) ∷ [])) j ≡ t ∷ []
same_ups v m p j t word g member joins h = ap (λ us. one (v.server j).pred ++ reports (v.channel parties.Master (parties.Server j) ++ us)) (told_aside v p j word g member joins) ∙ ap (λ us. one (v.server j).pred ++ reports us) (append-nil (v.channel parties.Master (parties.Server j))) ∙ h

-- ---- a new successor is told

-- A word that names a server as the successor of the one before it, where that has told so.
record Naming (v : View) (p from count : ℕ) (word : Message) : Type 0 where
  member : is_in v.master.chain p ≡ true
  untold : (a : ℕ) → reports_of a (word ∷ []) ≡ 0
  known : Known v.master.used word
  named : (s : ℕ) → feeds_of s (word ∷ []) + adopts_of s (word ∷ []) ≡ bit (eqb from s)
  ends : Ends (extended v.master) (word ∷ [])
  so : (s n : ℕ) → (eqb from s ≡ true → count ≡ n) → AdoptIs s n word
  out : FeedsOut v.master.chain word

have_whole : (v : View) (c : List Entry) (from p count : ℕ) (rest : List Message) (word : Message) → Prefixes v → Whole v c → v.channel (parties.Server from) parties.Master ≡ Have p count ∷ rest → stands_before p from (extended v.master) ≡ true → Naming v p from count word
    → Whole (said (drained v (parties.Server from) parties.Master rest) v.master ((parties.Server p, word) ∷ [])) c
have_whole v c from p count rest word g h at before o = record {
  pred_known = h.pred_known;
  succ_known = h.succ_known;
  orders_known = λ j. each_one (Known v.master.used) j p word (v.channel parties.Master (parties.Server j)) (h.orders_known j) (λ e. o.known);
  reports_known = λ j. left_one v from (Have p count) rest (Known v.master.used) j at (h.reports_known j);
  unheard = λ a id unused. subst (λ ms. Each NoData ms) (sym (aside v from rest a id)) (h.unheard a id unused);
  token = λ a s m there. token a s m there (eqb a p) (eqb s from) refl refl;
  ends = λ a m. one_more a p word (λ ms. Ends (extended v.master) ms) (v.channel parties.Master (parties.Server a)) (λ e. subst (λ i. Ends (extended v.master) (v.channel parties.Master (parties.Server i) ++ word ∷ [])) (sym (eqb-true a p e)) (ends-more (extended v.master) (v.channel parties.Master (parties.Server p)) word none_told o.ends)) (λ e. h.ends a m);
  follows = λ a s m there link. one_more a p word (λ ms. Each (OnlyTo s) ms) (v.channel parties.Master (parties.Server a)) (λ e. absurd (unlinked s there (subst (λ i. is_that (v.server i).succ s ≡ true) (eqb-true a p e) link))) (λ e. h.follows a s m there link);
  counts = λ a s is. left_one v from (Have p count) rest (HaveIs a (length (v.server s).entries)) s at (h.counts a s is);
  adopts = λ a s is none. each_one (AdoptIs s (length (v.server s).entries)) a p word (v.channel parties.Master (parties.Server a)) (h.adopts a s is none) (λ e. o.so s (length (v.server s).entries) (λ same. so ∙ ap (λ i. length (v.server i).entries) (eqb-true from s same)));
  data_none = λ a s there none. subst (λ ms. Each NoData ms) (sym (aside v from rest a s)) (h.data_none a s there none);
  linked_told = λ a s there link. same_told a s ∙ h.linked_told a s there link;
  feed = λ a s there is_pred link. subst (λ ms. Feeds (length (v.server s).entries) ms (length (v.server a).entries)) (sym (aside v from rest a s)) (h.feed a s there is_pred link);
  snap = λ a s there is_pred. subst (λ ms. Each (OfSnap (length (v.server s).entries < length c)) ms) (sym (aside v from rest a s)) (h.snap a s there is_pred);
  young_succ = h.young_succ;
  acked = h.acked;
  acks = λ a s. subst (λ ms. Each (AckWithin (length c)) ms) (sym (aside v from rest a s)) (h.acks a s);
  floors = h.floors;
  fed_by = λ j t joins last. same_ups v v.master p j t word g o.member joins (h.fed_by j t joins last);
  caught = λ j t joins last. subst (λ ms. Each (Catches ((is_that (v.server t).succ j ≡ true) × Each NoSnap ms)) ((drained v (parties.Server from) parties.Master rest).channel (parties.Server j) parties.Master)) (sym (aside v from rest t j))
      (left_one v from (Have p count) rest (Catches ((is_that (v.server t).succ j ≡ true) × Each NoSnap (v.channel (parties.Server t) (parties.Server j)))) j at (h.caught j t joins last));
  feeds_out = λ a member. each_one (FeedsOut v.master.chain) a p word (v.channel parties.Master (parties.Server a)) (h.feeds_out a member) (λ e. o.out);
} where
  members : (is_in (extended v.master) p ≡ true) × (is_in (extended v.master) from ≡ true)
  members = before-in p from (extended v.master) before

  same_told : (a s : ℕ) → reports_of a (v.channel parties.Master (parties.Server s) ++ told_to s ((parties.Server p, word) ∷ [])) ≡ reports_of a (v.channel parties.Master (parties.Server s))
  same_told a s = one_more s p word (λ ms. reports_of a ms ≡ reports_of a (v.channel parties.Master (parties.Server s))) (v.channel parties.Master (parties.Server s)) (λ e. omega (arith, reports-append a (v.channel parties.Master (parties.Server s)) (word ∷ []), o.untold a)) (λ e. refl)

  -- the word itself is the one token
  one_have : haves_of p (v.channel (parties.Server from) parties.Master) ≡ suc (haves_of p rest)
  one_have = ap (λ ms. haves_of p ms) at ∙ ap (λ t. cond t (suc (haves_of p rest)) (haves_of p rest)) (eq-eqb p p refl)

  one_token : tokens v p from ≡ 1
  one_token = h.token p from members.0 members.1 ∙ ap (λ t. bit t) before

  no_link : (t : Bool) → is_that (v.server p).succ from ≡ t → t ≡ false
  no_link false e = refl
  no_link true e = absurd (omega (arith, one_token, one_have, ap (λ u. cond u 1 (adopts_of from (v.channel parties.Master (parties.Server p)))) e))

  free_link : links (v.server p).succ from (v.channel parties.Master (parties.Server p)) ≡ 0
  free_link = omega (arith, one_token, one_have)

  unadopted : (adopts_of from (v.channel parties.Master (parties.Server p)) ≡ 0) × (feeds_of from (v.channel parties.Master (parties.Server p)) ≡ 0)
  unadopted = (omega (arith, free_link, ap (λ u. cond u 1 (adopts_of from (v.channel parties.Master (parties.Server p)))) (no_link (is_that (v.server p).succ from) refl)), omega (arith, free_link))

  -- another one of the extended chain isn't named either
  same_as : (s : ℕ) → is_in (extended v.master) s ≡ true → 1 ≤ tokens v p s → s ≡ from
  same_as s there some = behind-one p s from (extended v.master) g.apart (token-before v c p s h members.0 there some) before

  none_told : (s : ℕ) → is_in (extended v.master) s ≡ true → (adopts_of s (v.channel parties.Master (parties.Server p)) ≡ 0) × (feeds_of s (v.channel parties.Master (parties.Server p)) ≡ 0)
  none_told s there = (first (adopts_of s (v.channel parties.Master (parties.Server p))) refl, second (feeds_of s (v.channel parties.Master (parties.Server p))) refl) where
    first : (n : ℕ) → adopts_of s (v.channel parties.Master (parties.Server p)) ≡ n → n ≡ 0
    first zero e = refl
    first (suc n) e = absurd (omega (arith, e, ap (λ i. adopts_of i (v.channel parties.Master (parties.Server p))) (same_as s there (adopt-token v p s (omega (arith, e)))), unadopted.0))

    second : (n : ℕ) → feeds_of s (v.channel parties.Master (parties.Server p)) ≡ n → n ≡ 0
    second zero e = refl
    second (suc n) e = absurd (omega (arith, e, ap (λ i. feeds_of i (v.channel parties.Master (parties.Server p))) (same_as s there (feed-token v p s (omega (arith, e)))), unadopted.1))

  unlinked : (s : ℕ) → is_in (extended v.master) s ≡ true → is_that (v.server p).succ s ≡ true → ⊥
  unlinked s there link =
      both_ways (is_that (v.server p).succ from) (no_link (is_that (v.server p).succ from) refl) (subst (λ i. is_that (v.server p).succ i ≡ true) (same_as s there (linked-token v p s link)) link)

  so : count ≡ length (v.server from).entries
  so = (subst (λ ms. Each (HaveIs p (length (v.server from).entries)) ms) at (h.counts p from before)).0 (eq-eqb p p refl)

  -- what is left to hear
  left_haves : (a s : ℕ) → (t : Bool) → eqb s from ≡ t → (u : Bool) → eqb a p ≡ u → haves_of a ((drained v (parties.Server from) parties.Master rest).channel (parties.Server s) parties.Master) + bit (u && t) ≡ haves_of a (v.channel (parties.Server s) parties.Master)
  left_haves a s false e u f = omega (arith, ap (λ ms. haves_of a ms) (left_row v from rest s ∙ if_false (eqb s from) rest (v.channel (parties.Server s) parties.Master) e), no_bit u) where
    no_bit : (x : Bool) → bit (x && false) ≡ 0
    no_bit true = refl
    no_bit false = refl
  left_haves a s true e true f = omega (arith, ap (λ ms. haves_of a ms) (left_row v from rest s ∙ if_true (eqb s from) rest (v.channel (parties.Server s) parties.Master) e), ap (λ i. haves_of i rest) (eqb-true a p f), one_have, ap (λ i. haves_of a (v.channel (parties.Server i) parties.Master)) (eqb-true s from e), ap (λ i. haves_of i (v.channel (parties.Server from) parties.Master)) (eqb-true a p f))
  left_haves a s true e false f = omega (arith, ap (λ ms. haves_of a ms) (left_row v from rest s ∙ if_true (eqb s from) rest (v.channel (parties.Server s) parties.Master) e), ap (λ i. haves_of a (v.channel (parties.Server i) parties.Master)) (eqb-true s from e), ap (λ ms. haves_of a ms) at, ap (λ t. cond t (suc (haves_of a rest)) (haves_of a rest)) (eqb_turned a p f))

  -- what is told of successors
  more_links : (a s : ℕ) → is_in (extended v.master) s ≡ true → (u t : Bool) → eqb a p ≡ u → eqb s from ≡ t → links (v.server a).succ s (v.channel parties.Master (parties.Server a) ++ told_to a ((parties.Server p, word) ∷ [])) ≡ links (v.server a).succ s (v.channel parties.Master (parties.Server a)) + bit (u && t)
  more_links a s there false t e f = omega (arith, ap (λ ms. links (v.server a).succ s ms) (ap (λ us. v.channel parties.Master (parties.Server a) ++ us) (one_told a p word false e) ∙ append-nil (v.channel parties.Master (parties.Server a))))
  more_links a s there true t e f =
      let none = subst (λ i. is_that (v.server i).succ s ≡ false) (sym (eqb-true a p e)) (by_link s there (is_that (v.server p).succ s) refl) in
      omega (
        arith,
        ap (λ u. cond u 1 (adopts_of s (v.channel parties.Master (parties.Server a) ++ told_to a ((parties.Server p, word) ∷ [])))) none,
        ap (λ u. cond u 1 (adopts_of s (v.channel parties.Master (parties.Server a)))) none,
        ap (λ us. adopts_of s (v.channel parties.Master (parties.Server a) ++ us)) (one_told a p word true e),
        ap (λ us. feeds_of s (v.channel parties.Master (parties.Server a) ++ us)) (one_told a p word true e),
        adopts-append s (v.channel parties.Master (parties.Server a)) (word ∷ []),
        fed-append s (v.channel parties.Master (parties.Server a)) (word ∷ []),
        o.named s,
        named_bit s t f,
      ) where
        by_link : (i : ℕ) → is_in (extended v.master) i ≡ true → (u : Bool) → is_that (v.server p).succ i ≡ u → is_that (v.server p).succ i ≡ false
        by_link i here true link = absurd (unlinked i here link)
        by_link i here false none = none

        named_bit : (i : ℕ) (u : Bool) → eqb i from ≡ u → bit (eqb from i) ≡ bit (true && u)
        named_bit i true same = ap (λ b. bit b) (eq-eqb from i (sym (eqb-true i from same)))
        named_bit i false other = ap (λ b. bit b) (eqb_turned i from other)

  token : (a s : ℕ) → is_in (extended v.master) a ≡ true → is_in (extended v.master) s ≡ true → (u t : Bool) → eqb a p ≡ u → eqb s from ≡ t
      → reports_of a (v.channel parties.Master (parties.Server s) ++ told_to s ((parties.Server p, word) ∷ [])) + (haves_of a ((drained v (parties.Server from) parties.Master rest).channel (parties.Server s) parties.Master) + links (v.server a).succ s (v.channel parties.Master (parties.Server a) ++ told_to a ((parties.Server p, word) ∷ [])))
      ≡ bit (stands_before a s (extended v.master))
  token a s m there u t e f = omega (arith, same_told a s, left_haves a s t f u e, more_links a s there u t e f, h.token a s m there)

-- ---- a server becomes a member

-- a row that names one successor, and then a word on the same one
ends_same : (extended : List ℕ) (s count : ℕ) (ms : List Message) → Each (OnlyTo s) ms → Ends extended ms → Ends extended (ms ++ Adopt s count ∷ [])
ends_same extended s count [] only h = ((λ there. tt), tt)
ends_same extended s count (m ∷ ms) only h = step m only.0 h (λ k. ends_same extended s count ms only.1 k) where
  more : (q : ℕ) → eqb q s ≡ true → Each (OnlyTo q) ms → Each (OnlyTo q) (ms ++ Adopt s count ∷ [])
  more q same k = each-append (OnlyTo q) ms (Adopt s count ∷ []) k (eq-eqb s q (sym (eqb-true q s same)), tt)

  step : (x : Message) → OnlyTo s x → Ends extended (x ∷ ms) → (Ends extended ms → Ends extended (ms ++ Adopt s count ∷ [])) → Ends extended (x ∷ (ms ++ Adopt s count ∷ []))
  step (Adopt q n) same k later = ((λ there. more q same (k.0 there)), later k.1)
  step (Feed (Some q)) same k later = ((λ there. more q same (k.0 there)), later k.1)
  step x same k later = later (rest_of x k) where
    rest_of : (y : Message) → Ends extended (y ∷ ms) → Ends extended ms
    rest_of (Adopt q n) f = f.1
    rest_of (Feed (Some q)) f = f.1
    rest_of y f = f

-- who is to be fed is none of more members either, if it isn't the new one
still_out : (chain : List ℕ) (s q : ℕ) → eqb q s ≡ false → is_in chain q ≡ false → is_in (chain ++ s ∷ []) q ≡ false
still_out chain s q other out = elim (cases_Bool (is_in (chain ++ s ∷ []) q)) [
  | inr no_member ↦ no_member
  | inl there ↦ elim (in_more chain s q there) [ inl was ↦ absurd (both_ways (is_in chain q) out was) | inr same ↦ absurd (both_ways (eqb q s) other (eq-eqb q s (sym (eqb-true s q same)))) ]
]

out_more_one : (chain : List ℕ) (s q n : ℕ) → cond (eqb q s) (suc n) n ≡ 0 → is_in chain q ≡ false → (is_in (chain ++ s ∷ []) q ≡ false) × (n ≡ 0)
out_more_one chain s q n none out = go (eqb q s) refl none where
  go : (t : Bool) → eqb q s ≡ t → cond t (suc n) n ≡ 0 → (is_in (chain ++ s ∷ []) q ≡ false) × (n ≡ 0)
  go true e k = absurd (omega (arith, k))
  go false e k = (still_out chain s q e out, k)

out_more_feeds : (chain : List ℕ) (s : ℕ) (ms : List Message) → feeds_of s ms ≡ 0 → Each (FeedsOut chain) ms → Each (FeedsOut (chain ++ s ∷ [])) ms
out_more_feeds chain s [] none h = tt
out_more_feeds chain s (m ∷ ms) none h = step m none h (λ e k. out_more_feeds chain s ms e k) where
  step : (x : Message) → feeds_of s (x ∷ ms) ≡ 0 → Each (FeedsOut chain) (x ∷ ms) → (feeds_of s ms ≡ 0 → Each (FeedsOut chain) ms → Each (FeedsOut (chain ++ s ∷ [])) ms) → Each (FeedsOut (chain ++ s ∷ [])) (x ∷ ms)
  step (Feed (Some q)) e k later = let both = out_more_one chain s q (feeds_of s ms) e k.0 in (both.0, later both.1 k.1)
  step x e k later = other x e k later where
    other : (y : Message) → feeds_of s (y ∷ ms) ≡ 0 → Each (FeedsOut chain) (y ∷ ms) → (feeds_of s ms ≡ 0 → Each (FeedsOut chain) ms → Each (FeedsOut (chain ++ s ∷ [])) ms) → Each (FeedsOut (chain ++ s ∷ [])) (y ∷ ms)
    other (Feed (Some q)) n g l = let both = out_more_one chain s q (feeds_of s ms) n g.0 in (both.0, l both.1 g.1)
    other y n g l = (tt, l n g.1)

harmless_feeds : (chain : List ℕ) (ms : List Message) → Each Harmless ms → Each (FeedsOut chain) ms
harmless_feeds chain [] h = tt
harmless_feeds chain (m ∷ ms) h = (one_out m h.0, harmless_feeds chain ms h.1) where
  one_out : (y : Message) → Harmless y → FeedsOut chain y
  one_out (Feed o) g = absurd g
  one_out y g = tt

-- The server that joins is put at the end of the chain, and the last member before it, which feeds it, is to hand over.
caught_whole : (v : View) (c : List Entry) (p from count : ℕ) → Prefixes v → Whole v c → is_that v.master.joiner from ≡ true → is_last v.master.chain p ≡ true
    → (is_that (v.server p).succ from ≡ true) × Each NoSnap (v.channel (parties.Server p) (parties.Server from)) → Whole (said v (admitted p from count v.master).master (admitted p from count v.master).said) c
caught_whole v c p from count g h joins last fed = record {
  pred_known = h.pred_known;
  succ_known = h.succ_known;
  orders_known = λ j. each_one (Known v.master.used) j p word (row j) (h.orders_known j) (λ e. g.members from there);
  reports_known = h.reports_known;
  unheard = h.unheard;
  token = λ a s m n. ap (λ x. x + (haves_of a (v.channel (parties.Server s) parties.Master) + links (v.server a).succ s (row a ++ told_to a ((parties.Server p, word) ∷ [])))) (same_told a s)
      ∙ ap (λ x. reports_of a (row s) + (haves_of a (v.channel (parties.Server s) parties.Master) + x)) (same_links a s) ∙ h.token a s (was a m) (was s n) ∙ ap (λ us. bit (stands_before a s us)) stays;
  ends = λ a m. subst (λ us. Ends us (row a ++ told_to a ((parties.Server p, word) ∷ []))) stays (one_more a p word (λ ms. Ends (extended v.master) ms) (row a)
      (λ e. subst (λ i. Ends (extended v.master) (row i ++ word ∷ [])) (sym (eqb-true a p e)) (ends_same (extended v.master) from count (row p) only (h.ends p there_p))) (λ e. h.ends a (was a m)));
  follows = λ a s m n link. one_more a p word (λ ms. Each (OnlyTo s) ms) (row a)
      (λ e. each-append (OnlyTo s) (row a) (word ∷ []) (h.follows a s (was a m) (was s n) link) (eq-eqb from s (one_succ s (subst (λ i. is_that (v.server i).succ s ≡ true) (eqb-true a p e) link)), tt)) (λ e. h.follows a s (was a m) (was s n) link);
  counts = λ a s before. h.counts a s (subst (λ us. stands_before a s us ≡ true) (sym stays) before);
  adopts = λ a s before none. each_one (AdoptIs s (length (v.server s).entries)) a p word (row a) (h.adopts a s (subst (λ us. stands_before a s us ≡ true) (sym stays) before) none)
      (λ e same. absurd (both_ways (is_that (v.server p).succ from) (subst (λ i. is_that (v.server p).succ i ≡ false) (sym (eqb-true from s same)) (subst (λ i. is_that (v.server i).succ s ≡ false) (eqb-true a p e) none)) fed.0));
  data_none = λ a s n none. h.data_none a s (was s n) none;
  linked_told = λ a s n link. same_told a s ∙ h.linked_told a s (was s n) link;
  feed = λ a s n is_pred link. h.feed a s (was s n) is_pred link;
  snap = λ a s n is_pred. elim (in_more v.master.chain from s n) [
    | inl member ↦ h.snap a s member is_pred
    | inr new ↦ snaps a s (eqb-true from s new) is_pred
  ];
  young_succ = λ id n young. elim (in_more v.master.chain from id n) [ inl member ↦ h.young_succ id member young | inr new ↦ (by id new).succ ];
  acked = h.acked;
  acks = h.acks;
  floors = λ id n full. elim (in_more v.master.chain from id n) [ inl member ↦ h.floors id member full | inr new ↦ absurd (both_ways (v.server id).full (by id new).full full) ];
  fed_by = λ j t none. absurd (false≢true none);
  caught = λ j t none. absurd (false≢true none);
  feeds_out = λ a n. each_one (FeedsOut (v.master.chain ++ from ∷ [])) a p word (row a) (elim (in_more v.master.chain from a n) [
    | inl member ↦ out_more_feeds v.master.chain from (row a) (unfed a member) (h.feeds_out a member)
    | inr new ↦ harmless_feeds (v.master.chain ++ from ∷ []) (row a) (by a new).told
  ]) (λ e. tt);
} where
  word : Message
  word = Adopt from count

  row : ℕ → List Message
  row j = v.channel parties.Master (parties.Server j)

  stays : extended v.master ≡ v.master.chain ++ from ∷ []
  stays = ap (λ o. extended_of v.master.chain o) (that_some v.master.joiner from joins)

  was : (j : ℕ) → is_in (v.master.chain ++ from ∷ []) j ≡ true → is_in (extended v.master) j ≡ true
  was j n = subst (λ us. is_in us j ≡ true) (sym stays) n

  member_p : is_in v.master.chain p ≡ true
  member_p = last-in v.master.chain p last

  there_p : is_in (extended v.master) p ≡ true
  there_p = member-extended v.master.chain v.master.joiner p member_p

  there : is_in (extended v.master) from ≡ true
  there = joiner-extended v.master.chain v.master.joiner from joins

  by : (j : ℕ) → eqb from j ≡ true → Outsider (v.server j) (v.channel parties.Master (parties.Server j))
  by j new = subst (λ i. Outsider (v.server i) (v.channel parties.Master (parties.Server i))) (eqb-true from j new) (g.aside from joins)

  only : Each (OnlyTo from) (v.channel parties.Master (parties.Server p))
  only = h.follows p from there_p there fed.0

  one_succ : (s : ℕ) → is_that (v.server p).succ s ≡ true → from ≡ s
  one_succ s link = same (sym (that_some (v.server p).succ from fed.0) ∙ that_some (v.server p).succ s link) where
    same : Some from ≡ Some s → from ≡ s
    same e = cc

  same_told : (a s : ℕ) → reports_of a (v.channel parties.Master (parties.Server s) ++ told_to s ((parties.Server p, Adopt from count) ∷ [])) ≡ reports_of a (v.channel parties.Master (parties.Server s))
  same_told a s = one_more s p (Adopt from count) (λ ms. reports_of a ms ≡ reports_of a (v.channel parties.Master (parties.Server s))) (v.channel parties.Master (parties.Server s)) (λ e. omega (arith, reports-append a (v.channel parties.Master (parties.Server s)) (Adopt from count ∷ []))) (λ e. refl)

  -- it is linked already, so the word counts for nothing
  same_links : (a s : ℕ) → links (v.server a).succ s (v.channel parties.Master (parties.Server a) ++ told_to a ((parties.Server p, Adopt from count) ∷ [])) ≡ links (v.server a).succ s (v.channel parties.Master (parties.Server a))
  same_links a s = one_more a p (Adopt from count) (λ ms. links (v.server a).succ s ms ≡ links (v.server a).succ s (v.channel parties.Master (parties.Server a))) (v.channel parties.Master (parties.Server a)) (λ e. go e (eqb from s) refl) (λ e. refl) where
    us : List Message
    us = v.channel parties.Master (parties.Server a)

    go : eqb a p ≡ true → (t : Bool) → eqb from s ≡ t → links (v.server a).succ s (v.channel parties.Master (parties.Server a) ++ Adopt from count ∷ []) ≡ links (v.server a).succ s (v.channel parties.Master (parties.Server a))
    go e true same = let link = subst (λ i. is_that (v.server i).succ s ≡ true) (sym (eqb-true a p e)) (subst (λ i. is_that (v.server p).succ i ≡ true) (eqb-true from s same) fed.0) in
        omega (arith, fed-append s us (Adopt from count ∷ []), ap (λ t. cond t 1 (adopts_of s (us ++ Adopt from count ∷ []))) link, ap (λ t. cond t 1 (adopts_of s us)) link)
    go e false other = ap (λ n. n + cond (is_that (v.server a).succ s) 1 (adopts_of s (us ++ Adopt from count ∷ []))) (fed-append s us (Adopt from count ∷ []) ∙ plus_none (feeds_of s us))
        ∙ ap (λ n. feeds_of s us + cond (is_that (v.server a).succ s) 1 n) (adopts-append s us (Adopt from count ∷ []) ∙ ap (λ t. adopts_of s us + cond t (suc (adopts_of s [])) (adopts_of s [])) other ∙ plus_none (adopts_of s us)) where
          plus_none : (n : ℕ) → n + 0 ≡ n
          plus_none n = omega arith

  snaps : (a s : ℕ) → from ≡ s → (v.server s).pred ≡ Some a → Each (OfSnap (length (v.server s).entries < length c)) (v.channel (parties.Server a) (parties.Server s))
  snaps a s new is_pred = subst (λ i. Each (OfSnap (length (v.server i).entries < length c)) (v.channel (parties.Server a) (parties.Server i))) new
      (subst (λ i. Each (OfSnap (length (v.server from).entries < length c)) (v.channel (parties.Server i) (parties.Server from))) (sym (linked_ups v c from a p h joins last (subst (λ i. (v.server i).pred ≡ Some a) (sym new) is_pred)))
      (each-follows NoSnap (OfSnap (length (v.server from).entries < length c)) (v.channel (parties.Server p) (parties.Server from)) (no-snap (length (v.server from).entries < length c)) fed.1))

  -- no member is told to feed it any more
  unfed : (a : ℕ) → is_in v.master.chain a ≡ true → feeds_of from (v.channel parties.Master (parties.Server a)) ≡ 0
  unfed a member = go (eqb a p) refl where
    token_of : tokens v a from ≡ bit (is_last v.master.chain a)
    token_of = h.token a from (member-extended v.master.chain v.master.joiner a member) there ∙ ap (λ t. bit t) (joiner-before v.master.chain v.master.joiner a from g.apart joins)

    go : (t : Bool) → eqb a p ≡ t → feeds_of from (v.channel parties.Master (parties.Server a)) ≡ 0
    go true e = omega (arith, token_of, one_bit (is_last v.master.chain a), ap (λ t. cond t 1 (adopts_of from (v.channel parties.Master (parties.Server a)))) (subst (λ i. is_that (v.server i).succ from ≡ true) (sym (eqb-true a p e)) fed.0)) where
      one_bit : (t : Bool) → bit t ≤ 1
      one_bit true = omega arith
      one_bit false = omega arith
    go false e = omega (arith, token_of, ap (λ t. bit t) not_last) where
      not_last : is_last v.master.chain a ≡ false
      not_last = elim (cases_Bool (is_last v.master.chain a)) [ inl is ↦ absurd (both_ways (eqb a p) e (eq-eqb a p (last-one v.master.chain a p is last))) | inr no_last ↦ no_last ]

-- ---- the last one is told

-- a word that takes away a successor, or tells of none
pub record Closing (word : Message) : Type 0 where
  pub untold : (a : ℕ) → reports_of a (word ∷ []) ≡ 0
  pub known : (used : List ℕ) → Known used word
  pub fed : (s : ℕ) → feeds_of s (word ∷ []) ≡ 0
  pub named : (s : ℕ) → adopts_of s (word ∷ []) ≡ 0
  pub ends : (extended : List ℕ) → Ends extended (word ∷ [])
  pub so : (s n : ℕ) → AdoptIs s n word
  pub out : (chain : List ℕ) → FeedsOut chain word

pub closing-tail : (count : ℕ) → Closing (BeTail count)
closing-tail count = record { untold = λ a. refl; known = λ used. tt; fed = λ s. refl; named = λ s. refl; ends = λ extended. tt; so = λ s n. tt; out = λ chain. tt }

pub closing-feed : Closing (Feed None)
closing-feed = record { untold = λ a. refl; known = λ used. tt; fed = λ s. refl; named = λ s. refl; ends = λ extended. tt; so = λ s n. tt; out = λ chain. tt }

-- the last one of the extended chain is told, and no server joins
pub tail_whole : (v : View) (c : List Entry) (z : ℕ) (word : Message) (m : Master) → Prefixes v → Whole v c → Closing word → is_last v.master.chain z ≡ true → v.master.joiner ≡ None → m.joiner ≡ None → m.chain ≡ v.master.chain → m.used ≡ v.master.used
    → Whole (said v m ((parties.Server z, word) ∷ [])) c
tail_whole v c z word m g h o last_member alone alone_now chain used = record {
  pred_known = λ id p is. subst (λ us. is_in us p ≡ true) (sym used) (h.pred_known id p is);
  succ_known = λ id s is. subst (λ us. is_in us s ≡ true) (sym used) (h.succ_known id s is);
  orders_known = λ j. subst (λ us. Each (Known us) (v.channel parties.Master (parties.Server j) ++ told_to j ((parties.Server z, word) ∷ []))) (sym used) (each_one (Known v.master.used) j z word (v.channel parties.Master (parties.Server j)) (h.orders_known j) (λ e. o.known v.master.used));
  reports_known = λ j. subst (λ us. Each (Known us) (v.channel (parties.Server j) parties.Master)) (sym used) (h.reports_known j);
  unheard = λ p id unused. h.unheard p id (subst (λ us. is_in us id ≡ false) used unused);
  token = λ p s a b. ap (λ n. n + (haves_of p (v.channel (parties.Server s) parties.Master) + links (v.server p).succ s (v.channel parties.Master (parties.Server p) ++ told_to p ((parties.Server z, word) ∷ [])))) (same_told p s)
      ∙ ap (λ n. reports_of p (v.channel parties.Master (parties.Server s)) + (haves_of p (v.channel (parties.Server s) parties.Master) + n)) (same_links p s)
      ∙ h.token p s (was p a) (was s b) ∙ ap (λ us. bit (stands_before p s us)) (sym stays);
  ends = λ p a. subst (λ us. Ends us (v.channel parties.Master (parties.Server p) ++ told_to p ((parties.Server z, word) ∷ []))) (sym stays)
      (one_more p z word (λ ms. Ends (extended v.master) ms) (v.channel parties.Master (parties.Server p)) (λ e. subst (λ i. Ends (extended v.master) (v.channel parties.Master (parties.Server i) ++ word ∷ [])) (sym (eqb-true p z e)) (ends-more (extended v.master) (v.channel parties.Master (parties.Server z)) word none_told (o.ends (extended v.master)))) (λ e. h.ends p (was p a)));
  follows = λ p s a b link. one_more p z word (λ ms. Each (OnlyTo s) ms) (v.channel parties.Master (parties.Server p)) (λ e. absurd (behind s (was s b) (linked-token v z s (subst (λ i. is_that (v.server i).succ s ≡ true) (eqb-true p z e) link)))) (λ e. h.follows p s (was p a) (was s b) link);
  counts = λ p s before. h.counts p s (subst (λ us. stands_before p s us ≡ true) stays before);
  adopts = λ p s before none. each_one (AdoptIs s (length (v.server s).entries)) p z word (v.channel parties.Master (parties.Server p)) (h.adopts p s (subst (λ us. stands_before p s us ≡ true) stays before) none) (λ e. o.so s (length (v.server s).entries));
  data_none = λ p s a none. h.data_none p s (was s a) none;
  linked_told = λ p s a link. same_told p s ∙ h.linked_told p s (was s a) link;
  feed = λ p s a is_pred link. h.feed p s (was s a) is_pred link;
  snap = λ p s a is_pred. h.snap p s (was_member s a) is_pred;
  young_succ = λ id a young. h.young_succ id (was_member id a) young;
  acked = h.acked;
  acks = h.acks;
  floors = λ id a full. h.floors id (was_member id a) full;
  fed_by = λ j t joins. absurd (false≢true (sym (ap (λ x. is_that x j) alone_now) ∙ joins));
  caught = λ j t joins. absurd (false≢true (sym (ap (λ x. is_that x j) alone_now) ∙ joins));
  feeds_out = λ p a. subst (λ us. Each (FeedsOut us) (v.channel parties.Master (parties.Server p) ++ told_to p ((parties.Server z, word) ∷ []))) (sym chain) (each_one (FeedsOut v.master.chain) p z word (v.channel parties.Master (parties.Server p)) (h.feeds_out p (was_member p a)) (λ e. o.out v.master.chain));
} where
  stays : extended m ≡ extended v.master
  stays = ap (λ x. extended_of m.chain x) alone_now ∙ chain ∙ sym (ap (λ x. extended_of v.master.chain x) alone)

  last : is_last (extended v.master) z ≡ true
  last = ap (λ x. is_last (extended_of v.master.chain x) z) alone ∙ last_member

  was : (j : ℕ) → is_in (extended m) j ≡ true → is_in (extended v.master) j ≡ true
  was j a = subst (λ us. is_in us j ≡ true) stays a

  was_member : (j : ℕ) → is_in m.chain j ≡ true → is_in v.master.chain j ≡ true
  was_member j a = subst (λ us. is_in us j ≡ true) chain a

  same_told : (p s : ℕ) → reports_of p (v.channel parties.Master (parties.Server s) ++ told_to s ((parties.Server z, word) ∷ [])) ≡ reports_of p (v.channel parties.Master (parties.Server s))
  same_told p s = one_more s z word (λ ms. reports_of p ms ≡ reports_of p (v.channel parties.Master (parties.Server s))) (v.channel parties.Master (parties.Server s)) (λ e. omega (arith, reports-append p (v.channel parties.Master (parties.Server s)) (word ∷ []), o.untold p)) (λ e. refl)

  same_links : (p s : ℕ) → links (v.server p).succ s (v.channel parties.Master (parties.Server p) ++ told_to p ((parties.Server z, word) ∷ [])) ≡ links (v.server p).succ s (v.channel parties.Master (parties.Server p))
  same_links p s = one_more p z word (λ ms. links (v.server p).succ s ms ≡ links (v.server p).succ s (v.channel parties.Master (parties.Server p))) (v.channel parties.Master (parties.Server p))
      (λ e. ap (λ n. n + cond (is_that (v.server p).succ s) 1 (adopts_of s (us ++ word ∷ []))) (more_none (feeds_of s (us ++ word ∷ [])) (feeds_of s us) (feeds_of s (word ∷ [])) (fed-append s us (word ∷ [])) (o.fed s))
      ∙ ap (λ n. feeds_of s us + cond (is_that (v.server p).succ s) 1 n) (more_none (adopts_of s (us ++ word ∷ [])) (adopts_of s us) (adopts_of s (word ∷ [])) (adopts-append s us (word ∷ [])) (o.named s))) (λ e. refl) where
        us : List Message
        us = v.channel parties.Master (parties.Server p)

        more_none : (a b d : ℕ) → a ≡ b + d → d ≡ 0 → a ≡ b
        more_none a b d e f = omega (arith, e, f)

  behind : (s : ℕ) → is_in (extended v.master) s ≡ true → 1 ≤ tokens v z s → ⊥
  behind s there some = before-last z s (extended v.master) g.apart (token-before v c z s h (last-in (extended v.master) z last) there some) last

  none_told : (s : ℕ) → is_in (extended v.master) s ≡ true → (adopts_of s (v.channel parties.Master (parties.Server z)) ≡ 0) × (feeds_of s (v.channel parties.Master (parties.Server z)) ≡ 0)
  none_told s there = no-token v z s (nothing (tokens v z s) refl) where
    nothing : (n : ℕ) → tokens v z s ≡ n → tokens v z s ≡ 0
    nothing zero e = e
    nothing (suc n) e = absurd (behind s there (omega (arith, e)))

-- ---- all that is heard

-- the extended chain is as it was where only what the master knows of the last one changes
known_whole : (v : View) (c : List Entry) (m : Master) → m.chain ≡ v.master.chain → m.joiner ≡ v.master.joiner → m.used ≡ v.master.used → Whole v c → Whole (record v { master = m }) c
known_whole v c m chain joiner used h = record {
  pred_known = λ id p is. subst (λ us. is_in us p ≡ true) (sym used) (h.pred_known id p is);
  succ_known = λ id s is. subst (λ us. is_in us s ≡ true) (sym used) (h.succ_known id s is);
  orders_known = λ j. subst (λ us. Each (Known us) (v.channel parties.Master (parties.Server j))) (sym used) (h.orders_known j);
  reports_known = λ j. subst (λ us. Each (Known us) (v.channel (parties.Server j) parties.Master)) (sym used) (h.reports_known j);
  unheard = λ p id unused. h.unheard p id (subst (λ us. is_in us id ≡ false) used unused);
  token = λ p s a b. h.token p s (was p a) (was s b) ∙ ap (λ us. bit (stands_before p s us)) (sym stays);
  ends = λ p a. subst (λ us. Ends us (v.channel parties.Master (parties.Server p))) (sym stays) (h.ends p (was p a));
  follows = λ p s a b link. h.follows p s (was p a) (was s b) link;
  counts = λ p s before. h.counts p s (subst (λ us. stands_before p s us ≡ true) stays before);
  adopts = λ p s before none. h.adopts p s (subst (λ us. stands_before p s us ≡ true) stays before) none;
  data_none = λ p s a none. h.data_none p s (was s a) none;
  linked_told = λ p s a link. h.linked_told p s (was s a) link;
  feed = λ p s a is_pred link. h.feed p s (was s a) is_pred link;
  snap = λ p s a is_pred. h.snap p s (was_member s a) is_pred;
  young_succ = λ id a young. h.young_succ id (was_member id a) young;
  acked = h.acked;
  acks = h.acks;
  floors = λ id a full. h.floors id (was_member id a) full;
  fed_by = λ j t joins last. h.fed_by j t (sym (ap (λ o. is_that o j) joiner) ∙ joins) (sym (ap (λ us. is_last us t) chain) ∙ last);
  caught = λ j t joins last. h.caught j t (sym (ap (λ o. is_that o j) joiner) ∙ joins) (sym (ap (λ us. is_last us t) chain) ∙ last);
  feeds_out = λ p a. subst (λ us. Each (FeedsOut us) (v.channel parties.Master (parties.Server p))) (sym chain) (h.feeds_out p (was_member p a));
} where
  stays : extended m ≡ extended v.master
  stays = ap (λ us. extended_of us m.joiner) chain ∙ ap (λ o. extended_of v.master.chain o) joiner

  was : (j : ℕ) → is_in (extended m) j ≡ true → is_in (extended v.master) j ≡ true
  was j a = subst (λ us. is_in us j ≡ true) stays a

  was_member : (j : ℕ) → is_in m.chain j ≡ true → is_in v.master.chain j ≡ true
  was_member j a = subst (λ us. is_in us j ≡ true) chain a

-- a word on a successor is for a member or for the server that joins
adopt_naming : (v : View) (p from count : ℕ) → Prefixes v → stands_before p from v.master.chain ≡ true → Naming v p from count (Adopt from count)
adopt_naming v p from count g before = record {
  member = (before-in p from v.master.chain before).0;
  untold = λ a. refl;
  known = chain-used v from g (before-in p from v.master.chain before).1;
  named = λ s. go (eqb from s);
  ends = ((λ there. tt), tt);
  so = λ s n h. h;
  out = tt;
} where
  go : (t : Bool) → 0 + cond t 1 0 ≡ bit t
  go true = refl
  go false = refl

feed_naming : (v : View) (p from count : ℕ) → Prefixes v → is_that v.master.joiner from ≡ true → is_last v.master.chain p ≡ true → Naming v p from count (Feed (Some from))
feed_naming v p from count g joins last = record {
  member = last-in v.master.chain p last;
  untold = λ a. refl;
  known = g.members from (joiner-extended v.master.chain v.master.joiner from joins);
  named = λ s. go (eqb from s);
  ends = ((λ there. tt), tt);
  so = λ s n h. tt;
  out = joiner-out v.master.chain v.master.joiner from g.apart joins;
} where
  go : (t : Bool) → cond t 1 0 + 0 ≡ bit t
  go true = refl
  go false = refl

-- Whatever the master hears, its order keeps all sentences.
pub heard-whole : (v : View) (c : List Entry) (from : ℕ) (word : Message) (rest : List Message) → Prefixes v → Prefixes (drained v (parties.Server from) parties.Master rest) → Commits v c → Whole v c → v.channel (parties.Server from) parties.Master ≡ word ∷ rest
    → Whole (said (drained v (parties.Server from) parties.Master rest) (hears from word v.master).master (hears from word v.master).said) c
unfolding hears
heard-whole v c from (Have p count) rest g d_prefixes k h at = go (stands_before p from v.master.chain) (joins_behind p from v.master) refl refl where
  d : View
  d = drained v (parties.Server from) parties.Master rest

  -- who is before it in the extended chain is before it in the chain, or is the last member, and it joins
  neither : stands_before p from v.master.chain ≡ false → joins_behind p from v.master ≡ false → is_in (extended v.master) from ≡ true → stands_before p from (extended v.master) ≡ false
  neither e f there = elim (extended-cases v.master.chain v.master.joiner from there) [
    | inl member ↦ extended-before v.master.chain v.master.joiner p from g.apart member ∙ e
    | inr joins ↦ joiner-before v.master.chain v.master.joiner p from g.apart joins ∙ sym (ap (λ t. t && is_last v.master.chain p) joins) ∙ f
  ]

  -- a predecessor that isn't one any more counts for nobody
  uncounted : stands_before p from v.master.chain ≡ false → joins_behind p from v.master ≡ false → (q : ℕ) → is_in (extended v.master) q ≡ true → is_in (extended v.master) from ≡ true → haves_of q rest ≡ cond (eqb p q) (suc (haves_of q rest)) (haves_of q rest)
  uncounted e f q m there = by_name (eqb p q) refl where
    by_name : (t : Bool) → eqb p q ≡ t → haves_of q rest ≡ cond t (suc (haves_of q rest)) (haves_of q rest)
    by_name false other = refl
    by_name true same = absurd (both_ways (stands_before p from (extended v.master)) (neither e f there) (subst (λ i. stands_before i from (extended v.master) ≡ true) (sym (eqb-true p q same))
        (token-before v c q from h m there (omega (arith, ap (λ ms. haves_of q ms) at, ap (λ t. cond t (suc (haves_of q rest)) (haves_of q rest)) same)))))

  go : (t u : Bool) → stands_before p from v.master.chain ≡ t → joins_behind p from v.master ≡ u
      → Whole (said d (cond t (record { master = v.master; said = (parties.Server p, Adopt from count) ∷ [] }) (cond u (record { master = v.master; said = (parties.Server p, Feed (Some from)) ∷ [] }) (no_order v.master))).master
      (cond t (record { master = v.master; said = (parties.Server p, Adopt from count) ∷ [] }) (cond u (record { master = v.master; said = (parties.Server p, Feed (Some from)) ∷ [] }) (no_order v.master))).said) c
  go true u e f = have_whole v c from p count rest (Adopt from count) g h at (extended-before v.master.chain v.master.joiner p from g.apart (before-in p from v.master.chain e).1 ∙ e) (adopt_naming v p from count g e)
  go false true e f =
      let both = and_parts (is_that v.master.joiner from) (is_last v.master.chain p) f in
      have_whole v c from p count rest (Feed (Some from)) g h at (joiner-before v.master.chain v.master.joiner p from g.apart both.0 ∙ both.1) (feed_naming v p from count g both.0 both.1)
  go false false e f = subst (λ w. Whole w c) (sym (said_nothing d v.master)) (drained_whole v c from (Have p count) rest h at (uncounted e f))
heard-whole v c from (Caught p count) rest g d_prefixes k h at = go (joins_behind p from v.master) refl where
  d : View
  d = drained v (parties.Server from) parties.Master rest

  quiet : Whole (drained v (parties.Server from) parties.Master rest) c
  quiet = drained_whole v c from (Caught p count) rest h at (λ q m there. refl)

  go : (t : Bool) → joins_behind p from v.master ≡ t → Whole (said d (cond t (admitted p from count v.master) (no_order v.master)).master (cond t (admitted p from count v.master) (no_order v.master)).said) c
  go true e =
      let both = and_parts (is_that v.master.joiner from) (is_last v.master.chain p) e in
      let fed = (subst (λ ms. Each (Catches ((is_that (v.server p).succ from ≡ true) × Each NoSnap (v.channel (parties.Server p) (parties.Server from)))) ms) at (h.caught from p both.0 both.1)).0 in
      caught_whole d c p from count d_prefixes quiet both.0 both.1 (fed.0, subst (λ ms. Each NoSnap ms) (sym (aside v from rest p from)) fed.1)
  go false e = subst (λ w. Whole w c) (sym (said_nothing d v.master)) quiet
heard-whole v c from (Adopted s count) rest g d_prefixes k h at = go (is_last v.master.chain s && not v.master.told) refl where
  d : View
  d = drained v (parties.Server from) parties.Master rest

  quiet : Whole (drained v (parties.Server from) parties.Master rest) c
  quiet = drained_whole v c from (Adopted s count) rest h at (λ q m there. refl)

  -- where the last member isn't told, no server joins
  nobody : not v.master.told ≡ true → (o : Option ℕ) → v.master.joiner ≡ o → o ≡ None
  nobody untold None e = refl
  nobody untold (Some j) e = absurd (false≢true (sym (ap (λ t. not t) (k.ready (k.joins_ready (ap (λ o. is_some o) e)))) ∙ untold))

  go : (t : Bool) → (is_last v.master.chain s && not v.master.told) ≡ t → Whole (said d (cond t (record { master = record v.master { told = true }; said = (parties.Server s, BeTail count) ∷ [] }) (no_order v.master)).master (cond t (record { master = record v.master { told = true }; said = (parties.Server s, BeTail count) ∷ [] }) (no_order v.master)).said) c
  go true e =
      let both = and_parts (is_last v.master.chain s) (not v.master.told) e in
      let alone = nobody both.1 v.master.joiner refl in
      tail_whole d c s (BeTail count) (record v.master { told = true }) d_prefixes quiet (closing-tail count) both.0 alone alone refl refl
  go false e = subst (λ w. Whole w c) (sym (said_nothing d v.master)) quiet
heard-whole v c from Ready rest g d_prefixes k h at = go (is_last v.master.chain from) where
  d : View
  d = drained v (parties.Server from) parties.Master rest

  quiet : Whole (drained v (parties.Server from) parties.Master rest) c
  quiet = drained_whole v c from Ready rest h at (λ q m there. refl)

  go : (t : Bool) → Whole (said d (cond t (record { master = record v.master { ready = true }; said = [] }) (no_order v.master)).master (cond t (record { master = record v.master { ready = true }; said = [] }) (no_order v.master)).said) c
  go true = subst (λ w. Whole w c) (sym (said_nothing d (record v.master { ready = true }))) (known_whole d c (record v.master { ready = true }) refl refl refl quiet)
  go false = subst (λ w. Whole w c) (sym (said_nothing d v.master)) quiet
heard-whole v c from word rest g d_prefixes k h at = subst (λ w. Whole w c) (sym (said_nothing (drained v (parties.Server from) parties.Master rest) v.master)) (drained_whole v c from word rest h at (λ q m there. refl))
