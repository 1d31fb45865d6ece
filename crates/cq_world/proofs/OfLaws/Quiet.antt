-- A chain in which nothing is on its way agrees.
use Rattle.std.proofs.Common.{◌≡◌, ℕ, ◌≤◌, ◌∙◌, ap, sym, arith, List, [], ◌∷◌, ◌++◌, length, ◌&&◌, not, Some, is_some, Bool, true, false, cond, eqb, subst, refl, inl, inr, append-nil, length-append}
use Rattle.std.proofs.lemmas.Bool.{eqb-true, eq-eqb, false≢true, or_cases}
use Rattle.cq_base.specs.declared.ask.Entry.{Entry}
use Rattle.cq_base.specs.declared.party.Party.{Party}
use Rattle.cq_base.specs.declared.party.Party.TheVariants as parties
use Rattle.cq_base.specs.Relations.{IsPrefix}
use Rattle.cq_chain.specs.Masters.{is_in, is_last, stands_before}
use Rattle.cq_chain.specs.Servers.{acts, is_that}
use Rattle.cq_world.specs.Laws.{IsOfChain, IsQuiet, QuietMembersAgree, QuietTailActs}
use Rattle.cq_events.specs.Runs.{world_after, longest_from}
use Rattle.cq_events.specs.Worlds.{World, first_world, channel}
use Rattle.cq_world.proofs.Chains.{last-in, before-in, before-behind, before-first}
use Rattle.cq_world.proofs.Commits.{Commits, tails, bit, waits}
use Rattle.cq_world.proofs.Wholes.Feeding.{Feeds}
use Rattle.cq_world.proofs.Running.{Good, first-good, runs-good}
use Rattle.cq_world.proofs.ExtendedChains.{member-extended, extended-before}
use Rattle.cq_world.proofs.Views.{view, extended}
use Rattle.cq_world.proofs.Prefixes.Steps.{below-pred}
use Rattle.cq_world.proofs.Wholes.Runs.{whole-of-run}
use Rattle.cq_world.proofs.Wholes.{Whole, reports_of, haves_of, adopts_of, feeds_of, tokens, stage-past}

-- nothing is on its way
empty_row : (w : World) (from to : Party) → IsQuiet w → IsOfChain w from → IsOfChain w to → channel w from to ≡ []
empty_row w from to q a b = ap (λ us. us ++ w.outbox from to) (q.links from to a b) ∙ q.outboxes from to a b

-- a prefix of the same length is the whole
whole_prefix : (xs ys : List Entry) → IsPrefix xs ys → length xs ≡ length ys → xs ≡ ys
whole_prefix xs ys h same = sym (h.1 ∙ ap (λ us. xs ++ us) (nothing h.0 (omega (arith, ap length h.1, length-append xs h.0, same))) ∙ append-nil xs) where
  nothing : (us : List Entry) → length us ≤ 0 → us ≡ []
  nothing [] le = refl
  nothing (u ∷ us) le = absurd (omega (arith, le))

-- neighbours agree
neighbours_agree : (w : World) (c : List Entry) (p s : ℕ) → Good w c → Whole (view w) c → IsQuiet w → stands_before p s w.master.chain ≡ true → (w.server s).entries ≡ (w.server p).entries
neighbours_agree w c p s good h q before = whole_prefix (w.server s).entries (w.server p).entries (below-pred (view w) s p good.prefixes is_pred) (subst (λ ms. Feeds (length (w.server s).entries) ms (length (w.server p).entries)) between (h.feed p s (in_extended s members.1) is_pred (linked (is_that (w.server p).succ s) refl))) where
  in_extended : (j : ℕ) → is_in w.master.chain j ≡ true → is_in (extended w.master) j ≡ true
  in_extended j member = member-extended w.master.chain w.master.joiner j member

  members : (is_in w.master.chain p ≡ true) × (is_in w.master.chain s ≡ true)
  members = before-in p s w.master.chain before

  between : channel w (parties.Server p) (parties.Server s) ≡ []
  between = empty_row w (parties.Server p) (parties.Server s) q members.0 members.1

  to_s : channel w parties.Master (parties.Server s) ≡ []
  to_s = empty_row w parties.Master (parties.Server s) q tt members.1

  to_p : channel w parties.Master (parties.Server p) ≡ []
  to_p = empty_row w parties.Master (parties.Server p) q tt members.0

  of_s : channel w (parties.Server s) parties.Master ≡ []
  of_s = empty_row w (parties.Server s) parties.Master q members.1 tt

  -- they are neighbours in the extended chain too
  extended_pair : stands_before p s (extended w.master) ≡ true
  extended_pair = extended-before w.master.chain w.master.joiner p s good.prefixes.apart members.1 ∙ before

  is_pred : (w.server s).pred ≡ Some p
  is_pred = (stage-past (view w) p s good.prefixes extended_pair (ap (λ ms. reports_of p ms) to_s)).0

  one_token : tokens (view w) p s ≡ 1
  one_token = h.token p s (in_extended p members.0) (in_extended s members.1) ∙ ap (λ b. bit b) extended_pair

  linked : (t : Bool) → is_that (w.server p).succ s ≡ t → is_that (w.server p).succ s ≡ true
  linked true e = e
  linked false e = absurd (omega (arith, one_token, ap (λ ms. reports_of p ms) to_s, ap (λ ms. haves_of p ms) of_s, ap (λ ms. adopts_of s ms) to_p, ap (λ ms. feeds_of s ms) to_p, ap (λ b. cond b 1 (adopts_of s (channel w parties.Master (parties.Server p)))) e))

-- so do all behind the first
behind_agree : (w : World) (a : ℕ) (rest : List ℕ) (s : ℕ) → ((p t : ℕ) → stands_before p t (a ∷ rest) ≡ true → (w.server t).entries ≡ (w.server p).entries) → is_in rest s ≡ true → (w.server s).entries ≡ (w.server a).entries
behind_agree w a [] s h there = absurd (false≢true there)
behind_agree w a (b ∷ rest) s h there = let next = h a b (before-first a b a b rest (eq-eqb a a refl) (eq-eqb b b refl)) in elim (or_cases (eqb b s) (is_in rest s) there) [
  | inl e ↦ subst (λ i. (w.server i).entries ≡ (w.server a).entries) (eqb-true b s e) next
  | inr later ↦ behind_agree w b rest s (λ p t before. h p t (before-behind p t a (b ∷ rest) before)) later ∙ next
]

-- and so all of the chain
chain_agrees : (w : World) (a : ℕ) (rest : List ℕ) (s : ℕ) → ((p t : ℕ) → stands_before p t (a ∷ rest) ≡ true → (w.server t).entries ≡ (w.server p).entries) → is_in (a ∷ rest) s ≡ true → (w.server s).entries ≡ (w.server a).entries
chain_agrees w a rest s h there = elim (or_cases (eqb a s) (is_in rest s) there) [
  | inl e ↦ ap (λ i. (w.server i).entries) (sym (eqb-true a s e))
  | inr later ↦ behind_agree w a rest s h later
]

all_agree : (w : World) (c : List Entry) (p s : ℕ) → Good w c → Whole (view w) c → IsQuiet w → is_in w.master.chain p ≡ true → is_in w.master.chain s ≡ true → (w.server p).entries ≡ (w.server s).entries
all_agree w c p s good h q a b = go w.master.chain refl where
  go : (chain : List ℕ) → w.master.chain ≡ chain → (w.server p).entries ≡ (w.server s).entries
  go [] is = absurd (false≢true (sym (ap (λ us. is_in us p) is) ∙ a))
  go (d ∷ rest) is =
      let each = λ (x y : ℕ) (before : stands_before x y (d ∷ rest) ≡ true). neighbours_agree w c x y good h q (ap (λ us. stands_before x y us) is ∙ before) in
      chain_agrees w d rest p each (sym (ap (λ us. is_in us p) is) ∙ a) ∙ sym (chain_agrees w d rest s each (sym (ap (λ us. is_in us s) is) ∙ b))

-- the last one acts
tail_acts : (w : World) (c : List Entry) (id : ℕ) → Commits (view w) c → IsQuiet w → is_last w.master.chain id ≡ true → acts (w.server id) ≡ true
tail_acts w c id k q last = go (acts (w.server id)) (is_some (w.server id).at_least) refl refl where
  member : is_in w.master.chain id ≡ true
  member = last-in w.master.chain id last

  told : w.master.told ≡ true
  told = k.ready q.ready

  some : is_some (w.server id).at_least ≡ true
  some = k.heard id last told (ap tails (empty_row w parties.Master (parties.Server id) q tt member))

  nobody : (a b : Bool) → bit (a && (b && not true)) ≡ 0
  nobody true true = refl
  nobody true false = refl
  nobody false b = refl

  still : bit (waits (w.server id)) ≡ 0
  still = omega (arith, k.stages id member, ap (λ b. bit (is_last w.master.chain id && (w.master.told && not b))) q.ready, nobody (is_last w.master.chain id) w.master.told)

  go : (a s : Bool) → acts (w.server id) ≡ a → is_some (w.server id).at_least ≡ s → a ≡ true
  go true s e f = refl
  go false true e f = absurd (omega (arith, still, ap (λ b. bit (b && not (acts (w.server id)))) f, ap (λ b. bit (not b)) e))
  go false false e f = absurd (false≢true (sym f ∙ some))

-- ---- after all events

pub members_agree : QuietMembersAgree
members_agree size events p s some q a b =
    let first = first-good size some in
    all_agree (world_after (first_world size) events) (longest_from [] (first_world size) events) p s (runs-good events (first_world size) [] first) (whole-of-run size events some first) q a b

pub quiet_tail : QuietTailActs
quiet_tail size events id some q last = tail_acts (world_after (first_world size) events) (longest_from [] (first_world size) events) id (runs-good events (first_world size) [] (first-good size some)).commits q last
