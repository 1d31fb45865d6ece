-- A server that was dropped while it joined stays out of the chain.
use Rattle.std.proofs.Common.{◌≡◌, ℕ, ◌∙◌, ap, sym, List, [], ◌∷◌, ◌++◌, ◌&&◌, ◌||◌, not, length, Option, Some, None, is_none, Bool, true, false, cond, eqb, subst, refl, inl, inr}
use Rattle.std.proofs.lemmas.Bool.{eqb-true, false≢true, both_ways, cases_Bool, and_parts, or_parts}
use Rattle.cq_base.specs.declared.ask.Entry.{Entry}
use Rattle.cq_base.specs.declared.party.Party.{Party}
use Rattle.cq_base.specs.declared.party.Party.TheVariants as parties
use Rattle.cq_chain.specs.declared.fault.WorldFault.{WorldFault}
use Rattle.cq_chain.specs.Masters.{Master, Order, is_in, is_last, stands_before, joins_behind, admitted, without, dropped, closed_up, detected, joined, hears, hears_from, no_order, refusal_of_join}
use Rattle.cq_chain.specs.Messages.{Message, Adopt, BeTail, Feed, Have, Caught, Adopted, Ready}
use Rattle.cq_chain.specs.Parties.{is_that}
use Rattle.cq_chain.specs.Servers.{acts, reaches}
use Rattle.cq_events.specs.Events.{refusal_of, after, next, unless_refused, after_take}
use Rattle.cq_events.specs.Runs.{world_after, committed}
use Rattle.cq_events.specs.Worlds.{World, first_world}
use Rattle.cq_events.specs.declared.event.Event.{Event}
use Rattle.cq_events.specs.declared.event.Event.TheVariants.{Arrive, Ask, Put, Take, Crash, Detect, Join}
use Rattle.cq_world.specs.Laws.{IsOut, IsOutOf, DroppedServersStayOut}
use Rattle.cq_world.proofs.ExtendedChains.{in_left, in_more, extended-cases}
use Rattle.cq_world.proofs.Running.{Good, first-good, runs-good, join_parts}
use Rattle.cq_world.proofs.Views.{view, extended}

-- ---- words on numbers

-- where one number is that one, another one isn't the same
that_other : (o : Option ℕ) (a b : ℕ) → is_that o a ≡ true → is_that o b ≡ false → eqb a b ≡ false
that_other None a b h out = absurd (false≢true h)
that_other (Some x) a b h out = subst (λ y. eqb y b ≡ false) (eqb-true x a h) out

-- what isn't among these isn't with another one more
not_more : (ids : List ℕ) (x id : ℕ) → is_in ids id ≡ false → eqb x id ≡ false → is_in (ids ++ x ∷ []) id ≡ false
not_more ids x id out other = elim (cases_Bool (is_in (ids ++ x ∷ []) id)) [
  | inl here ↦ elim (in_more ids x id here) [ inl old ↦ absurd (both_ways (is_in ids id) out old) | inr new ↦ absurd (both_ways (eqb x id) other new) ]
  | inr there ↦ there
]

-- nor without one
not_without : (d : ℕ) (ids : List ℕ) (id : ℕ) → is_in ids id ≡ false → is_in (without d ids) id ≡ false
not_without d [] id out = refl
not_without d (a ∷ ids) id out = let parts = or_parts (eqb a id) (is_in ids id) out in go (not (eqb a d)) parts.0 (not_without d ids id parts.1) where
  go : (t : Bool) → eqb a id ≡ false → is_in (without d ids) id ≡ false → is_in (cond t (a ∷ without d ids) (without d ids)) id ≡ false
  go true other rest = ap (λ b. b || is_in (without d ids) id) other ∙ rest
  go false other rest = rest

-- ---- what the master does

heard_out : (from : ℕ) (x : Message) (m : Master) (id : ℕ) → IsOutOf m id → IsOutOf (hears from x m).master id
unfolding hears
heard_out from (Have p count) m id out = go (stands_before p from m.chain) (joins_behind p from m) where
  go : (a b : Bool) → IsOutOf (cond a (record { master = m; said = (parties.Server p, Adopt from count) ∷ [] }) (cond b (record { master = m; said = (parties.Server p, Feed (Some from)) ∷ [] }) (no_order m))).master id
  go true b = out
  go false true = out
  go false false = out
heard_out from (Caught p count) m id out = go (joins_behind p from m) refl where
  go : (b : Bool) → joins_behind p from m ≡ b → IsOutOf (cond b (admitted p from count m) (no_order m)).master id
  go true is = (out.0, not_more m.chain from id out.1 (that_other m.joiner from id (and_parts (is_that m.joiner from) (is_last m.chain p) is).0 out.2), refl)
  go false is = out
heard_out from (Adopted s count) m id out = go (is_last m.chain s && not m.told) where
  go : (b : Bool) → IsOutOf (cond b (record { master = record m { told = true }; said = (parties.Server s, BeTail count) ∷ [] }) (no_order m)).master id
  go true = out
  go false = out
heard_out from Ready m id out = go (is_last m.chain from) where
  go : (b : Bool) → IsOutOf (cond b (record { master = record m { ready = true }; said = [] }) (no_order m)).master id
  go true = out
  go false = out
heard_out from x m id out = out

heard_from_out : (from : Party) (x : Message) (m : Master) (id : ℕ) → IsOutOf m id → IsOutOf (hears_from from x m).master id
heard_from_out (parties.Server p) x m id out = heard_out p x m id out
heard_from_out parties.Master x m id out = out
heard_from_out parties.Clients x m id out = out

detected_out : (d : ℕ) (m : Master) (id : ℕ) → IsOutOf m id → IsOutOf (detected d m).master id
unfolding detected
detected_out d m id out = go (is_that m.joiner d) where
  joiner : (t : Bool) → is_that (cond t None m.joiner) id ≡ false
  joiner true = refl
  joiner false = out.2

  go : (t : Bool) → IsOutOf (cond t (dropped m) (closed_up d m)).master id
  go true = (out.0, out.1, refl)
  go false = (out.0, not_without d m.chain id out.1, joiner (is_last m.chain d))

joined_out : (j : ℕ) (m : Master) (id : ℕ) → refusal_of_join j m ≡ None → IsOutOf m id → IsOutOf (joined j m).master id
unfolding refusal_of_join joined
joined_out j m id free out = (in_left m.used j id out.0, out.1, other) where
  new : is_in m.used j ≡ false
  new = (join_parts (is_in m.used j) m.ready (is_none m.joiner) (length m.chain) free).0

  other : eqb j id ≡ false
  other = elim (cases_Bool (eqb j id)) [
    | inl same ↦ absurd (both_ways (is_in m.used j) new (subst (λ i. is_in m.used i ≡ true) (sym (eqb-true j id same)) out.0))
    | inr differs ↦ differs
  ]

-- ---- events

taken_out : (w : World) (from to : Party) (ms : List Message) (id : ℕ) → IsOut w id → IsOut (after_take w from to ms) id
taken_out w from to [] id out = out
taken_out w from parties.Master (m ∷ ms) id out = heard_from_out from m w.master id out
taken_out w from parties.Clients (m ∷ ms) id out = out
taken_out w from (parties.Server k) (m ∷ ms) id out = out

next_out : (w : World) (event : Event) (id : ℕ) → refusal_of w event ≡ None → IsOut w id → IsOut (next w event) id
unfolding refusal_of next
next_out w (Arrive at clock request) id free out = out
next_out w (Ask at query) id free out = out
next_out w (Put from to) id free out = out
next_out w (Take from to) id free out = taken_out w from to (w.link from to) id out
next_out w (Crash k) id free out = out
next_out w (Detect d) id free out = detected_out d w.master id out
next_out w (Join j) id free out = joined_out j w.master id free out

after_out : (w : World) (event : Event) (id : ℕ) → IsOut w id → IsOut (after w event) id
unfolding after
after_out w event id out = go (refusal_of w event) refl where
  go : (refusal : Option WorldFault) → refusal_of w event ≡ refusal → IsOut (unless_refused w event refusal) id
  go None free = next_out w event id free out
  go (Some fault) refused = out

run_out : (more : List Event) (w : World) (id : ℕ) → IsOut w id → IsOut (world_after w more) id
unfolding world_after
run_out [] w id out = out
run_out (event ∷ more) w id out = run_out more (after w event) id (after_out w event id out)

-- a run goes on from where another ended
run_on : (events more : List Event) (w : World) → world_after w (events ++ more) ≡ world_after (world_after w events) more
unfolding world_after
run_on [] more w = refl
run_on (event ∷ events) more w = run_on events more (after w event)

-- ---- the law

-- who is neither a member nor joins isn't in the extended chain
not_in_extended : (w : World) (id : ℕ) → IsOut w id → is_in (extended w.master) id ≡ false
not_in_extended w id out = elim (cases_Bool (is_in (extended w.master) id)) [
  | inl there ↦ elim (extended-cases w.master.chain w.master.joiner id there) [
    | inl member ↦ absurd (both_ways (is_in w.master.chain id) out.1 member)
    | inr joins ↦ absurd (both_ways (is_that w.master.joiner id) out.2 joins)
  ]
  | inr away ↦ away
]

quiet_out : (w : World) (c : List Entry) (id : ℕ) → Good w c → IsOut w id → (w.server id).down ≡ false → ((w.server id).full ≡ false) × (acts (w.server id) ≡ false)
quiet_out w c id good out lives = elim (good.prefixes.away id out.0 (not_in_extended w id out)) [
  | inl down ↦ absurd (both_ways (w.server id).down lives down)
  | inr b ↦ (b.full, ap (λ least. reaches (length (w.server id).entries) least) b.at_least)
]

pub dropped_stay_out : DroppedServersStayOut
unfolding committed
dropped_stay_out size events more id some out = (still, quiet_out (world_after (first_world size) (events ++ more)) (committed size (events ++ more)) id (runs-good (events ++ more) (first_world size) [] (first-good size some)) still) where
  still : IsOut (world_after (first_world size) (events ++ more)) id
  still = subst (λ w. IsOut w id) (sym (run_on events more (first_world size))) (run_out more (world_after (first_world size) events) id out)
