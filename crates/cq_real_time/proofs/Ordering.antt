-- What the master says names used servers, and so no world has anything on its way to an unknown one.
use Rattle.std.proofs.Common.{◌≡◌, ◌≤◌, ℕ, zero, suc, ◌+◌, ◌-◌, ◌∙◌, arith, ap, sym, List, [], ◌∷◌, ◌++◌, drop, ◌&&◌, ◌||◌, not, Option, Some, None, Bool, true, false, cond, eqb, subst, refl, inl, inr}
use Rattle.std.proofs.lemmas.Bool.{eqb-true, eq-eqb, false≢true, and_parts, or_cases}
use Rattle.cq_base.specs.declared.ask.Entry.{Entry}
use Rattle.cq_base.specs.declared.party.Party.{Party}
use Rattle.cq_base.specs.declared.party.Party.TheVariants as parties
use Rattle.cq_chain.specs.declared.fault.WorldFault.{WorldFault}
use Rattle.cq_chain.specs.Masters.{Master, Order, is_in, is_last, closing, said_of_loss, said_of_join, to_last, detected, joined, hears, hears_from, no_order, stands_before, joins_behind, numbers_from}
use Rattle.cq_chain.specs.Messages.{Message, Fwd, Snap, Ack, BeHead, Report, Adopt, BeTail, Feed, Have, Adopted, Caught, Ready, Answers}
use Rattle.cq_chain.specs.Parties.{same, is_that}
use Rattle.cq_chain.specs.Servers.{first_member, joining}
use Rattle.cq_chain.specs.Steps.{arrived, asked, takes, crashed}
use Rattle.cq_events.proofs.Numbers.{in-numbers}
use Rattle.cq_events.specs.Events.{refusal_of, after, next, unless_refused, after_put, after_take, without_first}
use Rattle.cq_events.specs.Runs.{world_after, longest_at}
use Rattle.cq_events.specs.Worlds.{World, first_world, stepped, ordered, channel}
use Rattle.cq_events.specs.declared.event.Event.{Event}
use Rattle.cq_events.specs.declared.event.Event.TheVariants as events
use Rattle.cq_world.proofs.Chains.{before-in, chain-used}
use Rattle.cq_world.proofs.Eaches.{Each}
use Rattle.cq_world.proofs.ExtendedChains.{joiner-extended, in_left}
use Rattle.cq_world.proofs.Prefixes.{Prefixes}
use Rattle.cq_world.proofs.Running.{Good, onward, first-good, runs-good, view_ordered}
use Rattle.cq_world.proofs.Views.{View, view, drained, view-put, view-given, view-step, view-taken, view-without}
use Rattle.cq_real_time.specs.Laws.{NothingGoesToUnknownServers}
use Rattle.cq_real_time.proofs.Known.{IsUsed, NamesUsed, Known, Steady, known_turn, known_said, known_drained, arrived_steady, asked_steady, crashed_steady, takes_steady}

-- ---- what is said

-- the messages name used servers
abbrev Names : List ℕ → List (Party × Message) → Type 0
Names used out = Each (λ x. NamesUsed used x.1) out

-- all of these were used
abbrev AllUsed : List ℕ → List ℕ → Type 0
AllUsed used ids = (id : ℕ) → is_in ids id ≡ true → is_in used id ≡ true

first_used : (used : List ℕ) (a : ℕ) (rest : List ℕ) → AllUsed used (a ∷ rest) → is_in used a ≡ true
first_used used a rest all = all a (ap (λ t. t || is_in rest a) (eq-eqb a a refl))

rest_used : (used : List ℕ) (a : ℕ) (rest : List ℕ) → AllUsed used (a ∷ rest) → AllUsed used rest
rest_used used a rest all id h = all id (either (eqb a id) (is_in rest id) h) where
  either : (s t : Bool) → t ≡ true → (s || t) ≡ true
  either true t e = refl
  either false t e = e

closing_names : (used : List ℕ) (p id : ℕ) (ids : List ℕ) → is_in used p ≡ true → AllUsed used ids → Names used (closing p id ids)
closing_names used p id [] h all = tt
closing_names used p id (a ∷ []) h all = go (eqb a id) where
  go : (t : Bool) → Names used (cond t ((parties.Server p, BeTail 0) ∷ []) [])
  go true = (tt, tt)
  go false = tt
closing_names used p id (a ∷ b ∷ rest) h all = go (closing_names used a id (b ∷ rest) (first_used used a (b ∷ rest) all) (rest_used used a (b ∷ rest) all)) (eqb a id) where
  go : Names used (closing a id (b ∷ rest)) → (t : Bool) → Names used (cond t ((parties.Server b, Report p) ∷ []) (closing a id (b ∷ rest)))
  go later true = (h, tt)
  go later false = later

loss_names : (used : List ℕ) (id : ℕ) (ids : List ℕ) → AllUsed used ids → Names used (said_of_loss id ids)
loss_names used id [] all = tt
loss_names used id (a ∷ []) all = tt
loss_names used id (a ∷ b ∷ rest) all = go (eqb a id) where
  go : (t : Bool) → Names used (cond t ((parties.Server b, BeHead) ∷ []) (closing a id (b ∷ rest)))
  go true = (tt, tt)
  go false = closing_names used a id (b ∷ rest) (first_used used a (b ∷ rest) all) (rest_used used a (b ∷ rest) all)

nobody_names : (used ids : List ℕ) → Names used (to_last (Feed None) ids)
nobody_names used [] = tt
nobody_names used (a ∷ []) = (tt, tt)
nobody_names used (a ∷ b ∷ rest) = nobody_names used (b ∷ rest)

join_names : (used : List ℕ) (id : ℕ) (ids : List ℕ) → AllUsed used ids → Names used (said_of_join id ids)
join_names used id [] all = tt
join_names used id (a ∷ []) all = (first_used used a [] all, tt)
join_names used id (a ∷ b ∷ rest) all = join_names used id (b ∷ rest) (rest_used used a (b ∷ rest) all)

-- What an order leads to.
pub record Sound (m : Master) (order : Order) : Type 0 where
  pub more : (id : ℕ) → is_in m.used id ≡ true → is_in order.master.used id ≡ true
  pub names : Names order.master.used order.said

nothing_said : (m : Master) → Sound m (no_order m)
nothing_said m = record { more = λ id h. h; names = tt }

either_order : (m : Master) (t : Bool) (a b : Order) → (t ≡ true → Sound m a) → Sound m b → Sound m (cond t a b)
either_order m true a b h k = h refl
either_order m false a b h k = k

pub detected_sound : (id : ℕ) (m : Master) → AllUsed m.used m.chain → Sound m (detected id m)
unfolding detected
detected_sound id m all = either_order m (is_that m.joiner id) _ _ (λ is. record { more = λ j h. h; names = nobody_names m.used m.chain }) (record { more = λ j h. h; names = loss_names m.used id m.chain all })

pub joined_sound : (id : ℕ) (m : Master) → AllUsed m.used m.chain → Sound m (joined id m)
unfolding joined
joined_sound id m all = record { more = λ j h. in_left m.used id j h; names = join_names (m.used ++ id ∷ []) id m.chain (λ j h. in_left m.used id j (all j h)) }

pub heard_sound : (from : Party) (w : Message) (m : Master) → AllUsed m.used m.chain → ((j : ℕ) → is_that m.joiner j ≡ true → is_in m.used j ≡ true) → Sound m (hears_from from w m)
unfolding hears
heard_sound parties.Master w m all joins = nothing_said m
heard_sound parties.Clients w m all joins = nothing_said m
heard_sound (parties.Server from) (Have p count) m all joins = either_order m (stands_before p from m.chain) _ _
    (λ is. record { more = λ j h. h; names = (all from (before-in p from m.chain is).1, tt) })
    (either_order m (joins_behind p from m) _ _ (λ is. record { more = λ j h. h; names = (joins from (and_parts (is_that m.joiner from) (is_last m.chain p) is).0, tt) }) (nothing_said m))
heard_sound (parties.Server from) (Caught p count) m all joins = either_order m (joins_behind p from m) _ _
    (λ is. record { more = λ j h. h; names = (joins from (and_parts (is_that m.joiner from) (is_last m.chain p) is).0, tt) }) (nothing_said m)
heard_sound (parties.Server from) (Adopted s count) m all joins = either_order m (is_last m.chain s && not m.told) _ _ (λ is. record { more = λ j h. h; names = (tt, tt) }) (nothing_said m)
heard_sound (parties.Server from) Ready m all joins = either_order m (is_last m.chain from) _ _ (λ is. record { more = λ j h. h; names = tt }) (nothing_said m)
heard_sound (parties.Server from) (Fwd place e) m all joins = nothing_said m
heard_sound (parties.Server from) (Snap entries) m all joins = nothing_said m
heard_sound (parties.Server from) (Ack n) m all joins = nothing_said m
heard_sound (parties.Server from) BeHead m all joins = nothing_said m
heard_sound (parties.Server from) (Report p) m all joins = nothing_said m
heard_sound (parties.Server from) (Adopt s n) m all joins = nothing_said m
heard_sound (parties.Server from) (BeTail least) m all joins = nothing_said m
heard_sound (parties.Server from) (Feed succ) m all joins = nothing_said m
heard_sound (parties.Server from) (Answers a) m all joins = nothing_said m

-- ---- one event

pub members_used : (v : View) → Prefixes v → AllUsed v.master.used v.master.chain
members_used v h id member = chain-used v id h member

pub joiner_used : (v : View) → Prefixes v → (j : ℕ) → is_that v.master.joiner j ≡ true → is_in v.master.used j ≡ true
joiner_used v h j is = h.members j (joiner-extended v.master.chain v.master.joiner j is)

-- a step for which nothing is taken
stepped_known : (w : World) (k : ℕ) (step : _) → Steady w.master.used step → Known (view w) → Known (view (stepped w k step))
stepped_known w k step steady h = subst Known (sym (view-step w k step))
    (known_turn (view w) parties.Clients k [] (channel w parties.Clients (parties.Server k)) step.server step.sent refl steady.pred steady.succ steady.goes h)

ordered_known : (w : World) (order : Order) → Sound w.master order → Known (view w) → Known (view (ordered w order))
ordered_known w order sound h = subst Known (sym (view_ordered w order)) (known_said (view w) order.master order.said sound.more sound.names h)

put_known : (w : World) (from to : Party) → Known (view w) → Known (view (after_put w from to))
put_known w from parties.Clients h = subst Known (sym (view-given w from)) (given (w.outbox from parties.Clients) refl) where
  given : (box : List Message) → w.outbox from parties.Clients ≡ box → Known (drained (view w) from parties.Clients (w.link from parties.Clients ++ drop 1 (w.outbox from parties.Clients)))
  given box is = record {
    preds = h.preds;
    succs = h.succs;
    told = λ id. subst (Each (NamesUsed w.master.used)) (sym (none (same parties.Master from) (channel w parties.Master (parties.Server id)))) (h.told id);
    unsent = λ p id unused. none (same (parties.Server p) from) (channel w (parties.Server p) (parties.Server id)) ∙ h.unsent p id unused;
  } where
    none : (t : Bool) (us : List Message) → cond (t && false) (w.link from parties.Clients ++ drop 1 (w.outbox from parties.Clients)) us ≡ us
    none true us = refl
    none false us = refl
put_known w from parties.Master h = subst Known (sym (view-put w from parties.Master refl)) h
put_known w from (parties.Server id) h = subst Known (sym (view-put w from (parties.Server id) refl)) h

take_known : (w : World) (from to : Party) (ms : List Message) → w.link from to ≡ ms → Prefixes (view w) → Known (view w) → Known (view (after_take w from to ms))
take_known w from to [] at g h = h
take_known w from parties.Clients (m ∷ ms) at g h = subst Known (sym (view-without w from parties.Clients m ms at))
    (known_drained (view w) from parties.Clients (m ∷ []) (ms ++ w.outbox from parties.Clients) (ap (λ us. us ++ w.outbox from parties.Clients) at) h)
take_known w from parties.Master (m ∷ ms) at g h =
    ordered_known (without_first w from parties.Master) (hears_from from m w.master) (heard_sound from m w.master (members_used (view w) g) (joiner_used (view w) g))
    (subst Known (sym (view-without w from parties.Master m ms at)) (known_drained (view w) from parties.Master (m ∷ []) (ms ++ w.outbox from parties.Master) (ap (λ us. us ++ w.outbox from parties.Master) at) h))
take_known w from (parties.Server k) (m ∷ ms) at g h =
    let step = takes from m (w.server k) in
    let here : channel w from (parties.Server k) ≡ (m ∷ []) ++ (ms ++ w.outbox from (parties.Server k)) = ap (λ us. us ++ w.outbox from (parties.Server k)) at in
    let steady = takes_steady w.master.used from m (w.server k) (h.preds k) (h.succs k)
    (λ is. (subst (Each (NamesUsed w.master.used)) (ap (λ p. channel w p (parties.Server k)) (same_party from is) ∙ here) (h.told k)).0) in
    subst Known (sym (view-taken w from k m ms step at))
    (known_turn (view w) from k (m ∷ []) (ms ++ w.outbox from (parties.Server k)) step.server step.sent here steady.pred steady.succ steady.goes h)
  where
    same_party : (p : Party) → same parties.Master p ≡ true → parties.Master ≡ p
    same_party parties.Master is = refl
    same_party parties.Clients is = absurd (false≢true is)
    same_party (parties.Server id) is = absurd (false≢true is)

next_known : (w : World) (event : Event) → Prefixes (view w) → Known (view w) → Known (view (next w event))
unfolding next
next_known w (events.Arrive at clock request) g h = stepped_known w at (arrived clock request (w.server at)) (arrived_steady w.master.used clock request (w.server at) (h.preds at) (h.succs at)) h
next_known w (events.Ask at query) g h = stepped_known w at (asked query (w.server at)) (asked_steady w.master.used query (w.server at) (h.preds at) (h.succs at)) h
next_known w (events.Put from to) g h = put_known w from to h
next_known w (events.Take from to) g h = take_known w from to (w.link from to) refl g h
next_known w (events.Crash id) g h = stepped_known w id (crashed (w.server id)) (crashed_steady w.master.used (w.server id) (h.preds id) (h.succs id)) h
next_known w (events.Detect id) g h = ordered_known w (detected id w.master) (detected_sound id w.master (members_used (view w) g)) h
next_known w (events.Join id) g h = ordered_known w (joined id w.master) (joined_sound id w.master (members_used (view w) g)) h

pub after_known : (w : World) (event : Event) → Prefixes (view w) → Known (view w) → Known (view (after w event))
unfolding after
after_known w event g h = go (refusal_of w event) where
  go : (refusal : Option WorldFault) → Known (view (unless_refused w event refusal))
  go None = next_known w event g h
  go (Some fault) = h

-- ---- the first world

-- a number among so many from one on
in_within : (n k id : ℕ) → is_in (numbers_from k n) id ≡ true → (k ≤ id) × (id + 1 ≤ k + n)
unfolding numbers_from
in_within zero k id h = absurd (false≢true h)
in_within (suc n) k id h = elim (or_cases (eqb k id) (is_in (numbers_from (k + 1) n) id) h) [
  | inl here ↦ let same_number = eqb-true k id here in (omega arith, omega arith)
  | inr there ↦ let rest = in_within n (k + 1) id there in let low = rest.0 in let high = rest.1 in (omega arith, omega arith)
]

first_pred : (size id : ℕ) (t : Bool) → is_in (numbers_from 1 size) id ≡ t → IsUsed (numbers_from 1 size) (cond t (first_member size id) joining).pred
first_pred size id false is = tt
first_pred size id true is = go (eqb id 1) refl where
  go : (t : Bool) → eqb id 1 ≡ t → IsUsed (numbers_from 1 size) (cond t None (Some (id - 1)))
  go true e = tt
  go false e =
      let within = in_within size 1 id is in
      let low = within.0 in
      let high = within.1 in
      let other = λ (one : id ≡ 1). false≢true (sym e ∙ eq-eqb id 1 one) in
      in-numbers size 1 (id - 1) (omega arith) (omega arith)

first_succ : (size id : ℕ) (t : Bool) → is_in (numbers_from 1 size) id ≡ t → IsUsed (numbers_from 1 size) (cond t (first_member size id) joining).succ
first_succ size id false is = tt
first_succ size id true is = go (eqb id size) refl where
  go : (t : Bool) → eqb id size ≡ t → IsUsed (numbers_from 1 size) (cond t None (Some (id + 1)))
  go true e = tt
  go false e =
      let within = in_within size 1 id is in
      let low = within.0 in
      let high = within.1 in
      let other = λ (last : id ≡ size). false≢true (sym e ∙ eq-eqb id size last) in
      in-numbers size 1 (id + 1) (omega arith) (omega arith)

first_known : (size : ℕ) → Known (view (first_world size))
unfolding first_world
first_known size = record {
  preds = λ id. first_pred size id (is_in (numbers_from 1 size) id) refl;
  succs = λ id. first_succ size id (is_in (numbers_from 1 size) id) refl;
  told = λ id. tt;
  unsent = λ p id unused. refl;
}

-- ---- runs

runs_known : (es : List Event) (w : World) (c : List Entry) → Good w (longest_at w c) → Known (view w) → Known (view (world_after w es))
unfolding world_after
runs_known [] w c good h = h
runs_known (event ∷ es) w c good h = runs_known es (after w event) (longest_at w c) (onward w (longest_at w c) event good).good (after_known w event good.prefixes h)

-- After any events nothing is on its way to an unknown server, from a server or from the master.
pub nothing_unknown : (size : ℕ) (es : List Event) → 1 ≤ size → Known (view (world_after (first_world size) es))
nothing_unknown size es some = runs_known es (first_world size) [] (first-good size some) (first_known size)

pub to_unknown : NothingGoesToUnknownServers
to_unknown size es id some unused =
    let good = runs-good es (first_world size) [] (first-good size some) in
    ((good.prefixes.fresh id unused).1, λ p. (nothing_unknown size es some).unsent p id unused)
