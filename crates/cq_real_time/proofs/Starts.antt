-- Worlds in which parties may begin: what holds of every world behind one.
use Rattle.std.proofs.Common.{◌≡◌, ℕ, ◌∙◌, ap, sym, refl, subst, cond, List, [], ◌∷◌, ◌++◌, append_assoc, Bool, true, false, Option, Some, None}
use Rattle.cq_base.specs.declared.party.Party.TheVariants as parties
use Rattle.cq_chain.specs.declared.fault.WorldFault.{WorldFault}
use Rattle.cq_chain.specs.Masters.{numbers_from}
use Rattle.cq_chain.specs.Servers.{first_member, joining}
use Rattle.cq_events.specs.Events.{refusal_of, after, unless_refused}
use Rattle.cq_events.specs.Runs.{world_after}
use Rattle.cq_events.specs.Worlds.{World, first_world, is_in, channel}
use Rattle.cq_events.specs.declared.event.Event.{Event}
use Rattle.cq_world.specs.Laws.{IsOut}
use Rattle.cq_world.proofs.OfLaws.Dropped.{dropped_stay_out}
use Rattle.cq_world.proofs.Prefixes.{Prefixes}
use Rattle.cq_world.proofs.Running.{first-good, runs-good}
use Rattle.cq_world.proofs.Views.{view}
use Rattle.cq_real_time.specs.Interleavings.{IsStart, FirstWorldsAreStarts}
use Rattle.cq_real_time.proofs.Ordering.{to_unknown}
use Rattle.cq_real_time.proofs.Readies.{Says, next_says, first_says}

-- ---- runs

-- a run goes on from where another ended
pub run_on : (before more : List Event) (w : World) → world_after w (before ++ more) ≡ world_after (world_after w before) more
unfolding world_after
run_on [] more w = refl
run_on (event ∷ before) more w = run_on before more (after w event)

-- who has said that it acts is full, after any event
after_says : (w : World) (event : Event) → Says (view w) → Says (view (after w event))
unfolding after
after_says w event h = go (refusal_of w event) where
  go : (refusal : Option WorldFault) → Says (view (unless_refused w event refusal))
  go None = next_says w event h
  go (Some fault) = h

run_says : (events : List Event) (w : World) → Says (view w) → Says (view (world_after w events))
unfolding world_after
run_says [] w h = h
run_says (event ∷ events) w h = run_says events (after w event) (after_says w event h)

-- ---- behind a start

module _ (start : World) (s : IsStart start) where
  -- what happens from the start on happens behind its past
  pub goes_on : (before : List Event) → world_after (first_world s.size) (s.past ++ before) ≡ world_after start before
  goes_on before = run_on s.past before (first_world s.size) ∙ ap (λ v. world_after v before) s.reached

  pub start_good : (before : List Event) → Prefixes (view (world_after start before))
  start_good before = subst (λ (v : World). Prefixes (view v)) (goes_on before) (runs-good (s.past ++ before) (first_world s.size) [] (first-good s.size s.some)).prefixes

  pub start_says : Says (view start)
  start_says = subst (λ (v : World). Says (view v)) s.reached (run_says s.past (first_world s.size) (first_says s.size))

  -- nothing is on its way to an unknown server
  pub start_unknown : (before : List Event) (id : ℕ) → is_in (world_after start before).master.used id ≡ false
      → (channel (world_after start before) parties.Master (parties.Server id) ≡ []) × ((p : ℕ) → channel (world_after start before) (parties.Server p) (parties.Server id) ≡ [])
  start_unknown before id = subst (λ (v : World). is_in v.master.used id ≡ false → (channel v parties.Master (parties.Server id) ≡ []) × ((p : ℕ) → channel v (parties.Server p) (parties.Server id) ≡ []))
      (goes_on before) (to_unknown s.size (s.past ++ before) id s.some)

  -- who is out stays out
  pub start_out : (before more : List Event) (id : ℕ) → IsOut (world_after start before) id → IsOut (world_after start (before ++ more)) id
  start_out before more id out = subst (λ (v : World). IsOut v id) (ap (world_after (first_world s.size)) (append_assoc s.past before more) ∙ goes_on (before ++ more))
      (dropped_stay_out s.size (s.past ++ before) more id s.some (subst (λ (v : World). IsOut v id) (sym (goes_on before)) out)).0

-- ---- first worlds

-- nobody is down, and just the servers of the chain are full
first_lives : (t : Bool) (size id : ℕ) → (cond t (first_member size id) joining).down ≡ false
first_lives true size id = refl
first_lives false size id = refl

first_full : (t : Bool) (size id : ℕ) → (cond t (first_member size id) joining).full ≡ t
first_full true size id = refl
first_full false size id = refl

pub first_worlds_are_starts : FirstWorldsAreStarts
unfolding first_world world_after
first_worlds_are_starts size some = (
  record {
    size = size;
    past = [];
    some = some;
    reached = refl;
    lives = λ id. first_lives (is_in (numbers_from 1 size) id) size id;
    links = λ x y. refl;
  },
  refl,
  refl,
  λ id. (refl, first_full (is_in (numbers_from 1 size) id) size id),
)
