-- The laws of the chain, after every list of events.
use Rattle.std.proofs.Common.{◌≡◌, ℕ, ◌≤◌, ◌∙◌, ap, sym, arith, length, List, [], ◌∷◌, ◌++◌, Bool, true, false, eqb, subst, refl, inl, inr}
use Rattle.std.proofs.lemmas.Bool.{eq-eqb, false≢true, or_left, or_right}
use Rattle.cq_base.specs.declared.ask.Entry.{Entry}
use Rattle.cq_base.specs.declared.party.Party.TheVariants as parties
use Rattle.cq_base.specs.Relations.{Among, IsPrefix}
use Rattle.cq_chain.specs.declared.message.Answer.{Answer}
use Rattle.cq_chain.specs.Masters.{is_in}
use Rattle.cq_chain.specs.Refusals.{refusal_of_arrival, refusal_of_query}
use Rattle.cq_chain.specs.Servers.{acts}
use Rattle.cq_store.proofs.OfLaws.FirstHandings.{first_in_order}
use Rattle.cq_store.proofs.OfLaws.Flights.{hands_sent, none_in_flight, none_deleted}
use Rattle.cq_store.proofs.OfLaws.Lives.{none_removed}
use Rattle.cq_store.proofs.OfLaws.OneQueue.{others_do_nothing}
use Rattle.cq_store.proofs.OfLaws.Repeats.{fresh_once, repeats_answered}
use Rattle.cq_store.proofs.OfLaws.Windows.{one_acceptance}
use Rattle.cq_events.specs.Events.{refusal_of, after}
use Rattle.cq_world.specs.Laws.{AnswersAreOfTheObject, IsOfTheObject, CommittedIsOfTheHead, CommittedIsOfFullServers, CommittedGrows, CommittedIsOfArrivals, MessagesAreOfTheHistory, HistoriesArePrefixes, HistoriesFallAlongTheChain, OneActs, LengthsNeverFall, LaterArrivalsStandAbove, LaterQueriesSeeAsMuch, HeadlineHolds, Speaks, arrivals_from, AreArrivals}
use Rattle.cq_events.specs.Runs.{world_after, given_from, made_from, made, committed, longest_at, longest_from}
use Rattle.cq_events.specs.Worlds.{World, first_world, channel}
use Rattle.cq_events.specs.declared.event.Event.{Event}
use Rattle.cq_world.proofs.OfLaws.Answering.{all-answered, all-rising, all-within, prefix_length}
use Rattle.cq_world.proofs.OfLaws.Arriving.{arrivals-below, arrivals-stamped, all-arrived, first-arrived}
use Rattle.cq_world.proofs.Chains.{Before, chain-order}
use Rattle.cq_world.proofs.Commits.{one-tail, acts-least}
use Rattle.cq_world.proofs.Commits.Steps.{head-full}
use Rattle.cq_world.proofs.Eaches.{each-among}
use Rattle.cq_world.proofs.OfLaws.Giving.{given-after, given-of-run}
use Rattle.cq_world.proofs.Running.{Good, onward, first-good, runs-good, runs-grow}
use Rattle.cq_world.proofs.Views.{view}
use Rattle.cq_world.proofs.Prefixes.Steps.{below-pred, lives-placed, acting-member, full-member, head-member}
use Rattle.cq_world.proofs.Unrefused.{server-parts, at-head, at-tail}

-- the world after a run
abbrev ended : ℕ → List Event → World
ended size events = world_after (first_world size) events

-- all sentences hold of it
run_good : (size : ℕ) (events : List Event) → 1 ≤ size → Good (ended size events) (committed size events)
unfolding committed
run_good size events some = runs-good events (first_world size) [] (first-good size some)

-- ---- answers

pub of_one_object : AnswersAreOfTheObject
unfolding made committed
of_one_object size events some a among = each-among (IsOfTheObject size events) a (made size events) (all-answered events (first_world size) [] (first-good size some)) among

pub never_fall : LengthsNeverFall
unfolding made
never_fall size events some = all-rising events (first_world size) [] (first-good size some)

-- what is answered stays within what is committed
made_within : (size : ℕ) (events : List Event) (a : Answer) → 1 ≤ size → Among a (made size events) → a.length ≤ length (committed size events)
unfolding made committed
made_within size events a some among = each-among (λ b. b.length ≤ length (longest_from [] (first_world size) events)) a (made_from (first_world size) events) (all-within events (first_world size) [] (first-good size some)) among

-- ---- the committed list

-- a full server that lives has it
pub of_full : CommittedIsOfFullServers
of_full size events id some known full lives = let good = run_good size events some in good.commits.old id (full-member (view (ended size events)) id (lives-placed (view (ended size events)) id good.prefixes known lives) full) full

-- so has a head that lives
pub of_the_head : CommittedIsOfTheHead
of_the_head size events id some known is_head lives = let good = run_good size events some in
    of_full size events id some known (head-full (view (ended size events)) (committed size events) id good.prefixes good.commits (head-member (view (ended size events)) id (lives-placed (view (ended size events)) id good.prefixes known lives) is_head) is_head) lives

-- a request comes to a head, which has all that is committed
pub later_arrivals : LaterArrivalsStandAbove
unfolding refusal_of
later_arrivals size before at clock request a some among free =
    let w = ended size before in
    let parts = server-parts w at (refusal_of_arrival (w.server at)) free in
    let prefix = of_the_head size before at some parts.0 (at-head (w.server at) parts.2) parts.1 in
    omega (arith, made_within size before a some among, prefix_length (committed size before) (w.server at).entries prefix)

-- a query comes to a server that acts, which is full
pub later_queries : LaterQueriesSeeAsMuch
unfolding refusal_of
later_queries size before at query a some among free =
    let w = ended size before in
    let parts = server-parts w at (refusal_of_query (w.server at)) free in
    let full = (run_good size before some).commits.acting at (at-tail (w.server at) parts.2) in
    omega (arith, made_within size before a some among, prefix_length (committed size before) (w.server at).entries (of_full size before at some parts.0 full parts.1))

-- more events go on from where these ended
grow_on : (before more : List Event) (w : World) (c : List Entry) → Good w (longest_at w c) → IsPrefix (longest_from c w before) (longest_from c w (before ++ more))
unfolding longest_from
grow_on [] more w c good = runs-grow more w c good
grow_on (event ∷ before) more w c good = grow_on before more (after w event) (longest_at w c) (onward w (longest_at w c) event good).good

pub grows : CommittedGrows
unfolding committed
grows size before more some = grow_on before more (first_world size) [] (first-good size some)

-- it is of arrivals, as the history of a full server is
committed_arrived : (size : ℕ) (events : List Event) → 1 ≤ size → AreArrivals 0 (committed size events) (arrivals_from (first_world size) events)
committed_arrived size events some =
    let lives = (run_good size events some).commits.lives in
    arrivals-below 0 (committed size events) ((ended size events).server lives.0).entries (arrivals_from (first_world size) events) (of_full size events lives.0 some lives.1 lives.2 lives.3)
    (all-arrived events (first_world size) [] [] (first-good size some) (first-arrived size) lives.0)

pub of_arrivals : CommittedIsOfArrivals
of_arrivals size events some = let arrived = committed_arrived size events some in (arrived, (arrivals-stamped 0 (committed size events) (arrivals_from (first_world size) events) arrived).1)

-- ---- histories

pub of_predecessors : HistoriesArePrefixes
of_predecessors size events id p some is_pred = below-pred (view (ended size events)) id p (run_good size events some).prefixes is_pred

pub of_messages : MessagesAreOfTheHistory
of_messages size events id to m some among = each-among (Speaks ((ended size events).server id).entries) m (channel (ended size events) (parties.Server id) to) ((run_good size events some).prefixes.speaks id to) among

-- what stands behind in a list is among the rest
behind_in : (between behind : List ℕ) (s : ℕ) → is_in (between ++ (s ∷ behind)) s ≡ true
behind_in [] behind s = or_left (eqb s s) (is_in behind s) (eq-eqb s s refl)
behind_in (a ∷ between) behind s = or_right (eqb a s) (is_in (between ++ (s ∷ behind)) s) (behind_in between behind s)

before_split : (before between behind : List ℕ) (p s : ℕ) → Before p s (before ++ (p ∷ (between ++ (s ∷ behind))))
before_split [] between behind p s = inl (eq-eqb p p refl, behind_in between behind s)
before_split (a ∷ before) between behind p s = inr (before_split before between behind p s)

pub along_the_chain : HistoriesFallAlongTheChain
along_the_chain size events before between behind p s some is = chain-order (view (ended size events)) p s (run_good size events some).prefixes (subst (λ chain. Before p s chain) (sym is) (before_split before between behind p s))

-- ---- who acts

-- who acts is known
acting_known : (w : World) (c : List Entry) (id : ℕ) → Good w c → acts (w.server id) ≡ true → is_in w.master.used id ≡ true
acting_known w c id good does = go (is_in w.master.used id) refl where
  go : (t : Bool) → is_in w.master.used id ≡ t → t ≡ true
  go true e = refl
  go false e = absurd (false≢true (sym (ap (λ s. acts s) (good.prefixes.fresh id e).0) ∙ does))

pub one_acts : OneActs
one_acts size events id other some lives does others too =
    let good = run_good size events some in
    let w = ended size events in
    one-tail (view w) (committed size events) id other good.prefixes good.commits
    (acting-member (view w) id (lives-placed (view w) id good.prefixes (acting_known w (committed size events) id good does) lives) does)
    (acting-member (view w) other (lives-placed (view w) other good.prefixes (acting_known w (committed size events) other good too) others) too)
    (acts-least (w.server id) does) (acts-least (w.server other) too)

-- ---- all of it

pub headline_holds : HeadlineHolds
headline_holds size events some = record {
  answers = of_one_object size events some;
  given = λ n a among. of_one_object size events some a (given-of-run size events n a among);
  grows = λ before more split. subst (λ all. IsPrefix (committed size before) (committed size all)) (sym split) (grows size before more some);
  stamped = (of_arrivals size events some).1;
  arrivals = (of_arrivals size events some).0;
  in_order = first_in_order (committed size events);
  sent = λ before rest e split. hands_sent before e;
  landed = λ before rest e split. none_in_flight before e;
  deleted = λ before rest e split. none_deleted before e;
  removed = λ before rest e split. none_removed before e;
  windows = λ before rest e split. one_acceptance before e;
  once = fresh_once (committed size events);
  repeats = λ before rest e split. repeats_answered before e;
  idle = λ before rest e split. others_do_nothing before e;
}

-- what a run gives after other events is the queue object's, over all that is committed then
pub given_of_one_object : (size : ℕ) (before events : List Event) (n : ℕ) (a : Answer) → 1 ≤ size → Among (n, a) (given_from 1 (world_after (first_world size) before) events) → IsOfTheObject size (before ++ events) a
given_of_one_object size before events n a some among =
    let given = given-after before events 1 1 n (first_world size) a among in
    of_one_object size (before ++ events) some a (given-of-run size (before ++ events) given.0 a given.1)
