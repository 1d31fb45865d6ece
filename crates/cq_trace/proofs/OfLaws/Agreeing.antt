-- An order of what parties did, in which each event is enabled, puts on each link just what they put.
use Rattle.std.proofs.Common.{◌≡◌, ℕ, length, ◌∙◌, ap, sym, refl, subst, List, [], ◌∷◌, ◌++◌, inl}
use Rattle.cq_base.specs.declared.party.Party.{Party}
use Rattle.cq_base.specs.declared.party.Party.TheVariants as parties
use Rattle.cq_base.specs.Relations.{Among}
use Rattle.cq_base.proofs.Among.{among-right}
use Rattle.cq_chain.specs.Parties.{same}
use Rattle.cq_events.specs.Actions.{Action, Arrived, Asked, Put, Took, Crashed, Detected, Joined, event_of, put_to, AreActions, IsOrder, OrdersAgree}
use Rattle.cq_events.specs.Orders.{of_party, AreEnabled, put_by}
use Rattle.cq_events.specs.Runs.{world_after}
use Rattle.cq_events.specs.Worlds.{first_world}
use Rattle.cq_events.specs.declared.event.Event.{Event}
use Rattle.cq_events.specs.declared.event.Event.TheVariants as events
use Rattle.cq_trace.proofs.OfLaws.ActionLists.{first_action}
use Rattle.cq_trace.proofs.OfLaws.Casts.{Cast, server_goes}
use Rattle.cq_trace.proofs.OfLaws.Moments.{own_events, agree, moment}
use Rattle.cq_trace.proofs.OfLaws.GivenAnswers.{among_right, among_left, all_given, all_heard}

-- the action of a server that is a crash
crash_action : (id : ℕ) (d : Action) → events.Crash id ≡ event_of (parties.Server id) d → (count : ℕ) × (d ≡ Crashed count)
crash_action id (Crashed count) h = (count, refl)
crash_action id (Arrived clock request) h = absurd cc
crash_action id (Asked query) h = absurd cc
crash_action id (Put to x) h = absurd cc
crash_action id (Took from x) h = absurd cc
crash_action id (Detected other) h = absurd cc
crash_action id (Joined other) h = absurd cc

-- the first of these, as that action
first_as : (actions rest : List Action) (d e : Action) → actions ≡ d ∷ rest → d ≡ e → actions ≡ e ∷ rest
first_as actions rest d e is same = is ∙ ap (λ z. z ∷ rest) same

-- a crash that comes next is one of all actions
next_crash : (actions done ahead rest : List Action) (count n : ℕ) → actions ≡ done ++ ahead → ahead ≡ Crashed n ∷ rest → count ≡ n → Among (Crashed count) actions
next_crash actions done ahead rest count n whole is same = subst (Among (Crashed count)) (sym (whole ∙ ap (λ ds. done ++ ds) is)) (among-right (Crashed count) done (Crashed n ∷ rest) (inl (ap Crashed same)))

-- where a server crashes in the order, it has as many entries as it had
crashes : (size : ℕ) (actions : Party → List Action) (order before rest : List Event) (id : ℕ) → AreActions size actions → IsOrder size actions order → order ≡ before ++ (events.Crash id ∷ rest) → Cast (first_world size) actions (λ x y. [])
    → Among (Crashed (length ((world_after (first_world size) before).server id).entries)) (actions (parties.Server id))
crashes size actions order before rest id h o split start =
    let w = world_after (first_world size) before in
    let m = moment before (events.Crash id ∷ rest) (first_world size) actions (λ x y. []) start (subst (AreEnabled (first_world size)) split o.enabled) (λ p. ap (of_party p) (sym split) ∙ o.each p) in
    let p = parties.Server id in
    let first = first_action (event_of p) (m.ahead p) (events.Crash id) (of_party p rest) (sym (own_events p (events.Crash id) rest refl) ∙ m.each p) in
    let crash = crash_action id first.0 first.3 in
    let is : m.ahead p ≡ Crashed crash.0 ∷ first.1 = first_as (m.ahead p) first.1 first.0 (Crashed crash.0) first.2 crash.1 in
    let goes = server_goes (w.server id) (w.outbox p) (m.ahead p) first.1 (Crashed crash.0) is (m.cast.lived p) in
    let count : length (w.server id).entries ≡ crash.0 = goes.4.1 (w.server id) (w.outbox p) goes.3 in
    next_crash (actions p) (m.done p) (m.ahead p) first.1 (length (w.server id).entries) crash.0 (m.whole p) is count

-- where no event has happened, nothing stands in links
first_cast : (size : ℕ) (actions : Party → List Action) → AreActions size actions → Cast (first_world size) actions (λ x y. [])
unfolding first_world
first_cast size actions h = record { lived = h.lived; means = λ x y. tt; law = h.links }

-- Every order of what parties did is what they did.
pub orders_agree : OrdersAgree
orders_agree size actions order h o =
    let links = agree order (first_world size) actions (λ x y. []) (first_cast size actions h) o.enabled o.each in
    record {
      links = links;
      given = λ n a i. let found = all_given order 1 n a (first_world size) o.enabled i in
          (found.0, among_left a (put_to parties.Clients (actions found.0)) (put_by (first_world size) order found.0 parties.Clients) (links found.0 parties.Clients) found.1);
      heard = λ from a i. all_heard order 1 a (first_world size) from o.enabled (among_right a (put_to parties.Clients (actions from)) (put_by (first_world size) order from parties.Clients) (links from parties.Clients) i);
      crashes = λ before rest id split. crashes size actions order before rest id h o split (first_cast size actions h);
    }
