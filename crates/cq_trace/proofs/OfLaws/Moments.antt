-- All actions of an order, and what is still to do at each moment of it.
use Rattle.std.proofs.Common.{◌≡◌, ◌∙◌, ap, sym, refl, subst, cond, List, [], ◌∷◌, ◌++◌, map, append_assoc, Bool, true, false, None}
use Rattle.cq_base.specs.declared.party.Party.{Party}
use Rattle.cq_chain.specs.declared.message.Message as rust
use Rattle.cq_chain.specs.Parties.{same}
use Rattle.cq_chain.specs.Stands.{AllMean}
use Rattle.cq_events.specs.Actions.{Action, event_of, put_in, put_to}
use Rattle.cq_events.specs.Events.{refusal_of, next, after}
use Rattle.cq_events.specs.Owners.{party_of}
use Rattle.cq_events.specs.Orders.{of_party, AreEnabled, put_by_event, put_by}
use Rattle.cq_events.specs.Runs.{world_after}
use Rattle.cq_events.specs.Worlds.{World}
use Rattle.cq_events.specs.declared.event.Event.{Event}
use Rattle.cq_world.proofs.OfSim.Meanings.{all-append}
use Rattle.cq_events.proofs.Parties.{same-true, same-refl}
use Rattle.cq_world.proofs.OfSim.RunSteps.{after-done}
use Rattle.cq_trace.proofs.OfLaws.ActionLists.{left, first_action, no_actions, put_left}
use Rattle.cq_trace.proofs.OfLaws.Casts.{Cast, Next}
use Rattle.cq_trace.proofs.OfLaws.NextActions.{next_action}

-- the first event is enabled, and so are the others after it
pub enabled_parts : (w : World) (event : Event) (order : List Event) → AreEnabled w (event ∷ order) → (refusal_of w event ≡ None) × AreEnabled (after w event) order
unfolding AreEnabled
enabled_parts w event order h = h

-- no events put nothing
pub put_none : (w : World) (from to : Party) → put_by w [] from to ≡ []
unfolding put_by
put_none w from to = refl

-- what events put, by the first of them
pub put_first : (w : World) (event : Event) (order : List Event) (from to : Party) → put_by w (event ∷ order) from to ≡ put_by_event w event from to ++ put_by (after w event) order from to
unfolding put_by
put_first w event order from to = refl

-- the events of a party, without the first of all
pub own_events : (p : Party) (event : Event) (order : List Event) → party_of event ≡ p → of_party p (event ∷ order) ≡ event ∷ of_party p order
own_events p event order e = ap (λ t. cond t (event ∷ of_party p order) (of_party p order)) (ap (same p) e ∙ same-refl p)

-- After the next event of an order.
record Later (v : World) (actions : Party → List Action) (event : Event) (order : List Event) : Type 0 where
  d : Action
  rest : List Action
  is : actions (party_of event) ≡ d ∷ rest
  now : Next v (after v event) event actions (party_of event) d rest
  enabled : AreEnabled (after v event) order
  each : (q : Party) → of_party q order ≡ map (event_of q) (left actions (party_of event) rest q)

-- the next event of an order is the next action of its party
later : (v : World) (actions : Party → List Action) (link : Party → Party → List rust.Message) (event : Event) (order : List Event) → Cast v actions link → AreEnabled v (event ∷ order)
    → ((p : Party) → of_party p (event ∷ order) ≡ map (event_of p) (actions p)) → Later v actions event order
later v actions link event order cast enabled each =
    let p = party_of event in
    let first = first_action (event_of p) (actions p) event (of_party p order) (sym (own_events p event order refl) ∙ each p) in
    let parts = enabled_parts v event order enabled in
    record {
      d = first.0;
      rest = first.1;
      is = first.2;
      now = subst (λ u. Next v u event actions p first.0 first.1) (sym (after-done v event parts.0))
          (subst (λ e. Next v (next v e) e actions p first.0 first.1) (sym first.3) (next_action v actions link p first.0 first.1 cast first.2 (ap (refusal_of v) (sym first.3) ∙ parts.0)));
      enabled = parts.1;
      each = λ q. go q (same q p) refl p first.1 refl first.4;
    }
  where
    go : (q : Party) (t : Bool) → same q (party_of event) ≡ t → (p : Party) (rest : List Action) → p ≡ party_of event → of_party p order ≡ map (event_of p) rest → of_party q order ≡ map (event_of q) (cond t rest (actions q))
    go q true e p rest is h = subst (λ r. of_party r order ≡ map (event_of r) rest) (is ∙ sym (same-true q (party_of event) e)) h
    go q false e p rest is h = ap (λ t. cond t (event ∷ of_party q order) (of_party q order)) (sym e) ∙ each q

-- An order puts on each link just what the parties put.
pub agree : (order : List Event) (w : World) (actions : Party → List Action) (link : Party → Party → List rust.Message) → Cast w actions link → AreEnabled w order → ((p : Party) → of_party p order ≡ map (event_of p) (actions p))
    → (from to : Party) → AllMean (put_to to (actions from)) (put_by w order from to)
agree [] w actions link cast enabled each from to = subst (λ ms. AllMean (put_to to (actions from)) ms) (sym (put_none w from to)) (subst (λ ds. AllMean (put_to to ds) []) (sym (no_actions (event_of from) (actions from) (each from))) tt)
agree (event ∷ order) w actions link cast enabled each from to =
    let p = party_of event in
    let l = later w actions link event order cast enabled each in
    subst (λ ms. AllMean (put_to to (actions from)) ms) (sym (put_first w event order from to))
    (subst (λ xs. AllMean xs (put_by_event w event from to ++ put_by (after w event) order from to)) (sym (put_left actions p l.d l.rest l.is to from))
    (all-append (cond (same from p) (put_in to l.d) []) (put_to to (left actions p l.rest from)) (put_by_event w event from to) (put_by (after w event) order from to) (l.now.put from to)
    (agree order (after w event) (left actions p l.rest) l.now.link l.now.cast l.enabled l.each from to)))

-- ---- moments

-- What is left to do at a moment of an order.
pub record Moment (v : World) (actions : Party → List Action) (order : List Event) : Type 0 where
  pub ahead : Party → List Action
  pub done : Party → List Action
  pub link : Party → Party → List rust.Message
  pub cast : Cast v ahead link
  pub enabled : AreEnabled v order
  pub each : (p : Party) → of_party p order ≡ map (event_of p) (ahead p)
  pub whole : (p : Party) → actions p ≡ done p ++ ahead p

-- all actions are the first one and what is left
whole_left : (actions : Party → List Action) (p : Party) (d : Action) (rest : List Action) → actions p ≡ d ∷ rest → (q : Party) → actions q ≡ cond (same q p) (d ∷ []) [] ++ left actions p rest q
whole_left actions p d rest is q = go (same q p) refl where
  go : (t : Bool) → same q p ≡ t → actions q ≡ cond t (d ∷ []) [] ++ cond t rest (actions q)
  go true e = ap actions (same-true q p e) ∙ is
  go false e = refl

-- at each moment of an order what is still to do is that of a cast
pub moment : (before order : List Event) (w : World) (actions : Party → List Action) (link : Party → Party → List rust.Message) → Cast w actions link → AreEnabled w (before ++ order)
    → ((p : Party) → of_party p (before ++ order) ≡ map (event_of p) (actions p)) → Moment (world_after w before) actions order
unfolding world_after
moment [] order w actions link cast enabled each = record { ahead = actions; done = λ p. []; link = link; cast = cast; enabled = enabled; each = each; whole = λ p. refl }
moment (event ∷ before) order w actions link cast enabled each =
    let l = later w actions link event (before ++ order) cast enabled each in
    let m = moment before order (after w event) (left actions (party_of event) l.rest) l.now.link l.now.cast l.enabled l.each in
    record {
      ahead = m.ahead;
      done = λ p. cond (same p (party_of event)) (l.d ∷ []) [] ++ m.done p;
      link = m.link;
      cast = m.cast;
      enabled = m.enabled;
      each = m.each;
      whole = λ p. whole_left actions (party_of event) l.d l.rest l.is p ∙ ap (λ ds. cond (same p (party_of event)) (l.d ∷ []) [] ++ ds) (m.whole p) ∙ sym (append_assoc (cond (same p (party_of event)) (l.d ∷ []) []) (m.done p) (m.ahead p));
    }
