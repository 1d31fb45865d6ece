-- What is reported of nodes that have ended, whose traces an audit has put in order.
use Rattle.std.proofs.Common.{◌≡◌, ◌≤◌, ◌+◌, ℕ, ◌∙◌, ap, sym, subst, cond, arith, inl, inr, List, [], ◌∷◌, length, Bool, true, false, ◌&&◌}
use Rattle.cq_base.specs.declared.ask.Ask.{Ask}
use Rattle.cq_chain.specs.declared.message.Answer.{Answer}
use Rattle.cq_link.specs.Inboxes.{put_in}
use Rattle.cq_link.specs.Links.{taken_from}
use Rattle.cq_live.specs.Lives.{IsClientId, IsLive, actions_of, is_send, is_sent, sends_closed}
use Rattle.cq_live.proofs.Living.{audits_order, nodes_live}
use Rattle.cq_live.specs.declared.settle.Ended.{Ended}
use Rattle.cq_live.specs.within.Runs.{HasEnded}
use Rattle.cq_live.proofs.Showing.{nodes_show}
use Rattle.cq_live.specs.Ended.{closed_of, put_by, taken_by}
use Rattle.cq_live.specs.Plans.{plan_of}
use Rattle.cq_live_plan.specs.Steps.{asks_of}
use Rattle.cq_live_plan.specs.declared.step.LiveStep.{LiveStep}
use Rattle.cq_trace.specs.Audits.{IsMerge}
use Rattle.cq_events.specs.declared.event.Event.{Event}

-- at most as many sends are accepted as there are answers
pub sends_few : (asks : List Ask) (answers : List Answer) → sends_closed asks answers ≤ length answers
sends_few [] answers = omega arith
sends_few (ask ∷ asks) [] = omega arith
sends_few (ask ∷ asks) (a ∷ answers) = go (is_send ask && is_sent a.reply) (sends_few asks answers) where
  go : (b : Bool) → sends_closed asks answers ≤ length answers → cond b 1 0 + sends_closed asks answers ≤ length (a ∷ answers)
  go true few = omega (arith, few)
  go false few = omega (arith, few)

module _ (size : ℕ) (steps : List LiveStep) (ended : Ended) (has : HasEnded size steps ended) where
  all_closed : length ended.first.items ≡ length (asks_of 1 steps) → length ended.second.items ≡ length (asks_of 2 steps)
      → (c : ℕ) → IsClientId c → length (closed_of has.nodes c) ≡ length (asks_of c steps)
  all_closed one two c (inl is) = subst (λ n. length (closed_of has.nodes n) ≡ length (asks_of n steps)) (sym is) (ap length (sym has.first) ∙ one)
  all_closed one two c (inr is) = subst (λ n. length (closed_of has.nodes n) ≡ length (asks_of n steps)) (sym is) (ap length (sym has.second) ∙ two)

  counted : sends_closed (asks_of 1 steps) ended.first.items + sends_closed (asks_of 2 steps) ended.second.items ≡ sends_closed (asks_of 1 steps) has.nodes.first.closed + sends_closed (asks_of 2 steps) has.nodes.second.closed
  counted = ap (λ xs. sends_closed (asks_of 1 steps) xs + sends_closed (asks_of 2 steps) ended.second.items) has.first ∙ ap (λ xs. sends_closed (asks_of 1 steps) has.nodes.first.closed + sends_closed (asks_of 2 steps) xs) has.second

  pub is_live : (events : List Event) (accepted : ℕ) → IsMerge size ended.traces.items events
      → length ended.first.items ≡ length (asks_of 1 steps) → length ended.second.items ≡ length (asks_of 2 steps)
      → accepted ≡ sends_closed (asks_of 1 steps) ended.first.items + sends_closed (asks_of 2 steps) ended.second.items
      → IsLive (plan_of steps) size events (closed_of has.nodes) accepted ended.starved.items
  is_live events accepted merge one two count =
      let show = nodes_show has.count size steps has.nodes ended.starved.items ended.traces.items has.known has.traces in
      nodes_live (plan_of steps) size (actions_of show.lives) (put_by put_in has.nodes) (taken_by taken_from has.nodes) (closed_of has.nodes) ended.starved.items events accepted show.shown
      (audits_order size ended.traces.items show.lives events show.told merge) (all_closed one two) (count ∙ counted)
